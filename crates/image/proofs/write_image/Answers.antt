use Rattle.std.proofs.Common.{refl, rules, arith}
use Rattle.state.specs.Layout.{decode}
use Rattle.rules.specs.Image.{image_of}
use Rattle.image.specs.Output.{Written}
use Rattle.image.proofs.WriteLaws.{image_words, image_written, high_small, undefined_few}
use Rattle.image.proofs.write_image.Goals as goal

pub put_words-requires-clause-state_in_bounds : goal.put_words-requires-clause-state_in_bounds
put_words-requires-clause-state_in_bounds c = omega (arith, c.requires.state_in_bounds, image_words (decode c.args.state.now))

pub overflow_cast-high : goal.overflow_cast-high
overflow_cast-high c = omega (arith, c.high.ensures, high_small (decode c.args.state.now).words (omega (arith, c.requires.good.tidy.full)))

pub overflow_cast-undefined_count : goal.overflow_cast-undefined_count
overflow_cast-undefined_count c = omega (arith, c.undefined_count.ensures, undefined_few (decode c.args.state.now).symbols, c.requires.good.tidy.few)

pub put_end-requires : goal.put_end-requires
put_end-requires c = omega (arith, c.requires.state_in_bounds, image_words (decode c.args.state.now))

pub returns : goal.returns
returns c =
    let w : Written 0 (image_of (decode c.args.state.now)) c.args.out.now c.put_end.new.self.bytes.now c.put_end.new.self.at =
    image_written (decode c.args.state.now) _ _ c.high.ensures c.undefined_count.ensures refl c.put_words.ensures c.put_end.ensures in
    search (rules, w)
