use Rattle.std.proofs.Common.{◌+◌, arith, length, length-append, ap}
use Rattle.state.specs.Layout.{decode}
use Rattle.image.specs.Output.{record_at}
use Rattle.image.proofs.OutputLaws.{puts_nothing, puts_append}
use Rattle.image.proofs.WriteLaws.{written_below, written_none, written_more, written_room, written_all}
use Rattle.image.proofs.Output.put_words.Goals as goal

pub loop-address-init : goal.loop-address-init
loop-address-init c = rw (written_none (decode c.args.state.now)) (puts_nothing c.args.self.now)

pub put_record-requires-clause-address_lt_program_words : goal.put_record-requires-clause-address_lt_program_words
put_record-requires-clause-address_lt_program_words c =
    let s = decode c.args.state.now in
    let a = c.loop-address.address in
    let more = ap length (written_more s a (omega (arith, c.requires.good.tidy.full))) in
    (omega arith, omega (arith, more, length-append (written_below s a) (record_at s a), written_room s (a + 1), c.loop-address.invariant.behind, c.loop-address.invariant.same_length))

pub loop-address-preserved : goal.loop-address-preserved
loop-address-preserved c =
    rw (written_more (decode c.args.state.now) c.loop-address.address (omega (arith, c.requires.good.tidy.full)))
    (puts_append c.loop-address.invariant c.put_record.ensures)

pub returns : goal.returns
returns c =
    rw (written_all (decode c.args.state.now) c.loop-address.address (omega (arith, c.requires.good.tidy.full))) at c.loop-address.invariant
