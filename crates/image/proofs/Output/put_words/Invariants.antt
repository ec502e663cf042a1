use Rattle.state.specs.Layout.{decode}
use Rattle.image.specs.Output.{Puts}
use Rattle.image.proofs.WriteLaws.{written_below}
use Rattle.image.proofs.Output.put_words.Given as goal

abbrev pub invariant-loop-address : goal.invariant-loop-address
invariant-loop-address l = Puts (written_below (decode l.state) l.address) l.initial.self l.self
