use Rattle.soundness.proofs.MetLaws.{Behind}
use Rattle.soundness.proofs.cells.names_differ.Given as goal

abbrev pub invariant-loop-i : goal.invariant-loop-i
invariant-loop-i l = Behind l.state l.n l.i l.met
