use Rattle.line.proofs.FitLaws.{Kept}
use Rattle.line.proofs.fitting.fit.Given as goal

abbrev pub invariant-loop-k : goal.invariant-loop-k
invariant-loop-k l = Kept l.kinds l.line l.numbers l.names l.i l.k
