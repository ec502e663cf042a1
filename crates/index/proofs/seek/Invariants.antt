use Prim.Native.Nat.{◌-◌}
use Rattle.index.proofs.SeekLaws.{Seeking}
use Rattle.index.proofs.seek.Given as goal

abbrev pub invariant-loop-k : goal.invariant-loop-k
invariant-loop-k l = Seeking l.parts l.index l.name l.at l.bits l.k

abbrev pub decreases-loop-k : goal.decreases-loop-k
decreases-loop-k l = 67584 - l.at
