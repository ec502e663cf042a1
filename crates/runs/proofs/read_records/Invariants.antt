use Prim.Native.Nat.{◌-◌}
use Rattle.runs.specs.Runs.{RecordsRead}
use Rattle.runs.proofs.read_records.Given as goal

abbrev pub invariant-loop-run : goal.invariant-loop-run
invariant-loop-run l = RecordsRead l.expected l.at l.file l.most l.run

abbrev pub decreases-loop-run : goal.decreases-loop-run
decreases-loop-run l = l.most - l.run.count
