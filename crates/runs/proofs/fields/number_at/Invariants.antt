use Prim.Native.Nat.{◌+◌}
use Rattle.rules.specs.Text.{is_octal}
use Rattle.runs.specs.Runs.{Stretch}
use Rattle.runs.proofs.fields.number_at.Given as goal

abbrev pub invariant-loop-n : goal.invariant-loop-n
invariant-loop-n l = Stretch is_octal l.file l.i (l.i + l.n)
