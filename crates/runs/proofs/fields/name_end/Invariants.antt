use Prim.Native.Nat.{◌+◌}
use Rattle.rules.specs.Text.{is_name_character}
use Rattle.runs.specs.Runs.{Stretch}
use Rattle.runs.proofs.fields.name_end.Given as goal

abbrev pub invariant-loop-n : goal.invariant-loop-n
invariant-loop-n l = Stretch is_name_character l.file l.i (l.i + l.n)
