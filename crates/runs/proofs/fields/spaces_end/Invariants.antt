use Rattle.text.specs.FieldBounds.{is_space}
use Rattle.runs.specs.Runs.{Stretch}
use Rattle.runs.proofs.fields.spaces_end.Given as goal

abbrev pub invariant-loop-end : goal.invariant-loop-end
invariant-loop-end l = Stretch is_space l.file l.i l.end
