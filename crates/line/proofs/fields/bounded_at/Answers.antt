-- `line::fields::bounded_at` meets its contract: the field is a number within the bounds.
-- Assumes nothing.
use mathlib.Core.Path.{refl}
use Rattle.rules.specs.Line.{read_field_over}
use Rattle.line.proofs.FieldLaws.{field_is}
use Rattle.line.proofs.fields.bounded_at.Goals as goal

pub returns-in-Ok : goal.returns-in-Ok
unfolding read_field_over
returns-in-Ok c = field_is c.requires c.in_ok-start.ensures refl (rw (← c.field_number-field.ensures.is) c.in-Ok.ensures) c.field_number-field.ensures.ends
