-- `line::fields::name_at` meets its contract: the field is a name.
-- Assumes nothing.
use mathlib.Core.Path.{refl}
use Rattle.rules.specs.Line.{read_field_over, held}
use Rattle.line.proofs.FieldLaws.{field_is}
use Rattle.line.proofs.fields.name_at.Goals as goal

pub returns-in-Some : goal.returns-in-Some
unfolding read_field_over held
returns-in-Some c = field_is c.requires c.in_ok-start.ensures c.field_from-field.ensures.bytes (rw (← c.read_name.ensures, c.in-Some.is) refl) refl
