-- `line::fields::field_at` meets its contract: the field is read against its kind.
-- Assumes nothing.
use mathlib.Core.Path.{refl}
use Rattle.line.proofs.FieldLaws.{field_is}
use Rattle.line.proofs.fields.field_at.Goals as goal

pub returns-in-Ok : goal.returns-in-Ok
returns-in-Ok c = field_is c.requires c.in_ok-start.ensures c.field_from-field.ensures.bytes c.in-Ok.ensures refl
