-- `text::fields::field_from` meets its contract: the part from the start to the position that was found is the next field.
-- Assumes nothing.
use mathlib.Core.Path.{refl, sym}
use Rattle.text.specs.Scan.{part}
use Rattle.text.proofs.ScanLaws.{in_line}
use Rattle.text.proofs.FieldLaws.{lends_field}
use Rattle.text.proofs.fields.field_from.Goals as goal

pub returns : goal.returns
unfolding part
returns c = lends_field _ _ _ _ _ _ (in_line _ _ c.requires.in_line) (sym c.requires.starts) c.find_byte-end.ensures.is refl refl
