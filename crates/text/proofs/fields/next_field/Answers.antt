-- `text::fields::next_field` meets its contract: the part between the two positions that were found is the next field.
-- Assumes nothing.
use mathlib.Core.Path.{refl}
use Rattle.text.specs.Scan.{part}
use Rattle.text.proofs.ScanLaws.{in_line}
use Rattle.text.proofs.FieldLaws.{lends_field}
use Rattle.text.proofs.fields.next_field.Goals as goal

pub returns : goal.returns
unfolding part
returns c =
    lends_field _ _ _ _ _ _ (in_line _ _ c.requires) c.field_start-start.ensures.is
    c.find_byte-end.ensures.is refl refl
