-- `line_reader::fields::next_part` meets its contract: the field of the line is one of the file.
-- Assumes nothing.
use Prim.Native.Nat.{ℕ}
use native.Mathlib.Nat.{add-zero}
use native.Mathlib.Omega.{arith}
use mathlib.Core.Path.{subst}
use Rattle.text.specs.FieldBounds.{NextField}
use Rattle.line_reader.proofs.LentLaws.{part_lent, line_lent, field_lent, field_in_file}
use Rattle.line_reader.proofs.fields.next_part.Goals as goal

pub returns-clause-field : goal.returns-clause-field
returns-clause-field c =
    subst (λ (k : ℕ). NextField k c.args.stop c.args.file c.next_field.result) (add-zero c.args.at)
    (field_in_file c.requires c.line_part.ensures (omega arith) c.next_field.ensures)

pub returns-clause-part : goal.returns-clause-part
returns-clause-part c = part_lent (line_lent c.line_part.ensures) (field_lent c.next_field.ensures)
