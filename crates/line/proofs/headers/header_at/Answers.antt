-- `line::headers::header_at` meets its contract: by its code.
-- Assumes nothing.
use Rattle.rules.specs.Line.{shape_for, row_at, header_shape_in}
use Rattle.line.specs.Fitting.{shape_said}
use Rattle.line.proofs.PeekLaws.{first_is}
use Rattle.line.proofs.headers.header_at.Goals as goal

pub returns-in_default : goal.returns-in_default
unfolding shape_for shape_said row_at header_shape_in
returns-in_default c =
    rw (← c.fault_at-unknown.ensures, first_is _ _ c.requires, ← c.next_field.ensures.bytes, ← c.read_number.ensures, c.in_default.is)

pub returns : goal.returns
unfolding shape_for row_at
returns c =
    rw (← c.fault_at-unknown.ensures, first_is _ _ c.requires, ← c.next_field.ensures.bytes, ← c.read_number.ensures, c.in-Some.is) c.block_line.ensures
