-- `line::shape_line` meets its contract: a header says what a line with a field says where a header is expected.
-- Assumes nothing.
use mathlib.Core.Path.{sym, ◌∙◌}
use Rattle.rules.specs.Line.{line_over}
use Rattle.line.proofs.PeekLaws.{shape_is}
use Rattle.line.proofs.shape_line.Goals as goal

pub returns-in-AnyHeader : goal.returns-in-AnyHeader
unfolding line_over
returns-in-AnyHeader c = rw c.in-AnyHeader.is (c.header_line.ensures ∙ sym (shape_is _ _ c.requires _ _))
