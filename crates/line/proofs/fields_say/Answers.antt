-- `line::fields_say` meets its contract: by whether there is a field.
-- Assumes nothing.
use mathlib.Core.Path.{◌∙◌}
use borrow.Author.Rules.{rules}
use Rattle.rules.specs.Line.{line_over, say_fields_over}
use Rattle.line.proofs.PeekLaws.{fields_none, shape_is}
use Rattle.line.proofs.fields_say.Goals as goal

pub returns-then-start-line : goal.returns-then-start-line
unfolding line_over say_fields_over
returns-then-start-line c = rw (fields_none _ c.field_start-start.ensures.is c.if-start-line.true)

pub returns : goal.returns
unfolding line_over
returns c = c.shape_line.ensures ∙ shape_is _ _ (search rules) _ _
