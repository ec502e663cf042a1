-- `line::headers::header_line` meets its contract: by whether there is a field.
-- Assumes nothing.
use mathlib.Core.Path.{◌∙◌}
use borrow.Author.Rules.{rules}
use Rattle.rules.specs.Line.{line_over, say_fields_over}
use Rattle.line.proofs.PeekLaws.{fields_none, starts, shape_is}
use Rattle.line.proofs.headers.header_line.Goals as goal

pub returns-then-start-line : goal.returns-then-start-line
unfolding line_over say_fields_over
returns-then-start-line c = rw (fields_none _ c.requires c.if-start-line.true)

pub header_at-requires : goal.header_at-requires
header_at-requires c = starts _ c.requires c.if-start-line.false

pub returns-in_err-header_at : goal.returns-in_err-header_at
unfolding line_over
returns-in_err-header_at c =
    search (rules, c.in_err-header_at.ensures ∙ shape_is _ _ (starts _ c.requires c.if-start-line.false) _ _)

pub returns : goal.returns
unfolding line_over
returns c = c.in_ok-header_at.ensures ∙ shape_is _ _ (starts _ c.requires c.if-start-line.false) _ _
