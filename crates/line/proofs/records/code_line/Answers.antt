-- `line::records::code_line` meets its contract: there is no field, or the first has another first byte than an asterisk, or it is compared.
-- Assumes nothing.
use Rattle.rules.specs.Line.{code_shape}
use Rattle.line.proofs.PeekLaws.{first_is, starts, unstarred, unstarred_none}
use Rattle.line.proofs.records.code_line.Goals as goal

pub plain_line-requires : goal.plain_line-requires
plain_line-requires c = unstarred_none _ c.requires c.if-start-line.true

pub bounds-line-start : goal.bounds-line-start
bounds-line-start c = (starts _ c.requires c.if-start-line.false).inside

pub plain_line-requires-then-line-start-ne42 : goal.plain_line-requires-then-line-start-ne42
plain_line-requires-then-line-start-ne42 c = unstarred _ _ (starts _ c.requires c.if-start-line.false) c.if-line-start-ne42.true

pub returns-then-is_star : goal.returns-then-is_star
unfolding code_shape
returns-then-is_star c =
    rw (first_is _ _ (starts _ c.requires c.if-start-line.false), ← c.next_field.ensures.bytes, ← c.is_star.ensures, c.if-is_star.true) c.linked_line.ensures

pub plain_line-requires-2 : goal.plain_line-requires-2
plain_line-requires-2 c =
    rw (first_is _ _ (starts _ c.requires c.if-start-line.false), ← c.next_field.ensures.bytes, ← c.is_star.ensures) c.if-is_star.false
