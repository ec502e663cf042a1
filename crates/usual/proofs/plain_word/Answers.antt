-- `usual::plain_word` meets its contract: quarter by quarter.
-- Assumes nothing.
use native.Mathlib.Omega.{arith}
use mathlib.Core.Path.{sym, ◌∙◌}
use borrow.Author.Rules.{rules}
use Rattle.usual.proofs.WordLaws.{front_start, front_room, front_step, front_behind, front_end}
use Rattle.usual.proofs.plain_word.Goals as goal

pub loop-k-init : goal.loop-k-init
loop-k-init c = front_start _ _ c.requires

pub overflow_mul-text : goal.overflow_mul-text
overflow_mul-text c = omega (arith, front_room c.loop-k.invariant (search rules))

pub overflow_add-text : goal.overflow_add-text
overflow_add-text c = omega (arith, front_room c.loop-k.invariant (search rules))

pub loop-k-preserved : goal.loop-k-preserved
loop-k-preserved c =
    rw c.from.ensures
    (front_step c.loop-k.invariant (search rules) c.field_start-start.ensures c.digits-run.ensures c.if-end-start.false
    (search rules) c.if-end-file.false (sym c.parts.ensures ∙ c.if-not-parts.false))

pub line_ended-requires : goal.line_ended-requires
line_ended-requires c = front_behind c.loop-k.invariant (search rules)

pub returns : goal.returns
returns c = front_end c.loop-k.invariant (search rules) c.if-i-at-gt-LONGEST_LINE.false c.in_ok-next.ensures
