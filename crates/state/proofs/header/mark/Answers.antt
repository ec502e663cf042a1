use borrow.Author.Tests.{eq-eqb, ne_eqb}
use Rattle.state.specs.Layout.{decode, mark_of}
use Rattle.state.proofs.header.mark.Goals as goal

pub returns-then-cell : goal.returns-then-cell
unfolding decode mark_of
returns-then-cell c = rw (eq-eqb _ _ c.if-cell.true)

pub returns-then-cell-2 : goal.returns-then-cell-2
unfolding decode mark_of
returns-then-cell-2 c = rw (ne_eqb _ _ c.if-cell.false, eq-eqb _ _ c.if-cell-2.true)

pub returns : goal.returns
unfolding decode mark_of
returns c = rw (ne_eqb _ _ c.if-cell.false, ne_eqb _ _ c.if-cell-2.false)
