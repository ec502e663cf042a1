use borrow.Author.Rules.{rules}
use Rattle.loading.proofs.LoadingLaws.{load_room, load_whole}
use Rattle.loading.proofs.load.Goals as goal

pub returns-then-work-ne-WORK_CELLS : goal.returns-then-work-ne-WORK_CELLS
returns-then-work-ne-WORK_CELLS c = rw (c.from-then-work-ne-WORK_CELLS.ensures, c.from.ensures) (load_room _ c.if-work-ne-WORK_CELLS.true)

pub returns : goal.returns
returns c = rw c.into.ensures (load_whole _ c.try_load-outcome.new.work c.if-work-ne-WORK_CELLS.false c.try_load-outcome.ensures (search rules) (c.fill.ensures.after (λ y e. e)))
