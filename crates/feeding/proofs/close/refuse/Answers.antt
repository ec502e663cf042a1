use mathlib.Core.Path.{refl, ◌∙◌}
use Rattle.feeding.proofs.FeedingLaws.{work_cleared, work_kept}
use Rattle.feeding.proofs.close.refuse.Goals as goal
use Rattle.feeding.proofs.close.refuse.Goals.{then-work-eq-PART_ROOM, else-work-eq-PART_ROOM}

pub returns : goal.returns
returns c = (
  rw (c.from-2.ensures, c.from.ensures) refl,
  elim c.if-work-eq-PART_ROOM.branch [
    | then-work-eq-PART_ROOM w ↦ work_cleared _ w.if-work-eq-PART_ROOM.true (w.work-is ∙ w.fill.ensures.after (λ y e. e))
    | else-work-eq-PART_ROOM w ↦ w.work-is ∙ work_kept w.if-work-eq-PART_ROOM.false
  ],
)
