use mathlib.Core.Path.{refl}
use Rattle.feeding.proofs.FeedingLaws.{stopped, left, open_second, open_done, opened}
use Rattle.feeding.proofs.try_open.Goals as goal

pub returns-in-Some : goal.returns-in-Some
returns-in-Some c = stopped (open_second _ (c.in_ok-check.ensures.good refl) _ c.in-Some.ensures)

pub returns : goal.returns
returns c =
    let s = c.in_ok-check.ensures.good refl in
    left (open_done _ s c.in_default.ensures) (opened _ s c.in_default.ensures)
