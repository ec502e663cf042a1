use Rattle.feeding.proofs.FeedingLaws.{left, drop_done, cleared}
use Rattle.feeding.proofs.try_drop.Goals as goal

pub returns : goal.returns
returns c =
    let o = c.in_ok-open_load.ensures in
    left (drop_done _ o.0 _ o.1) (cleared _ o.0.long (c.fill.ensures.after (λ y e. e)))
