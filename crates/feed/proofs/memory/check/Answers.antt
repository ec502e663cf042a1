use Rattle.state.proofs.BoolLaws.{refused, passed}
use Rattle.feed.proofs.HeldLaws.{refusal_none, refusal_length, refusal_damaged}
use mathlib.Core.Path.{ap}
use mathlib.Core.Bool.{not}
use Rattle.feed.proofs.memory.check.Goals as goal

pub returns-then-feed-ne-SIZE : goal.returns-then-feed-ne-SIZE
returns-then-feed-ne-SIZE c = refusal_length _ c.if-feed-ne-SIZE.true

pub returns-then-not-holds_feed : goal.returns-then-not-holds_feed
returns-then-not-holds_feed c = refusal_damaged _ c.if-feed-ne-SIZE.false (refused _ _ c.holds_feed.ensures (ap not c.if-not-holds_feed.true))

pub returns : goal.returns
returns c = refusal_none _ c.if-feed-ne-SIZE.false (passed _ _ c.holds_feed.ensures (ap not c.if-not-holds_feed.false))
