use Rattle.state.proofs.BoolLaws.{refused, passed}
use Rattle.soundness.proofs.SoundLaws.{refusal_none, refusal_length, refusal_damaged}
use mathlib.Core.Path.{ap}
use mathlib.Core.Bool.{not}
use Rattle.soundness.proofs.memory.check.Goals as goal

pub returns-then-state-ne-SIZE : goal.returns-then-state-ne-SIZE
returns-then-state-ne-SIZE c = refusal_length _ c.if-state-ne-SIZE.true

pub returns-then-not-holds_state : goal.returns-then-not-holds_state
returns-then-not-holds_state c = refusal_damaged _ c.if-state-ne-SIZE.false (refused _ _ c.holds_state.ensures (ap not c.if-not-holds_state.true))

pub returns : goal.returns
returns c = refusal_none _ c.if-state-ne-SIZE.false (passed _ _ c.holds_state.ensures (ap not c.if-not-holds_state.false))
