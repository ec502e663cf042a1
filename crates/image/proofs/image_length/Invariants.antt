use Rattle.std.proofs.Common.{◌≡◌, ◌+◌, ◌≤◌, drop}
use Rattle.rules.specs.State.{placed_words}
use Rattle.state.specs.Layout.{decode}
use Rattle.image.proofs.image_length.Given as goal

-- what is counted, and what the words from the address on will add
abbrev pub invariant-loop-address : goal.invariant-loop-address
invariant-loop-address l =
    (l.words ≤ l.address)
    × (l.words + placed_words (drop l.address (decode l.state).words) ≡ placed_words (decode l.state).words)
