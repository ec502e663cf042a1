-- How the functions on feed memory say what they found.
use Rattle.std.specs.Prelude.{ℕ, ◌+◌, List, Option, Some, None, Result, MatchResult, ◌≡◌, get_or}
use Rattle.rules.specs.Answers.{DONE, BUFFER, DAMAGED, FEED, reason_number}
use Rattle.rules.specs.Calls.{LentOf, wrong_length, damaged, holding}
use Rattle.rules.specs.Feed.{Feed, shut, fed}
use Rattle.rules.specs.declared.answer.Reason.{Reason}
use Rattle.feed.specs.Layout.{lent_feed}
use Rattle.feed.specs.Held.{Sound}

-- the first cell, by how many bytes have been fed
abbrev pub mark_of : Option ℕ → ℕ
mark_of None = 0
mark_of (Some n) = n + 1

-- the answer that refuses a close or a drop, 0 where a load is open
unfoldable pub unopened : LentOf Feed → ℕ
unopened wrong_length = BUFFER
unopened damaged = DAMAGED
unopened (holding shut) = FEED
unopened (holding (fed bytes)) = DONE

-- a load is open, of n bytes, or a reason why none is
abbrev pub OpenLoad : List ℕ → Result ℕ Reason → Type 0
OpenLoad cells r =
    MatchResult r (λ n. Sound cells × (get_or cells 0 0 ≡ n + 1)) (λ e. reason_number e ≡ unopened (lent_feed cells))
