-- A load in pieces, call after call on one feed memory, each on what the one before it left there.
use Rattle.std.specs.Prelude.{ℕ, true, List, [], ◌∷◌, ◌≡◌}
use Rattle.rules.specs.Text.{all}
use Rattle.rules.specs.Answers.{DONE}
use Rattle.rules.specs.Calls.{call_answer}
use Rattle.rules.specs.Feed.{is_byte, open_feed, feed_piece}
use Rattle.rules.specs.declared.answer.FeedAnswer.{FeedAnswer}
use Rattle.rules.proofs.TestLaws.{Every}
use Rattle.state.specs.Layout.{zeros}
use Rattle.feed.specs.Layout.{feed_size, lent_feed}
use Rattle.feed.specs.Promise.{FeedCalled}

-- pieces in a row, from the first cells to the last, with their answers
pub data Fed : List ℕ → List (List ℕ) → List FeedAnswer → List ℕ → Type 0 where
  stop : {cells : List ℕ} → Fed cells [] [] cells
  step :
      {cells next last : List ℕ} {p : List ℕ} {ps : List (List ℕ)} {r : FeedAnswer} {rs : List FeedAnswer}
      → FeedCalled (feed_piece (lent_feed cells) p) cells r next → Fed next ps rs last → Fed cells (p ∷ ps) (r ∷ rs) last

-- pieces of bytes
abbrev pub Bytes : List (List ℕ) → Type 0
Bytes ps = Every (λ p. all is_byte p ≡ true) ps

-- pieces that were not refused
abbrev pub Taken : List FeedAnswer → Type 0
Taken rs = Every (λ r. r.number ≡ DONE) rs

-- "that an open and pieces not refused have left"
pub record LeftByPieces (cells : List ℕ) : Type 0 where
  pub opened : List ℕ
  pub pieces : List (List ℕ)
  pub answers : List FeedAnswer
  pub opens : FeedCalled (open_feed (lent_feed (zeros feed_size))) (zeros feed_size) (call_answer DONE) opened
  pub bytes : Bytes pieces
  pub feeds : Fed opened pieces answers cells
  pub taken : Taken answers
