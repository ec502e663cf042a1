-- What a user of a load in pieces can rely on.
use Rattle.std.specs.Prelude.{ℕ, ◌≤◌, List, ◌++◌, ◌≡◌, length}
use Rattle.rules.specs.Limits.{longest_piece}
use Rattle.rules.specs.Answers.{DONE}
use Rattle.rules.specs.Calls.{call_answer, load}
use Rattle.rules.specs.Feed.{fault_so_far, advised}
use Rattle.rules.specs.History.{work_fits}
use Rattle.rules.specs.declared.answer.CallAnswer.{CallAnswer}
use Rattle.rules.specs.declared.answer.FeedAnswer.{FeedAnswer}
use Rattle.rules.specs.declared.answer.LoadAnswer.{LoadAnswer}
use Rattle.state.specs.Layout.{zeros, lent}
use Rattle.state.specs.Promise.{LoadCalled}
use Rattle.feed.specs.Layout.{feed_size}

-- from feed memory that is zero, two pieces come to one LOAD of both, and feed memory is zero again
pub record LoadedInTwo (feed state work first second : List ℕ) (r : LoadAnswer) (after changed used : List ℕ) : Type 0 where
  pub as_one :
      feed ≡ zeros feed_size → length first ≤ longest_piece → length second ≤ longest_piece
      → LoadCalled (load (lent state) (work_fits work) (first ++ second)) state work r changed used
  pub zero : feed ≡ zeros feed_size → after ≡ zeros feed_size

-- from feed memory that is zero, a file's first piece advises what its whole lines have, and a drop leaves feed memory zero again
pub record Tried (feed piece : List ℕ) (a : FeedAnswer) (d : CallAnswer) (after : List ℕ) : Type 0 where
  pub told : feed ≡ zeros feed_size → length piece ≤ longest_piece → a ≡ advised (fault_so_far piece)
  pub dropped : feed ≡ zeros feed_size → length piece ≤ longest_piece → (d ≡ call_answer DONE) × (after ≡ zeros feed_size)
