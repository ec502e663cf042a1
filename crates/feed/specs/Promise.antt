-- What a call on feed memory promises, whatever it is lent: its answer and every cell afterwards are those of the call's definition in
-- rules' Feed.
use Rattle.std.specs.Prelude.{ℕ, List, ◌≡◌}
use Rattle.rules.specs.Feed.{FeedOutcome, CloseOutcome}
use Rattle.rules.specs.declared.answer.LoadAnswer.{LoadAnswer}
use Rattle.state.specs.Promise.{LoadCalled}
use Rattle.feed.specs.Layout.{feed_cells_after}

pub record FeedCalled {A : Type 0} (o : FeedOutcome A) (before : List ℕ) (r : A) (after : List ℕ) : Type 0 where
  pub answer : r ≡ o.answer
  pub cells : after ≡ feed_cells_after before o.feed

-- the close: besides, all that LOAD promises of state and work memory
pub record Closed (o : CloseOutcome) (before state work : List ℕ) (r : LoadAnswer) (after changed used : List ℕ) : Type 0 where
  pub load : LoadCalled o.load state work r changed used
  pub feed_left : after ≡ feed_cells_after before o.feed
