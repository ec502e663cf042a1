-- What a call promises, whatever it is lent: its answer and every cell of state memory afterwards are those of the call's definition
-- in rules' Calls.
use Rattle.std.specs.Prelude.{ℕ, List, ◌≡◌}
use Rattle.rules.specs.Limits.{work_size}
use Rattle.rules.specs.State.{State}
use Rattle.rules.specs.Calls.{holding, work_after, Outcome, EndOutcome}
use Rattle.rules.specs.Demand.{LeastAtEach}
use Rattle.rules.specs.declared.answer.LoadAnswer.{LoadAnswer}
use Rattle.rules.specs.declared.answer.EndAnswer.{EndAnswer}
use Rattle.state.specs.Layout.{lent, cells_after}

pub record Called {A : Type 0} (o : Outcome A) (before : List ℕ) (r : A) (after : List ℕ) : Type 0 where
  pub answer : r ≡ o.answer
  pub cells : after ≡ cells_after before o.left

-- LOAD: every cell of work memory too
pub record LoadCalled (o : Outcome LoadAnswer) (before work : List ℕ) (r : LoadAnswer) (after used : List ℕ) : Type 0 where
  pub call : Called o before r after
  pub work_left : used ≡ work_after work_size work

-- END: every byte of the output too
pub record Ended (o : EndOutcome) (before : List ℕ) (r : EndAnswer) (after out : List ℕ) : Type 0 where
  pub call : Called o.call before r after
  pub output : out ≡ o.output

-- demand 3 on memory: it held a sound state, it holds one afterwards, and a load of the file between them takes the least at each
-- section
pub record DemandMet (before file after : List ℕ) : Type 0 where
  pub from : State
  pub to : State
  pub held : lent before ≡ holding from
  pub holds : lent after ≡ holding to
  pub least : LeastAtEach from file to
