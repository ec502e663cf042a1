-- How the functions of the walk say what they did: a refusal and state memory stand for a walk of the definitions.
use Rattle.std.specs.Prelude.{ℕ, List, ◌≡◌}
use Rattle.rules.specs.Reading.{Module}
use Rattle.rules.specs.Load.{Walk, place}
use Rattle.rules.specs.declared.answer.Refusal.{Refusal}
use Rattle.state.specs.Layout.{decode}
use Rattle.state.specs.Good.{Good}

-- the refusal is the walk's, and the cells hold its state where it is not refused
pub record Agrees (w : Walk) (refusal : Refusal) (cells : List ℕ) : Type 0 where
  pub refusal_is : refusal ≡ w.refusal
  pub state_is : refusal.number ≡ 0 → decode cells ≡ w.state

-- a module was placed, by whatever walk the refusal and the cells stood for
pub record PlacedRow (m : Module) (refusal : Refusal) (before : List ℕ) (r : Refusal) (after : List ℕ) : Type 0 where
  pub good : Good after
  pub does : (w : Walk) → Agrees w refusal before → Agrees (place w m) r after
