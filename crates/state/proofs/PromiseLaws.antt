-- The two ways in which a call meets its promise: it changes nothing, or it leaves a state.
use Prim.Native.Nat.{ℕ}
use mathlib.Core.List.{List}
use mathlib.Core.Path.{◌≡◌, sym, ap, ◌∙◌}
use Rattle.rules.specs.State.{State}
use Rattle.rules.specs.Calls.{as_before, now, Outcome, outcome}
use Rattle.state.specs.Layout.{cells_after}
use Rattle.state.specs.Good.{Holds}
use Rattle.state.specs.Promise.{Called}
use Rattle.state.proofs.LentLaws.{left_cells}

module _ {A : Type 0} {o : Outcome A} {a : A} {cells : List ℕ} where
  pub called_stopped : o ≡ outcome a as_before → Called o cells a cells
  unfolding cells_after
  called_stopped e =
      record {
        answer = ap (λ (x : Outcome A). x.answer) (sym e);
        cells = ap (λ (x : Outcome A). cells_after cells x.left) (sym e);
      }

  pub called_done : {s : State} {after : List ℕ} → o ≡ outcome a (now s) → Holds after s → Called o cells a after
  called_done e h =
      record {
        answer = ap (λ (x : Outcome A). x.answer) (sym e);
        cells = left_cells cells h ∙ ap (λ (x : Outcome A). cells_after cells x.left) (sym e);
      }
