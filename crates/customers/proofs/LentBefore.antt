-- What was lent, and what a call comes to where that is known.
use Prim.Native.Nat.{ℕ}
use mathlib.Core.Bool.{true}
use mathlib.Core.List.{List}
use mathlib.Core.Path.{◌≡◌, sym, ap, ◌∙◌}
use lib.ListN.{length, replicate, length-replicate}
use lib.Dec.{eqb}
use borrow.Author.Tests.{eq-eqb}
use Rattle.rules.specs.State.{State, sound}
use Rattle.rules.specs.Calls.{Lent, holding, now, Outcome}
use Rattle.state.specs.Layout.{lent, cells_after}
use Rattle.state.specs.Promise.{Called}
use Rattle.state.proofs.LentLaws.{lent_encode}

-- what is lent holds one state
pub same_held : {m : Lent} {a b : State} → m ≡ holding a → m ≡ holding b → a ≡ b
same_held {a = a} {b} p q = let e : holding a ≡ holding b = sym p ∙ q in cc

-- a call lent m that comes to o: its answer; and what is lent afterwards, where o leaves a sound state
module _ {A : Type 0} (f : Lent → Outcome A) (cells after : List ℕ) (r : A) (c : Called (f (lent cells)) cells r after)
    (m : Lent) (h : lent cells ≡ m) (o : Outcome A) (is : f m ≡ o) where
  comes : f (lent cells) ≡ o
  comes = ap f h ∙ is

  pub answer_is : r ≡ o.answer
  answer_is = c.answer ∙ ap (λ (x : Outcome A). x.answer) comes

  pub holds_then : (t : State) → o.left ≡ now t → sound t ≡ true → lent after ≡ holding t
  unfolding cells_after
  holds_then t left good =
      ap lent (c.cells ∙ ap (λ (x : Outcome A). cells_after cells x.left) comes ∙ ap (cells_after cells) left) ∙ lent_encode t good

-- as many zeros as are asked for
pub zeros_fit : (n : ℕ) → eqb (length {A = ℕ} (replicate n 0)) n ≡ true
zeros_fit n = eq-eqb (length {A = ℕ} (replicate n 0)) n (length-replicate {A = ℕ} n 0)
