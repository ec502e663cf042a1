-- A module in turn, in the words of the code.
use Prim.Native.Nat.{ℕ}
use mathlib.Core.Bool.{Bool, true, false, not, ◌&&◌, ◌||◌}
use mathlib.Core.List.{List}
use mathlib.Core.Path.{◌≡◌, refl, sym, ap, ◌∙◌}
use lib.Dec.{eqb}
use borrow.Author.Tests.{eqb-true, eqb-false, eq-eqb}
use Rattle.rules.specs.Reading.{Module, module_at}
use Rattle.rules.specs.State.{State}
use Rattle.rules.specs.Load.{Walk, accepted, is_needed, takes}
use Rattle.tables.specs.Tables.{parts_of, line_in, start_in, end_in, cells_in, module_in}
use Rattle.state.specs.Layout.{decode}
use Rattle.state.specs.Good.{Good}
use Rattle.placing.specs.Walks.{Agrees, PlacedRow}
use Rattle.placing.proofs.PlacedLaws.{goes_on_lem, stands}
use Rattle.search.specs.Searching.{LeftOut, Taken}
use Rattle.rules.specs.declared.answer.Refusal.{Refusal}
use Rattle.search.proofs.ModuleLaws.{needed_in, needed_is}

-- whether the module of a row is needed, from the cells that are lent
pub needed_row :
    (parts rows : List ℕ) (row : ℕ) {cells : List ℕ} → cells ≡ cells_in parts (start_in rows row) (end_in rows row) → (s : State) {r : Bool}
    → r ≡ is_needed s (module_at 0 (parts_of cells)) → r ≡ is_needed s (module_in parts rows row)
unfolding module_in
needed_row parts rows row {cells} q s e =
    e
    ∙ needed_is s 0 (parts_of cells)
    ∙ ap (λ l. needed_in s (parts_of l)) q
    ∙ sym (needed_is s (line_in rows row) (parts_of (cells_in parts (start_in rows row) (end_in rows row))))

-- ---- visiting

-- what a walk needs, in the words of the code
takes_is : {w : Walk} {old : Refusal} {before : List ℕ} → Agrees w old before → (m : Module) →
    takes w m ≡ (eqb old.number 0 && is_needed (decode before) m)
unfolding takes
takes_is {w} {old} {before} a m = go (eqb old.number 0) refl
  where
    go : (b : Bool) → eqb old.number 0 ≡ b → (accepted w && is_needed w.state m) ≡ (b && is_needed (decode before) m)
    go true e = rw (goes_on_lem a (eqb-true old.number 0 e)) (ap (λ s. is_needed s m) (sym (a.state_is (eqb-true old.number 0 e))))
    go false e = rw (stands a (eqb-false old.number 0 e))

-- a module that is taken already, or that the walk does not take
pub settled_flag : {flag : Bool} (b : Bool) → flag ≡ true → (flag || not b) ≡ true
settled_flag b e = ap (λ f. f || not b) e

pub settled_left : (flag : Bool) {b : Bool} → b ≡ false → (flag || not b) ≡ true
settled_left true e = refl
settled_left false e = ap not e

module _ (m : Module) {old : Refusal} {before : List ℕ} where
  -- in a walk that is refused, and where no entry is undefined, a module is left out
  pub not_taken : (old.number ≡ 0 → is_needed (decode before) m ≡ false) → (w : Walk) → Agrees w old before → takes w m ≡ false
  not_taken u w a = takes_is a m ∙ go (eqb old.number 0) refl
    where
      go : (b : Bool) → eqb old.number 0 ≡ b → (b && is_needed (decode before) m) ≡ false
      go true e = u (eqb-true old.number 0 e)
      go false e = refl

  pub visit_left : (flag : Bool) → Good before → (old.number ≡ 0 → is_needed (decode before) m ≡ false) → LeftOut m flag old before before
  visit_left flag g u = record { good = g; does = λ w a. (settled_left flag (not_taken u w a), a) }

  -- so is one that is taken already
  pub visit_again : {flag : Bool} → Good before → flag ≡ true → LeftOut m flag old before before
  visit_again g f = record { good = g; does = λ w a. (settled_flag (takes w m) f, a) }

  pub visit_placed : {flag : Bool} → flag ≡ false → old.number ≡ 0 → is_needed (decode before) m ≡ true → {t : Refusal} {after : List ℕ} →
      PlacedRow m old before t after → Taken m flag old before t after
  visit_placed f z n p = record { good = p.good; fresh = f; does = λ w a. (takes_is a m ∙ rw (eq-eqb old.number 0 z, n), p.does w a) }
