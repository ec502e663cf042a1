-- A symbol at an index of a listing, by its position in the table.
use Prim.Native.Nat.{ℕ, zero, suc, ◌+◌, ◌-◌, ◌≤◌, ◌<◌}
use native.Mathlib.Omega.{arith}
use native.Mathlib.Numerals.{add-one}
use mathlib.Core.Bool.{Bool, true, false, cond}
use mathlib.Core.List.{List, [], ◌∷◌}
use mathlib.Core.Path.{◌≡◌, refl, sym, ap, ◌∙◌}
use lib.ListN.{length, get_or}
use lib.Dec.{eqb, ltb}
use borrow.Author.Tests.{eq-eqb, ne_eqb, eqb-false, lt-ltb, le-ltb, ltb-true, ltb-false}
use Rattle.rules.specs.Text.{any}
use Rattle.rules.specs.State.{Symbol, name_is, is_symbol, position_of, undefined_only, different_names, highest, high}
use Rattle.rules.specs.Calls.{memory_answer, memory, symbol_none, symbol_at, symbols, undefined_none, undefined_at, undefined}
use Rattle.rules.proofs.TestLaws.{none_first, none_rest}
use Rattle.rules.proofs.TableLaws.{different_cons}
use Rattle.rules.specs.Outcomes.{memory_told}
use Rattle.listings.specs.Told.{symbol_told, undefined_told}
use Rattle.std.specs.Prelude.{Option, Some, None, Ok, Err, MatchOption, is_some, unwrap_or}
use Rattle.soundness.specs.Checks.{Refusal}
use Rattle.soundness.proofs.RefusalLaws.{refused}
use Rattle.rules.specs.Answers.{reason_number}
use Rattle.rules.specs.declared.answer.Reason.{Reason}
use Rattle.state.specs.Layout.{lent, decode}
use Rattle.state.specs.Table.{Listing, no_symbol, undefined_position}
use Rattle.state.specs.declared.table.Listed.{Listed}

-- ---- positions in the table

none_at : (p : Symbol → Bool) (t : List Symbol) (i : ℕ) (d : Symbol) → any p t ≡ false → i < length t → p (get_or t i d) ≡ false
none_at p [] i d h l = absurd (omega arith)
none_at p (s ∷ t) zero d h l = none_first p s t h
none_at p (s ∷ t) (suc i) d h l = none_at p t i d (none_rest p s t h) (omega arith)

-- where names differ, a symbol's name leads to its position
pub position_unique : (t : List Symbol) (i : ℕ) (d : Symbol) → different_names t ≡ true → i < length t → position_of (get_or t i d).name t ≡ i
unfolding position_of is_symbol
position_unique [] i d h l = absurd (omega arith)
position_unique (s ∷ t) zero d h l = rw (eq-eqb s.name s.name refl)
position_unique (s ∷ t) (suc i) d h l =
    let parted = different_cons s t h in
    let x = (get_or t i d).name in
    let other : eqb s.name x ≡ false =
    ne_eqb s.name x (λ e. eqb-false x s.name (none_at (name_is s.name) t i d parted.0 (omega arith)) (sym e)) in
    rw (other, position_unique t i d parted.1 (omega arith)) (add-one i)

-- ---- the undefined symbols

module _ (s : Symbol) (t : List Symbol) where
  place_defined : (k : ℕ) → s.defined ≡ true → undefined_position k (s ∷ t) ≡ undefined_position k t + 1
  unfolding undefined_position
  place_defined k e = let same : k - 0 ≡ k = omega arith in rw (e, same)

  place_first : s.defined ≡ false → undefined_position 0 (s ∷ t) ≡ 0
  unfolding undefined_position
  place_first e = rw e

  place_later : (k : ℕ) → s.defined ≡ false → undefined_position (suc k) (s ∷ t) ≡ undefined_position k t + 1
  unfolding undefined_position
  place_later k e =
      let same : suc k - 1 ≡ k = omega arith in
      rw (e, ne_eqb (suc k) 0 (omega arith), same)

  only_defined : s.defined ≡ true → undefined_only (s ∷ t) ≡ undefined_only t
  unfolding undefined_only
  only_defined e = rw e

  only_undefined : s.defined ≡ false → undefined_only (s ∷ t) ≡ s ∷ undefined_only t
  unfolding undefined_only
  only_undefined e = rw e

-- the element behind the first
behind : (s : Symbol) (t : List Symbol) (n : ℕ) → get_or (s ∷ t) (n + 1) no_symbol ≡ get_or t n no_symbol
behind s t n = ap (λ k. get_or (s ∷ t) k no_symbol) (add-one n)

-- the k-th undefined symbol, by its position and by the list of the undefined
pub record Undefined (t : List Symbol) (k : ℕ) : Type 0 where
  pub inside : undefined_position k t < length t
  pub is : get_or t (undefined_position k t) no_symbol ≡ get_or (undefined_only t) k no_symbol

module _ (s : Symbol) (t : List Symbol) (k : ℕ) (u : Undefined t k) where
  undefined_past : s.defined ≡ true → Undefined (s ∷ t) k
  undefined_past e =
      record {
        inside = omega (arith, place_defined s t k e, u.inside);
        is =
            ap (λ n. get_or (s ∷ t) n no_symbol) (place_defined s t k e)
            ∙ behind s t (undefined_position k t)
            ∙ u.is
            ∙ ap (λ l. get_or l k no_symbol) (sym (only_defined s t e));
      }

  undefined_later : s.defined ≡ false → Undefined (s ∷ t) (suc k)
  undefined_later e =
      record {
        inside = omega (arith, place_later s t k e, u.inside);
        is =
            ap (λ n. get_or (s ∷ t) n no_symbol) (place_later s t k e)
            ∙ behind s t (undefined_position k t)
            ∙ u.is
            ∙ ap (λ l. get_or l (suc k) no_symbol) (sym (only_undefined s t e));
      }

undefined_first : (s : Symbol) (t : List Symbol) → s.defined ≡ false → Undefined (s ∷ t) 0
undefined_first s t e =
    record {
      inside = omega (arith, place_first s t e);
      is = ap (λ n. get_or (s ∷ t) n no_symbol) (place_first s t e) ∙ ap (λ l. get_or l 0 no_symbol) (sym (only_undefined s t e));
    }

pub undefined_in : (t : List Symbol) (k : ℕ) → k < length (undefined_only t) → Undefined t k
unfolding undefined_only
undefined_in [] k h = absurd (omega arith)
undefined_in (s ∷ t) k h = go s.defined refl k h (undefined_in t)
  where
    go : (b : Bool) → s.defined ≡ b → (k : ℕ) → k < length (cond b (undefined_only t) (s ∷ undefined_only t)) →
        ((j : ℕ) → j < length (undefined_only t) → Undefined t j) → Undefined (s ∷ t) k
    go true e k h ih = undefined_past s t k (ih k h) e
    go false e zero h ih = undefined_first s t e
    go false e (suc k) h ih = undefined_later s t k (ih k (omega arith)) e

place_none : (k : ℕ) → undefined_position k [] ≡ 0
unfolding undefined_position
place_none k = refl

pub undefined_out : (t : List Symbol) (k : ℕ) → length (undefined_only t) ≤ k → undefined_position k t ≡ length t
unfolding undefined_only
undefined_out [] k h = place_none k
undefined_out (s ∷ t) k h = go s.defined refl k h (undefined_out t)
  where
    go : (b : Bool) → s.defined ≡ b → (k : ℕ) → length (cond b (undefined_only t) (s ∷ undefined_only t)) ≤ k →
        ((j : ℕ) → length (undefined_only t) ≤ j → undefined_position j t ≡ length t) → undefined_position k (s ∷ t) ≡ suc (length t)
    go true e k h ih = omega (arith, place_defined s t k e, ih k h)
    go false e zero h ih = absurd (omega arith)
    go false e (suc k) h ih = omega (arith, place_later s t k e, ih k (omega arith))

-- with a position in the table, there is such a symbol, and else none
module _ (t : List Symbol) (k : ℕ) where
  there : undefined_position k t < length t → (b : Bool) → ltb k (length (undefined_only t)) ≡ b → b ≡ true
  there l true e = refl
  there l false e = absurd (omega (arith, undefined_out t k (ltb-false k (length (undefined_only t)) e)))

  beyond : undefined_position k t ≡ length t → (b : Bool) → ltb k (length (undefined_only t)) ≡ b → b ≡ false
  beyond l false e = refl
  beyond l true e =
      let u = undefined_in t k (ltb-true k (length (undefined_only t)) e) in
      absurd (omega (arith, u.inside))

-- ---- the answers

module _ {cells : List ℕ} where
  pub memory_refused : (e : Reason) → Refusal cells (reason_number e) → memory_told (Err e) ≡ memory (lent cells)
  unfolding memory
  memory_refused e r = sym (refused memory (λ k. memory_answer k 0) refl refl e r)

  pub memory_is : (n : ℕ) → Refusal cells 0 → n ≡ high (decode cells).words → memory_told (Ok n) ≡ memory (lent cells)
  unfolding memory
  memory_is n r e = rw (r.holds refl, e)

-- what is told of a symbol
value_told : (s : Symbol) (v : Option ℕ) → MatchOption v ((s.defined ≡ false) × (s.value ≡ 0)) (λ x. (s.defined ≡ true) × (x ≡ s.value)) →
    (unwrap_or v 0 ≡ s.value) × (is_some v ≡ s.defined)
value_told s None m = (sym m.1, sym m.0)
value_told s (Some x) m = (m.1, sym m.0)

module _ {cells : List ℕ} where
  pub symbols_refused : (i : ℕ) (e : Reason) → Refusal cells (reason_number e) → symbol_told (Err e) ≡ symbols (lent cells) i
  unfolding symbols
  symbols_refused i e r = sym (refused (λ l. symbols l i) (λ k. symbol_none k 0) refl refl e r)

  pub symbols_past : (i : ℕ) → Refusal cells 0 → length (decode cells).symbols ≤ i → symbol_told (Ok None) ≡ symbols (lent cells) i
  unfolding symbols symbol_at
  symbols_past i r l = rw (r.holds refl) (simp (le-ltb i (length (decode cells).symbols) l))

  pub symbols_at : (i : ℕ) (l : Listed) → Refusal cells 0 → i < length (decode cells).symbols → Listing (get_or (decode cells).symbols i no_symbol) l →
      symbol_told (Ok (Some l)) ≡ symbols (lent cells) i
  unfolding symbols symbol_at
  symbols_at i l r b m =
      let told = value_told (get_or (decode cells).symbols i no_symbol) l.value m.value in
      rw (r.holds refl, m.name, told.0, told.1) (simp (lt-ltb i (length (decode cells).symbols) b))

  pub undefined_refused : (k : ℕ) (e : Reason) → Refusal cells (reason_number e) → undefined_told (Err e) ≡ undefined (lent cells) k
  unfolding undefined
  undefined_refused k e r = sym (refused (λ l. undefined l k) (λ j. undefined_none j 0) refl refl e r)

  pub undefined_end : (k : ℕ) → Refusal cells 0 → undefined_position k (decode cells).symbols ≡ length (decode cells).symbols →
      undefined_told (Ok None) ≡ undefined (lent cells) k
  unfolding undefined undefined_at
  undefined_end k r l = rw (r.holds refl) (simp (beyond (decode cells).symbols k l _ refl))

  pub undefined_at_lem : (k p a : ℕ) (l : Listed) → Refusal cells 0 →
      p < length (decode cells).symbols → p ≡ undefined_position k (decode cells).symbols →
      Listing (get_or (decode cells).symbols p no_symbol) l → a ≡ highest p (decode cells).words →
      undefined_told (Ok (Some (l, a))) ≡ undefined (lent cells) k
  unfolding undefined undefined_at
  undefined_at_lem k p a l r inside at m top =
      let t = (decode cells).symbols in
      let within : undefined_position k t < length t = omega arith in
      let here = there t k within (ltb k (length (undefined_only t))) refl in
      let u = undefined_in t k (ltb-true k (length (undefined_only t)) here) in
      let y = get_or (undefined_only t) k no_symbol in
      let same : get_or t p no_symbol ≡ y = ap (λ i. get_or t i no_symbol) at ∙ u.is in
      let position : position_of y.name t ≡ p =
      ap (λ (z : Symbol). position_of z.name t) (sym same) ∙ position_unique t p no_symbol (r.good refl).tidy.different inside in
      let told = value_told (get_or t p no_symbol) l.value m.value in
      rw (r.holds refl, m.name, told.0, told.1, top, same) (simp here (rw position))
