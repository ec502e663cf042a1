-- What FORCE and UNDEFINED are defined by, in the words of the functions that serve them.
use Prim.Native.Nat.{ℕ, zero, suc, ◌+◌, ◌-◌, ◌≤◌, ◌<◌}
use mathlib.Core.Bool.{Bool, true, false, cond, not, ◌&&◌, ◌||◌}
use mathlib.Core.List.{List, [], ◌∷◌}
use mathlib.Core.Logic.{◌≢◌}
use mathlib.Core.Path.{◌≡◌, refl, sym, ap, ◌∙◌}
use native.Mathlib.Nat.{not-suc-le-zero, le_of_suc-le-suc, sub-zero}
use native.Mathlib.Numerals.{add-one}
use native.Mathlib.Omega.{arith}
use borrow.Author.Tests.{ltb-true, ltb-false, lt-ltb, le-ltb, le-leb, lt-leb, leb-true, leb-false, eqb-false, eq-eqb, ne_eqb, not-true}
use lib.ListN.{length, get_or}
use lib.Dec.{eqb, leb, ltb, leb-suc-suc}
use Rattle.rules.specs.Text.{any}
use Rattle.rules.specs.State.{Symbol, name_is, is_symbol, position_of, undefined_only, different_names, highest, State}
use Rattle.rules.specs.Placing.{mention}
use Rattle.rules.specs.Calls.{bit, undefined_at, undefined_is, undefined_none}
use Rattle.rules.specs.declared.answer.UndefinedAnswer.{UndefinedAnswer}
use Rattle.state.specs.Good.{Tidy}
use Rattle.state.specs.Table.{no_symbol, undefined_position}
use Rattle.state.proofs.BoolLaws.{first, second, not_first, not_second}
use Rattle.state.proofs.JoinLaws.{position_most, mention_known, mention_length}

-- ---- the k-th undefined symbol

undefined_at_lem : (t : List Symbol) (k : ℕ) → k < length (undefined_only t) → (undefined_position k t < length t) × (get_or (undefined_only t) k no_symbol ≡ get_or t (undefined_position k t) no_symbol)
unfolding undefined_only undefined_position
undefined_at_lem [] k h = absurd (not-suc-le-zero h)
undefined_at_lem (s ∷ t) k h = go s.defined k (undefined_at_lem t) h
  where
    go : (b : Bool) (k : ℕ) → ((k : ℕ) → k < length (undefined_only t) → (undefined_position k t < length t) × (get_or (undefined_only t) k no_symbol ≡ get_or t (undefined_position k t) no_symbol)) → k < length (cond b (undefined_only t) (s ∷ undefined_only t)) → (cond (not b && eqb k 0) 0 (undefined_position (k - bit (not b)) t + 1) < suc (length t)) × (get_or (cond b (undefined_only t) (s ∷ undefined_only t)) k no_symbol ≡ get_or (s ∷ t) (cond (not b && eqb k 0) 0 (undefined_position (k - bit (not b)) t + 1)) no_symbol)
    go true k f h =
        let p = f k h in
        rw (sub-zero k, add-one (undefined_position k t)) (omega (arith, p.0), p.1)
    go false zero f h = (omega arith, refl)
    go false (suc k) f h =
        let p = f k (le_of_suc-le-suc h) in
        let e : suc k - 1 ≡ k = omega arith in
        rw (ne_eqb (suc k) 0 (omega arith), e, add-one (undefined_position k t)) (omega (arith, p.0), p.1)

undefined_past : (t : List Symbol) (k : ℕ) → length (undefined_only t) ≤ k → undefined_position k t ≡ length t
unfolding undefined_only undefined_position
undefined_past [] k h = refl
undefined_past (s ∷ t) k h = go s.defined k (undefined_past t) h
  where
    go : (b : Bool) (k : ℕ) → ((k : ℕ) → length (undefined_only t) ≤ k → undefined_position k t ≡ length t) → length (cond b (undefined_only t) (s ∷ undefined_only t)) ≤ k → cond (not b && eqb k 0) 0 (undefined_position (k - bit (not b)) t + 1) ≡ suc (length t)
    go true k f h = rw (sub-zero k, f k h) (omega arith)
    go false zero f h = absurd (not-suc-le-zero h)
    go false (suc k) f h =
        let e : suc k - 1 ≡ k = omega arith in
        rw (ne_eqb (suc k) 0 (omega arith), e, f k (le_of_suc-le-suc h)) (omega arith)

other_name : (x : ℕ) (t : List Symbol) (j : ℕ) → is_symbol x t ≡ false → j < length t → eqb (get_or t j no_symbol).name x ≡ false
unfolding is_symbol any
other_name x [] j e h = absurd (not-suc-le-zero h)
other_name x (s ∷ t) zero e h = not_first (name_is x s) (any (name_is x) t) e
other_name x (s ∷ t) (suc j) e h = other_name x t j (not_second (name_is x s) (any (name_is x) t) e) (le_of_suc-le-suc h)

-- a symbol of a table with different names stands where its name does
own_place : (t : List Symbol) (j : ℕ) → different_names t ≡ true → j < length t → position_of (get_or t j no_symbol).name t ≡ j
unfolding different_names position_of
own_place [] j e h = absurd (not-suc-le-zero h)
own_place (s ∷ t) zero e h = rw (eq-eqb s.name s.name refl)
own_place (s ∷ t) (suc j) e h =
    let y = (get_or t j no_symbol).name in
    let absent = not-true (is_symbol s.name t) (first (not (is_symbol s.name t)) (different_names t) e) in
    let differ : s.name ≢ y = λ p. eqb-false y s.name (other_name s.name t j absent (le_of_suc-le-suc h)) (sym p) in
    rw (ne_eqb s.name y differ, own_place t j (second (not (is_symbol s.name t)) (different_names t) e) (le_of_suc-le-suc h))
    (omega arith)

-- the position is in the table exactly if there are so many undefined symbols
more_undefined : (t : List Symbol) (k : ℕ) → undefined_position k t < length t → k < length (undefined_only t)
more_undefined t k h = go (ltb k (length (undefined_only t))) refl
  where
    go : (b : Bool) → ltb k (length (undefined_only t)) ≡ b → k < length (undefined_only t)
    go true e = ltb-true k (length (undefined_only t)) e
    go false e = absurd (omega (arith, undefined_past t k (ltb-false k (length (undefined_only t)) e)))

no_more_undefined : (t : List Symbol) (k : ℕ) → length t ≤ undefined_position k t → length (undefined_only t) ≤ k
no_more_undefined t k h = go (ltb k (length (undefined_only t))) refl
  where
    go : (b : Bool) → ltb k (length (undefined_only t)) ≡ b → length (undefined_only t) ≤ k
    go true e = absurd (omega (arith, (undefined_at_lem t k (ltb-true k (length (undefined_only t)) e)).0))
    go false e = ltb-false k (length (undefined_only t)) e

-- the answer of UNDEFINED where the k-th undefined symbol is y and stands at j
abbrev pub undefined_told : ℕ → Symbol → State → UndefinedAnswer
undefined_told j y s =
    record {
      number = 0;
      line = 0;
      none = 0;
      name = y.name;
      value = y.value;
      defined = bit y.defined;
      highest = highest j s.words;
    }

pub undefined_told_lem : (s : State) → Tidy s → (k j : ℕ) → j ≡ undefined_position k s.symbols → j < length s.symbols → undefined_at s k ≡ undefined_told j (get_or s.symbols j no_symbol) s
unfolding undefined_at
undefined_told_lem s y k j e h =
    let t = s.symbols in
    let more : k < length (undefined_only t) = more_undefined t k (omega arith) in
    let same : get_or (undefined_only t) k no_symbol ≡ get_or t j no_symbol =
    (undefined_at_lem t k more).1 ∙ ap (λ (i : ℕ). get_or t i no_symbol) (sym e) in
    rw (lt-ltb k (length (undefined_only t)) more)
    (ap (undefined_is s) same
    ∙ ap (λ (i : ℕ). undefined_told i (get_or t j no_symbol) s) (own_place t j y.different h))

-- and where there is none
pub undefined_untold : (s : State) (k j : ℕ) → j ≡ undefined_position k s.symbols → length s.symbols ≤ j → undefined_at s k ≡ undefined_none 0 1
unfolding undefined_at
undefined_untold s k j e h =
    rw (le-ltb k (length (undefined_only s.symbols)) (no_more_undefined s.symbols k (omega arith)))

-- ---- FORCE

symbol_placed : (x : ℕ) (t : List Symbol) → is_symbol x t ≡ ltb (position_of x t) (length t)
unfolding is_symbol any position_of
symbol_placed x [] = refl
symbol_placed x (s ∷ t) = go (eqb s.name x) (symbol_placed x t)
  where
    go : (b : Bool) → any (name_is x) t ≡ ltb (position_of x t) (length t) → b || any (name_is x) t ≡ ltb (cond b 0 (position_of x t + 1)) (suc (length t))
    go true e = sym (lt-ltb 0 (suc (length t)) (omega arith))
    go false e = rw (add-one (position_of x t)) (e ∙ sym (leb-suc-suc (suc (position_of x t)) (length t)))

-- a name in the table, and a new one with room or without, are told apart by the table after the mention
pub force_joins : {A : Type 0} (x : ℕ) (t : List Symbol) (there full joined : A) → length t ≤ 256 → (mention x t ≡ t → there ≡ joined) → cond (is_symbol x t) there (cond (leb 256 (length t)) full joined) ≡ cond (leb (length (mention x t)) 256) joined full
force_joins {A} x t there full joined few same =
    ap (λ (b : Bool). cond b there (cond (leb 256 (length t)) full joined)) (symbol_placed x t)
    ∙ go (ltb (position_of x t) (length t)) (leb 256 (length t)) refl refl
  where
    go : (b c : Bool) → ltb (position_of x t) (length t) ≡ b → leb 256 (length t) ≡ c → cond b there (cond c full joined) ≡ cond (leb (length (mention x t)) 256) joined full
    go true c p q =
        let old = mention_known x t (ltb-true (position_of x t) (length t) p) in
        rw (old, le-leb (length t) 256 few) (same old)
    go false true p q =
        let off = ltb-false (position_of x t) (length t) p in
        rw (lt-leb (length (mention x t)) 256 (omega (arith, mention_length x t, leb-true 256 (length t) q)))
    go false false p q =
        rw (le-leb (length (mention x t)) 256 (omega (arith, mention_length x t, position_most x t, leb-false 256 (length t) q)))
