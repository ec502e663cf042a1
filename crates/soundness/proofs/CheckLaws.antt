-- Each test on cells, and what it says of the symbol or word that the cells decode to.
use Prim.Native.Nat.{ℕ, zero, suc, ◌+◌, ◌-◌, ◌^◌, ◌≤◌, ◌<◌}
use mathlib.Core.Bool.{Bool, true, false, cond, not, ◌&&◌, ◌||◌}
use mathlib.Core.List.{List, [], ◌∷◌, map}
use mathlib.Core.Logic.{◌≢◌}
use mathlib.Core.Path.{◌≡◌, refl, sym, ap, ap₂, subst, subst₂, ◌∙◌}
use native.Mathlib.Omega.{arith}
use borrow.Author.Tests.{leb-true, eqb-true, eqb-false, le-leb, lt-ltb, ne_eqb}
use lib.ListN.{get_or}
use lib.Dec.{eqb, leb, ltb}
use Rattle.rules.specs.Text.{all, any, between, is_packed}
use Rattle.rules.specs.State.{Symbol, name_is, is_symbol, different_names, sound_symbol, sound_symbol_over, Word, unplaced, plain, refers, sound_word}
use Rattle.state.specs.Layout.{value_cell, text_cell, tag_cell, symbol_of, word_of, numbers, range, symbol_in, symbols_from}
use Rattle.state.proofs.BoolLaws.{both, first, second}
use Rattle.state.proofs.LayoutLaws.{word_back}
use Rattle.soundness.specs.Checks.{value_sound, word_sound, unlike_at, unlike, differs_at, names_differ}

-- ---- values

-- a sound value's cell is 0, or a value and 65,536
pub value_cases : (v : ℕ) → value_sound v ≡ true → (P : ℕ → Type 0) → P 0 → ((k : ℕ) → k ≤ 65535 → P (k + 65536)) → P v
unfolding value_sound
value_cases v e P z k = go (eqb v 0) refl e
  where
    go : (t : Bool) → eqb v 0 ≡ t → t || between 65536 131071 v ≡ true → P v
    go true q h = subst P (sym (eqb-true v 0 q)) z
    go false q h =
        let low : 65536 ≤ v = leb-true 65536 v (first (leb 65536 v) (leb v 131071) h) in
        let high : v ≤ 131071 = leb-true v 131071 (second (leb 65536 v) (leb v 131071) h) in
        let same : v - 65536 + 65536 ≡ v = omega arith in
        subst P same (k (v - 65536) (omega arith))

pub value_back : (x v : ℕ) → value_sound v ≡ true → value_cell (symbol_of x v) ≡ v
value_back x v e =
    value_cases v e (λ v. value_cell (symbol_of x v) ≡ v) refl
    (λ k h. rw (ne_eqb (k + 65536) 0 (omega arith)) (omega arith))

pub symbol_sound : (x v : ℕ) → is_packed x ≡ true → value_sound v ≡ true → sound_symbol (symbol_of x v) ≡ true
unfolding sound_symbol_over
symbol_sound x v p e =
    value_cases v e (λ v. sound_symbol (symbol_of x v) ≡ true)
    (both (is_packed x) true p refl)
    (λ k h.
    rw (p, ne_eqb (k + 65536) 0 (omega arith), le-leb (k + 65536 - 65536) 65535 (omega arith)))

pub sound_value_lem : (v : ℕ) → v < 131072 → (v ≢ 0 → 65536 ≤ v) → value_sound v ≡ true
unfolding value_sound
sound_value_lem v h l = go (eqb v 0) refl
  where
    go : (t : Bool) → eqb v 0 ≡ t → t || between 65536 131071 v ≡ true
    go true q = refl
    go false q =
        both (leb 65536 v) (leb v 131071) (le-leb 65536 v (l (eqb-false v 0 q))) (le-leb v 131071 (omega arith))

-- ---- words

-- a sound word's cells: two zeros, a text with 1, or a text with the position of a symbol
pub word_cases : (n text tag : ℕ) → word_sound n text tag ≡ true → (P : ℕ → ℕ → Type 0) → P 0 0 → P text 1 → ((i : ℕ) → i < n → P text (2 + i)) → P text tag
unfolding word_sound
word_cases n text tag e P z o r = go (eqb tag 0) (eqb tag 1) refl refl e
  where
    go : (a b : Bool) → eqb tag 0 ≡ a → eqb tag 1 ≡ b → cond a (eqb text 0) (leb tag (n + 1)) ≡ true → P text tag
    go true b p q h = subst₂ P (sym (eqb-true text 0 h)) (sym (eqb-true tag 0 p)) z
    go false true p q h = subst (P text) (sym (eqb-true tag 1 q)) o
    go false false p q h =
        let m : tag ≢ 0 = eqb-false tag 0 p in
        let k : tag ≢ 1 = eqb-false tag 1 q in
        let l : tag ≤ n + 1 = leb-true tag (n + 1) h in
        let same : 2 + (tag - 2) ≡ tag = omega arith in
        subst (P text) same (r (tag - 2) (omega arith))

module _ (n text tag : ℕ) (e : word_sound n text tag ≡ true) where
  pub text_back : text_cell (word_of text tag) ≡ text
  unfolding word_of
  text_back =
      word_cases n text tag e (λ x k. text_cell (word_of x k) ≡ x) refl refl (λ i h. ap text_cell (word_back (refers text i)))

  pub tag_back : tag_cell (word_of text tag) ≡ tag
  unfolding word_of
  tag_back =
      word_cases n text tag e (λ x k. tag_cell (word_of x k) ≡ k) refl refl (λ i h. ap tag_cell (word_back (refers text i)))

  pub word_sound_lem : text < 2 ^ 64 → sound_word n (word_of text tag) ≡ true
  unfolding word_of sound_word
  word_sound_lem f =
      let t : ltb text (2 ^ 64) ≡ true = lt-ltb text (2 ^ 64) f in
      word_cases n text tag e (λ x k. sound_word n (word_of x k) ≡ true) refl t
      (λ i h. ap (sound_word n) (word_back (refers text i)) ∙ both (ltb text (2 ^ 64)) (ltb i n) t (lt-ltb i n h))

pub sound_word_lem : (n text tag : ℕ) (w : Word) → text ≡ text_cell w → tag ≡ tag_cell w → tag < 2 + n → word_sound n text tag ≡ true
unfolding word_sound
sound_word_lem n text tag unplaced p q h = rw (p, q)
sound_word_lem n text tag (plain x) p q h = rw q (le-leb 1 (n + 1) (omega arith))
sound_word_lem n text tag (refers x i) p q h =
    rw (ne_eqb tag 0 (omega arith)) (le-leb tag (n + 1) (omega arith))

-- ---- names

any_all : {A : Type 0} (p : Symbol → Bool) (f : A → Symbol) (l : List A) → not (any p (map f l)) ≡ all (λ j. not (p (f j))) l
unfolding any all
any_all p f [] = refl
any_all p f (x ∷ l) = go (p (f x)) (any_all p f l)
  where
    go : (b : Bool) → not (any p (map f l)) ≡ all (λ j. not (p (f j))) l → not (b || any p (map f l)) ≡ not b && all (λ j. not (p (f j))) l
    go true e = refl
    go false e = e

names_from_lem : (cells : List ℕ) (n k a : ℕ) → a + k ≡ n → different_names (map (symbol_in cells) (numbers a k)) ≡ all (differs_at cells n) (numbers a k)
unfolding different_names is_symbol all numbers unlike range
names_from_lem cells n zero a e = refl
names_from_lem cells n (suc k) a e =
    let left : k ≡ n - (a + 1) = omega arith in
    ap₂ ◌&&◌
    (any_all (name_is (get_or cells (4 + a) 0)) (symbol_in cells) (numbers (a + 1) k)
    ∙ ap (λ (m : ℕ). all (unlike_at cells (get_or cells (4 + a) 0)) (numbers (a + 1) m)) left)
    (names_from_lem cells n k (a + 1) (omega arith))

pub names_differ_lem : (cells : List ℕ) → different_names (symbols_from cells 0) ≡ names_differ cells (get_or cells 0 0)
unfolding symbols_from names_differ range
names_differ_lem cells = names_from_lem cells (get_or cells 0 0) (get_or cells 0 0 - 0) 0 (omega arith)
