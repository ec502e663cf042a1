-- A test at each cell of a region, or at each two cells of two regions: as the code makes it, and by positions.
use Rattle.std.specs.Prelude.{slice_range, ◌==◌}
use Rattle.std.specs.List.{list_all, zip}
use Rattle.std.proofs.lemmas.List.{length-take, length-drop, get_or-take, get_or-drop, drop_all, drop-take}
use Rattle.std.proofs.lemmas.Slice.Zip.{get_or-zip, length-zip}
use Prim.Native.Nat.{ℕ, zero, suc, ◌+◌, ◌-◌, ◌≤◌, ◌<◌, min}
use mathlib.Core.Bool.{Bool, true, false, not, ◌&&◌}
use mathlib.Core.List.{List, [], ◌∷◌}
use mathlib.Core.Path.{◌≡◌, refl, sym, ap, ap₂, ◌∙◌}
use native.Mathlib.Omega.{arith}
use borrow.Author.Tests.{ltb-true, ltb-false}
use lib.ListN.{length, get_or, take, drop}
use lib.Dec.{ltb}
use Rattle.rules.specs.Text.{all, is_packed}
use Rattle.state.specs.Layout.{numbers, range}
use Rattle.state.proofs.ListLaws.{cell_in}
use Rattle.soundness.specs.Checks.{zero_at, zero_between, value_sound, symbols_sound, unlike_at, unlike, word_sound, words_sound}

module _ {A : Type 0} (p : A → Bool) (q : ℕ → Bool) (d : A) where
  each_number : (l : List A) (a n : ℕ) → length l ≡ n → ((j : ℕ) → j < n → p (get_or l j d) ≡ q (a + j)) → list_all p l ≡ all q (numbers a n)
  unfolding all numbers
  each_number [] a zero e f = refl
  each_number [] a (suc n) e f = absurd (omega arith)
  each_number (x ∷ l) a zero e f = absurd (omega arith)
  each_number (x ∷ l) a (suc n) e f =
      ap₂ ◌&&◌ (f 0 (omega arith) ∙ ap q (omega arith))
      (each_number l (a + 1) n (omega arith) (λ j h. f (suc j) (omega arith) ∙ ap q (omega arith)))

  pub each_in : (l : List A) (a b : ℕ) → length l ≡ b - a → ((j : ℕ) → j < b - a → p (get_or l j d) ≡ q (a + j)) → list_all p l ≡ all q (range a b)
  unfolding range
  each_in l a b e f = each_number l a (b - a) e f

-- ---- the tests of src/cells.rt

length_range : (cells : List ℕ) (a b : ℕ) → b ≤ length cells → length (slice_range cells a b) ≡ b - a
length_range cells a b h = omega (arith, length-take (b - a) (drop a cells), length-drop a cells)

module _ (cells : List ℕ) where
  pub zero_each : (a b : ℕ) → b ≤ length cells → list_all (λ v. v == 0) (drop a (take b cells)) ≡ zero_between cells a b
  unfolding zero_between
  zero_each a b h =
      each_in (λ v. v == 0) (zero_at cells) 0 (drop a (take b cells)) a b
      (omega (arith, length-drop a (take b cells), length-take b cells))
      (λ j l. ap (λ v. v == 0) (get_or-drop a (take b cells) j 0 ∙ get_or-take b cells (a + j) 0 (omega arith)))

  -- cut from the front first
  pub cut_each : (a b k : ℕ) → k ≡ min a b → list_all (λ v. v == 0) (slice_range cells k b) ≡ list_all (λ v. v == 0) (drop a (take b cells))
  cut_each a b k e = go (ltb b a) refl
    where
      go : (t : Bool) → ltb b a ≡ t → list_all (λ v. v == 0) (slice_range cells k b) ≡ list_all (λ v. v == 0) (drop a (take b cells))
      go true q =
          let h = ltb-true b a q in
          let none : b - k ≡ 0 = omega arith in
          rw (none, drop_all a (take b cells) (omega (arith, length-take b cells))) refl
      go false q =
          let h = ltb-false b a q in
          let start : k ≡ a = omega arith in
          let end : a + (b - a) ≡ b = omega arith in
          ap (λ (i : ℕ). list_all (λ v. v == 0) (slice_range cells i b)) start
          ∙ ap (list_all (λ v. v == 0)) (sym (drop-take a (b - a) cells))
          ∙ ap (λ (j : ℕ). list_all (λ v. v == 0) (drop a (take j cells))) end

  pub unlike_each : (x i n : ℕ) → 4 + n ≤ length cells → list_all (λ v. not (v == x)) (drop i (slice_range cells 4 (4 + n))) ≡ unlike cells x i n
  unfolding unlike
  unlike_each x i n h =
      let long : length (slice_range cells 4 (4 + n)) ≡ n = length_range cells 4 (4 + n) h ∙ omega arith in
      each_in (λ v. not (v == x)) (unlike_at cells x) 0 (drop i (slice_range cells 4 (4 + n))) i n
      (omega (arith, length-drop i (slice_range cells 4 (4 + n))))
      (λ j l. ap (λ v. not (v == x)) (get_or-drop i (slice_range cells 4 (4 + n)) j 0 ∙ cell_in cells 4 (4 + n) (i + j) (omega arith)))

  -- two regions
  module _ (p : ℕ → ℕ → Bool) (a b n : ℕ) (h : a + n ≤ length cells) (k : b + n ≤ length cells) where
    pair_each : list_all (λ x. p x.0 x.1) (zip (slice_range cells a (a + n)) (slice_range cells b (b + n))) ≡ all (λ i. p (get_or cells (a + i) 0) (get_or cells (b + i) 0)) (range 0 n)
    pair_each =
        let left : length (slice_range cells a (a + n)) ≡ n = length_range cells a (a + n) h ∙ omega arith in
        let right : length (slice_range cells b (b + n)) ≡ n = length_range cells b (b + n) k ∙ omega arith in
        each_in (λ x. p x.0 x.1) (λ i. p (get_or cells (a + i) 0) (get_or cells (b + i) 0)) (0, 0) (zip (slice_range cells a (a + n)) (slice_range cells b (b + n))) 0 n
        (omega (arith, length-zip (slice_range cells a (a + n)) (slice_range cells b (b + n))))
        (λ j l.
        ap (λ x. p x.0 x.1) (get_or-zip (slice_range cells a (a + n)) (slice_range cells b (b + n)) j (0, 0) (omega arith) (omega arith))
        ∙ ap₂ p (cell_in cells a (a + n) j (omega arith) ∙ ap (λ k. get_or cells k 0) (omega arith)) (cell_in cells b (b + n) j (omega arith) ∙ ap (λ k. get_or cells k 0) (omega arith)))

  pub symbols_each : (n : ℕ) → 260 + n ≤ length cells → list_all (λ x. is_packed x.0 && value_sound x.1) (zip (slice_range cells 4 (4 + n)) (slice_range cells 260 (260 + n))) ≡ symbols_sound cells n
  unfolding symbols_sound
  symbols_each n h = pair_each (λ x v. is_packed x && value_sound v) 4 260 n (omega arith) h

  pub words_each : (n : ℕ) → length cells ≡ 8708 → list_all (λ x. word_sound n x.0 x.1) (zip (slice_range cells 516 4612) (slice_range cells 4612 8708)) ≡ words_sound cells n
  unfolding words_sound
  words_each n h = pair_each (word_sound n) 516 4612 4096 (omega arith) (omega arith)
