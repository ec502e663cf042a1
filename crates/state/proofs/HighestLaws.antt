-- The highest address whose word passes a test, looked for from the top down: a symbol's highest reference, and HIGH.
use Rattle.std.specs.Prelude.{Option, Some, None, unwrap_or}
use Rattle.std.proofs.lemmas.List.{length-drop, get_or-drop, take_all}
use Prim.Native.Nat.{ℕ, zero, suc, ◌+◌, ◌-◌, ◌≤◌, ◌<◌}
use mathlib.Core.Bool.{Bool, true, false, cond}
use mathlib.Core.List.{List, [], ◌∷◌, ◌++◌, map}
use mathlib.Core.Logic.{◌≢◌}
use mathlib.Core.Path.{◌≡◌, refl, sym, ap, ◌∙◌}
use native.Mathlib.Omega.{arith}
use borrow.Author.Tests.{eq-eqb, ne_eqb, eqb-true, eqb-false}
use lib.ListN.{length, get_or, take, drop}
use lib.Dec.{eqb}
use Rattle.rules.specs.State.{Word, unplaced, plain, refers, refers_to, highest_from, highest_where}
use Rattle.state.specs.Layout.{numbers, range, word_of, word_in, words_below, decode}
use Rattle.state.specs.Words.{LastOf}
use Rattle.state.proofs.BoolLaws.{same_test}
use Rattle.state.proofs.ListLaws.{map_last, range_last, length_map_range}

-- the tags as the code cuts them off
pub all_tags : (cells : List ℕ) → length cells ≡ 8708 → (n : ℕ) → 4096 ≤ n → take n (drop 4612 cells) ≡ drop 4612 cells
all_tags cells long n h = take_all n (drop 4612 cells) (omega (arith, length-drop 4612 cells))

-- ---- a test of a word

module _ (p : Word → Bool) where
  highest_last : (from best : ℕ) (l : List Word) (w : Word) → highest_from p from best (l ++ (w ∷ [])) ≡ cond (p w) (from + length l) (highest_from p from best l)
  unfolding highest_from
  highest_last from best [] w = ap (λ (k : ℕ). cond (p w) k best) (omega arith)
  highest_last from best (v ∷ l) w =
      highest_last (from + 1) (cond (p v) from best) l w
      ∙ ap (λ (k : ℕ). cond (p w) k (highest_from p (from + 1) (cond (p v) from best) l)) (omega arith)

  below_more : (cells : List ℕ) (a : ℕ) → highest_where p (words_below cells (a + 1)) ≡ cond (p (word_in cells a)) a (highest_where p (words_below cells a))
  unfolding words_below highest_where
  below_more cells a =
      ap (λ (l : List ℕ). highest_where p (map (word_in cells) l)) (range_last a)
      ∙ ap (highest_where p) (map_last (word_in cells) (range 0 a) a)
      ∙ highest_last 0 65535 (words_below cells a) (word_in cells a)
      ∙ ap (λ (k : ℕ). cond (p (word_in cells a)) k (highest_where p (words_below cells a))) (omega (arith, length_map_range (word_in cells) 0 a))

  -- no word that passes from a on, d of them
  highest_down : (cells : List ℕ) (a d : ℕ) → ((k : ℕ) → a ≤ k → k < a + d → p (word_in cells k) ≡ false) → highest_where p (words_below cells (a + d)) ≡ highest_where p (words_below cells a)
  highest_down cells a zero f = ap (λ (j : ℕ). highest_where p (words_below cells j)) (omega arith)
  highest_down cells a (suc d) f =
      let one_more : a + suc d ≡ a + d + 1 = omega arith in
      let none : p (word_in cells (a + d)) ≡ false = f (a + d) (omega arith) (omega arith) in
      ap (λ (j : ℕ). highest_where p (words_below cells j)) one_more
      ∙ below_more cells (a + d)
      ∙ rw none (highest_down cells a d (λ k l h. f k l (omega arith)))

  all_words : (cells : List ℕ) (a d : ℕ) → a + d ≡ 4096 → highest_where p (words_below cells (a + d)) ≡ highest_where p (decode cells).words
  unfolding decode
  all_words cells a d e = ap (λ (j : ℕ). highest_where p (words_below cells j)) e

  highest_at : (cells : List ℕ) (a : ℕ) → a < 4096 → p (word_in cells a) ≡ true → ((k : ℕ) → a < k → k < 4096 → p (word_in cells k) ≡ false) → a ≡ highest_where p (decode cells).words
  highest_at cells a h t f =
      sym
      (sym (all_words cells (a + 1) (4096 - (a + 1)) (omega arith))
      ∙ highest_down cells (a + 1) (4096 - (a + 1)) (λ k l b. f k (omega arith) (omega arith))
      ∙ below_more cells a
      ∙ rw t)

  highest_none : (cells : List ℕ) → ((k : ℕ) → k < 4096 → p (word_in cells k) ≡ false) → 65535 ≡ highest_where p (decode cells).words
  unfolding words_below highest_where highest_from range numbers
  highest_none cells f = sym (sym (all_words cells 0 4096 refl) ∙ highest_down cells 0 4096 (λ k l b. f k b))

  -- in the words of the code: the last tag that passes a test
  pub highest_found : (test : ℕ → Bool) → ((x k : ℕ) → p (word_of x k) ≡ test k) → (cells : List ℕ) → length cells ≡ 8708 → (tags : List ℕ) (r : Option ℕ) → LastOf test tags r → tags ≡ drop 4612 cells →
      unwrap_or r 65535 ≡ highest_where p (decode cells).words
  highest_found test same cells long tags r f e = go r f
    where
      -- the word at an address, by its tag
      by_tag : (k : ℕ) (b : Bool) → test (get_or tags k 0) ≡ b → p (word_in cells k) ≡ b
      by_tag k b h =
          same _ _
          ∙ ap test (sym (ap (λ (l : List ℕ). get_or l k 0) e ∙ get_or-drop 4612 cells k 0))
          ∙ h

      tags_long : length tags ≡ 4096
      tags_long = omega (arith, ap length e, length-drop 4612 cells)

      go : (r : Option ℕ) → LastOf test tags r → unwrap_or r 65535 ≡ highest_where p (decode cells).words
      go None f = highest_none cells (λ k h. by_tag k false (f k (omega (arith, tags_long))))
      go (Some i) f =
          highest_at cells i (omega (arith, f.0, tags_long)) (by_tag i true f.1) (λ k l h. by_tag k false (f.2 k l (omega (arith, tags_long))))

-- the tests, by the tag

pub refers_is : (i text tag : ℕ) → refers_to i (word_of text tag) ≡ eqb tag (2 + i)
unfolding word_of
refers_is i text tag = go (eqb tag 0) (eqb tag 1) refl refl
  where
    go : (z o : Bool) → eqb tag 0 ≡ z → eqb tag 1 ≡ o → refers_to i (cond z unplaced (cond o (plain text) (refers text (tag - 2)))) ≡ eqb tag (2 + i)
    go true o p q = let e = eqb-true tag 0 p in sym (ne_eqb tag (2 + i) (omega arith))
    go false true p q = let e = eqb-true tag 1 q in sym (ne_eqb tag (2 + i) (omega arith))
    go false false p q =
        let m : tag ≢ 0 = eqb-false tag 0 p in
        let n : tag ≢ 1 = eqb-false tag 1 q in
        same_test (eqb i (tag - 2)) (eqb tag (2 + i))
        (λ e. let d = eqb-true i (tag - 2) e in eq-eqb tag (2 + i) (omega arith))
        (λ e. let d = eqb-true tag (2 + i) e in eq-eqb i (tag - 2) (omega arith))
