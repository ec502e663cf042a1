-- A text's whole lines, up to its last LF: they stand at its front, and what stands behind them begins a line.
use Prim.Native.Nat.{ℕ, ◌≤◌}
use native.Mathlib.Omega.{arith}
use mathlib.Core.Bool.{Bool, true, false, cond}
use mathlib.Core.List.{List, [], ◌∷◌, ◌++◌, append_assoc}
use mathlib.Core.Path.{◌≡◌, refl, ap, ap₂, ◌∙◌}
use lib.ListN.{length, length-append}
use lib.Dec.{eqb}
use borrow.Author.Tests.{eqb-true}
use Rattle.rules.specs.Text.{LF, lines_of}
use Rattle.rules.specs.Feed.{before_lf, whole_lines}
use Rattle.rules.proofs.LineEndLaws.{lines_nil, lines_behind_LF}

-- ---- a byte at the end

-- in front of a line that has its LF a byte belongs to it
before_some : (b : ℕ) (ls : List ℕ) → 1 ≤ length ls → before_lf b ls ≡ b ∷ ls
unfolding before_lf
before_some b [] h = absurd (omega arith)
before_some b (c ∷ more) h = refl

cond_same : {A : Type 0} (t : Bool) (x : A) → cond t x x ≡ x
cond_same true x = refl
cond_same false x = refl

module _ (b : ℕ) where
  -- an LF ends all that stands before it
  pub whole_LF : eqb b LF ≡ true → (xs : List ℕ) → whole_lines (xs ++ (b ∷ [])) ≡ xs ++ (b ∷ [])
  unfolding whole_lines
  whole_LF e [] = rw e
  whole_LF e (x ∷ xs) =
      let more = whole_LF e xs in
      let some : 1 ≤ length (xs ++ (b ∷ [])) = omega (arith, length-append xs (b ∷ [])) in
      rw more (ap (cond (eqb x LF) (x ∷ xs ++ (b ∷ []))) (before_some x (xs ++ (b ∷ [])) some) ∙ cond_same (eqb x LF) (x ∷ xs ++ (b ∷ [])))

  -- any other byte begins a line, or goes on with one, that is not whole
  pub whole_last : eqb b LF ≡ false → (xs : List ℕ) → whole_lines (xs ++ (b ∷ [])) ≡ whole_lines xs
  unfolding whole_lines before_lf
  whole_last e [] = rw e
  whole_last e (x ∷ xs) = rw (whole_last e xs)

-- ---- where there are whole lines, the last ends in an LF

pub data Ends (l : List ℕ) : Type 0 where
  none : l ≡ [] → Ends l
  behind : (ys : List ℕ) → l ≡ ys ++ (LF ∷ []) → Ends l

pub whole_ends : (xs : List ℕ) → Ends (whole_lines xs)
unfolding whole_lines before_lf
whole_ends [] = none refl
whole_ends (x ∷ xs) = go (eqb x LF) refl (whole_lines xs) (whole_ends xs)
  where
    go : (t : Bool) → eqb x LF ≡ t → (more : List ℕ) → Ends more → Ends (cond t (x ∷ more) (before_lf x more))
    go true e more (none q) = behind [] (ap₂ {C = List ℕ} (λ a l. a ∷ l) (eqb-true x LF e) q)
    go true e more (behind ys q) = behind (x ∷ ys) (ap (λ (l : List ℕ). x ∷ l) q)
    go false e [] h = none refl
    go false e (c ∷ more) (none q) = absurd (omega (arith, ap length q))
    go false e (c ∷ more) (behind ys q) = behind (x ∷ ys) (ap (λ (l : List ℕ). x ∷ l) q)

-- ---- a text behind a text

module _ (piece : List ℕ) where
  -- without an LF it brings no whole line
  pub whole_none : whole_lines piece ≡ [] → (xs : List ℕ) → whole_lines (xs ++ piece) ≡ whole_lines xs
  unfolding whole_lines
  whole_none e [] = e
  whole_none e (x ∷ xs) = rw (whole_none e xs)

  -- with one, all that stood before is whole
  pub whole_some : 1 ≤ length (whole_lines piece) → (xs : List ℕ) → whole_lines (xs ++ piece) ≡ xs ++ whole_lines piece
  unfolding whole_lines
  whole_some h [] = refl
  whole_some h (x ∷ xs) =
      let rest = xs ++ whole_lines piece in
      let some : 1 ≤ length rest = omega (arith, h, length-append xs (whole_lines piece)) in
      rw (whole_some h xs) (ap (cond (eqb x LF) (x ∷ rest)) (before_some x rest some) ∙ cond_same (eqb x LF) (x ∷ rest))

-- the lines of a text that goes on behind whole lines
pub lines_behind : (l rest : List ℕ) → Ends l → lines_of (l ++ rest) ≡ lines_of l ++ lines_of rest
lines_behind l rest (none e) = rw (e, lines_nil)
lines_behind l rest (behind ys e) = rw (e, append_assoc ys (LF ∷ []) rest) (lines_behind_LF ys rest)

pub whole_behind : (xs rest : List ℕ) → lines_of (whole_lines xs ++ rest) ≡ lines_of (whole_lines xs) ++ lines_of rest
whole_behind xs rest = lines_behind (whole_lines xs) rest (whole_ends xs)
