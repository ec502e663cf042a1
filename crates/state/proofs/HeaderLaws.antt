-- The header's cells.
use Prim.Native.Nat.{ℕ, ◌≤◌}
use mathlib.Core.Bool.{Bool, true, false, cond}
use mathlib.Core.List.{List}
use mathlib.Core.Logic.{◌≢◌}
use mathlib.Core.Path.{◌≡◌, refl, ap, ◌∙◌}
use native.Mathlib.Omega.{arith}
use borrow.Author.Tests.{eqb-true, eqb-false}
use lib.ListN.{get_or, set}
use lib.Dec.{eqb}
use Rattle.rules.specs.State.{Mark, unmarked, broken, frozen, State, state, marked}
use denote.Enum.Declared.{tag_of}
use Rattle.state.specs.Layout.{encode, decode, mark_cell, mark_of, mark_meant}
use Rattle.state.specs.contracts.layout.Mark.{the_type}
use Rattle.state.specs.declared.layout.Mark.{Mark as TheMark}
use Rattle.state.specs.declared.layout.Mark.TheVariants.{Unmarked, Broken, Frozen}
use Rattle.state.specs.Good.{Tidy, Good, Holds, with_next}
use Rattle.state.proofs.LayoutLaws.{holds}

-- another next address and another mark keep a state tidy
header_tidy : {s : State} → Tidy s → (n : ℕ) (k : Mark) → n ≤ 4096 → Tidy (state s.symbols s.words n k)
header_tidy y n k b =
    record {
      few = y.few;
      values = y.values;
      different = y.different;
      full = y.full;
      words = y.words;
      low = b;
    }

pub next_set : {cells : List ℕ} → Good cells → (n : ℕ) → n ≤ 4096 → Holds (set cells 1 n) (with_next n (decode cells))
unfolding encode
next_set {cells} g n b =
    holds (set cells 1 n) (with_next n (decode cells)) (header_tidy g.tidy n (decode cells).mark b)
    (ap (λ (l : List ℕ). set l 1 n) g.encoded)

-- 0, 1 and 2 are the marks' cells
pub mark_cell_lem : (k : ℕ) → k ≤ 2 → k ≡ mark_cell (mark_of k)
unfolding mark_of
mark_cell_lem k h = go (eqb k 0) (eqb k 1) refl refl
  where
    go : (z o : Bool) → eqb k 0 ≡ z → eqb k 1 ≡ o → k ≡ mark_cell (cond z unmarked (cond o broken frozen))
    go true o p q = eqb-true k 0 p
    go false true p q = eqb-true k 1 q
    go false false p q =
        let m : k ≢ 0 = eqb-false k 0 p in
        let n : k ≢ 1 = eqb-false k 1 q in
        omega arith

-- the number of the code's mark
tag_is : (m : TheMark) → tag_of the_type m ≡ mark_cell (mark_meant m)
tag_is Unmarked = refl
tag_is Broken = refl
tag_is Frozen = refl

pub mark_set : {cells : List ℕ} → Good cells → (m : TheMark) → Holds (set cells 2 (tag_of the_type m)) (marked (mark_meant m) (decode cells))
unfolding encode
mark_set {cells} g m =
    holds (set cells 2 (tag_of the_type m)) (marked (mark_meant m) (decode cells))
    (header_tidy g.tidy (decode cells).next (mark_meant m) g.tidy.low)
    (ap (λ (l : List ℕ). set l 2 (tag_of the_type m)) g.encoded
    ∙ ap (λ (j : ℕ). set (encode (decode cells)) 2 j) (tag_is m))

pub mark_is : {cells : List ℕ} → Good cells → get_or cells 2 0 ≡ mark_cell (decode cells).mark
unfolding encode
mark_is g = ap (λ (l : List ℕ). get_or l 2 0) g.encoded
