-- Going over the rows one by one.
use Prim.Native.Nat.{ℕ, zero, suc, ◌+◌, ◌<◌}
use native.Mathlib.Omega.{arith}
use mathlib.Core.Bool.{Bool, true, false, cond}
use mathlib.Core.List.{List, [], ◌∷◌, ◌++◌}
use mathlib.Core.Path.{◌≡◌, refl, sym, ap, subst, ◌∙◌}
use lib.ListN.{length}
use lib.Dec.{eqb}
use Rattle.rules.specs.Reading.{Module, Item, free}
use Rattle.rules.proofs.TestLaws.{Every}
use Rattle.tables.specs.Tables.{free_row, member_row, section_row, kind_in, module_in, modules_in, section_in, items_from_row, items_in}

module _ (parts rows : List ℕ) where
  -- a row and the n rows behind it
  module _ (i n : ℕ) where
    pub row_free :
        kind_in rows i ≡ free_row
        → items_from_row parts rows i (suc n) ≡ free (module_in parts rows i) ∷ items_from_row parts rows (i + 1) n
    unfolding items_from_row
    row_free e = rw e

    pub row_member : kind_in rows i ≡ member_row → items_from_row parts rows i (suc n) ≡ items_from_row parts rows (i + 1) n
    unfolding items_from_row
    row_member e = rw e

    pub row_section :
        kind_in rows i ≡ section_row
        → items_from_row parts rows i (suc n) ≡ section_in parts rows i ∷ items_from_row parts rows (i + 1) n
    unfolding items_from_row
    row_section e = rw e

  -- one module more at the end
  pub modules_add : (n i : ℕ) → modules_in parts rows i (suc n) ≡ modules_in parts rows i n ++ (module_in parts rows (i + n) ∷ [])
  unfolding modules_in
  modules_add zero i = let k : i + 0 ≡ i = omega arith in rw k
  modules_add (suc n) i =
      let k : i + 1 + n ≡ i + suc n = omega arith in
      ap (◌∷◌ (module_in parts rows i)) (modules_add n (i + 1) ∙ ap (λ (j : ℕ). modules_in parts rows (i + 1) n ++ (module_in parts rows j ∷ [])) k)

  -- ---- something that holds of every item holds at each row

  module _ (P : Item → Type 0) where
    -- behind the first row, whatever that is
    behind : (i n : ℕ) → Every P (items_from_row parts rows i (suc n)) → Every P (items_from_row parts rows (i + 1) n)
    unfolding items_from_row
    behind i n h = go (eqb (kind_in rows i) free_row) (eqb (kind_in rows i) section_row) h
      where
        rest : List Item
        rest = items_from_row parts rows (i + 1) n

        go :
            (a b : Bool)
            → Every P (cond a (free (module_in parts rows i) ∷ rest) (cond b (section_in parts rows i ∷ rest) rest))
            → Every P rest
        go true b k = k.1
        go false true k = k.1
        go false false k = k

    -- the row k behind row i, of a kind whose item is x, where it is the first
    at_row :
        (kind : ℕ) (x : ℕ → Item)
        → ((i n : ℕ) → kind_in rows i ≡ kind → items_from_row parts rows i (suc n) ≡ x i ∷ items_from_row parts rows (i + 1) n)
        → (n i k : ℕ) → Every P (items_from_row parts rows i n) → k < n → kind_in rows (i + k) ≡ kind → P (x (i + k))
    at_row kind x first zero i k h l e = absurd (omega arith)
    at_row kind x first (suc n) i zero h l e =
        let z : i + 0 ≡ i = omega arith in
        let here : Every P (x i ∷ items_from_row parts rows (i + 1) n) = subst (Every P) (first i n (rw z at e)) h in
        subst (λ (j : ℕ). P (x j)) (sym z) here.0
    at_row kind x first (suc n) i (suc k) h l e =
        let z : i + suc k ≡ i + 1 + k = omega arith in
        subst (λ (j : ℕ). P (x j)) (sym z) (at_row kind x first n (i + 1) k (behind i n h) (omega arith) (rw z at e))

    pub at_free :
        (n k : ℕ) → Every P (items_in parts rows n) → k < n → kind_in rows k ≡ free_row → P (free (module_in parts rows k))
    unfolding items_in
    at_free n k h l e =
        let z : 0 + k ≡ k = omega arith in
        rw z at (at_row free_row (λ i. free (module_in parts rows i)) row_free n 0 k h l (rw z e))

    pub at_section :
        (n k : ℕ) → Every P (items_in parts rows n) → k < n → kind_in rows k ≡ section_row → P (section_in parts rows k)
    unfolding items_in
    at_section n k h l e =
        let z : 0 + k ≡ k = omega arith in
        rw z at (at_row section_row (section_in parts rows) row_section n 0 k h l (rw z e))

  -- the modules of a section: how many, and each
  pub modules_length : (n i : ℕ) → length (modules_in parts rows i n) ≡ n
  unfolding modules_in
  modules_length zero i = refl
  modules_length (suc n) i = ap suc (modules_length n (i + 1))

  pub at_member :
      (P : Module → Type 0) (n i k : ℕ) → Every P (modules_in parts rows i n) → k < n → P (module_in parts rows (i + k))
  unfolding modules_in
  at_member P zero i k h l = absurd (omega arith)
  at_member P (suc n) i zero h l = let z : i ≡ i + 0 = omega arith in subst (λ (j : ℕ). P (module_in parts rows j)) z h.0
  at_member P (suc n) i (suc k) h l =
      let z : i + 1 + k ≡ i + suc k = omega arith in
      subst (λ (j : ℕ). P (module_in parts rows j)) z (at_member P n (i + 1) k h.1 (omega arith))
