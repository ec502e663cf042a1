-- Cells and the elements that stand in them: at an index, in a range, and a row's four numbers.
use Prim.Native.Nat.{ℕ, ◌+◌, ◌-◌, ◌*◌, ◌<◌}
use native.Mathlib.Omega.{arith}
use mathlib.Core.List.{List, [], ◌∷◌, ◌++◌, append_assoc}
use mathlib.Core.Path.{◌≡◌, refl, sym, ap, ap₂, ◌∙◌}
use lib.ListN.{length, take, drop, get_or, length-append}
use lib.Seq.{get_or_at, take_at, drop_at}
use Rattle.rules.proofs.TestLaws.{Every}
use Rattle.rules.specs.declared.reading.Part.{Part}
use Rattle.tables.specs.Tables.{head_in, body_in, kind_in, line_in, start_in, end_in, cells_in, parts_of}
use Rattle.tables.specs.Cells.{Row, cells_of, head_of_row, body_of_row, part_cells, row_cells}
use Rattle.tables.proofs.TablesLaws.{Fits, part_back}

module _ {A : Type 0} (head body : A → ℕ) where
  pub cells_length : (xs : List A) → length (cells_of head body xs) ≡ 2 * length xs
  unfolding cells_of
  cells_length [] = refl
  cells_length (x ∷ xs) = omega (arith, cells_length xs)

  pub cells_append : (xs ys : List A) → cells_of head body (xs ++ ys) ≡ cells_of head body xs ++ cells_of head body ys
  unfolding cells_of
  cells_append [] ys = refl
  cells_append (x ∷ xs) ys = ap (λ (l : List ℕ). head x ∷ body x ∷ l) (cells_append xs ys)

  -- one element more at the end
  pub cells_add : (xs : List A) (x : A) → cells_of head body (xs ++ (x ∷ [])) ≡ cells_of head body xs ++ (head x ∷ body x ∷ [])
  unfolding cells_of
  cells_add xs x = cells_append xs (x ∷ [])

  -- the element behind xs
  module _ (xs : List A) (x : A) (ys : List A) (more : List ℕ) where
    split : cells_of head body (xs ++ x ∷ ys) ++ more ≡ cells_of head body xs ++ head x ∷ body x ∷ (cells_of head body ys ++ more)
    unfolding cells_of
    split =
        ap (λ (l : List ℕ). l ++ more) (cells_append xs (x ∷ ys))
        ∙ append_assoc (cells_of head body xs) (head x ∷ body x ∷ cells_of head body ys) more

    pub head_at : head_in (cells_of head body (xs ++ x ∷ ys) ++ more) (length xs) ≡ head x
    head_at =
        ap (λ (l : List ℕ). get_or l (2 * length xs) 0) split
        ∙ get_or_at (cells_of head body xs) (head x) (body x ∷ (cells_of head body ys ++ more)) 0 _ (cells_length xs)

    pub body_at : body_in (cells_of head body (xs ++ x ∷ ys) ++ more) (length xs) ≡ body x
    body_at =
        let front : List ℕ = cells_of head body xs ++ (head x ∷ []) in
        let rest : List ℕ = cells_of head body ys ++ more in
        ap (λ (l : List ℕ). get_or l (2 * length xs + 1) 0)
        (split ∙ sym (append_assoc (cells_of head body xs) (head x ∷ []) (body x ∷ rest)))
        ∙ get_or_at front (body x) rest 0 _ (simp (length-append, cells_length))

  -- the elements between those of xs and those of zs
  pub cells_between :
      (xs ys zs : List A) (more : List ℕ) (i e : ℕ) → length xs ≡ i → length xs + length ys ≡ e
      → cells_in (cells_of head body ((xs ++ ys) ++ zs) ++ more) i e ≡ cells_of head body ys
  cells_between xs ys zs more i e p q =
      let rest : List ℕ = cells_of head body zs ++ more in
      let all : cells_of head body ((xs ++ ys) ++ zs) ++ more ≡ cells_of head body xs ++ (cells_of head body ys ++ rest) = simp (cells_append, append_assoc) in
      ap (λ (l : List ℕ). take (2 * e - 2 * i) (drop (2 * i) l)) all
      ∙ ap (take (2 * e - 2 * i)) (drop_at (cells_of head body xs) (cells_of head body ys ++ rest) (2 * i) (omega (arith, cells_length xs)))
      ∙ take_at (cells_of head body ys) rest (2 * e - 2 * i) (omega (arith, cells_length ys))

-- parts that fit their cells are read back
pub parts_back : (ps : List Part) → Every Fits ps → parts_of (part_cells ps) ≡ ps
unfolding cells_of parts_of
parts_back [] h = refl
parts_back (p ∷ ps) h = ap₂ ◌∷◌ (part_back p h.0) (parts_back ps h.1)

-- row i of the cells is r
pub record RowIs (cells : List ℕ) (i : ℕ) (r : Row) : Type 0 where
  pub kind : kind_in cells i ≡ r.kind
  pub line : line_in cells i ≡ r.line
  pub start : start_in cells i ≡ r.start
  pub end : end_in cells i ≡ r.end

-- the row behind rs
pub row_at_lem :
    (rs : List Row) (r : Row) (more : List Row) (cells : List ℕ) → r.kind < 4 → r.start < 65536
    → RowIs (row_cells (rs ++ r ∷ more) ++ cells) (length rs) r
row_at_lem rs r more cells k s =
    let h = head_at head_of_row body_of_row rs r more cells in
    let b = body_at head_of_row body_of_row rs r more cells in
    record {
      kind = omega (arith, h);
      line = omega (arith, h);
      start = omega (arith, b);
      end = omega (arith, b);
    }
