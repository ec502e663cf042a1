-- One more element at the end of a table.
use Prim.Native.Nat.{ℕ, suc, ◌+◌, ◌*◌, ◌<◌, ◌≤◌}
use native.Mathlib.Omega.{arith}
use mathlib.Core.Bool.{Bool, true, false, false≢true}
use mathlib.Core.List.{List, [], ◌∷◌, ◌++◌, append_assoc}
use mathlib.Core.Path.{◌≡◌, sym, ap, ap₂, ◌∙◌}
use lib.ListN.{length, drop, get_or, set, length-append, length-drop}
use lib.Seq.{drop-cons, set_at}
use Rattle.rules.specs.Calls.{overwritten}
use Rattle.rules.specs.declared.reading.Part.{Part}
use Rattle.tables.specs.Tables.{part_head, part_body, free_row, member_row, section_row, row_head, row_body}
use Rattle.tables.specs.Cells.{Row, row, cells_of, head_of_row, body_of_row, row_cells}
use Rattle.tables.proofs.CellLaws.{cells_length, cells_add}
use Rattle.reading.specs.TwoTables.{Tables, add_part, add_module, add_section}
use Rattle.reading.specs.Filling.{Put, filled_of, parts_in, rows_in, Fills}
use Rattle.reading.specs.declared.fill.Filled.{Filled}

-- ---- two cells

two_more :
    (lent : List ℕ) (k : ℕ) → k + 1 < length lent
    → drop k lent ≡ get_or lent k 0 ∷ get_or lent (suc k) 0 ∷ drop (suc (suc k)) lent
two_more lent k h = drop-cons lent k 0 (omega arith) ∙ ap (◌∷◌ (get_or lent k 0)) (drop-cons lent (suc k) 0 (omega arith))

set_two :
    (xs lent : List ℕ) (k h b : ℕ) → length xs ≡ k → k + 1 < length lent
    → set (set (overwritten xs lent) k h) (k + 1) b ≡ overwritten (xs ++ (h ∷ b ∷ [])) lent
set_two xs lent k h b e s =
    let y = get_or lent k 0 in
    let z = get_or lent (suc k) 0 in
    let rest = drop (suc (suc k)) lent in
    let end : length (xs ++ (h ∷ b ∷ [])) ≡ suc (suc k) = simp (length-append, e) (omega arith) in
    let seam : length (xs ++ (h ∷ [])) ≡ k + 1 = simp (length-append, e) in
    ap (λ (l : List ℕ). set (set (xs ++ l) k h) (k + 1) b) (ap (λ (n : ℕ). drop n lent) e ∙ two_more lent k s)
    ∙ ap (λ (l : List ℕ). set l (k + 1) b) (set_at xs y (z ∷ rest) h k e ∙ sym (append_assoc xs (h ∷ []) (z ∷ rest)))
    ∙ set_at (xs ++ (h ∷ [])) z rest b (k + 1) seam
    ∙ append_assoc xs (h ∷ []) (b ∷ rest)
    ∙ sym (append_assoc xs (h ∷ b ∷ []) rest)
    ∙ ap (λ (n : ℕ). (xs ++ (h ∷ b ∷ [])) ++ drop n lent) (sym end)

-- the length of what was lent shows behind the cells
lent_length : (xs lent : List ℕ) (k : ℕ) → length xs ≤ k → k < length (overwritten xs lent) → k < length lent
lent_length xs lent k h l = omega (arith, length-append xs (drop (length xs) lent), length-drop (length xs) lent)

pub put_two : (i h b : ℕ) (old : List ℕ) → 2 * i + 1 < length old → Put i h b old (set (set old (2 * i) h) (2 * i + 1) b)
put_two i h b old s =
    record {
      adds = λ xs lent e f.
          ap (λ (l : List ℕ). set (set l (2 * i) h) (2 * i + 1) b) f
          ∙ set_two xs lent (2 * i) h b e (lent_length xs lent (2 * i + 1) (omega arith) (omega (arith, ap length f)));
    }

-- ---- one element

put_element :
    {A : Type 0} (head body : A → ℕ) (xs : List A) (x : A) {i h b : ℕ} {old new : List ℕ} → Put i h b old new
    → length xs ≡ i → h ≡ head x → b ≡ body x → (lent : List ℕ) → old ≡ overwritten (cells_of head body xs) lent
    → new ≡ overwritten (cells_of head body (xs ++ (x ∷ []))) lent
put_element head body xs x put n h b lent e =
    put.adds (cells_of head body xs) lent (omega (arith, cells_length head body xs)) e
    ∙ ap (λ (l : List ℕ). overwritten l lent)
    (ap₂ (λ (u v : ℕ). cells_of head body xs ++ (u ∷ v ∷ [])) h b ∙ sym (cells_add head body xs x))

-- one more in a count
one_more : {A : Type 0} (xs : List A) (x : A) (n : ℕ) → n ≡ length xs → n + 1 ≡ length (xs ++ (x ∷ []))
one_more xs x n e = simp length-append (omega arith)

abbrev filled : ℕ → ℕ → ℕ → ℕ → Filled
filled p r o s = record { parts = p; rows = r; object = o; section = s }

module _ {f : Filled} {h b : ℕ} {old new : List ℕ} where
  pub fills_part :
      (p : Part) → h ≡ part_head p → b ≡ part_body p → Put f.parts h b old new
      → Fills parts_in (add_part p) f old (filled (f.parts + 1) f.rows f.object f.section) new
  unfolding add_part
  fills_part p d e put =
      record {
        counts = λ t g. cc (one_more t.parts p f.parts (ap (λ (r : Filled). r.parts) g));
        cells = λ t lent g. put_element part_head part_body t.parts p put (sym (ap (λ (r : Filled). r.parts) g)) d e lent;
      }

  module _ (put : Put f.rows h b old new) where
    -- the row r t stands behind those of t
    new_row :
        (r : Tables → Row) → ((t : Tables) → f ≡ filled_of t → h ≡ head_of_row (r t))
        → ((t : Tables) → f ≡ filled_of t → b ≡ body_of_row (r t))
        → (t : Tables) (lent : List ℕ) → f ≡ filled_of t → old ≡ overwritten (rows_in t) lent
        → new ≡ overwritten (row_cells (t.rows ++ (r t ∷ []))) lent
    new_row r d e t lent g =
        put_element head_of_row body_of_row t.rows (r t) put (sym (ap (λ (x : Filled). x.rows) g)) (d t g) (e t g) lent

    counted_row : (t : Tables) (r : Row) → f ≡ filled_of t → f.rows + 1 ≡ length (t.rows ++ (r ∷ []))
    counted_row t r g = one_more t.rows r f.rows (ap (λ (x : Filled). x.rows) g)

    module _ (line : ℕ) where
      -- a range of parts, with a kind of row
      module _ (k : ℕ) (d : h ≡ row_head k line) (e : b ≡ row_body f.object f.parts) where
        module_row_lem :
            (t : Tables) (lent : List ℕ) → f ≡ filled_of t → old ≡ overwritten (rows_in t) lent
            → new ≡ overwritten (row_cells (t.rows ++ (row k line t.object (length t.parts) ∷ []))) lent
        module_row_lem =
            new_row
            (λ t. row k line t.object (length t.parts))
            (λ t g. d)
            (λ t g. e ∙ ap (λ (x : Filled). row_body x.object x.parts) g)

      pub fills_member :
          (member : Bool) → member ≡ true → h ≡ row_head member_row line → b ≡ row_body f.object f.parts
          → Fills rows_in (add_module member line) f old (filled f.parts (f.rows + 1) f.parts f.section) new
      unfolding add_module
      fills_member true m d e = record { counts = λ t g. cc (counted_row t _ g); cells = module_row_lem member_row d e }
      fills_member false m d e = absurd (false≢true m)

      pub fills_free :
          (member : Bool) → member ≡ false → h ≡ row_head free_row line → b ≡ row_body f.object f.parts
          → Fills rows_in (add_module member line) f old (filled f.parts (f.rows + 1) f.parts (f.rows + 1)) new
      unfolding add_module
      fills_free true m d e = absurd (false≢true (sym m))
      fills_free false m d e = record { counts = λ t g. cc (counted_row t _ g); cells = module_row_lem free_row d e }

      pub fills_section :
          h ≡ row_head section_row line → b ≡ row_body f.section f.rows
          → Fills rows_in (add_section line) f old (filled f.parts (f.rows + 1) f.parts (f.rows + 1)) new
      unfolding add_section
      fills_section d e =
          record {
            counts = λ t g. cc (counted_row t _ g);
            cells =
                new_row
                (λ t. row section_row line t.section (length t.rows))
                (λ t g. d)
                (λ t g. e ∙ ap (λ (x : Filled). row_body x.section x.rows) g);
          }
