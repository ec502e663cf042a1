-- The elements of the two tables, and the cells that they stand in.
use Rattle.std.specs.Prelude.{ℕ, List, [], ◌∷◌}
use Rattle.rules.specs.declared.reading.Part.{Part}
use Rattle.tables.specs.Tables.{part_head, part_body, row_head, row_body}

-- a row: its kind, the line of a TITLE or an LSB header, and a range of parts or of rows
pub record Row : Type 0 where
  pub kind : ℕ
  pub line : ℕ
  pub start : ℕ
  pub end : ℕ

abbrev pub row : ℕ → ℕ → ℕ → ℕ → Row
row k l s e = record { kind = k; line = l; start = s; end = e }

-- two cells for each element
unfoldable pub cells_of : {A : Type 0} → (A → ℕ) → (A → ℕ) → List A → List ℕ
cells_of head body [] = []
cells_of head body (x ∷ xs) = head x ∷ body x ∷ cells_of head body xs

abbrev pub head_of_row : Row → ℕ
head_of_row r = row_head r.kind r.line

abbrev pub body_of_row : Row → ℕ
body_of_row r = row_body r.start r.end

abbrev pub part_cells : List Part → List ℕ
part_cells ps = cells_of part_head part_body ps

abbrev pub row_cells : List Row → List ℕ
row_cells rs = cells_of head_of_row body_of_row rs
