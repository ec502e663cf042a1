-- What the functions that fill the tables promise.
use Rattle.std.specs.Prelude.{ℕ, ◌*◌, ◌<◌, ◌≤◌, List, [], ◌∷◌, ◌++◌, ◌≡◌, length}
use Rattle.rules.specs.Limits.{longest_file}
use Rattle.rules.specs.Calls.{overwritten}
use Rattle.rules.specs.Reading.{reading_of, Reading}
use Rattle.tables.specs.Tables.{most_parts, part_room, most_rows, row_room}
use Rattle.tables.specs.Cells.{part_cells, row_cells}
use Rattle.reading.specs.TwoTables.{Tables, tables_of}
use Rattle.reading.specs.declared.fill.Filled.{Filled}
use Rattle.reading.specs.declared.FileRead.{FileRead}

-- element i is written behind the cells xs, which stand in front of what was lent
pub record Put (i head body : ℕ) (old new : List ℕ) : Type 0 where
  pub adds :
      (xs lent : List ℕ) → length xs ≡ 2 * i → old ≡ overwritten xs lent → new ≡ overwritten (xs ++ (head ∷ body ∷ [])) lent

-- how far the tables are filled
abbrev pub filled_of : Tables → Filled
filled_of t = record { parts = length t.parts; rows = length t.rows; object = t.object; section = t.section }

abbrev pub parts_in : Tables → List ℕ
parts_in t = part_cells t.parts

abbrev pub rows_in : Tables → List ℕ
rows_in t = row_cells t.rows

-- there is room for one more part, and for one more row
pub record PartRoom (f : Filled) (cells : List ℕ) : Type 0 where
  pub free : f.parts < most_parts
  pub whole : length cells ≡ part_room

pub record RowRoom (f : Filled) (cells : List ℕ) : Type 0 where
  pub free : f.rows < most_rows
  pub whole : length cells ≡ row_room
  pub few : f.parts ≤ most_parts
  pub open_object : f.object ≤ f.parts
  pub open_section : f.section ≤ f.rows

-- cells that held a table hold it after a change of the tables, and the counts follow
pub record Fills (table : Tables → List ℕ) (change : Tables → Tables) (f : Filled) (old : List ℕ) (r : Filled) (new : List ℕ) : Type 0 where
  pub counts : (t : Tables) → f ≡ filled_of t → r ≡ filled_of (change t)
  pub cells :
      (t : Tables) (lent : List ℕ) → f ≡ filled_of t → old ≡ overwritten (table t) lent
      → new ≡ overwritten (table (change t)) lent

-- ---- the whole file

pub record Lent (file parts rows : List ℕ) : Type 0 where
  pub short : length file ≤ longest_file
  pub part_room_is : length parts ≡ part_room
  pub row_room_is : length rows ≡ row_room

abbrev pub file_read : Reading → Filled → FileRead
file_read r f = record { reading = r; parts = f.parts; rows = f.rows }

-- the reading, and the cells of all that the lines up to the fault added, in front of what was lent
pub record ReadInto (file lent_parts lent_rows : List ℕ) (r : FileRead) (parts_left rows_left : List ℕ) : Type 0 where
  pub reading : r.reading ≡ reading_of file
  pub parts : r.parts ≡ length (tables_of file).parts
  pub rows : r.rows ≡ length (tables_of file).rows
  pub part_cells : parts_left ≡ overwritten (parts_in (tables_of file)) lent_parts
  pub row_cells : rows_left ≡ overwritten (rows_in (tables_of file)) lent_rows
  pub few_parts : r.parts ≤ most_parts
  pub few_rows : r.rows ≤ most_rows
