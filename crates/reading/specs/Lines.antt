-- Lines read one after the other: what they come to, and what is promised of it.
use Rattle.std.specs.Prelude.{ℕ, ◌+◌, ◌≤◌, Bool, true, List, [], ◌∷◌, ◌≡◌, length, drop, Result, Ok, Err}
use Rattle.rules.specs.Limits.{longest_file}
use Rattle.rules.specs.Text.{lines_of}
use Rattle.rules.specs.Calls.{overwritten}
use Rattle.rules.specs.Reading.{at_start, step_at, at_end, Reading, Complete, stop}
use Rattle.rules.specs.declared.reading.Mode.{Mode}
use Rattle.rules.specs.declared.reading.Stop.{Stop as TheStop}
use Rattle.rules.specs.declared.reading.Step.{Step}
use Rattle.rules.specs.declared.reading.Step.TheVariants.{Stop, Next, Add, CloseModule, CloseSection}
use Rattle.runs.specs.Runs.{RecordsRead}
use Rattle.runs.specs.Modes.{room_for}
use Rattle.runs.specs.declared.Run.{Run}
use Rattle.tables.specs.Tables.{most_parts, most_rows}
use Rattle.reading.specs.TwoTables.{tables_of}
use Rattle.reading.specs.Filling.{filled_of, parts_in, rows_in, Lent}
use Rattle.reading.specs.declared.Place.{Place}
use Rattle.reading.specs.declared.Clean.{Clean}
use Rattle.reading.specs.declared.LinesRead.{LinesRead}
use Rattle.reading.specs.declared.fill.Filled.{Filled}

-- ---- what lines come to

-- where the reading stands behind them, and the number of the line that comes next; or their first fault
abbrev pub Reached : Type 0
Reached = Result Clean TheStop

abbrev pub clean : Mode → ℕ → Reached
clean m n = Ok (record { mode = m; line = n })

abbrev pub fault : ℕ → ℕ → ℕ → Reached
fault k n c = Err (stop k n c)

-- what the step of line n does, where the lines behind it come to this
unfoldable pub gone_on : ℕ → Step → (Mode → Reached) → Reached
gone_on n (Stop k c) more = fault k n c
gone_on n (Next m) more = more m
gone_on n (Add m p) more = more m
gone_on n (CloseModule m line) more = more m
gone_on n (CloseSection m line) more = more m

-- lines from line n on, where the reading stands at m
unfoldable pub go_on : ℕ → Mode → List (List ℕ) → Reached
go_on n m [] = clean m n
go_on n m (l ∷ ls) = gone_on n (step_at n m l) (λ m'. go_on (n + 1) m' ls)

-- the number of the line that comes next, or of the fault's
unfoldable pub line_in : Reached → ℕ
line_in (Ok c) = c.line
line_in (Err s) = s.line

-- the fault, Complete where there is none
unfoldable pub told : Reached → Reading
told (Ok c) = Complete
told (Err s) = Err s

-- what a file comes to that ends there
unfoldable pub ended_at : Reached → Reading
ended_at (Ok c) = at_end c.line c.mode
ended_at (Err s) = Err s

-- ---- what is promised

abbrev pub reached_from : List ℕ → Place → Reached
reached_from file p = go_on p.line p.mode (lines_of (drop p.at file))

abbrev pub start_place : Place
start_place = record { at = 0; line = 1; mode = at_start }

abbrev pub lines_read : Reached → Filled → LinesRead
lines_read r f = record { reached = r; filled = f }

-- a run of records, of which nothing is kept
pub record RunFrom (file : List ℕ) (at : ℕ) (m : Mode) (keep : Bool) (r : Run) : Type 0 where
  pub reads : RecordsRead m.expected at file (room_for m) r
  pub none_kept : keep ≡ true → r.count ≡ 0

-- the tables are filled from a file's first line on
pub record Begins (file : List ℕ) (p : Place) (keep : Bool) (parts rows : List ℕ) : Type 0 where
  pub inside : p.at ≤ length file
  pub numbered : p.line ≤ p.at + 1
  pub short : length file ≤ longest_file
  pub room : keep ≡ true → Lent file parts rows
  pub at_first : keep ≡ true → p ≡ start_place

-- the tables of the whole file, in front of what was lent
pub record TablesKept (file lent_parts lent_rows : List ℕ) (f : Filled) (parts_left rows_left : List ℕ) : Type 0 where
  pub counts : f ≡ filled_of (tables_of file)
  pub part_cells : parts_left ≡ overwritten (parts_in (tables_of file)) lent_parts
  pub row_cells : rows_left ≡ overwritten (rows_in (tables_of file)) lent_rows
  pub few_parts : f.parts ≤ most_parts
  pub few_rows : f.rows ≤ most_rows

pub record ReadOn (file : List ℕ) (p : Place) (r : Reached) : Type 0 where
  pub is : r ≡ reached_from file p
  pub counted : line_in r ≤ length file + 1

pub record LinesInto (file : List ℕ) (p : Place) (keep : Bool) (lent_parts lent_rows : List ℕ) (r : LinesRead) (parts_left rows_left : List ℕ) : Type 0 where
  pub reached : ReadOn file p r.reached
  pub kept : keep ≡ true → TablesKept file lent_parts lent_rows r.filled parts_left rows_left
