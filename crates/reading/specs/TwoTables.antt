-- What the reading leaves in the two tables: the steps of rules' reading, with what each of them adds.
use Rattle.std.specs.Prelude.{ℕ, ◌+◌, Bool, cond, List, [], ◌∷◌, ◌++◌, length}
use Rattle.rules.specs.Text.{lines_of}
use Rattle.rules.specs.Reading.{at_start, step_at}
use Rattle.rules.specs.declared.reading.Mode.{Mode}
use Rattle.rules.specs.declared.reading.Part.{Part}
use Rattle.rules.specs.declared.reading.Step.{Step}
use Rattle.rules.specs.declared.reading.Step.TheVariants.{Stop, Next, Add, CloseModule, CloseSection}
use Rattle.tables.specs.Tables.{free_row, member_row, section_row}
use Rattle.tables.specs.Cells.{Row, row}

-- the parts and the rows so far; where the parts of the open module and the rows of the open section begin
pub record Tables : Type 0 where
  pub parts : List Part
  pub rows : List Row
  pub object : ℕ
  pub section : ℕ

unfoldable pub empty : Tables
empty = record { parts = []; rows = []; object = 0; section = 0 }

unfoldable pub add_part : Part → Tables → Tables
add_part p t = record { parts = t.parts ++ (p ∷ []); rows = t.rows; object = t.object; section = t.section }

-- the rows of the open module and of the open section, with the lines of their headers
abbrev pub module_row : Bool → ℕ → Tables → Row
module_row member line t = row (cond member member_row free_row) line t.object (length t.parts)

abbrev pub section_row_of : ℕ → Tables → Row
section_row_of line t = row section_row line t.section (length t.rows)

-- a module is complete: one more row of the open section, or a row of its own
unfoldable pub add_module : Bool → ℕ → Tables → Tables
add_module member line t =
    record {
      parts = t.parts;
      rows = t.rows ++ (module_row member line t ∷ []);
      object = length t.parts;
      section = cond member t.section (length t.rows + 1);
    }

-- a section is complete
unfoldable pub add_section : ℕ → Tables → Tables
add_section line t =
    record {
      parts = t.parts;
      rows = t.rows ++ (section_row_of line t ∷ []);
      object = length t.parts;
      section = length t.rows + 1;
    }

unfoldable pub emit : Step → Tables → (Mode → Tables → Tables) → Tables
emit (Stop k c) t go = t
emit (Next m) t go = go m t
emit (Add m p) t go = go m (add_part p t)
emit (CloseModule m line) t go = go m (add_module m.section.inside line t)
emit (CloseSection m line) t go = go m (add_section line t)

-- the lines from line n on, where the reading stands at m
unfoldable pub tables_from : ℕ → Mode → Tables → List (List ℕ) → Tables
tables_from n m t [] = t
tables_from n m t (l ∷ ls) = emit (step_at n m l) t (λ m' t'. tables_from (n + 1) m' t' ls)

-- the whole file, or up to the line of its fault
unfoldable pub tables_of : List ℕ → Tables
tables_of file = tables_from 1 at_start empty (lines_of file)
