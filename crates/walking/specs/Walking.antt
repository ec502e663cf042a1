-- How the walk over the rows says what it did.
use Rattle.std.specs.Prelude.{ℕ, ◌+◌, ◌*◌, ◌<◌, ◌≤◌, cond, List, ◌≡◌, length, eqb}
use Rattle.rules.specs.Limits.{most_entries}
use Rattle.rules.specs.Answers.{DONE}
use Rattle.rules.specs.Reading.{Module, Item, free}
use Rattle.rules.proofs.ReadingLaws.{ModuleSound, ItemSound}
use Rattle.rules.specs.Load.{refusal, Walk, Progress, walk_item, walk_items, test_section, entry_names}
use Rattle.rules.specs.declared.answer.Refusal.{Refusal}
use Rattle.tables.specs.Tables.{most_cells, kind_in, free_row, section_row, module_in, section_in}
use Rattle.tables.specs.declared.rows.Section.{Section}
use Rattle.state.specs.Good.{Good}
use Rattle.placing.specs.Walks.{Agrees}
use Rattle.index.specs.Index.{Owns}
use Rattle.walking.specs.declared.WalkSoFar.{WalkSoFar}

-- ---- how many rounds there can be, so that no sum of them wraps

-- of a section: each round but the last takes a module
abbrev pub section_rounds : ℕ
section_rounds = 257

-- more rows than any file gives
abbrev pub most_rows : ℕ
most_rows = most_cells

abbrev pub walk_rounds : ℕ
walk_rounds = section_rounds * most_rows

-- ---- a walk of the code, and one of the definitions

abbrev pub walk_so_far : Refusal → ℕ → WalkSoFar
walk_so_far r n = record { refusal = r; rounds = n }

abbrev pub unwalked : WalkSoFar
unwalked = walk_so_far (refusal DONE 0) 0

-- the walk's refusal and state, and its rounds
pub record Tracks (p : Progress) (far : WalkSoFar) (cells : List ℕ) : Type 0 where
  pub agrees : Agrees p.walk far.refusal cells
  pub rounds_are : far.rounds ≡ p.rounds

-- what a function does to any walk that it is handed, with at most n rounds more
pub record Advances (change : Progress → Progress) (n : ℕ) (far : WalkSoFar) (before : List ℕ) (r : WalkSoFar) (after : List ℕ) : Type 0 where
  pub good : Good after
  pub most : r.rounds ≤ far.rounds + n
  pub does : (p : Progress) → Tracks p far before → Tracks (change p) r after

-- ---- a section

-- the test of a section, by any walk, whatever its cells
pub record TestedSection (line : ℕ) (ms : List Module) (refusal : Refusal) (r : Refusal) : Type 0 where
  pub does : (w : Walk) (cells : List ℕ) → Agrees w refusal cells → Agrees (test_section line ms w) r cells

-- modules that the index of their entries has room for
pub record Indexable (parts rows : List ℕ) (s : Section) : Type 0 where
  pub parts_few : length parts ≤ most_cells
  pub few : (i : ℕ) → i < s.count → length (entry_names (module_in parts rows (s.first + i))) ≤ most_entries

-- in a walk that goes on, the index has the entries of the modules
pub record Known (parts rows : List ℕ) (s : Section) (refusal : Refusal) (index : List ℕ) : Type 0 where
  pub owns : refusal.number ≡ DONE → Owns parts rows s.first s.count index

-- ---- the rows

-- what a row does to the walk: a free module is placed, a section searched; a member counts with its section
unfoldable pub row_step : List ℕ → List ℕ → ℕ → Progress → Progress
row_step parts rows i p =
    cond (eqb (kind_in rows i) free_row) (walk_item p (free (module_in parts rows i)))
    (cond (eqb (kind_in rows i) section_row) (walk_item p (section_in parts rows i)) p)

-- the item of a row, where the row has one of its own, is sound
pub record RowSound (parts rows : List ℕ) (i : ℕ) : Type 0 where
  pub free_sound : kind_in rows i ≡ free_row → ModuleSound (module_in parts rows i)
  pub section_sound : kind_in rows i ≡ section_row → ItemSound (section_in parts rows i)

-- a walk that has come so far: from here the items left lead to where all of them lead from p
pub record Stands (p : Progress) (whole rest : List Item) (far : WalkSoFar) (cells : List ℕ) : Type 0 where
  pub here : Progress
  pub tracks : Tracks here far cells
  pub leads : walk_items here rest ≡ walk_items p whole
