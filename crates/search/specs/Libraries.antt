-- A library section: its modules, and what the search asks of them and of the index.
use Rattle.std.specs.Prelude.{ℕ, ◌+◌, ◌≤◌, ◌<◌, List}
use Rattle.rules.specs.Limits.{most_modules}
use Rattle.rules.specs.Reading.{Module}
use Rattle.rules.proofs.ReadingLaws.{ModuleSound}
use Rattle.tables.specs.Tables.{module_in, modules_in}
use Rattle.tables.specs.declared.rows.Section.{Section}
use Rattle.index.specs.Index.{Owns}
use Rattle.search.specs.declared.library.Library.{Library}

-- the modules of a section, within the limits of the reading
pub record SectionSound (parts rows : List ℕ) (s : Section) : Type 0 where
  pub low : s.first ≤ 65535
  pub short : s.count ≤ most_modules
  pub sound : (i : ℕ) → i < s.count → ModuleSound (module_in parts rows (s.first + i))

abbrev pub module_of : Library → ℕ → Module
module_of l i = module_in l.tables.parts.now l.tables.rows.now (l.section.first + i)

abbrev pub modules_of : Library → List Module
modules_of l = modules_in l.tables.parts.now l.tables.rows.now l.section.first l.section.count

abbrev pub LibrarySound : Library → Type 0
LibrarySound l = SectionSound l.tables.parts.now l.tables.rows.now l.section

-- the index has the entries of the modules
abbrev pub LibraryOwns : Library → Type 0
LibraryOwns l = Owns l.tables.parts.now l.tables.rows.now l.section.first l.section.count l.index.now
