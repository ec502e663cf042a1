-- What the passes over a module's parts say that they found and did.
use Rattle.std.specs.Prelude.{ℕ, ◌+◌, ◌≤◌, Bool, ◌&&◌, ◌||◌, ◌≡◌, List, length, eqb, ltb}
use Rattle.rules.specs.Limits.{largest_number}
use Rattle.rules.specs.Text.{any}
use Rattle.rules.specs.State.{Symbol, is_defined}
use Rattle.rules.specs.Placing.{Code, externals_in, length_in, bad_argument, twice}
use Rattle.rules.specs.declared.line.Entry.{Entry}
use Rattle.rules.specs.declared.reading.Part.{Part}
use Rattle.tables.specs.declared.iter.PartCells.{PartCells}
use Rattle.tables.specs.Heads.{names_in, is_entry, is_relocated, value_of, is_reference, argument_of}
use Rattle.placing.specs.declared.tests.Extent.{Extent}

-- a word whose external number is 0 or beyond the n externals; a relocated entry over 65,535 at a base
abbrev pub bad_code : ℕ → Code → Bool
bad_code n c = bad_argument n c.word.relocation

abbrev pub over_range : ℕ → Entry → Bool
over_range base e = e.relocated && ltb largest_number (e.value + base)

-- the same of a part's first cell
unfoldable pub is_bad : ℕ → ℕ → Bool
is_bad n head = is_reference head && (eqb (argument_of head) 0 || ltb n (argument_of head))

unfoldable pub is_over : ℕ → ℕ → Bool
is_over base head = is_relocated head && ltb largest_number (value_of base head)

-- a name stands twice, or is defined in the table
abbrev pub repeated : List Symbol → List ℕ → Bool
repeated t names = twice names || any (λ x. is_defined x t) names

-- the same of a part alone: it is an entry whose name is defined, or is entered again by the rest
abbrev pub is_repeated : List Symbol → PartCells → List Part → Bool
is_repeated t p rest = is_entry p.head && (is_defined p.body t || any (eqb p.body) (names_in rest))

-- the module's length, and how many externals it has
pub record Surveyed (ps : List Part) (r : Extent) : Type 0 where
  pub length_is : r.length ≡ length_in ps
  pub few : r.length ≤ 131070
  pub externals_is : r.externals ≡ length (externals_in ps)
