-- Demand 3, in the words of document 01's paragraph on it. A set of modules is told by their positions in the section.
use Rattle.std.specs.Prelude.{ℕ, ◌+◌, ◌<◌, Bool, true, false, not, ◌&&◌, ◌||◌, List, [], ◌∷◌, ◌++◌, ◌≡◌, length, eqb}
use Rattle.rules.specs.Text.{any}
use Rattle.rules.specs.Reading.{Module, Item, section, items_of}
use Rattle.rules.specs.State.{Symbol, State, is_defined, is_undefined}
use Rattle.rules.specs.Placing.{externals}
use Rattle.rules.specs.Search.{ModuleSet}
use Rattle.rules.specs.Load.{Walk, entry_names, searched, walk_from}

unfoldable pub all_modules : ModuleSet
all_modules i = true

-- is the name an entry, or an external, of a module
unfoldable pub is_entry : ℕ → Module → Bool
is_entry x m = any (eqb x) (entry_names m)

unfoldable pub is_external : ℕ → Module → Bool
is_external x m = any (eqb x) (externals m)

-- is there such a module in a set, among the modules from position i on
unfoldable pub some_from : (Module → Bool) → ModuleSet → ℕ → List Module → Bool
some_from p set i [] = false
some_from p set i (m ∷ ms) = set i && p m || some_from p set (i + 1) ms

abbrev pub entry_of : ℕ → ModuleSet → List Module → Bool
entry_of x set ms = some_from (is_entry x) set 0 ms

abbrev pub external_of : ℕ → ModuleSet → List Module → Bool
external_of x set ms = some_from (is_external x) set 0 ms

-- "each symbol that was undefined before the section, or is an external of a module in the set, is an entry of a module in the
-- set, unless it was defined before the section or no module there has it as an entry"
unfoldable pub Sufficient : List Symbol → List Module → ModuleSet → Type 0
Sufficient table ms set =
    (x : ℕ) →
    (is_undefined x table || external_of x set ms) ≡ true →
    (entry_of x set ms || (is_defined x table || not (entry_of x all_modules ms))) ≡ true

-- "contains them all"
unfoldable pub Contains : List Module → ModuleSet → ModuleSet → Type 0
Contains ms big small = (i : ℕ) → i < length ms → small i ≡ true → big i ≡ true

-- "and at least one more"
unfoldable pub OneMore : List Module → ModuleSet → ModuleSet → Type 0
OneMore ms big small = (i : ℕ) × (i < length ms) × (big i ≡ true) × (small i ≡ false)

-- the same set of the section's modules
unfoldable pub SameSet : List Module → ModuleSet → ModuleSet → Type 0
SameSet ms a b = (i : ℕ) → i < length ms → a i ≡ b i

-- demand 3 of the modules taken, at a section with these modules, from the table before it
pub record LeastSufficient (table : List Symbol) (ms : List Module) (taken : ModuleSet) : Type 0 where
  pub sufficient : Sufficient table ms taken
  pub least : (set : ModuleSet) → Sufficient table ms set → ¬ SameSet ms set taken → Contains ms set taken × OneMore ms set taken

-- a section with these modules on the way of a walk, which stands at w before it and at v behind it: "The modules taken there are
-- those that the search above takes, begun from that table", and what this one search ends in is where the walk goes on
pub record TakesLeast (w : Walk) (ms : List Module) (v : Walk) : Type 0 where
  pub least : LeastSufficient w.state.symbols ms (searched ms w).taken
  pub goes_on : v ≡ (searched ms w).now

-- demand 3 of a load of this file from s that leaves t: "take any library section of the file", and "the state that the load answers
-- is the one that this walk ends in"
pub record LeastAtEach (s : State) (file : List ℕ) (t : State) : Type 0 where
  pub sections : (before after : List Item) (line : ℕ) (ms : List Module) → items_of file ≡ before ++ (section line ms ∷ after) →
      TakesLeast (walk_from s before).walk ms (walk_from s (before ++ (section line ms ∷ []))).walk
  pub ends : t ≡ (walk_from s (items_of file)).walk.state
