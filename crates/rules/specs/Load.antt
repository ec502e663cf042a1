-- Document 01, "Order": the walk over what a file holds, and what a load comes to.
use Rattle.std.specs.Prelude.{ℕ, ◌+◌, Bool, cond, ◌&&◌, List, [], ◌∷◌, ◌++◌, map, length, eqb, Err}
use Rattle.rules.specs.Text.{any, Alphabet, is_name_character}
use Rattle.rules.specs.Answers.{DONE, DUPLICATE}
use Rattle.rules.specs.Reading.{Module, Item, free, section, reading_over, items_over, Reading, Complete}
use Rattle.rules.specs.State.{State, marked, broken, is_undefined}
use Rattle.rules.specs.Placing.{entries, entry_name, placing_fault, placed, twice}
use Rattle.rules.specs.Search.{Found, count, search}
use Rattle.rules.specs.declared.answer.Refusal.{Refusal}

-- a refusal, with its line
abbrev pub refusal : ℕ → ℕ → Refusal
refusal k n = record { number = k; line = n }

-- how far a walk has come: its refusal, which is 0 at line 0 where there is none, and the state
pub record Walk : Type 0 where
  pub refusal : Refusal
  pub state : State

abbrev pub walk : Refusal → State → Walk
walk r s = record { refusal = r; state = s }

abbrev pub walking : State → Walk
walking s = walk (refusal DONE 0) s

abbrev pub accepted : Walk → Bool
accepted w = eqb w.refusal.number DONE

-- a module in turn: refused at the line of its TITLE header, or placed
unfoldable pub try_place : State → Module → Walk
try_place s m =
    cond (eqb (placing_fault s m) DONE) (walking (placed s m)) (walk (refusal (placing_fault s m) m.line) s)

-- a walk that is refused stays as it is
unfoldable pub place : Walk → Module → Walk
place w m = cond (accepted w) (try_place w.state m) w

unfoldable pub entry_names : Module → List ℕ
entry_names m = map entry_name (entries m)

-- "A module is taken if one of its entries is undefined in the table at that moment."
unfoldable pub is_needed : State → Module → Bool
is_needed s m = any (λ x. is_undefined x s.symbols) (entry_names m)

-- a walk that is refused takes nothing
unfoldable pub takes : Walk → Module → Bool
takes w m = accepted w && is_needed w.state m

-- the search of a section
unfoldable pub searched : List Module → Walk → Found Walk
searched ms w = search takes place ms w

-- the names of all entries of a section
unfoldable pub section_names : List Module → List ℕ
section_names [] = []
section_names (m ∷ ms) = entry_names m ++ section_names ms

-- "at each library first any name that is an entry twice in the section (13, line of the LSB header)"
unfoldable pub test_section : ℕ → List Module → Walk → Walk
test_section line ms w = cond (accepted w && twice (section_names ms)) (walk (refusal DUPLICATE line) w.state) w

-- a walk and the rounds of its searches
pub record Progress : Type 0 where
  pub walk : Walk
  pub rounds : ℕ

abbrev pub progress : Walk → ℕ → Progress
progress w n = record { walk = w; rounds = n }

unfoldable pub walk_item : Progress → Item → Progress
walk_item p (free m) = progress (place p.walk m) p.rounds
walk_item p (section line ms) =
    let f = searched ms (test_section line ms p.walk) in
    progress f.now (p.rounds + f.rounds)

-- "Then the walk, in file order"
unfoldable pub walk_items : Progress → List Item → Progress
walk_items p [] = p
walk_items p (i ∷ is) = walk_items (walk_item p i) is

abbrev pub walk_from : State → List Item → Progress
walk_from s is = walk_items (progress (walking s) 0) is

-- ---- "modules taken plus sections", which bounds the rounds

-- the modules that a section's search takes, where the walk stands there
unfoldable pub taken_at : Walk → Item → ℕ
taken_at w (free m) = 0
taken_at w (section line ms) = count (searched ms w).taken (length ms)

-- and all of them along a walk
unfoldable pub taken_in : Progress → List Item → ℕ
taken_in p [] = 0
taken_in p (i ∷ is) = taken_at p.walk i + taken_in (walk_item p i) is

-- the sections of a file
unfoldable pub sections_at : Item → ℕ
sections_at (free m) = 0
sections_at (section line ms) = 1

unfoldable pub sections_in : List Item → ℕ
sections_in [] = 0
sections_in (i ∷ is) = sections_at i + sections_in is

-- ---- the load

-- a load's refusal, with the column of a line's fault, its rounds, and the state afterwards
pub record Loaded : Type 0 where
  pub refusal : Refusal
  pub column : ℕ
  pub rounds : ℕ
  pub state : State

abbrev pub loaded : Refusal → ℕ → ℕ → State → Loaded
loaded r c n s = record { refusal = r; column = c; rounds = n; state = s }

-- "LOAD refused by 6 to 14 sets the broken mark."; the state is otherwise as it was; the walk names no column
unfoldable pub walked : State → Progress → Loaded
walked s p =
    cond
    (accepted p.walk)
    (loaded (refusal DONE 0) 0 p.rounds p.walk.state)
    (loaded p.walk.refusal 0 0 (marked broken s))

module _ (alphabet : Alphabet) where
  -- "These set the broken mark as 6 did", and "each also tells the column"
  unfoldable pub load_read_over : State → List ℕ → Reading → Loaded
  load_read_over s file (Err at) = loaded (refusal at.number at.line) at.column 0 (marked broken s)
  load_read_over s file Complete = walked s (walk_from s (items_over alphabet file))

  -- "then the whole file is read [..] Then the walk"
  unfoldable pub load_file_over : State → List ℕ → Loaded
  load_file_over s file = load_read_over s file (reading_over alphabet file)

-- by the rules' own alphabet
abbrev pub load_read : State → List ℕ → Reading → Loaded
load_read = load_read_over is_name_character

abbrev pub load_file : State → List ℕ → Loaded
load_file = load_file_over is_name_character
