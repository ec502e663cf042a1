-- The index of a section's entries by name: its cells, how a search goes, what makes it an index, and how its functions say what they did.
use Rattle.std.specs.Prelude.{ℕ, zero, suc, ◌+◌, ◌-◌, ◌*◌, ◌/◌, ◌%◌, ◌<◌, ◌≤◌, Bool, true, false, cond, not, ◌||◌, List, ◌≢◌, ◌≡◌, length, get_or, set, eqb, Option, None, Some}
use Rattle.rules.specs.Text.{any}
use Rattle.rules.specs.Placing.{twice}
use Rattle.rules.specs.Load.{entry_names, section_names}
use Rattle.tables.specs.Tables.{head_in, body_in, module_in, modules_in}
use Rattle.tables.specs.Heads.{is_entry}

-- ---- the cells

-- its length
abbrev pub size : ℕ
size = 67584

-- how many entries it has
abbrev pub count_of : List ℕ → ℕ
count_of index = get_or index 0 0

-- Entry j, from 0, has four cells from 2048 + 4 * j on: its part, its two links, its module.

-- the name of an entry, which stands in its part
abbrev pub name_at : List ℕ → List ℕ → ℕ → ℕ
name_at parts index j = body_in parts (get_or index (2048 + 4 * j) 0)

-- the module of an entry
abbrev pub owner_at : List ℕ → ℕ → ℕ
owner_at index j = get_or index (2048 + 4 * j + 3) 0

-- a cell that may lead to an entry: a slot, or a link of an entry that is there
pub record Link (index : List ℕ) (c : ℕ) : Type 0 where
  pub low : 0 < c
  pub most : c < 2048 + 4 * count_of index
  pub side : 2048 ≤ c → (0 < c % 4) × (c % 4 < 3)

-- ---- the search for a name

-- the slot of a name
abbrev pub slot_of : ℕ → ℕ
slot_of name = name % 2039

-- what is left of the quotient after d turns, which have taken a bit each
unfoldable pub bits_at : ℕ → ℕ → ℕ
bits_at name zero = name / 2039
bits_at name (suc d) = bits_at name d / 2

-- the link of entry k, from 1, by the next bit
abbrev pub link_of : ℕ → ℕ → ℕ
link_of k bits = 2044 + 4 * k + 1 + bits % 2

-- the cell that the search has come to after d turns
unfoldable pub cell_at : List ℕ → ℕ → ℕ → ℕ
cell_at index name zero = 1 + slot_of name
cell_at index name (suc d) = link_of (get_or index (cell_at index name d) 0) (bits_at name d)

-- it has met an entry in each of the turns before
pub record Passed (index : List ℕ) (name d : ℕ) : Type 0 where
  pub met : (e : ℕ) → e < d → get_or index (cell_at index name e) 0 ≢ 0

-- it comes to entry k, from 1
pub record Reached (index : List ℕ) (name k : ℕ) : Type 0 where
  pub depth : ℕ
  pub passed : Passed index name depth
  pub leads : get_or index (cell_at index name depth) 0 ≡ k

-- ---- what makes it an index

-- the index of some entries, which are parts
pub record Indexed (parts index : List ℕ) : Type 0 where
  pub long : length index ≡ size
  pub few : count_of index ≤ 16384
  pub owners : (j : ℕ) → j < count_of index → owner_at index j < 256
  -- a link leads to an entry that is there, behind the link; one link alone leads to it
  pub leads : (c : ℕ) → Link index c → get_or index c 0 ≤ count_of index
  pub later : (c : ℕ) → Link index c → get_or index c 0 ≢ 0 → c < 2044 + 4 * get_or index c 0
  pub only : (a b : ℕ) → Link index a → Link index b → get_or index a 0 ≡ get_or index b 0 → get_or index a 0 ≢ 0 → a ≡ b
  -- no two entries have one name, and the search for a name comes to its entry
  pub once : (i j : ℕ) → i < count_of index → j < count_of index → name_at parts index i ≡ name_at parts index j → i ≡ j
  pub reached : (j : ℕ) → j < count_of index → Reached index (name_at parts index j) (suc j)

-- the last number below j that passes a test, from 1; 0 where there is none
unfoldable pub last_where : (ℕ → Bool) → ℕ → ℕ
last_where p zero = 0
last_where p (suc j) = cond (p j) (suc j) (last_where p j)

-- the entry of a name, from 1; 0 where there is none
abbrev pub named : List ℕ → List ℕ → ℕ → ℕ
named parts index y = last_where (λ k. eqb (name_at parts index k) y) (count_of index)

-- the same number of an entry that is told, from 0, or of none
abbrev pub entry_told : Option ℕ → ℕ
entry_told None = 0
entry_told (Some j) = j + 1

-- is there an entry of this name?
abbrev pub holds : List ℕ → List ℕ → ℕ → Bool
holds parts index y = not (eqb (named parts index y) 0)

-- a number is the entry of a name
pub record Found (parts index : List ℕ) (y r : ℕ) : Type 0 where
  pub is : r ≡ named parts index y
  pub most : r ≤ count_of index

-- the cell where the search ends, having met entries of other names: it leads to the entry of the name, or to none
pub record Sought (parts index : List ℕ) (y at : ℕ) : Type 0 where
  pub depth : ℕ
  pub passed : Passed index y depth
  pub others : (e : ℕ) → e < depth → name_at parts index (get_or index (cell_at index y e) 0 - 1) ≢ y
  pub cell : at ≡ cell_at index y depth
  pub link : Link index at
  pub found : Found parts index y (get_or index at 0)

-- ---- one entry more

-- the cells of an entry are filled in, and the cell at leads to it
unfoldable pub entered : ℕ → ℕ → ℕ → List ℕ → List ℕ
entered at part owner index = fill (count_of index) (2048 + 4 * count_of index)
  where
    fill : ℕ → ℕ → List ℕ
    fill n entry =
        set (set (set (set (set (set index at (n + 1)) entry part) (entry + 1) 0) (entry + 2) 0) (entry + 3) owner) 0 (n + 1)

-- the entry of a part has been added behind the others
pub record Added (parts : List ℕ) (part owner : ℕ) (before after : List ℕ) : Type 0 where
  pub indexed : Indexed parts after
  pub count : count_of after ≡ count_of before + 1
  pub names : (j : ℕ) → j < count_of before → name_at parts after j ≡ name_at parts before j
  pub owners : (j : ℕ) → j < count_of before → owner_at after j ≡ owner_at before j
  pub name : name_at parts after (count_of before) ≡ body_in parts part
  pub owned : owner_at after (count_of before) ≡ owner

-- a part, if it is an entry: r says that its name was there
pub record PartAdded (parts : List ℕ) (part owner : ℕ) (before : List ℕ) (r : Bool) (after : List ℕ) : Type 0 where
  pub long : length after ≡ size
  pub other : is_entry (head_in parts part) ≡ false → (r ≡ false) × (after ≡ before)
  pub again : is_entry (head_in parts part) ≡ true → r ≡ true → holds parts before (body_in parts part) ≡ true
  pub new : is_entry (head_in parts part) ≡ true → r ≡ false →
      (holds parts before (body_in parts part) ≡ false) × Added parts part owner before after

-- ---- the modules of a section

-- the names of the modules from the m-th to the one before the n-th
abbrev pub names_from : List ℕ → List ℕ → ℕ → ℕ → ℕ → List ℕ
names_from parts rows first n m = section_names (modules_in parts rows (first + m) (n - m))

-- the entry of a name is the module's
pub record Owner (parts index : List ℕ) (y i : ℕ) : Type 0 where
  pub there : named parts index y ≢ 0
  pub is : owner_at index (named parts index y - 1) ≡ i

-- every name of the first m modules leads to its module
pub record Owns (parts rows : List ℕ) (first m : ℕ) (index : List ℕ) : Type 0 where
  pub indexed : Indexed parts index
  pub owned : (i : ℕ) → i < m → (y : ℕ) → any (eqb y) (entry_names (module_in parts rows (first + i))) ≡ true → Owner parts index y i

-- what the test of all n modules comes to, once no name of the first m is there twice: rest are the names behind
abbrev pub clash : List ℕ → List ℕ → List ℕ → Bool
clash parts index rest = twice rest || any (holds parts index) rest

-- the first m modules have been added
pub record Filled (parts rows : List ℕ) (first n m : ℕ) (index : List ℕ) : Type 0 where
  pub owns : Owns parts rows first m index
  pub room : count_of index ≤ 64 * m
  pub comes : clash parts index (names_from parts rows first n m) ≡ twice (names_from parts rows first n 0)

-- the m-th module has been added, or it has a name that was there, and r says so
pub record ModuleAdded (parts rows : List ℕ) (first n m : ℕ) (r : Bool) (after : List ℕ) : Type 0 where
  pub long : length after ≡ size
  pub again : r ≡ true → twice (names_from parts rows first n 0) ≡ true
  pub new : r ≡ false → Filled parts rows first n (m + 1) after

-- the first k cells are 0
pub record Cleared (k : ℕ) (index : List ℕ) : Type 0 where
  pub long : length index ≡ size
  pub zeros : (i : ℕ) → i < k → get_or index i 0 ≡ 0

-- a whole section: is a name entered twice? If not, every name leads to its module
pub record Tested (parts rows : List ℕ) (first n : ℕ) (r : Bool) (index : List ℕ) : Type 0 where
  pub long : length index ≡ size
  pub is : r ≡ twice (section_names (modules_in parts rows first n))
  pub owns : r ≡ false → Owns parts rows first n index
