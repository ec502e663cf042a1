-- Document 01, "What the calls return": the state of a link, and when it is sound.
use Rattle.std.specs.Prelude.{ℕ, ◌+◌, ◌^◌, Bool, true, false, cond, not, ◌&&◌, ◌||◌, List, [], ◌∷◌, length, replicate, eqb, leb, ltb}
use Rattle.rules.specs.Limits.{program_words, most_symbols, largest_number, no_address}
use Rattle.rules.specs.Text.{all, any, Alphabet, is_name_character, is_packed_over}

-- a symbol of the table: its packed name, its value, and whether it has an entry
pub record Symbol : Type 0 where
  pub name : ℕ
  pub value : ℕ
  pub defined : Bool

abbrev pub symbol : ℕ → ℕ → Bool → Symbol
symbol n v d = record { name = n; value = v; defined = d }

-- a program word: not placed, or placed with its text and perhaps a reference to a symbol by its position in the table
pub data Word : Type 0 where
  unplaced : Word
  plain : ℕ → Word
  refers : ℕ → ℕ → Word

-- "broken" after a load refused for its file, "frozen" after an END, never both
pub data Mark : Type 0 where
  unmarked broken frozen : Mark

pub record State : Type 0 where
  pub symbols : List Symbol
  pub words : List Word
  pub next : ℕ
  pub mark : Mark

abbrev pub state : List Symbol → List Word → ℕ → Mark → State
state t ws n k = record { symbols = t; words = ws; next = n; mark = k }

-- "Program addresses 0 to 4,095."
unfoldable pub no_words : List Word
no_words = replicate program_words unplaced

-- "the fresh state: no symbols, no words, next address 0, no marks"
unfoldable pub fresh : State
fresh = state [] no_words 0 unmarked

abbrev pub marked : Mark → State → State
marked k s = state s.symbols s.words s.next k

-- ---- the table of symbols

abbrev pub name_is : ℕ → Symbol → Bool
name_is x s = eqb s.name x

unfoldable pub is_symbol : ℕ → List Symbol → Bool
is_symbol x t = any (name_is x) t

-- "a symbol of the table that isn't undefined is defined"
unfoldable pub is_defined : ℕ → List Symbol → Bool
is_defined x t = any (λ s. name_is x s && s.defined) t

unfoldable pub is_undefined : ℕ → List Symbol → Bool
is_undefined x t = any (λ s. name_is x s && not s.defined) t

-- a symbol's position in the table, its length where there is none
unfoldable pub position_of : ℕ → List Symbol → ℕ
position_of x [] = 0
position_of x (s ∷ t) = cond (name_is x s) 0 (position_of x t + 1)

unfoldable pub undefined_only : List Symbol → List Symbol
undefined_only [] = []
undefined_only (s ∷ t) = cond s.defined (undefined_only t) (s ∷ undefined_only t)

-- ---- words

abbrev pub is_placed : Word → Bool
is_placed unplaced = false
is_placed (plain x) = true
is_placed (refers x i) = true

unfoldable pub placed_words : List Word → ℕ
placed_words [] = 0
placed_words (w ∷ ws) = cond (is_placed w) 1 0 + placed_words ws

-- does the word refer to symbol i
abbrev pub refers_to : ℕ → Word → Bool
refers_to i unplaced = false
refers_to i (plain x) = false
refers_to i (refers x j) = eqb i j

-- the highest address whose word passes a test, in words from address a on, after the highest so far
unfoldable pub highest_from : (Word → Bool) → ℕ → ℕ → List Word → ℕ
highest_from p a so_far [] = so_far
highest_from p a so_far (w ∷ ws) = highest_from p (a + 1) (cond (p w) a so_far) ws

-- and in all words, "65,535 if none"
unfoldable pub highest_where : (Word → Bool) → List Word → ℕ
highest_where p ws = highest_from p 0 no_address ws

-- "the highest address that refers to it"
abbrev pub highest : ℕ → List Word → ℕ
highest i ws = highest_where (refers_to i) ws

-- document 02, 1/14: HIGH is "the highest address that holds a placed word", "and 65,535 when no word is placed"
abbrev pub high : List Word → ℕ
high ws = highest_where is_placed ws

-- ---- soundness

-- "names are [..] different"
unfoldable pub different_names : List Symbol → Bool
different_names [] = true
different_names (s ∷ t) = not (is_symbol s.name t) && different_names t

-- "each reference stands at a placed word and names a symbol of the table, unplaced words are zero"; a text has four quarters
unfoldable pub sound_word : ℕ → Word → Bool
sound_word n unplaced = true
sound_word n (plain x) = ltb x (2 ^ 64)
sound_word n (refers x i) = ltb x (2 ^ 64) && ltb i n

module _ (alphabet : Alphabet) where
  -- "names are legal", "undefined values are 0"; a value is a number of sixteen bits
  unfoldable pub sound_symbol_over : Symbol → Bool
  sound_symbol_over s = is_packed_over alphabet s.name && (leb s.value largest_number && (s.defined || eqb s.value 0))

  -- "counts and the next address are in their limits"; "it isn't both broken and frozen" by the type Mark
  unfoldable pub sound_over : State → Bool
  sound_over s =
      leb (length s.symbols) most_symbols
      && (all sound_symbol_over s.symbols
      && (different_names s.symbols
      && (eqb (length s.words) program_words && (all (sound_word (length s.symbols)) s.words && leb s.next program_words))))

-- by the rules' own alphabet
abbrev pub sound_symbol : Symbol → Bool
sound_symbol = sound_symbol_over is_name_character

abbrev pub sound : State → Bool
sound = sound_over is_name_character
