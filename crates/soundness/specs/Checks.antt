-- Soundness as tests on cells, one for each function of src/.
use Rattle.std.specs.Prelude.{ℕ, ◌+◌, ◌%◌, Bool, true, cond, not, ◌&&◌, ◌||◌, List, ◌≡◌, length, get_or, eqb, leb}
use Rattle.rules.specs.Text.{all, between, is_name_character, is_packed}
use Rattle.rules.specs.Calls.{LentOf, wrong_length, damaged, holding}
use Rattle.state.specs.Layout.{names_at, values_at, texts_at, tags_at, range, decode, lent}
use Rattle.state.specs.Good.{Good}

-- the rest of a packed name, whose next byte is b: nothing, or it goes on with a character of names
abbrev pub goes_on : ℕ → ℕ → Bool
goes_on rest b = eqb rest 0 || is_name_character b

-- count and next address within their limits, a mark, a spare cell of 0
unfoldable pub header_sound : List ℕ → Bool
header_sound cells =
    leb (get_or cells 0 0) 256
    && (leb (get_or cells 1 0) 4096 && (leb (get_or cells 2 0) 2 && eqb (get_or cells 3 0) 0))

-- the cells from a on that lie below b are 0
abbrev pub zero_at : List ℕ → ℕ → Bool
zero_at cells k = eqb (get_or cells k 0) 0

unfoldable pub zero_between : List ℕ → ℕ → ℕ → Bool
zero_between cells a b = all (zero_at cells) (range a b)

-- undefined, or a value of sixteen bits
unfoldable pub value_sound : ℕ → Bool
value_sound v = eqb v 0 || between 65536 131071 v

-- n symbols, each with a legal name and a value
abbrev pub symbol_sound_at : List ℕ → ℕ → Bool
symbol_sound_at cells i = is_packed (get_or cells (names_at + i) 0) && value_sound (get_or cells (values_at + i) 0)

unfoldable pub symbols_sound : List ℕ → ℕ → Bool
symbols_sound cells n = all (symbol_sound_at cells) (range 0 n)

-- no name from position i on, below n, is x
abbrev pub unlike_at : List ℕ → ℕ → ℕ → Bool
unlike_at cells x j = not (eqb (get_or cells (names_at + j) 0) x)

unfoldable pub unlike : List ℕ → ℕ → ℕ → ℕ → Bool
unlike cells x i n = all (unlike_at cells x) (range i n)

-- no name is that of a later symbol
abbrev pub differs_at : List ℕ → ℕ → ℕ → Bool
differs_at cells n i = unlike cells (get_or cells (names_at + i) 0) (i + 1) n

unfoldable pub names_differ : List ℕ → ℕ → Bool
names_differ cells n = all (differs_at cells n) (range 0 n)

-- has the filter met the remainder of x; of symbol j's name
abbrev pub is_met : List ℕ → ℕ → Bool
is_met met x = not (eqb (get_or met (x % 3989) 0) 0)

abbrev pub met_at : List ℕ → List ℕ → ℕ → Bool
met_at cells met j = is_met met (get_or cells (names_at + j) 0)

-- a filter that has met the names from position i on, below n
pub record HasMet (cells : List ℕ) (n i : ℕ) (met : List ℕ) : Type 0 where
  pub size : length met ≡ 4096
  pub each : all (met_at cells met) (range i n) ≡ true

-- how the test of symbol i leaves the filter
pub record Alone (cells : List ℕ) (n i : ℕ) (r : Bool) (met : List ℕ) : Type 0 where
  pub is : r ≡ differs_at cells n i
  pub has : HasMet cells n i met

-- an unplaced word is 0, and a reference names one of n symbols
unfoldable pub word_sound : ℕ → ℕ → ℕ → Bool
word_sound n text tag = cond (eqb tag 0) (eqb text 0) (leb tag (n + 1))

abbrev pub word_sound_at : List ℕ → ℕ → ℕ → Bool
word_sound_at cells n a = word_sound n (get_or cells (texts_at + a) 0) (get_or cells (tags_at + a) 0)

unfoldable pub words_sound : List ℕ → ℕ → Bool
words_sound cells n = all (word_sound_at cells n) (range 0 4096)

-- the answer that refuses what is lent, 0 where it is sound
unfoldable pub refused_by : {A : Type 0} → LentOf A → ℕ
refused_by wrong_length = 1
refused_by damaged = 2
refused_by (holding s) = 0

-- how `check` says it: besides, what a call may use of memory that holds a state
pub record Refusal (cells : List ℕ) (r : ℕ) : Type 0 where
  pub is : r ≡ refused_by (lent cells)
  pub holds : r ≡ 0 → lent cells ≡ holding (decode cells)
  pub good : r ≡ 0 → Good cells
