-- What the functions on state memory ask of it and keep, and how they say what they did.
use Rattle.std.specs.Prelude.{ℕ, ◌≤◌, Bool, true, ◌&&◌, ◌||◌, List, ◌≡◌, length, get_or, eqb, leb}
use Rattle.rules.specs.Text.{all}
use Rattle.rules.specs.State.{Symbol, Word, State, state, different_names, sound_word}
use Rattle.state.specs.Layout.{size, encode, decode}

-- a value has sixteen bits, and is 0 where the symbol is undefined
unfoldable pub sound_value : Symbol → Bool
sound_value s = leb s.value 65535 && (s.defined || eqb s.value 0)

-- a sound state, but for the legality of its names, which no function below asks for
pub record Tidy (s : State) : Type 0 where
  pub few : length s.symbols ≤ 256
  pub values : all sound_value s.symbols ≡ true
  pub different : different_names s.symbols ≡ true
  pub full : length s.words ≡ 4096
  pub words : all (sound_word (length s.symbols)) s.words ≡ true
  pub low : s.next ≤ 4096

-- cells that are the encoding of what they decode to, which is tidy; the sizes once more, as facts on cells
pub record Good (cells : List ℕ) : Type 0 where
  pub long : length cells ≡ size
  pub few : get_or cells 0 0 ≤ 256
  pub low : get_or cells 1 0 ≤ 4096
  pub encoded : cells ≡ encode (decode cells)
  pub tidy : Tidy (decode cells)

-- good cells that hold the state s
pub record Holds (cells : List ℕ) (s : State) : Type 0 where
  pub good : Good cells
  pub is : decode cells ≡ s

abbrev pub with_next : ℕ → State → State
with_next n s = state s.symbols s.words n s.mark

abbrev pub with_words : List Word → State → State
with_words ws s = state s.symbols ws s.next s.mark
