-- How the functions that write the image say what they wrote.
use Rattle.std.specs.Prelude.{◌≡◌, ℕ, ◌+◌, List, ◌∷◌, ◌++◌, length, take, drop, slice_index_or}
use Rattle.rules.specs.Image.{two, record_of, records_from}
use Rattle.rules.specs.State.{State, unplaced}
use Rattle.image.specs.declared.Output.{Output as Cursor}

-- the output with these bytes at a position, all else as it was
unfoldable pub overlay : ℕ → List ℕ → List ℕ → List ℕ
overlay at bytes out = take at out ++ (bytes ++ drop (at + length bytes) out)

-- the end record of a state with this HIGH and this many undefined symbols
abbrev pub end_bytes : ℕ → ℕ → List ℕ
end_bytes high undefined = 0x45 ∷ two high ++ two undefined

-- the record of the word at an address, nothing where none is placed
abbrev pub record_at : State → ℕ → List ℕ
record_at s a = record_of s.symbols a (slice_index_or s.words a unplaced)

-- the records of all placed words
abbrev pub words_of : State → List ℕ
words_of s = records_from s.symbols 0 s.words

-- bytes were written at a position, and r is the position behind them
pub record Written (at : ℕ) (bytes before after : List ℕ) (r : ℕ) : Type 0 where
  pub out : after ≡ overlay at bytes before
  pub behind : r ≡ at + length bytes

-- a piece was put behind what was written, and the rest is as it was
pub record Puts (piece : List ℕ) (before after : Cursor) : Type 0 where
  pub same_output : after.bytes.ghost_name ≡ before.bytes.ghost_name
  pub same_length : length after.bytes.now ≡ length before.bytes.now
  pub behind : after.at ≡ before.at + length piece
  pub front : take after.at after.bytes.now ≡ take before.at before.bytes.now ++ piece
  pub rest : drop after.at after.bytes.now ≡ drop after.at before.bytes.now
