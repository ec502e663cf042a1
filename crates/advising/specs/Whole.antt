-- What is asked of a file's whole lines.
use Rattle.std.specs.Prelude.{ℕ, ◌+◌, ◌<◌, ◌≤◌, List, ◌≡◌, ◌≢◌, length, slice_index, take}
use Rattle.rules.specs.Text.{LF, lines_of}
use Rattle.rules.specs.Reading.{unread, if_complete, read_lines, Reading, Complete}
use Rattle.rules.specs.Feed.{whole_lines, fault_so_far}

-- the whole lines of the first n bytes are the first r
pub record LinesEnd (file : List ℕ) (n r : ℕ) : Type 0 where
  pub most : r ≤ n
  pub whole : take r file ≡ whole_lines (take n file)

-- no LF stands at k or behind it
abbrev pub NoneFrom : ℕ → List ℕ → Type 0
NoneFrom k bytes = (j : ℕ) → k ≤ j → j < length bytes → slice_index bytes j ≢ LF

-- the last LF stands at i
abbrev pub IsLast : List ℕ → ℕ → Type 0
IsLast bytes i = (i < length bytes) × (slice_index bytes i ≡ LF) × NoneFrom (i + 1) bytes

-- the first fault of these lines, where the whole lines of the old bytes have none
unfoldable pub early_fault : List ℕ → List ℕ → Reading
early_fault old lines = if_complete (fault_so_far old) (read_lines unread (lines_of lines)).fault Complete
