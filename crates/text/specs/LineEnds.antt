-- Where the line that starts at a position of the file stops, and where the next one starts.
use Rattle.std.specs.Prelude.{ℕ, ◌+◌, ◌-◌, ◌≤◌, ◌<◌, min, Bool, cond, ◌&&◌, List, ◌∷◌, ◌≡◌, length, drop, get_or, eqb, ltb}
use Rattle.std.specs.Borrow.{Bor}
use Rattle.rules.specs.Limits.{longest_line}
use Rattle.rules.specs.Text.{LF, CR, between, lines_of, legal_front}
use Rattle.text.specs.Scan.{part, past, is_not}
use Rattle.text.specs.FieldBounds.{onward}
use Rattle.text.specs.declared.lines.LineSpan.{LineSpan}

-- where the next line starts: behind the first LF, or at the file's end
unfoldable pub line_next : ℕ → List ℕ → ℕ
line_next at file = min (past (is_not LF) at (length file) file + 1) (length file)

-- where the line from `at` stops, whose LF, or else the file's end, is at lf: one CR just before an LF is dropped
abbrev pub line_stop : ℕ → ℕ → List ℕ → ℕ
line_stop at lf file = cond (ltb at lf && (ltb lf (length file) && eqb (get_or file (lf - 1) 0) CR)) (lf - 1) lf

-- the line that starts at `at` is the first of those that are left, and the others start at next; `front` of its bytes are
-- legal before one is not, or 80
pub record NextLine (at : ℕ) (file : List ℕ) (r : LineSpan) : Type 0 where
  pub lines : lines_of (drop at file) ≡ part at r.stop file ∷ lines_of (drop r.next file)
  pub follows : r.next ≡ line_next at file
  pub starts : at ≤ r.stop
  pub stops : r.stop ≤ r.next
  pub moves : at < r.next
  pub ends : r.next ≤ length file
  pub fronts : r.front ≡ legal_front longest_line (part at r.stop file)

abbrev pub is_legal : ℕ → Bool
is_legal b = between 32 126 b

-- the first position from i on whose byte is illegal, or e
unfoldable pub legal_end : ℕ → ℕ → List ℕ → ℕ
legal_end i e file = past is_legal i e file

-- the legal bytes at the front of the line from `at` to stop, at most 80, where the next illegal byte is at `illegal`
abbrev pub front_of : ℕ → ℕ → ℕ → ℕ
front_of at illegal stop = min longest_line (min illegal stop - at)

-- r is the line from `at` to stop: it has those bytes of the file, at that position
pub record LinePart (at stop : ℕ) (file r : Bor (List ℕ)) : Type 0 where
  pub bytes : r.now ≡ part at stop file.now
  pub position : r.ref_ptr ≡ onward at file.ref_ptr
