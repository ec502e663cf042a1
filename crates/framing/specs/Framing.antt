-- What is promised of a header or a title that is read in one pass.
use Rattle.std.specs.Prelude.{ℕ, ◌+◌, ◌≤◌, ◌<◌, Bool, cond, List, [], ◌∷◌, ◌≡◌, length, drop}
use Rattle.rules.specs.Text.{lines_of}
use Rattle.rules.specs.Line.{number, value, read_field, line_answer}
use Rattle.rules.specs.declared.line.Expected.{Expected}
use Rattle.rules.specs.declared.line.Expected.TheVariants.{OpeningTitle, ClosingTitle}
use Rattle.rules.specs.declared.line.Header.{Header}
use Rattle.rules.specs.declared.line.LineAnswer.{LineAnswer}
use Rattle.rules.specs.declared.line.LineAnswer.TheVariants.{Head}
use Rattle.text.specs.Scan.{part}
use Rattle.text.specs.FieldBounds.{is_space}
use Rattle.runs.specs.Runs.{Stands, Stretch, Gap, Spelled, LineEnded}
use Rattle.framing.specs.declared.Frame.{Frame}

-- ---- fields

-- the bytes from i to r are that text
pub record TextEnds (file : List ℕ) (i : ℕ) (text : List ℕ) (r : ℕ) : Type 0 where
  pub from : r ≡ i + length text
  pub to : r ≤ length file
  pub is : part i r file ≡ text

-- a number with the value v stands at i, and spaces behind it up to r
pub record CountStands (file : List ℕ) (i r v : ℕ) : Type 0 where
  pub end : ℕ
  pub text : List ℕ
  pub spelled : Spelled file i end (text ∷ [])
  pub is : read_field number text ≡ value v
  pub gap : Gap file end r

-- ---- lines

-- a code of that digit is the first field of the line at `at`, and the next one starts at i
pub record Begun (file : List ℕ) (at i digit : ℕ) : Type 0 where
  pub start : ℕ
  pub front : Stretch is_space file at start
  pub code : Stands file start digit
  pub gap : Gap file (start + 1) i

-- that marker stands at i, and behind it the line from `at` on ends; that header is told
pub record HeaderEnded (file : List ℕ) (at i : ℕ) (marker : List ℕ) (header : Header) (r : Frame) : Type 0 where
  pub end : ℕ
  pub stands : TextEnds file i marker end
  pub line : LineEnded file at end r.next
  pub tells : r.answer ≡ Head header

-- which of a module's two titles is expected
abbrev pub title_by : Bool → Expected
title_by opens = cond opens OpeningTitle ClosingTitle

-- the line at `at` says this, and the next one starts at next
pub record LineSaid (e : Expected) (at : ℕ) (file : List ℕ) (answer : LineAnswer) (next : ℕ) : Type 0 where
  pub line : List ℕ
  pub lines : lines_of (drop at file) ≡ line ∷ lines_of (drop next file)
  pub says : answer ≡ line_answer e line
  pub moves : at < next
  pub ends : next ≤ length file
