-- Records in a row, each of which is what the open block expects.
use Rattle.std.specs.Prelude.{ℕ, ◌+◌, ◌≤◌, ◌<◌, Bool, true, List, [], ◌∷◌, ◌++◌, map, ◌≡◌, length, get_or, drop}
use Rattle.std.proofs.Math.Option.{Option, none, some}
use Rattle.rules.specs.Limits.{longest_line}
use Rattle.rules.specs.Text.{all, is_legal, Field, fields_from, is_number, lines_of}
use Rattle.rules.specs.Line.{line_answer}
use Rattle.rules.specs.declared.line.Expected.{Expected}
use Rattle.rules.specs.declared.line.Expected.TheVariants.{CodeRecord, EntryRecord, ExternalRecord, DataRecord}
use Rattle.rules.specs.declared.line.LineAnswer.{LineAnswer}
use Rattle.rules.specs.declared.line.LineAnswer.TheVariants.{Bad, Blank, Head, Opening, Closing, Code, Entered, Mentioned, Ignored, Parameter, Sub}
use Rattle.rules.proofs.TestLaws.{Every}
use Rattle.text.specs.FieldBounds.{is_space}
use Rattle.text.specs.Scan.{part}
use Rattle.runs.specs.declared.Run.{Run}

-- ---- fields

-- that byte stands at i
pub record Stands (file : List ℕ) (i byte : ℕ) : Type 0 where
  pub inside : i < length file
  pub is : get_or file i 0 ≡ byte

-- all bytes from i to r are of that sort
pub record Stretch (sort : ℕ → Bool) (file : List ℕ) (i r : ℕ) : Type 0 where
  pub from : i ≤ r
  pub to : r ≤ length file
  pub are : all sort (part i r file) ≡ true

-- spaces from i to r, one at least
pub record Gap (file : List ℕ) (i r : ℕ) : Type 0 where
  pub some : i < r
  pub spaces : Stretch is_space file i r

-- the bytes from i to r, one at least, pass that test
pub record IsField (test : List ℕ → Bool) (file : List ℕ) (i r : ℕ) : Type 0 where
  pub some : i < r
  pub to : r ≤ length file
  pub is : test (part i r file) ≡ true

-- the texts of the fields of a text whose first byte stands at column c
unfoldable pub texts_from : ℕ → List ℕ → List (List ℕ)
texts_from c line = map (λ (f : Field). f.text) (fields_from c line)

-- the bytes from `at` to i are fields with these texts, and are legal
pub record Spelled (file : List ℕ) (at i : ℕ) (texts : List (List ℕ)) : Type 0 where
  pub from : at ≤ i
  pub to : i ≤ length file
  pub fields : (c : ℕ) → texts_from c (part at i file) ≡ texts
  pub legal : all is_legal (part at i file) ≡ true

-- whatever fields stand in front of i, fields with these texts follow them up to r
pub record Follow (file : List ℕ) (i r : ℕ) (texts : List (List ℕ)) : Type 0 where
  pub from : i ≤ r
  pub to : r ≤ length file
  pub adds : (at : ℕ) (front : List (List ℕ)) → Spelled file at i front → Spelled file at r (front ++ texts)

-- a field of one byte follows, which is none below low and none above high
pub record ByteFollows (file : List ℕ) (i r low high : ℕ) : Type 0 where
  pub byte : ℕ
  pub least : low ≤ byte
  pub most : byte ≤ high
  pub follow : Follow file i r ((byte ∷ []) ∷ [])

-- a number follows
pub record NumberFollows (file : List ℕ) (i r : ℕ) : Type 0 where
  pub text : List ℕ
  pub follow : Follow file i r (text ∷ [])
  pub is : is_number text ≡ true

-- so many numbers follow
pub record Numbers (file : List ℕ) (i r count : ℕ) : Type 0 where
  pub texts : List (List ℕ)
  pub follow : Follow file i r texts
  pub size : length texts ≡ count
  pub are : Every (λ t. is_number t ≡ true) texts

-- ---- the line's end

-- what stands at `stop` ends a line that is not too long, and the next one starts at r
pub record LineStops (file : List ℕ) (at stop r : ℕ) : Type 0 where
  pub short : length (part at stop file) ≤ longest_line
  pub behind : stop < r
  pub inside : r ≤ length file
  pub lines : lines_of (drop stop file) ≡ [] ∷ lines_of (drop r file)

-- the same behind spaces from `end` on
pub record LineEnded (file : List ℕ) (at end r : ℕ) : Type 0 where
  pub stop : ℕ
  pub gap : Stretch is_space file end stop
  pub stops : LineStops file at stop r

-- ---- the records of a block

-- what was expected where a line says this; of the records that are not read further, those of data blocks
unfoldable pub record_of : LineAnswer → Option Expected
record_of (Bad f) = none
record_of Blank = none
record_of (Head h) = none
record_of (Opening t) = none
record_of (Closing t) = none
record_of (Code w) = some CodeRecord
record_of (Entered e) = some EntryRecord
record_of (Mentioned x) = some ExternalRecord
record_of Ignored = some DataRecord
record_of (Parameter n) = none
record_of Sub = none

abbrev pub IsRecord : Expected → List ℕ → Type 0
IsRecord e l = record_of (line_answer e l) ≡ some e

-- the line at `at` is such a record, and the next one starts at next
pub record LineRead (e : Expected) (at : ℕ) (file : List ℕ) (next : ℕ) : Type 0 where
  pub line : List ℕ
  pub lines : lines_of (drop at file) ≡ line ∷ lines_of (drop next file)
  pub says : IsRecord e line
  pub moves : at < next
  pub ends : next ≤ length file

pub record RecordsRead (e : Expected) (at : ℕ) (file : List ℕ) (most : ℕ) (r : Run) : Type 0 where
  pub records : List (List ℕ)
  pub lines : lines_of (drop at file) ≡ records ++ lines_of (drop r.next file)
  pub count : length records ≡ r.count
  pub say : Every (IsRecord e) records
  pub few : r.count ≤ most
  pub moves : at + r.count ≤ r.next
  pub ends : r.next ≤ length file
