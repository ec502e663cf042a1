-- Small runs that pin the definitions where P1 to P10 do not reach: a row for each sentence, all of them under one claim that antt
-- computes. What stands to the right is worked out from document 01, with plain numbers.
use Prim.Native.Nat.{ℕ, zero, suc, ◌-◌, ◌*◌, ◌^◌}
use Prim.Native.String.{String}
use mathlib.Core.Bool.{Bool, true, false, cond}
use mathlib.Core.List.{List, [], ◌∷◌, ◌++◌, map}
use mathlib.Core.Option.{none, some}
use mathlib.Core.Path.{◌≡◌, refl}
use lib.ListN.{take, drop, replicate}
use Rattle.rules.specs.Text as Text
use Rattle.rules.specs.Answers as Answers
use Rattle.rules.specs.Line as Line
use Rattle.rules.specs.Faults as Faults
use Rattle.rules.specs.Reading as Reading
use Rattle.rules.specs.State as State
use Rattle.rules.specs.Lookup as Lookup
use Rattle.rules.specs.Calls as Calls
use Rattle.rules.specs.History as History
use Rattle.rules.specs.Feed as Feed
use Rattle.rules.specs.Feed.{Feed, shut, fed, sound_feed, whole_lines, fault_so_far, advice, FeedOutcome, feed_outcome, feed_stopped, feed_done, open_feed, feed_answer, piece_stopped, feed_piece, drop_feed, close_outcome, close_stopped, close_feed, can_answer_feed, can_answer_close, joined, advices, silent, count_lf}
use Rattle.rules.specs.declared.answer.FeedAnswer.{FeedAnswer}
use Rattle.rules.specs.History.{Call, loading, forcing, basing, resetting, asking_high, listing, listing_undefined, ending, work_fits, can_answer, called_all}
use Rattle.rules.specs.Image as Image
use Rattle.rules.specs.Image.{image_of}
use Rattle.rules.specs.Placing as Placing
use Rattle.rules.specs.Search as Search
use Rattle.rules.specs.Load as Load
use Rattle.rules.specs.Text.{bytes, lines_of, Alphabet, is_name_character, is_letter_or_digit, is_name_over, pack_name}
use Rattle.rules.specs.Answers.{answer_name}
use Rattle.rules.specs.Line.{line_answer, line_answer_over}
use Rattle.rules.specs.Reading.{free, reading_of, items_of, Reading, Complete, Stopped}
use Rattle.rules.specs.State.{Symbol, symbol, Word, plain, unplaced, refers, Mark, unmarked, broken, frozen, State, state, fresh, position_of, high, highest, sound, sound_over}
use Rattle.rules.specs.Calls.{call_answer, wrong_length, damaged, holding, Left, as_before, now, Outcome, outcome, work_after, load_answer, load_stopped, load, force, force_over, base, reset, memory, symbols, undefined, end}
use Rattle.rules.specs.Lookup.{lookup, answered, read_by, look_up, name_at}
use Rattle.rules.specs.declared.lookup.Lookup.{Lookup}
use Rattle.rules.specs.declared.line.FaultKind.{FaultKind}
use Rattle.rules.specs.declared.line.FaultKind.TheVariants.{IllegalByte, BadMarker, FieldCount, BadNumber, BadName, BadType}
use Rattle.rules.specs.declared.line.Fault.{Fault}
use Rattle.rules.specs.declared.line.Relocation.{Relocation}
use Rattle.rules.specs.declared.line.Relocation.TheVariants.{Plain, External, Unread}
use Rattle.rules.specs.declared.line.Header.TheVariants.{CodeBlock, EndBlock, TitleBlock, EntryBlock, ExternalBlock, LibraryStart, LibraryEnd, DataBlock, InitBlock, ParameterBlock}
use Rattle.rules.specs.declared.line.Expected.{Expected}
use Rattle.rules.specs.declared.line.Expected.TheVariants.{AnyHeader, OpeningTitle, ClosingTitle, CodeRecord, EntryRecord, ExternalRecord, DataRecord, InitRecord, ParameterRecord, SubRecord}
use Rattle.rules.specs.declared.line.LineAnswer.{LineAnswer}
use Rattle.rules.specs.declared.line.LineAnswer.TheVariants.{Bad, Blank, Head, Opening, Closing, Code, Entered, Mentioned, Ignored, Parameter, Sub}
use Rattle.rules.specs.declared.answer.LoadAnswer.{LoadAnswer}
use Rattle.rules.specs.declared.answer.CallAnswer.{CallAnswer}

-- ---- what the rows are written with

-- what a line says where this is expected
abbrev line : Expected → String → LineAnswer
line w text = line_answer w (bytes text)

-- a text and a byte that cannot be typed
abbrev with_byte : String → ℕ → List ℕ
with_byte text b = bytes text ++ (b ∷ [])

-- a TITLE header of n bytes, spaces behind it
abbrev wide : ℕ → List ℕ
wide n = bytes "3 ***TITLE" ++ replicate (n - 10) 32

-- a text and 80 spaces
abbrev over : Expected → String → LineAnswer
over w text = line_answer w (bytes text ++ replicate 80 32)

abbrev fault : FaultKind → ℕ → LineAnswer
fault k c = Bad (record { kind = k; column = c })

abbrev word : ℕ → Relocation → LineAnswer
word t r = Code (record { text = t; relocation = r })

abbrev name : String → ℕ
name x = pack_name (bytes x)

abbrev entry : String → ℕ → Bool → ℕ → LineAnswer
entry x v r p = Entered (record { name = name x; value = v; relocated = r; parameters = p })

-- what reading a file comes to
abbrev file : String → Reading
file text = reading_of (bytes text)

-- two symbols, of which the second is undefined and is referred to from 0 and 2; the next address is 1, after a step back
abbrev linked : Mark → State
linked k =
    state (symbol (name "A") 5 true ∷ symbol (name "B") 0 false ∷ []) (refers 7 1 ∷ plain 1 ∷ refers 8 1 ∷ unplaced ∷ []) 1 k

-- a module around these lines
abbrev module_of_lem : String → List ℕ
module_of_lem text = bytes "3 ***TITLE\nM\n" ++ bytes text ++ bytes "1 ***END\nM\n"

-- n times a text
pub times : ℕ → List ℕ → List ℕ
times zero text = []
times (suc n) text = text ++ times n text

-- a module with a block of n records, and more behind it
abbrev entering : String → ℕ → String → String → List ℕ
entering header n text more =
    bytes "3 ***TITLE\nM\n" ++ bytes header ++ times n (bytes text) ++ bytes more ++ bytes "1 ***END\nM\n"

-- a table of n symbols; that their names are alike does not matter here
abbrev full : ℕ → State
full n = state (replicate n (symbol (name "A") 0 true)) [] 0 unmarked

-- what LOAD answers to a file, from no symbols and no words with this next address
abbrev loaded : ℕ → List ℕ → LoadAnswer
loaded n text = (load (holding (state [] (replicate 4096 unplaced) n unmarked)) true text).answer

-- of a state: its symbols, its first six words and its next address
pub record Front : Type 0 where
  pub symbols : List Symbol
  pub words : List Word
  pub next : ℕ

abbrev front : List Symbol → List Word → ℕ → Front
front t ws n = record { symbols = t; words = ws; next = n }

abbrev front_of : Left → Front
front_of as_before = front [] [] 0
front_of (now s) = front s.symbols (take 6 s.words) s.next

-- what is left of a file, there
abbrev left : ℕ → List ℕ → Front
left n text = front_of (load (holding (state [] (replicate 4096 unplaced) n unmarked)) true text).left

-- the sections of a file, and the modules that a load from no symbols and no words takes of them
abbrev sections : List ℕ → ℕ
sections text = Load.sections_in (items_of text)

abbrev taken : List ℕ → ℕ
taken text = Load.taken_in (Load.progress (Load.walking (state [] (replicate 4096 unplaced) 0 unmarked)) 0) (items_of text)

-- an external X, a section whose first module enters it, and an empty section
abbrev wanting : List ℕ
wanting =
    module_of_lem "5 1 ***EXT\nX\n"
    ++ bytes "6 ***LSB\n"
    ++ module_of_lem "4 1 ***ENTRY\nX 0 0\n"
    ++ module_of_lem "4 1 ***ENTRY\nZ 0 0\n"
    ++ bytes "7 ***LEB\n6 ***LSB\n7 ***LEB\n"

-- a load's answer that names no column
abbrev answer : ℕ → ℕ → ℕ → LoadAnswer
answer k n r = record { number = k; line = n; column = 0; rounds = r }

-- a state of 4,096 words whose first is this one
abbrev whole : List Symbol → Word → ℕ → State
whole t w n = state t (w ∷ replicate 4095 unplaced) n unmarked

-- the numbers up to 24 that a call can answer
pub passing : (ℕ → Bool) → List ℕ → List ℕ
passing p [] = []
passing p (n ∷ ns) = let rest = passing p ns in cond (p n) (n ∷ rest) rest

abbrev answering : Call → List ℕ
answering c =
    passing (can_answer c)
    (0 ∷ 1 ∷ 2 ∷ 3 ∷ 4 ∷ 5 ∷ 6 ∷ 7 ∷ 8 ∷ 9 ∷ 10 ∷ 11 ∷ 12 ∷ 13 ∷ 14 ∷ 15 ∷ 16 ∷ 17 ∷ 18 ∷ 19 ∷ 20 ∷ 21 ∷ 22 ∷ 23 ∷ 24 ∷ [])

abbrev called : ℕ → Left → Outcome CallAnswer
called k l = outcome (record { number = k; line = 0 }) l

-- "Lines end in LF; one CR just before it is dropped; the last line may lack LF. [..] nothing after a final LF is a line."
abbrev Lines : Type 0
Lines =
    (lines_of (bytes "A" ++ (13 ∷ 10 ∷ [])) ≡ bytes "A" ∷ [])
    × (lines_of (bytes "A" ++ (13 ∷ 13 ∷ 10 ∷ [])) ≡ with_byte "A" 13 ∷ [])
    × (lines_of (with_byte "A" 13 ++ bytes "B\nC" ++ (13 ∷ [])) ≡ (with_byte "A" 13 ++ bytes "B") ∷ with_byte "C" 13 ∷ [])
    × (lines_of (bytes "A\n\nB\n") ≡ bytes "A" ∷ [] ∷ bytes "B" ∷ [])
    × (lines_of [] ≡ [])

-- "line at most 80 bytes without its end"; "Other bytes are 32 to 126."; a line with no field is blank, but still tested
abbrev Bytes : Type 0
Bytes =
    (line_answer AnyHeader (wide 80) ≡ Head TitleBlock)
    × (line_answer AnyHeader (wide 81) ≡ fault IllegalByte 81)
    × (line_answer InitRecord (with_byte "1 2 3 4 " 126) ≡ Ignored)
    × (line_answer InitRecord (with_byte "1 2 3 4 " 127) ≡ fault IllegalByte 9)
    × (line_answer InitRecord (with_byte "1 2 3 4 " 31) ≡ fault IllegalByte 9)
    × (line_answer InitRecord (with_byte "1 2 3 4 " 13) ≡ fault IllegalByte 9)
    × (line AnyHeader "   " ≡ Blank)
    × (line_answer AnyHeader (replicate 81 32) ≡ fault IllegalByte 81)
    × (line_answer AnyHeader (with_byte "  " 127) ≡ fault IllegalByte 3)

-- "A header is a code (a number like any other, so `010` is code 10), its fields and the marker, in that order"
abbrev Headers : Type 0
Headers =
    (line AnyHeader "0 2 3 ***CODE" ≡ Head (CodeBlock 2 3))
    × (line AnyHeader "1 ***END" ≡ Head EndBlock)
    × (line AnyHeader "3 ***TITLE" ≡ Head TitleBlock)
    × (line AnyHeader "4 2 ***ENTRY" ≡ Head (EntryBlock 2))
    × (line AnyHeader "5 2 ***EXT" ≡ Head (ExternalBlock 2))
    × (line AnyHeader "6 ***LSB" ≡ Head LibraryStart)
    × (line AnyHeader "7 ***LEB" ≡ Head LibraryEnd)
    × (line AnyHeader "10 2 A 3 ***DBDB" ≡ Head (DataBlock 2))
    × (line AnyHeader "11 2 ***DBIB" ≡ Head (InitBlock 2))
    × (line AnyHeader "12 2 ***FPB" ≡ Head (ParameterBlock 2))
    × (line AnyHeader "13 2 ***AENTRY" ≡ Head (EntryBlock 2))
    × (line AnyHeader "  010  10  A  3  ***DBDB  " ≡ Head (DataBlock 8))
    × (line AnyHeader "10 2 1A 3 ***DBDB" ≡ fault BadName 6)
    × (line AnyHeader "***TITLE 3" ≡ fault BadMarker 1)
    × (line AnyHeader "4 ***ENTRY 2" ≡ fault BadNumber 3)
    × (line AnyHeader "4 2 ***AENTRY" ≡ fault BadMarker 5)
    × (line AnyHeader "1 ***ENDS" ≡ fault BadMarker 3)
    × (line AnyHeader "1 ***EN" ≡ fault BadMarker 3)
    × (line AnyHeader "1 ***end" ≡ fault BadMarker 3)
    × (line AnyHeader "4 2" ≡ fault FieldCount 4)
    × (line AnyHeader "4 2 ***ENTRY 3" ≡ fault FieldCount 14)
    × (line AnyHeader "2 ***TITLE" ≡ fault BadMarker 1)
    × (line AnyHeader "15 2 ***AENTRY" ≡ fault BadMarker 1)

-- "Data records", by the table of headers
abbrev Records : Type 0
Records =
    (line OpeningTitle "MAIN" ≡ Opening (name "MAIN"))
    × (line ClosingTitle "MAIN" ≡ Closing (name "MAIN"))
    × (line EntryRecord "A 5 0" ≡ entry "A" 5 false 0)
    × (line EntryRecord "A 5 1 2" ≡ entry "A" 5 true 2)
    × (line EntryRecord "A 5 1" ≡ fault FieldCount 6)
    × (line EntryRecord "A 5 0 2" ≡ fault FieldCount 7)
    × (line EntryRecord "A 5 2" ≡ fault BadType 5)
    × (line ExternalRecord "A1B2C3" ≡ Mentioned (name "A1B2C3"))
    × (line ExternalRecord "A1B2C3D" ≡ fault BadName 1)
    × (line ExternalRecord "1A" ≡ fault BadName 1)
    × (line ExternalRecord "a" ≡ fault BadName 1)
    × (line ExternalRecord "A B" ≡ fault FieldCount 3)
    × (line DataRecord "1 2" ≡ Ignored)
    × (line DataRecord "1" ≡ fault FieldCount 2)
    × (line InitRecord "A 9 * # -" ≡ Ignored)
    × (line InitRecord "1 2 3 4" ≡ fault FieldCount 8)
    × (line InitRecord "1 2 3 4 5 6" ≡ fault FieldCount 11)
    × (line ParameterRecord "1 2 0" ≡ Parameter 0)
    × (line ParameterRecord "1 2 7" ≡ Parameter 7)
    × (line ParameterRecord "1 2 10" ≡ fault BadNumber 5)
    × (line SubRecord "1 2" ≡ Sub)
    × (line SubRecord "1 ***END" ≡ fault BadNumber 3)

-- "four numbers, the quarters; or an asterisk field, four quarters, then 0, type and arg"; types by their values
abbrev CodeWords : Type 0
CodeWords =
    (line CodeRecord "1 2 3 4" ≡ word 0x0001_0002_0003_0004 Plain)
    × (line CodeRecord "1 2 3" ≡ fault FieldCount 6)
    × (line CodeRecord "1 2 3 4 5" ≡ fault FieldCount 9)
    × (line CodeRecord "177777 0000010 3 4" ≡ fault BadNumber 8)
    × (line CodeRecord "200000 2 3 4" ≡ fault BadNumber 1)
    × (line CodeRecord "* 1 2 3 4 0 5 1" ≡ word 0x0001_0002_0003_0004 (External 1))
    × (line CodeRecord "* 1 2 3 4 00 000005 1" ≡ word 0x0001_0002_0003_0004 (External 1))
    × (line CodeRecord "*3 1 2 3 4 0 5 1" ≡ fault BadNumber 1)
    × (line CodeRecord "** 1 2 3 4 0 5 1" ≡ fault BadNumber 1)
    × (line CodeRecord "* 1 2 3 4 0 1 1" ≡ word 0x0001_0002_0003_0004 (Unread 1))
    × (line CodeRecord "* 1 2 3 4 0 4 1" ≡ word 0x0001_0002_0003_0004 (Unread 4))
    × (line CodeRecord "* 1 2 3 4 1 5 1" ≡ fault BadType 11)
    × (line CodeRecord "* 1 2 3 4 0 0 1" ≡ fault BadType 13)
    × (line CodeRecord "* 1 2 3 4 0 6 1" ≡ fault BadType 13)
    × (line CodeRecord "* 1 2 3 4 0 5" ≡ fault FieldCount 14)

-- each field of a header and of a record is of its kind, and none too many or too few
abbrev Kinds : Type 0
Kinds =
    (line AnyHeader "0 A 3 ***CODE" ≡ fault BadNumber 3)
    × (line AnyHeader "0 2 A ***CODE" ≡ fault BadNumber 5)
    × (line AnyHeader "5 A ***EXT" ≡ fault BadNumber 3)
    × (line AnyHeader "10 A A 3 ***DBDB" ≡ fault BadNumber 4)
    × (line AnyHeader "10 2 A A ***DBDB" ≡ fault BadNumber 8)
    × (line AnyHeader "11 A ***DBIB" ≡ fault BadNumber 4)
    × (line AnyHeader "12 A ***FPB" ≡ fault BadNumber 4)
    × (line AnyHeader "13 A ***AENTRY" ≡ fault BadNumber 4)
    × (line OpeningTitle "1" ≡ fault BadName 1)
    × (line ClosingTitle "1" ≡ fault BadName 1)
    × (line CodeRecord "A 2 3 4" ≡ fault BadNumber 1)
    × (line CodeRecord "1 A 3 4" ≡ fault BadNumber 3)
    × (line CodeRecord "1 2 A 4" ≡ fault BadNumber 5)
    × (line CodeRecord "1 2 3 A" ≡ fault BadNumber 7)
    × (line CodeRecord "* A 2 3 4 0 5 1" ≡ fault BadNumber 3)
    × (line CodeRecord "* 1 A 3 4 0 5 1" ≡ fault BadNumber 5)
    × (line CodeRecord "* 1 2 A 4 0 5 1" ≡ fault BadNumber 7)
    × (line CodeRecord "* 1 2 3 A 0 5 1" ≡ fault BadNumber 9)
    × (line CodeRecord "* 1 2 3 4 A 5 1" ≡ fault BadNumber 11)
    × (line CodeRecord "* 1 2 3 4 0 A 1" ≡ fault BadNumber 13)
    × (line CodeRecord "* 1 2 3 4 0 5 A" ≡ fault BadNumber 15)
    × (line EntryRecord "1 5 0" ≡ fault BadName 1)
    × (line EntryRecord "A B 0" ≡ fault BadNumber 3)
    × (line EntryRecord "A 5 B" ≡ fault BadNumber 5)
    × (line EntryRecord "1 5 1 2" ≡ fault BadName 1)
    × (line EntryRecord "A B 1 2" ≡ fault BadNumber 3)
    × (line EntryRecord "A 5 1 B" ≡ fault BadNumber 7)
    × (line DataRecord "A 2" ≡ fault BadNumber 1)
    × (line DataRecord "1 A" ≡ fault BadNumber 3)
    × (line ParameterRecord "A 2 7" ≡ fault BadNumber 1)
    × (line ParameterRecord "1 A 7" ≡ fault BadNumber 3)
    × (line ParameterRecord "1 2 A" ≡ fault BadNumber 5)
    × (line SubRecord "A 2" ≡ fault BadNumber 1)
    × (line OpeningTitle "A B" ≡ fault FieldCount 3)
    × (line ClosingTitle "A B" ≡ fault FieldCount 3)
    × (line CodeRecord "* 1 2 3 4 0 5 1 1" ≡ fault FieldCount 17)
    × (line DataRecord "1 2 3" ≡ fault FieldCount 5)
    × (line ParameterRecord "1 2 3 4" ≡ fault FieldCount 7)
    × (line SubRecord "1 2 3" ≡ fault FieldCount 5)
    × (line SubRecord "1" ≡ fault FieldCount 2)

-- the length is tested whatever the line says, and of several faults the leftmost is told
abbrev Leftmost : Type 0
Leftmost =
    (over OpeningTitle "A" ≡ fault IllegalByte 81)
    × (over ClosingTitle "A" ≡ fault IllegalByte 81)
    × (over CodeRecord "1 2 3 4" ≡ fault IllegalByte 81)
    × (over EntryRecord "A 5 0" ≡ fault IllegalByte 81)
    × (over ExternalRecord "A" ≡ fault IllegalByte 81)
    × (over InitRecord "1 2 3 4 5" ≡ fault IllegalByte 81)
    × (over ParameterRecord "1 2 7" ≡ fault IllegalByte 81)
    × (over SubRecord "1 2" ≡ fault IllegalByte 81)
    × (line_answer CodeRecord (with_byte "1 2 3 4" 127) ≡ fault BadNumber 7)
    × (line_answer CodeRecord (with_byte "1 2 3 " 127) ≡ fault IllegalByte 7)
    × (line_answer CodeRecord (with_byte "1 2 A " 127) ≡ fault BadNumber 5)
    × (line_answer CodeRecord (with_byte "1 " 127 ++ bytes " A 4") ≡ fault IllegalByte 3)

-- a fault of a line, and the faults of a line
abbrev at : FaultKind → ℕ → Fault
at k c = record { kind = k; column = c }

abbrev faults : Expected → List ℕ → List Fault
faults w text = Faults.faults_of w text

-- 02, 3/14, "the first byte of the faulty field (an illegal byte's own; for 17 the first field too many, or one past the line's last byte;
-- for length, 81)": all the faults of a line, by the place of each field
abbrev AllFaults : Type 0
AllFaults =
    (faults CodeRecord (bytes "1 2 3 4") ≡ [])
    × (faults CodeRecord (bytes "") ≡ [])
    × (faults CodeRecord (bytes "8 2 X 4") ≡ at BadNumber 1 ∷ at BadNumber 5 ∷ [])
    × (faults CodeRecord (bytes " X 2  ") ≡ at BadNumber 2 ∷ at FieldCount 7 ∷ [])
    × (faults CodeRecord (bytes "1 2 3 4 5 6") ≡ at FieldCount 9 ∷ [])
    × (faults CodeRecord (bytes "* 1 2 3 4 1 6 X") ≡ at BadType 11 ∷ at BadType 13 ∷ at BadNumber 15 ∷ [])
    × (faults CodeRecord (bytes "* 1 2 3 4 X Y 1") ≡ at BadNumber 11 ∷ at BadNumber 13 ∷ [])
    × (faults AnyHeader (bytes "3 X ***TITLE") ≡ at BadMarker 3 ∷ at FieldCount 5 ∷ [])
    × (faults AnyHeader (bytes "4 ***ENTRY") ≡ at BadNumber 3 ∷ at FieldCount 11 ∷ [])
    × (faults AnyHeader (bytes "10 X 1 Y ***DBIB 7") ≡ at BadNumber 4 ∷ at BadName 6 ∷ at BadNumber 8 ∷ at BadMarker 10 ∷ at FieldCount 18 ∷ [])
    × (faults AnyHeader (bytes "14 X ***DBDB") ≡ at BadMarker 1 ∷ [])
    × (faults AnyHeader (with_byte "X " 9) ≡ at BadMarker 1 ∷ at IllegalByte 3 ∷ [])
    × (faults EntryRecord (bytes "1 X 2 4") ≡ at BadName 1 ∷ at BadNumber 3 ∷ at BadType 5 ∷ at FieldCount 7 ∷ [])
    × (faults EntryRecord (bytes "A 0 0 4") ≡ at FieldCount 7 ∷ [])
    × (faults EntryRecord (bytes "A 0 1") ≡ at FieldCount 6 ∷ [])
    × (faults ParameterRecord (bytes "1 2 10 ") ≡ at BadNumber 5 ∷ [])
    × (faults ExternalRecord (with_byte "A" 9) ≡ at BadName 1 ∷ at IllegalByte 2 ∷ [])
    × (faults ExternalRecord (9 ∷ bytes "A" ++ (9 ∷ [])) ≡ at BadName 1 ∷ at IllegalByte 1 ∷ at IllegalByte 3 ∷ [])
    × (faults InitRecord (with_byte "1 2 3 4 5" 9) ≡ at IllegalByte 10 ∷ [])
    × (faults AnyHeader (wide 80) ≡ [])
    × (faults AnyHeader (wide 82) ≡ at IllegalByte 81 ∷ [])
    × (faults CodeRecord (bytes "1 2 3" ++ replicate 75 32) ≡ at FieldCount 81 ∷ [])
    × (faults CodeRecord (bytes "1 2 3" ++ replicate 75 32 ++ (9 ∷ [])) ≡ at BadNumber 81 ∷ at IllegalByte 81 ∷ at IllegalByte 81 ∷ [])

-- "On one line the leftmost fault is told; at equal columns the order is 6, 20, 17, 18, 19, 21"
abbrev Told : Type 0
Told =
    (Faults.leftmost [] ≡ none)
    × (Faults.leftmost (at BadType 2 ∷ at IllegalByte 3 ∷ []) ≡ some (at BadType 2))
    × (Faults.leftmost (at IllegalByte 3 ∷ at BadType 2 ∷ []) ≡ some (at BadType 2))
    × (Faults.leftmost (at BadMarker 3 ∷ at IllegalByte 3 ∷ []) ≡ some (at IllegalByte 3))
    × (Faults.leftmost (at IllegalByte 3 ∷ at BadMarker 3 ∷ []) ≡ some (at IllegalByte 3))
    × (Faults.leftmost (at FieldCount 3 ∷ at BadMarker 3 ∷ []) ≡ some (at BadMarker 3))
    × (Faults.leftmost (at BadNumber 3 ∷ at FieldCount 3 ∷ []) ≡ some (at FieldCount 3))
    × (Faults.leftmost (at BadName 3 ∷ at BadNumber 3 ∷ []) ≡ some (at BadNumber 3))
    × (Faults.leftmost (at BadType 3 ∷ at BadName 3 ∷ []) ≡ some (at BadName 3))
    × (Faults.leftmost (at BadType 3 ∷ at BadName 4 ∷ at BadNumber 3 ∷ at FieldCount 2 ∷ []) ≡ some (at FieldCount 2))
    × (line AnyHeader "3 X ***TITLE" ≡ fault BadMarker 3)
    × (line_answer AnyHeader (with_byte "3 " 9) ≡ fault IllegalByte 3)
    × (line_answer AnyHeader (with_byte "3 X" 9) ≡ fault BadMarker 3)
    × (line_answer AnyHeader (with_byte "3 ***TITLE " 9) ≡ fault IllegalByte 12)
    × (line_answer ExternalRecord (9 ∷ bytes "A") ≡ fault IllegalByte 1)
    × (line_answer EntryRecord (with_byte "A 0 " 9) ≡ fault IllegalByte 5)
    × (line_answer EntryRecord (with_byte "A 0 2 " 9) ≡ fault BadType 5)
    × (line_answer CodeRecord (bytes "1 2 3 4" ++ replicate 73 32 ++ bytes "5") ≡ fault IllegalByte 81)
    × (line_answer CodeRecord (bytes "1 2 3 X" ++ replicate 73 32 ++ bytes "5") ≡ fault BadNumber 7)
    × (line_answer CodeRecord (bytes "1 2 3 4" ++ replicate 72 32 ++ bytes "5") ≡ fault FieldCount 80)

-- "Split 6", by the answer of a load; the earliest line decides; "These set the broken mark as 6 did"
abbrev Split : Type 0
Split =
    (loaded 0 (wide 81) ≡ record { number = 6; line = 1; column = 81; rounds = 0 })
    × (loaded 0 (with_byte "3 ***TITLE " 127) ≡ record { number = 6; line = 1; column = 12; rounds = 0 })
    × (loaded 0 (module_of_lem "0 1 0 ***CODE\n1 2 3\n") ≡ record { number = 17; line = 4; column = 6; rounds = 0 })
    × (loaded 0 (module_of_lem "0 1 0 ***CODE\n1 2 3 8\n") ≡ record { number = 18; line = 4; column = 7; rounds = 0 })
    × (loaded 0 (module_of_lem "12 1 ***FPB\n0 0 10\n") ≡ record { number = 18; line = 4; column = 5; rounds = 0 })
    × (loaded 0 (module_of_lem "5 1 ***EXT\n  1A\n") ≡ record { number = 19; line = 4; column = 3; rounds = 0 })
    × (loaded 0 (bytes "\n2 ***TITLE\n") ≡ record { number = 20; line = 2; column = 1; rounds = 0 })
    × (loaded 0 (bytes "3 ***END\n") ≡ record { number = 20; line = 1; column = 3; rounds = 0 })
    × (loaded 0 (module_of_lem "0 1 0 ***CODE\n* 1 2 3 4 0 6 1\n") ≡ record { number = 21; line = 4; column = 13; rounds = 0 })
    × (loaded 0 (module_of_lem "4 1 ***ENTRY\nA 0 2\n") ≡ record { number = 21; line = 4; column = 5; rounds = 0 })
    × (loaded 0 (bytes "7 ***LEB\n") ≡ record { number = 7; line = 1; column = 0; rounds = 0 })
    × (load (holding (linked unmarked)) true (bytes "X") ≡ outcome (record { number = 20; line = 1; column = 1; rounds = 0 }) (now (linked broken)))

-- 7 PLACE, "A file ending too soon is at the last line number plus one", "the earliest line with 6, 7 or 8 decides"
abbrev Files : Type 0
Files =
    (file "" ≡ Complete)
    × (file "3 ***TITLE\nA\n1 ***END\nA\n" ≡ Complete)
    × (file "6 ***LSB\n7 ***LEB" ≡ Complete)
    × (file "3 ***TITLE\nA\n12 3 ***FPB\n0 0 0\n0 0 1\n0 0\n0 0 2\n0 0\n0 0\n1 ***END\nA\n" ≡ Complete)
    × (file "3 ***TITLE" ≡ Stopped 7 2 0)
    × (file "3 ***TITLE\nA\n\n" ≡ Stopped 7 4 0)
    × (file "6 ***LSB\n" ≡ Stopped 7 2 0)
    × (file "3 ***TITLE\nA\n4 1 ***ENTRY\n" ≡ Stopped 7 4 0)
    × (file "0 0 0 ***CODE\n" ≡ Stopped 7 1 0)
    × (file "1 ***END\nA\n" ≡ Stopped 7 1 0)
    × (file "7 ***LEB\n" ≡ Stopped 7 1 0)
    × (file "6 ***LSB\n6 ***LSB\n" ≡ Stopped 7 2 0)
    × (file "3 ***TITLE\nA\n3 ***TITLE\n" ≡ Stopped 7 3 0)
    × (file "3 ***TITLE\nA\n6 ***LSB\n" ≡ Stopped 7 3 0)
    × (file "3 ***TITLE\nA\n1 ***END\nB\n" ≡ Stopped 7 4 0)
    × (file "8\n7 ***LEB\n" ≡ Stopped 20 1 1)
    × (file "7 ***LEB\n8\n" ≡ Stopped 7 1 0)

-- 8 LIST, "told at that record or TITLE header", and FORCE's 14 TABLE
abbrev Lists : Type 0
Lists =
    (reading_of (entering "4 100 ***ENTRY\n" 64 "A 0 0\n" "") ≡ Complete)
    × (reading_of (entering "4 101 ***ENTRY\n" 65 "A 0 0\n" "") ≡ Stopped 8 68 0)
    × (reading_of (entering "4 100 ***ENTRY\n" 64 "A 0 0\n" "13 1 ***AENTRY\nA 0 0\n") ≡ Stopped 8 69 0)
    × (reading_of (entering "5 100 ***EXT\n" 64 "A\n" "") ≡ Complete)
    × (reading_of (entering "5 101 ***EXT\n" 65 "A\n" "") ≡ Stopped 8 68 0)
    × (reading_of (bytes "6 ***LSB\n" ++ times 256 (module_of_lem "") ++ bytes "7 ***LEB\n") ≡ Complete)
    × (reading_of (bytes "6 ***LSB\n" ++ times 257 (module_of_lem "")) ≡ Stopped 8 1026 0)
    × ((force (holding (full 255)) (bytes "B")).answer ≡ record { number = 0; line = 0 })
    × (force (holding (full 256)) (bytes "B") ≡ called 14 as_before)
    × (force (holding (full 256)) (bytes "A") ≡ called 0 (now (full 256)))

-- the rounds, "summed over its sections", here as many as "modules taken plus sections"; 9 to 13 at the line of the TITLE header
abbrev Walks : Type 0
Walks =
    (loaded 0 (bytes "6 ***LSB\n7 ***LEB\n") ≡ answer 0 0 1)
    × (loaded 0 (bytes "6 ***LSB\n7 ***LEB\n6 ***LSB\n7 ***LEB\n") ≡ answer 0 0 2)
    × (loaded 0 wanting ≡ answer 0 0 3)
    × (taken wanting ≡ 1)
    × (sections wanting ≡ 2)
    × (taken [] ≡ 0)
    × (sections [] ≡ 0)
    × (loaded 0 (module_of_lem "0 1 7777 ***CODE\n1 2 3 4\n") ≡ answer 0 0 0)
    × (loaded 0 (module_of_lem "0 2 7777 ***CODE\n1 2 3 4\n1 2 3 4\n") ≡ answer 9 1 0)
    × (loaded 0 (module_of_lem "0 0 17777 ***CODE\n") ≡ answer 0 0 0)
    × (loaded 0 (module_of_lem "0 1 0 ***CODE\n1 2 3 4\n0 1 0 ***CODE\n1 2 3 4\n") ≡ answer 10 1 0)
    × (loaded 0 (module_of_lem "0 1 0 ***CODE\n* 0 0 0 0 0 5 0\n") ≡ answer 11 1 0)
    × (loaded 0 (module_of_lem "0 1 0 ***CODE\n* 0 0 0 0 0 5 2\n5 1 ***EXT\nX\n") ≡ answer 11 1 0)
    × (loaded 0 (module_of_lem "0 1 0 ***CODE\n* 0 0 0 0 0 5 1\n5 1 ***EXT\nX\n") ≡ answer 0 0 0)
    × (loaded 0 (module_of_lem "4 1 ***ENTRY\nA 177777 1 0\n") ≡ answer 0 0 0)
    × (loaded 1 (module_of_lem "4 1 ***ENTRY\nA 177777 1 0\n") ≡ answer 12 1 0)
    × (loaded 1 (module_of_lem "4 1 ***ENTRY\nA 177777 0\n") ≡ answer 0 0 0)
    × (loaded 0 (module_of_lem "4 1 ***ENTRY\nA 0 0\n13 1 ***AENTRY\nA 1 0\n") ≡ answer 13 1 0)
    × (loaded 0 (module_of_lem "4 1 ***ENTRY\nA 0 0\n" ++ module_of_lem "4 1 ***ENTRY\nA 0 0\n") ≡ answer 13 7 0)

-- "at each library first any name that is an entry twice [..], then per placed module 9 to 14 as numbered", in file order
abbrev Orders : Type 0
Orders =
    (loaded 0 (module_of_lem "0 2 7777 ***CODE\n1 2 3 4\n1 2 3 4\n0 1 0 ***CODE\n1 2 3 4\n0 1 0 ***CODE\n1 2 3 4\n") ≡ answer 9 1 0)
    × (loaded 0 (module_of_lem "0 1 0 ***CODE\n1 2 3 4\n0 1 0 ***CODE\n* 0 0 0 0 0 5 1\n") ≡ answer 10 1 0)
    × (loaded 1 (module_of_lem "0 1 0 ***CODE\n* 0 0 0 0 0 5 1\n4 1 ***ENTRY\nA 177777 1 0\n") ≡ answer 11 1 0)
    × (loaded 1 (module_of_lem "4 2 ***ENTRY\nA 177777 1 0\nA 0 0\n") ≡ answer 12 1 0)
    × (loaded 0 (bytes "6 ***LSB\n" ++ module_of_lem "0 2 7777 ***CODE\n1 2 3 4\n1 2 3 4\n4 2 ***ENTRY\nA 0 0\nA 0 0\n" ++ bytes "7 ***LEB\n") ≡ answer 13 1 0)
    × (loaded 0 (module_of_lem "0 2 7777 ***CODE\n1 2 3 4\n1 2 3 4\n" ++ bytes "6 ***LSB\n" ++ module_of_lem "4 2 ***ENTRY\nA 0 0\nA 0 0\n" ++ bytes "7 ***LEB\n") ≡ answer 9 1 0)

-- "Blocks 10, 11 and 12 are read and have no effect. Block 13 acts as block 4."; externals "from 1 in file order"; "Placing a module"
abbrev Placed : Type 0
Placed =
    (items_of (module_of_lem "10 1 A 0 ***DBDB\n1 2\n11 1 ***DBIB\n1 2 3 4 5\n12 1 ***FPB\n0 0 1\n0 0\n") ≡ free (record { line = 1; parts = [] }) ∷ [])
    × (items_of (module_of_lem "13 1 ***AENTRY\nA 5 0\n") ≡ items_of (module_of_lem "4 1 ***ENTRY\nA 5 0\n"))
    × (left 3 (module_of_lem "0 1 2 ***CODE\n1 2 3 4\n") ≡ front [] (unplaced ∷ unplaced ∷ unplaced ∷ unplaced ∷ unplaced ∷ plain 0x0001_0002_0003_0004 ∷ []) 6)
    × (left 0 (module_of_lem "5 2 ***EXT\nA\nB\n0 2 0 ***CODE\n* 0 0 0 7 0 5 3\n* 0 0 0 10 0 5 2\n5 1 ***EXT\nA\n") ≡ front (symbol (name "A") 0 false ∷ symbol (name "B") 0 false ∷ []) (refers 7 0 ∷ refers 8 1 ∷ unplaced ∷ unplaced ∷ unplaced ∷ unplaced ∷ []) 2)
    × (left 0 (module_of_lem "5 1 ***EXT\nA\n0 1 0 ***CODE\n* 0 0 0 7 0 4 1\n") ≡ front (symbol (name "A") 0 false ∷ []) (plain 7 ∷ unplaced ∷ unplaced ∷ unplaced ∷ unplaced ∷ unplaced ∷ []) 1)
    × (left 2 (module_of_lem "5 1 ***EXT\nX\n4 2 ***ENTRY\nA 5 0\nB 5 1 0\n") ≡ front (symbol (name "A") 5 true ∷ symbol (name "B") 7 true ∷ symbol (name "X") 0 false ∷ []) (replicate 6 unplaced) 2)

-- "A state is sound if [..]": each clause broken alone
abbrev Soundness : Type 0
Soundness =
    (sound (whole (symbol (name "A") 65535 true ∷ symbol (name "B") 0 false ∷ []) (refers (2 ^ 64 - 1) 1) 4096) ≡ true)
    × (sound (whole (symbol (name "1A") 0 true ∷ []) unplaced 0) ≡ false)
    × (sound (whole (symbol (name "A") 0 true ∷ symbol (name "A") 0 false ∷ []) unplaced 0) ≡ false)
    × (sound (whole (symbol (name "A") 1 false ∷ []) unplaced 0) ≡ false)
    × (sound (whole (symbol (name "A") 65536 true ∷ []) unplaced 0) ≡ false)
    × (sound (whole (symbol (name "A") 0 true ∷ []) (refers 0 1) 0) ≡ false)
    × (sound (whole [] (plain (2 ^ 64)) 0) ≡ false)
    × (sound (whole (symbol (name "A") 0 true ∷ []) (refers (2 ^ 64) 0) 0) ≡ false)
    × (sound (whole [] unplaced 4097) ≡ false)
    × (sound (state [] (replicate 4095 unplaced) 0 unmarked) ≡ false)

-- the lab of 02, 1/14: BASE 200, a module of two words, BASE 0, a module of one
abbrev work : List ℕ
work = replicate 65536 0

abbrev lab : State
lab =
    called_all
    fresh
    (basing 0o200 ∷ loading work (module_of_lem "0 2 0 ***CODE\n1 2 3 4\n1 2 3 4\n") ∷ basing 0 ∷ loading work (module_of_lem "0 1 0 ***CODE\n1 2 3 4\n") ∷ [])

-- HIGH, of words alone: none placed, one at 0, one at 4,095, a reference; of states: the lab's, no word behind a BASE
abbrev Highs : Type 0
Highs =
    (high fresh.words ≡ 65535)
    × (high (plain 0 ∷ replicate 4095 unplaced) ≡ 0)
    × (high (replicate 4095 unplaced ++ (plain 0 ∷ [])) ≡ 4095)
    × (high (plain 1 ∷ refers 7 0 ∷ unplaced ∷ []) ≡ 1)
    × (high (linked unmarked).words ≡ 2)
    × (lab.next ≡ 1)
    × (memory (holding lab) ≡ record { number = 0; line = 0; high = 0o201 })
    × (drop 33 (image_of lab) ≡ 0x45 ∷ 0 ∷ 0x81 ∷ 0 ∷ 0 ∷ [])
    × (memory (holding (called_all fresh (basing 0o200 ∷ []))) ≡ record { number = 0; line = 0; high = 65535 })
    × (image_of (called_all fresh (basing 0o200 ∷ [])) ≡ 0x45 ∷ 255 ∷ 255 ∷ 0 ∷ 0 ∷ [])

-- MEMORY, SYMBOLS and UNDEFINED
abbrev Looking : Type 0
Looking =
    (position_of (name "B") (linked unmarked).symbols ≡ 1)
    × (position_of (name "C") (linked unmarked).symbols ≡ 2)
    × (highest 1 (linked unmarked).words ≡ 2)
    × (highest 0 (linked unmarked).words ≡ 65535)
    × (memory (holding (linked broken)) ≡ record { number = 0; line = 0; high = 2 })
    × (symbols (holding (linked broken)) 0 ≡ record { number = 0; line = 0; none = 0; name = name "A"; value = 5; defined = 1 })
    × (symbols (holding (linked broken)) 1 ≡ record { number = 0; line = 0; none = 0; name = name "B"; value = 0; defined = 0 })
    × (symbols (holding (linked broken)) 2 ≡ record { number = 0; line = 0; none = 1; name = 0; value = 0; defined = 0 })
    × (undefined (holding (linked frozen)) 0 ≡ record { number = 0; line = 0; none = 0; name = name "B"; value = 0; defined = 0; highest = 2 })
    × (undefined (holding (linked frozen)) 1 ≡ record { number = 0; line = 0; none = 1; name = 0; value = 0; defined = 0; highest = 0 })

-- 1 BUFFER ahead of 2 DAMAGED, in each call; "RESET tests only 1"; work memory
abbrev Lengths : Type 0
Lengths =
    (load wrong_length true [] ≡ outcome (answer 1 0 0) as_before)
    × (load damaged false [] ≡ outcome (answer 1 0 0) as_before)
    × (load damaged true [] ≡ outcome (answer 2 0 0) as_before)
    × (force wrong_length [] ≡ called 1 as_before)
    × (force damaged [] ≡ called 2 as_before)
    × (base wrong_length 9999 ≡ called 1 as_before)
    × (base damaged 9999 ≡ called 2 as_before)
    × (reset wrong_length ≡ called 1 as_before)
    × (reset damaged ≡ called 0 (now (state [] (replicate 4096 unplaced) 0 unmarked)))
    × (memory wrong_length ≡ record { number = 1; line = 0; high = 0 })
    × (memory damaged ≡ record { number = 2; line = 0; high = 0 })
    × (symbols wrong_length 0 ≡ record { number = 1; line = 0; none = 0; name = 0; value = 0; defined = 0 })
    × (symbols damaged 0 ≡ record { number = 2; line = 0; none = 0; name = 0; value = 0; defined = 0 })
    × (undefined wrong_length 0 ≡ record { number = 1; line = 0; none = 0; name = 0; value = 0; defined = 0; highest = 0 })
    × (undefined damaged 0 ≡ record { number = 2; line = 0; none = 0; name = 0; value = 0; defined = 0; highest = 0 })
    × (end wrong_length (9 ∷ []) ≡ record { call = outcome (record { number = 1; line = 0; length = 0 }) as_before; output = 9 ∷ [] })
    × (end damaged (9 ∷ []) ≡ record { call = outcome (record { number = 2; line = 0; length = 0 }) as_before; output = 9 ∷ [] })
    × (work_fits (replicate 65535 0) ≡ false)
    × (work_fits (replicate 65536 0) ≡ true)
    × (work_after 2 (7 ∷ 8 ∷ []) ≡ 0 ∷ 0 ∷ [])
    × (work_after 3 (7 ∷ 8 ∷ []) ≡ 7 ∷ 8 ∷ [])

-- 3 RESET and 4 FROZEN, each in its calls, ahead of 5, 12, 15; END tests 16 last, and is repeated
abbrev Marks : Type 0
Marks =
    (load (holding (linked broken)) true [] ≡ outcome (answer 3 0 0) as_before)
    × (load (holding (linked frozen)) true (replicate 65537 32) ≡ outcome (answer 4 0 0) as_before)
    × (load (holding (linked unmarked)) true (replicate 65537 32) ≡ outcome (answer 5 0 0) as_before)
    × (force (holding (linked broken)) [] ≡ called 3 as_before)
    × (force (holding (linked frozen)) [] ≡ called 4 as_before)
    × (force (holding (linked unmarked)) [] ≡ called 15 as_before)
    × (force (holding (linked unmarked)) (bytes "A") ≡ called 0 (now (linked unmarked)))
    × (base (holding (linked broken)) 4096 ≡ called 3 as_before)
    × (base (holding (linked frozen)) 4096 ≡ called 4 as_before)
    × (base (holding (linked unmarked)) 4096 ≡ called 12 as_before)
    × (end (holding (linked broken)) [] ≡ record { call = outcome (record { number = 3; line = 0; length = 0 }) as_before; output = [] })
    × (end (holding (linked frozen)) [] ≡ record { call = outcome (record { number = 16; line = 0; length = 0 }) as_before; output = [] })
    × ((end (holding (linked frozen)) (replicate 38 1)).call ≡ outcome (record { number = 0; line = 0; length = 38 }) (now (linked frozen)))

-- 02, 2/14: a table in order of first mention, and the order of its names: B, D, F, H, K
abbrev mentioned : List Symbol
mentioned =
    symbol (name "H") 0 false
    ∷ symbol (name "D") 0 false
    ∷ symbol (name "B") 5 true
    ∷ symbol (name "K") 0 false
    ∷ symbol (name "F") 0 false
    ∷ []

abbrev by_name : List ℕ
by_name = 2 ∷ 1 ∷ 4 ∷ 0 ∷ 3 ∷ []

-- what a lookup tells, and the positions whose names it has read
abbrev looking : List ℕ → String → Lookup × List ℕ
looking order text =
    let s = look_up order 5 2 (name text) in
    (answered (name_at mentioned) s, read_by (name_at mentioned) s)

-- the numbers below n, which are the order of a table whose names rise
pub up_to : ℕ → List ℕ
up_to zero = []
up_to (suc n) = up_to n ++ (n ∷ [])

-- the positions that a lookup reads in a table of 256 such names, the even numbers
abbrev reading : ℕ → ℕ → List ℕ
reading first x = read_by (λ p. 2 * p) (look_up (up_to 256) 256 first x)

-- each of five names; a name below all, between two and above all; an order that is wrong; no names; the name past the last; nine names
-- and eight of 256 from the middle; from elsewhere one, and nine
abbrev Lookups : Type 0
Lookups =
    (looking by_name "F" ≡ (lookup 2 4, 4 ∷ []))
    × (looking by_name "B" ≡ (lookup 0 2, 4 ∷ 1 ∷ 2 ∷ []))
    × (looking by_name "D" ≡ (lookup 1 1, 4 ∷ 1 ∷ []))
    × (looking by_name "H" ≡ (lookup 3 0, 4 ∷ 3 ∷ 0 ∷ []))
    × (looking by_name "K" ≡ (lookup 4 3, 4 ∷ 3 ∷ []))
    × (looking by_name "A" ≡ (lookup 0 5, 4 ∷ 1 ∷ 2 ∷ []))
    × (looking by_name "C" ≡ (lookup 1 5, 4 ∷ 1 ∷ 2 ∷ []))
    × (looking by_name "G" ≡ (lookup 3 5, 4 ∷ 3 ∷ 0 ∷ []))
    × (looking by_name "L" ≡ (lookup 5 5, 4 ∷ 3 ∷ []))
    × (looking (0 ∷ 1 ∷ 2 ∷ 3 ∷ 4 ∷ []) "H" ≡ (lookup 5 5, 2 ∷ 4 ∷ []))
    × (answered (name_at []) (look_up [] 0 0 (name "A")) ≡ lookup 0 0)
    × (name_at mentioned 5 ≡ 0)
    × (reading 128 0 ≡ 128 ∷ 64 ∷ 32 ∷ 16 ∷ 8 ∷ 4 ∷ 2 ∷ 1 ∷ 0 ∷ [])
    × (reading 128 1 ≡ 128 ∷ 64 ∷ 32 ∷ 16 ∷ 8 ∷ 4 ∷ 2 ∷ 1 ∷ 0 ∷ [])
    × (reading 128 510 ≡ 128 ∷ 192 ∷ 224 ∷ 240 ∷ 248 ∷ 252 ∷ 254 ∷ 255 ∷ [])
    × (reading 7 14 ≡ 7 ∷ [])
    × (reading 0 509 ≡ 0 ∷ 128 ∷ 192 ∷ 224 ∷ 240 ∷ 248 ∷ 252 ∷ 254 ∷ 255 ∷ [])
    × (reading 255 1 ≡ 255 ∷ 127 ∷ 63 ∷ 31 ∷ 15 ∷ 7 ∷ 3 ∷ 1 ∷ 0 ∷ [])

-- the names of the answers, by number
abbrev Names : Type 0
Names =
    (answer_name 0 ≡ bytes "DONE")
    × (answer_name 1 ≡ bytes "BUFFER")
    × (answer_name 2 ≡ bytes "DAMAGED")
    × (answer_name 3 ≡ bytes "RESET")
    × (answer_name 4 ≡ bytes "FROZEN")
    × (answer_name 5 ≡ bytes "TOO LONG")
    × (answer_name 6 ≡ bytes "LINE")
    × (answer_name 7 ≡ bytes "PLACE")
    × (answer_name 8 ≡ bytes "LIST")
    × (answer_name 9 ≡ bytes "ROOM")
    × (answer_name 10 ≡ bytes "OVERLAP")
    × (answer_name 11 ≡ bytes "ARG")
    × (answer_name 12 ≡ bytes "RANGE")
    × (answer_name 13 ≡ bytes "DUPLICATE")
    × (answer_name 14 ≡ bytes "TABLE")
    × (answer_name 15 ≡ bytes "NAME")
    × (answer_name 16 ≡ bytes "OUT")
    × (answer_name 17 ≡ bytes "FIELDS")
    × (answer_name 18 ≡ bytes "NUMBER")
    × (answer_name 19 ≡ bytes "SYMBOL")
    × (answer_name 20 ≡ bytes "MARKER")
    × (answer_name 21 ≡ bytes "TYPE")
    × (answer_name 22 ≡ [])
    × (answer_name 23 ≡ bytes "FEED")
    × (answer_name 24 ≡ [])

-- which numbers each call can answer, by "Given when"
abbrev Answering : Type 0
Answering =
    (answering (loading [] []) ≡ 0 ∷ 1 ∷ 2 ∷ 3 ∷ 4 ∷ 5 ∷ 6 ∷ 7 ∷ 8 ∷ 9 ∷ 10 ∷ 11 ∷ 12 ∷ 13 ∷ 14 ∷ 17 ∷ 18 ∷ 19 ∷ 20 ∷ 21 ∷ [])
    × (answering (forcing []) ≡ 0 ∷ 1 ∷ 2 ∷ 3 ∷ 4 ∷ 14 ∷ 15 ∷ [])
    × (answering (basing 0) ≡ 0 ∷ 1 ∷ 2 ∷ 3 ∷ 4 ∷ 12 ∷ [])
    × (answering resetting ≡ 0 ∷ 1 ∷ [])
    × (answering asking_high ≡ 0 ∷ 1 ∷ 2 ∷ [])
    × (answering (listing 0) ≡ 0 ∷ 1 ∷ 2 ∷ [])
    × (answering (listing_undefined 0) ≡ 0 ∷ 1 ∷ 2 ∷ [])
    × (answering (ending []) ≡ 0 ∷ 1 ∷ 2 ∷ 3 ∷ 16 ∷ [])

-- 02, 4/14: the names that the request is about, and one that was legal before
abbrev names_by : Alphabet → List Bool
names_by alphabet =
    map (λ x. is_name_over alphabet (bytes x)) ("A$B" ∷ "IO.1" ∷ "A....." ∷ "$A" ∷ ".A" ∷ "A$B.C1D" ∷ "AB" ∷ [])

-- one symbol, undefined
abbrev alone : String → State
alone x = whole (symbol (name x) 0 false ∷ []) unplaced 0

-- the characters of a name, of all bytes; names by both alphabets; then in each place where a name stands: in files, in a state, in FORCE
abbrev Alphabets : Type 0
Alphabets =
    (passing is_name_character (up_to 256) ≡ bytes "$.0123456789ABCDEFGHIJKLMNOPQRSTUVWXYZ")
    × (passing is_letter_or_digit (up_to 256) ≡ bytes "0123456789ABCDEFGHIJKLMNOPQRSTUVWXYZ")
    × (names_by is_name_character ≡ true ∷ true ∷ true ∷ false ∷ false ∷ false ∷ true ∷ [])
    × (names_by is_letter_or_digit ≡ false ∷ false ∷ false ∷ false ∷ false ∷ false ∷ true ∷ [])
    × (name "A$B" ≡ 0x41_24_42_00_00_00)
    × (line OpeningTitle "A$B" ≡ Opening (name "A$B"))
    × (line OpeningTitle "$A" ≡ fault BadName 1)
    × (line ClosingTitle "IO.1" ≡ Closing (name "IO.1"))
    × (line ClosingTitle ".A" ≡ fault BadName 1)
    × (line EntryRecord "A..... 5 0" ≡ entry "A....." 5 false 0)
    × (line EntryRecord "A$B 5 1 2" ≡ entry "A$B" 5 true 2)
    × (line EntryRecord "$A 5 0" ≡ fault BadName 1)
    × (line ExternalRecord "IO.1" ≡ Mentioned (name "IO.1"))
    × (line ExternalRecord "A$B.C1D" ≡ fault BadName 1)
    × (line ExternalRecord "A$b" ≡ fault BadName 1)
    × (line AnyHeader "10 2 A$B 3 ***DBDB" ≡ Head (DataBlock 2))
    × (line AnyHeader "10 2 .LOCAL 3 ***DBDB" ≡ fault BadName 6)
    × (sound (alone "A$B") ≡ true)
    × (sound (alone "A.....") ≡ true)
    × (sound (alone "$A") ≡ false)
    × (sound (alone ".A") ≡ false)
    × (force (holding (whole [] unplaced 0)) (bytes "IO.1") ≡ called 0 (now (alone "IO.1")))
    × (force (holding (whole [] unplaced 0)) (bytes "$A") ≡ called 15 as_before)
    × (line_answer_over is_letter_or_digit ExternalRecord (bytes "A$B") ≡ fault BadName 1)
    × (sound_over is_letter_or_digit (alone "A.B") ≡ false)
    × (force_over is_letter_or_digit (holding (whole [] unplaced 0)) (bytes "A.B") ≡ called 15 as_before)

-- 02, 5/14: a load in pieces. A file whose first line is no header, and one that ends too soon.
abbrev not_header : List ℕ
not_header = bytes "X\nY\n"

abbrev from_feed : Feed → ℕ → FeedOutcome FeedAnswer
from_feed f n = feed_piece (holding f) (replicate n 65)

-- the whole lines; what is advised, and by which piece; what is kept; the four calls
abbrev Feeds : Type 0
Feeds =
    (whole_lines [] ≡ [])
    × (whole_lines (bytes "AB") ≡ [])
    × (whole_lines (bytes "A\nB") ≡ bytes "A\n")
    × (whole_lines (bytes "\nA\r\n\nB") ≡ bytes "\nA\r\n\n")
    × (count_lf (bytes "A\n\nB\n") ≡ 3)
    × (fault_so_far not_header ≡ Stopped 20 1 1)
    × (fault_so_far (bytes "3 ***TITLE\nA\n1 ***END\nB\n") ≡ Stopped 7 4 0)
    × (advice [] not_header ≡ Stopped 20 1 1)
    × (advice (bytes "X") (bytes "\n") ≡ Stopped 20 1 1)
    × (advice [] (bytes "X") ≡ Complete)
    × (advice (bytes "X\n") (bytes "Y\n") ≡ Complete)
    × (advice (bytes "3 ***TITLE\n") (bytes "?\n") ≡ Stopped 19 2 1)
    × (advice [] (bytes "3 ***TITLE\n") ≡ Complete)
    × (advices [] (bytes "X" ∷ [] ∷ bytes "\n" ∷ bytes "Y\n" ∷ []) ≡ Complete ∷ Complete ∷ Stopped 20 1 1 ∷ Complete ∷ [])
    × (silent (Complete ∷ Complete ∷ []) ≡ true)
    × (silent (Complete ∷ Stopped 20 1 1 ∷ []) ≡ false)
    × (joined (bytes "A" ∷ replicate 513 65 ∷ [] ∷ bytes "B" ∷ []) ≡ bytes "AB")
    × (sound_feed shut ≡ true)
    × (sound_feed (fed (0 ∷ 255 ∷ [])) ≡ true)
    × (sound_feed (fed (256 ∷ [])) ≡ false)
    × (open_feed wrong_length ≡ feed_stopped 1)
    × (open_feed damaged ≡ feed_stopped 2)
    × (open_feed (holding shut) ≡ feed_outcome (call_answer 0) (now (fed [])))
    × (open_feed (holding (fed [])) ≡ feed_stopped 23)
    × (feed_piece wrong_length [] ≡ feed_outcome (feed_answer 1 0 0 0) as_before)
    × (feed_piece damaged [] ≡ piece_stopped 2)
    × (feed_piece (holding shut) [] ≡ piece_stopped 23)
    × (feed_piece (holding (fed (bytes "X"))) (bytes "\nY") ≡ feed_outcome (feed_answer 0 20 1 1) (now (fed (bytes "X\nY"))))
    × (feed_piece (holding (fed (bytes "X\nY"))) (bytes "\n") ≡ feed_outcome (feed_answer 0 0 0 0) (now (fed not_header)))
    × (from_feed (fed []) 512 ≡ feed_outcome (feed_answer 0 0 0 0) (now (fed (replicate 512 65))))
    × (from_feed (fed []) 513 ≡ piece_stopped 23)
    × (drop_feed wrong_length ≡ feed_stopped 1)
    × (drop_feed damaged ≡ feed_stopped 2)
    × (drop_feed (holding shut) ≡ feed_stopped 23)
    × (drop_feed (holding (fed not_header)) ≡ feed_done shut)
    × (close_feed wrong_length (holding fresh) true ≡ close_stopped 1)
    × (close_feed damaged wrong_length false ≡ close_stopped 2)
    × (close_feed (holding shut) damaged false ≡ close_stopped 23)
    × (close_feed (holding (fed not_header)) wrong_length true ≡ close_outcome (load_stopped 1) (now shut))
    × (close_feed (holding (fed not_header)) (holding (linked broken)) true ≡ close_outcome (load_stopped 3) (now shut))
    × (close_feed (holding (fed not_header)) (holding (linked unmarked)) true ≡ close_outcome (outcome (load_answer 20 1 1 0) (now (linked broken))) (now shut))
    × (passing can_answer_feed (up_to 25) ≡ 0 ∷ 1 ∷ 2 ∷ 23 ∷ [])
    × (passing can_answer_close (up_to 25) ≡ 0 ∷ 1 ∷ 2 ∷ 3 ∷ 4 ∷ 5 ∷ 6 ∷ 7 ∷ 8 ∷ 9 ∷ 10 ∷ 11 ∷ 12 ∷ 13 ∷ 14 ∷ 17 ∷ 18 ∷ 19 ∷ 20 ∷ 21 ∷ 23 ∷ [])

-- ---- the claim

pub small_table : Lines × Bytes × Headers × Records × CodeWords × Kinds × Leftmost × AllFaults × Told × Split × Files × Lists × Walks × Orders × Placed × Soundness × Highs × Looking × Lengths × Marks × Lookups × Names × Answering × Alphabets × Feeds
unfolding Load.taken_at Load.taken_in Load.sections_at Load.sections_in Search.count times passing History.can_answer History.left_over History.state_after History.called History.called_all Text.bytes Text.all Text.any Text.widen_line Text.cut_lines Text.without_end Text.lines_of Text.legal_front Text.starts_field Text.widen_field Text.add_to_fields Text.fields_from Text.fields_of Text.octal Text.is_number Text.number_of Text.is_name_character Text.is_letter_or_digit Text.is_name_over Text.pack_name Text.name_over Text.up_to_zero Text.unpack_name Text.is_packed_over Line.headers Line.row_in Line.row_of Line.marker_in Text.same_text Line.held Line.in_bounds Line.read_field_over Line.in_front Line.fit_over Line.said Line.read_as_over Line.record_shape Line.row_at Line.first_text Line.header_shape_in Line.code_shape Line.is_one Line.text_at Line.entry_shape Line.shape_for Line.say_fields_over Line.line_over Line.fault_in Line.within Line.test_bytes Line.line_answer_over Faults.fault_number Faults.fault_at Faults.field_faults Faults.count_faults Faults.shape_faults Faults.byte_faults Faults.length_faults Faults.faults_of Faults.rank Faults.ahead Faults.ahead_of Faults.leftmost Reading.at_start Reading.expect Reading.expect_records Reading.record_done Reading.expect_subs Reading.title_header Reading.enter_module Reading.leave_module Reading.enter_section Reading.leave_section Reading.count_entry Reading.count_external Reading.title_step Reading.library_step Reading.library_end_step Reading.header_step Reading.closing_step Reading.entry_step Reading.external_step Reading.parameter_step Reading.sub_step Reading.step_of Reading.unread Reading.module_done Reading.stepped Reading.if_complete Reading.read_line_over Reading.read_lines_over Reading.is_header Reading.at_end Reading.reading_over Reading.items_over State.no_words State.fresh State.is_symbol State.is_defined State.is_undefined State.position_of State.undefined_only State.placed_words State.highest_from State.highest_where State.sound_symbol_over State.different_names State.sound_word State.sound_over Placing.entries_in Placing.externals_in Placing.code_in Placing.length_in Placing.count_in Placing.value_at Placing.define Placing.mention Placing.define_all Placing.mention_all Placing.joined Placing.linked Placing.put_all Placing.no_room Placing.overlaps Placing.bad_argument Placing.bad_arguments Placing.out_of_range Placing.twice Placing.duplicates Placing.table_full Placing.placing_fault Placing.placed Search.no_modules Search.with_module Search.visit Search.sweep Search.round Search.rounds Search.search Load.try_place Load.place Load.entry_names Load.is_needed Load.takes Load.searched Load.section_names Load.test_section Load.walk_item Load.walk_items Load.walked Load.load_read_over Load.load_file_over Image.value_of Image.completed Image.two Image.quarters Image.word_record Image.record_of Image.records_from Image.end_record Image.image_of Calls.work_after Calls.shut_by Calls.load_state_over Calls.load_lent_over Calls.load_over Calls.force_state_over Calls.force_over Calls.base_state Calls.base Calls.reset Calls.memory Calls.symbol_at Calls.symbols Calls.undefined_at Calls.undefined Calls.is_broken Calls.end_state Calls.end Answers.answers Answers.name_in Answers.answer_name Lookup.answered Lookup.read_by Lookup.halves Lookup.look_up up_to Feed.kept Feed.sound_feed Feed.before_lf Feed.whole_lines Feed.fault_so_far Feed.advice Feed.open_feed Feed.advised Feed.take_piece Feed.feed_piece Feed.drop_feed Feed.close_feed Feed.can_answer_feed Feed.can_answer_close Feed.joined Feed.advices Feed.count_lf
small_table = (
  (refl, refl, refl, refl, refl),
  (refl, refl, refl, refl, refl, refl, refl, refl, refl),
  (refl, refl, refl, refl, refl, refl, refl, refl, refl, refl, refl, refl, refl, refl, refl, refl, refl, refl, refl, refl, refl, refl, refl),
  (refl, refl, refl, refl, refl, refl, refl, refl, refl, refl, refl, refl, refl, refl, refl, refl, refl, refl, refl, refl, refl, refl),
  (refl, refl, refl, refl, refl, refl, refl, refl, refl, refl, refl, refl, refl, refl, refl),
  (refl, refl, refl, refl, refl, refl, refl, refl, refl, refl, refl, refl, refl, refl, refl, refl, refl, refl, refl, refl, refl, refl, refl, refl, refl, refl, refl, refl, refl, refl, refl, refl, refl, refl, refl, refl, refl, refl, refl, refl),
  (refl, refl, refl, refl, refl, refl, refl, refl, refl, refl, refl, refl),
  (refl, refl, refl, refl, refl, refl, refl, refl, refl, refl, refl, refl, refl, refl, refl, refl, refl, refl, refl, refl, refl, refl, refl),
  (refl, refl, refl, refl, refl, refl, refl, refl, refl, refl, refl, refl, refl, refl, refl, refl, refl, refl, refl, refl),
  (refl, refl, refl, refl, refl, refl, refl, refl, refl, refl, refl, refl),
  (refl, refl, refl, refl, refl, refl, refl, refl, refl, refl, refl, refl, refl, refl, refl, refl, refl),
  (refl, refl, refl, refl, refl, refl, refl, refl, refl, refl),
  (refl, refl, refl, refl, refl, refl, refl, refl, refl, refl, refl, refl, refl, refl, refl, refl, refl, refl, refl),
  (refl, refl, refl, refl, refl, refl),
  (refl, refl, refl, refl, refl, refl),
  (refl, refl, refl, refl, refl, refl, refl, refl, refl, refl),
  (refl, refl, refl, refl, refl, refl, refl, refl, refl, refl),
  (refl, refl, refl, refl, refl, refl, refl, refl, refl, refl),
  (refl, refl, refl, refl, refl, refl, refl, refl, refl, refl, refl, refl, refl, refl, refl, refl, refl, refl, refl, refl, refl),
  (refl, refl, refl, refl, refl, refl, refl, refl, refl, refl, refl, refl, refl),
  (refl, refl, refl, refl, refl, refl, refl, refl, refl, refl, refl, refl, refl, refl, refl, refl, refl, refl),
  (refl, refl, refl, refl, refl, refl, refl, refl, refl, refl, refl, refl, refl, refl, refl, refl, refl, refl, refl, refl, refl, refl, refl, refl, refl),
  (refl, refl, refl, refl, refl, refl, refl, refl),
  (refl, refl, refl, refl, refl, refl, refl, refl, refl, refl, refl, refl, refl, refl, refl, refl, refl, refl, refl, refl, refl, refl, refl, refl, refl, refl),
  (refl, refl, refl, refl, refl, refl, refl, refl, refl, refl, refl, refl, refl, refl, refl, refl, refl, refl, refl, refl, refl, refl, refl, refl, refl, refl, refl, refl, refl, refl, refl, refl, refl, refl, refl, refl, refl, refl, refl, refl, refl, refl, refl),
)
