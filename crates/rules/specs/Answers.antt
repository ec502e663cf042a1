-- Document 01, "What the calls return": the answers, each with its number and its name; "new numbers [..] join document 01's list" (02,
-- 3/14).
use Rattle.std.specs.Prelude.{ℕ, Bool, cond, ◌||◌, List, [], ◌∷◌, eqb, Result, Ok, Err}
use Prim.Native.String.{String}
use Rattle.rules.specs.Text.{bytes, between}
use Rattle.rules.specs.declared.answer.Reason.{Reason}
use Rattle.rules.specs.declared.answer.Reason.TheVariants.{Buffer, Damaged, Reset, Frozen, TooLong, Line, Place, List as TheList, Room, Overlap, Arg, Range, Duplicate, Table, Name, Out, Fields, Number, Symbol, Marker, «Type», Feed}

-- the numbers: every definition names them, and so does the code (src/answer.rt)
abbrev pub DONE : ℕ
DONE = 0

abbrev pub BUFFER : ℕ
BUFFER = 1

abbrev pub DAMAGED : ℕ
DAMAGED = 2

abbrev pub RESET : ℕ
RESET = 3

abbrev pub FROZEN : ℕ
FROZEN = 4

abbrev pub TOO_LONG : ℕ
TOO_LONG = 5

abbrev pub LINE : ℕ
LINE = 6

abbrev pub PLACE : ℕ
PLACE = 7

abbrev pub LIST : ℕ
LIST = 8

abbrev pub ROOM : ℕ
ROOM = 9

abbrev pub OVERLAP : ℕ
OVERLAP = 10

abbrev pub ARG : ℕ
ARG = 11

abbrev pub RANGE : ℕ
RANGE = 12

abbrev pub DUPLICATE : ℕ
DUPLICATE = 13

abbrev pub TABLE : ℕ
TABLE = 14

abbrev pub NAME : ℕ
NAME = 15

abbrev pub OUT : ℕ
OUT = 16

-- 02, 3/14: "17 is the field count, 18 a number, 19 a name, 20 a marker, or a code [..], 21 a relocation type [..] or an entry type"
abbrev pub FIELDS : ℕ
FIELDS = 17

abbrev pub NUMBER : ℕ
NUMBER = 18

abbrev pub SYMBOL : ℕ
SYMBOL = 19

abbrev pub MARKER : ℕ
MARKER = 20

abbrev pub TYPE : ℕ
TYPE = 21

-- 02, 5/14: "a longer piece, a second open, or a piece, close or drop with none open, by 23"
abbrev pub FEED : ℕ
FEED = 23

-- the same as what the code refuses by
abbrev pub reason_number : Reason → ℕ
reason_number Buffer = BUFFER
reason_number Damaged = DAMAGED
reason_number Reset = RESET
reason_number Frozen = FROZEN
reason_number TooLong = TOO_LONG
reason_number Line = LINE
reason_number Place = PLACE
reason_number TheList = LIST
reason_number Room = ROOM
reason_number Overlap = OVERLAP
reason_number Arg = ARG
reason_number Range = RANGE
reason_number Duplicate = DUPLICATE
reason_number Table = TABLE
reason_number Name = NAME
reason_number Out = OUT
reason_number Fields = FIELDS
reason_number Number = NUMBER
reason_number Symbol = SYMBOL
reason_number Marker = MARKER
reason_number «Type» = TYPE
reason_number Feed = FEED

-- what a call answers: DONE, or why it refuses
abbrev pub answer_number : Result (Unit {0}) Reason → ℕ
answer_number (Ok _) = DONE
answer_number (Err r) = reason_number r

-- a row of the table
pub record Answer : Type 0 where
  pub number : ℕ
  pub name : List ℕ

abbrev pub answer : ℕ → String → Answer
answer n s = record { number = n; name = bytes s }

-- the names that the program prints
unfoldable pub answers : List Answer
answers =
    answer DONE "DONE"
    ∷ answer BUFFER "BUFFER"
    ∷ answer DAMAGED "DAMAGED"
    ∷ answer RESET "RESET"
    ∷ answer FROZEN "FROZEN"
    ∷ answer TOO_LONG "TOO LONG"
    ∷ answer LINE "LINE"
    ∷ answer PLACE "PLACE"
    ∷ answer LIST "LIST"
    ∷ answer ROOM "ROOM"
    ∷ answer OVERLAP "OVERLAP"
    ∷ answer ARG "ARG"
    ∷ answer RANGE "RANGE"
    ∷ answer DUPLICATE "DUPLICATE"
    ∷ answer TABLE "TABLE"
    ∷ answer NAME "NAME"
    ∷ answer OUT "OUT"
    ∷ answer FIELDS "FIELDS"
    ∷ answer NUMBER "NUMBER"
    ∷ answer SYMBOL "SYMBOL"
    ∷ answer MARKER "MARKER"
    ∷ answer TYPE "TYPE"
    ∷ answer FEED "FEED"
    ∷ []

-- the name in the row with a number, nothing where there is none
unfoldable pub name_in : List Answer → ℕ → List ℕ
name_in [] n = []
name_in (a ∷ more) n = let rest = name_in more n in cond (eqb a.number n) a.name rest

unfoldable pub answer_name : ℕ → List ℕ
answer_name n = name_in answers n

-- ---- which answers tell what

-- a fault in a line, which has a column: 6, and the numbers that are split from it
abbrev pub is_line_fault : ℕ → Bool
is_line_fault k = eqb k LINE || between FIELDS TYPE k

-- "LOAD refused by 6 to 14 sets the broken mark", and "these set the broken mark as 6 did"
abbrev pub is_file_fault : ℕ → Bool
is_file_fault k = is_line_fault k || between PLACE TABLE k
