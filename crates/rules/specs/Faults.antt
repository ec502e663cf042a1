-- Document 02, 3/14: the faults of a line, the answer of each kind, and which of several is told.
use Rattle.std.specs.Prelude.{ℕ, ◌+◌, Bool, cond, ◌&&◌, ◌||◌, List, [], ◌∷◌, ◌++◌, length, eqb, leb, ltb}
use Rattle.std.proofs.Math.Option.{Option, none, some}
use Rattle.rules.specs.Limits.{longest_line}
use Rattle.rules.specs.Text.{Field, fields_of, is_legal}
use Rattle.rules.specs.Answers.{LINE, FIELDS, NUMBER, SYMBOL, MARKER, TYPE}
use Rattle.rules.specs.Line.{Held, value, wrong, read_field, fault, Shape, shape_for}
use Rattle.rules.specs.declared.line.FaultKind.{FaultKind}
use Rattle.rules.specs.declared.line.FaultKind.TheVariants.{IllegalByte, BadMarker, FieldCount, BadNumber, BadName, BadType}
use Rattle.rules.specs.declared.line.Fault.{Fault}
use Rattle.rules.specs.declared.line.Kind.{Kind}
use Rattle.rules.specs.declared.line.Expected.{Expected}

-- "Split 6: it stays for line length and illegal bytes; 17 is the field count, 18 a number, 19 a name, 20 a marker, or a code [..],
-- 21 a relocation type, its first number, or an entry type"
unfoldable pub fault_number : FaultKind → ℕ
fault_number IllegalByte = LINE
fault_number BadMarker = MARKER
fault_number FieldCount = FIELDS
fault_number BadNumber = NUMBER
fault_number BadName = SYMBOL
fault_number BadType = TYPE

-- ---- the faults of a line

-- a field's: at "the first byte of the faulty field"
unfoldable pub fault_at : ℕ → Held → List Fault
fault_at c (value v) = []
fault_at c (wrong k) = fault k c ∷ []

-- every field's, against the kind at its place
unfoldable pub field_faults : List Kind → List Field → List Fault
field_faults [] fs = []
field_faults (k ∷ ks) [] = []
field_faults (k ∷ ks) (f ∷ fs) = fault_at f.column (read_field k f.text) ++ field_faults ks fs

-- the count's: "the first field too many, or one past the line's last byte"
unfoldable pub count_faults : ℕ → List Kind → List Field → List Fault
count_faults end [] [] = []
count_faults end [] (f ∷ fs) = fault FieldCount f.column ∷ []
count_faults end (k ∷ ks) [] = fault FieldCount end ∷ []
count_faults end (k ∷ ks) (f ∷ fs) = count_faults end ks fs

-- both; where a code is unknown or no number, nothing is known of the fields behind it
unfoldable pub shape_faults : ℕ → List Field → Option Shape → List Fault
shape_faults end [] s = []
shape_faults end (f ∷ fs) none = fault BadMarker f.column ∷ []
shape_faults end (f ∷ fs) (some s) = field_faults s.kinds (f ∷ fs) ++ count_faults end s.kinds (f ∷ fs)

-- "an illegal byte's own", of a text whose first byte stands at column c
unfoldable pub byte_faults : ℕ → List ℕ → List Fault
byte_faults c [] = []
byte_faults c (b ∷ rest) = let more = byte_faults (c + 1) rest in cond (is_legal b) more (fault IllegalByte c ∷ more)

-- "for length, 81"
unfoldable pub length_faults : ℕ → List Fault
length_faults size = cond (leb size longest_line) [] (fault IllegalByte (longest_line + 1) ∷ [])

-- all of them
unfoldable pub faults_of : Expected → List ℕ → List Fault
faults_of w line =
    let fs = fields_of line in
    shape_faults (length line + 1) fs (shape_for w fs) ++ (byte_faults 1 line ++ length_faults (length line))

-- ---- which is told

-- "at equal columns the order is 6, 20, 17, 18, 19, 21"
unfoldable pub rank : FaultKind → ℕ
rank IllegalByte = 0
rank BadMarker = 1
rank FieldCount = 2
rank BadNumber = 3
rank BadName = 4
rank BadType = 5

-- is f told rather than g
unfoldable pub ahead : Fault → Fault → Bool
ahead f g =
    ltb f.column g.column || (eqb f.column g.column && ltb (rank f.kind) (rank g.kind))

-- the one of the two that is told
unfoldable pub ahead_of : Fault → Option Fault → Fault
ahead_of f none = f
ahead_of f (some g) = cond (ahead g f) g f

-- "On one line the leftmost fault is told"
unfoldable pub leftmost : List Fault → Option Fault
leftmost [] = none
leftmost (f ∷ fs) = some (ahead_of f (leftmost fs))
