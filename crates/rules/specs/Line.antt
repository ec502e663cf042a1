-- Document 01, "The lines": what a line says, by what is expected of it, or its fault.
use Rattle.std.specs.Prelude.{ℕ, ◌+◌, ◌*◌, Bool, true, false, cond, List, [], ◌∷◌, ◌++◌, length, get_or, eqb, leb}
use Rattle.std.proofs.Math.Option.{Option, none, some}
use Prim.Native.String.{String}
use Rattle.rules.specs.Limits.{longest_line, largest_number, most_sub_records}
use Rattle.rules.specs.Text.{bytes, same_text, Field, fields_of, number_of, Alphabet, is_name_character, name_over, legal_front, between}
use Rattle.rules.specs.declared.line.FaultKind.{FaultKind}
use Rattle.rules.specs.declared.line.FaultKind.TheVariants.{IllegalByte, BadMarker, FieldCount, BadNumber, BadName, BadType}
use Rattle.rules.specs.declared.line.Fault.{Fault}
use Rattle.rules.specs.declared.line.Kind.{Kind}
use Rattle.rules.specs.declared.line.Kind.TheVariants.{Number, Name, Anything, Marker}
use Rattle.rules.specs.declared.line.Relocation.{Relocation}
use Rattle.rules.specs.declared.line.Relocation.TheVariants.{Plain, External, Unread}
use Rattle.rules.specs.declared.line.CodeWord.{CodeWord}
use Rattle.rules.specs.declared.line.Entry.{Entry}
use Rattle.rules.specs.declared.line.Header.{Header}
use Rattle.rules.specs.declared.line.Header.TheVariants.{CodeBlock, EndBlock, TitleBlock, EntryBlock, ExternalBlock, LibraryStart, LibraryEnd, DataBlock, InitBlock, ParameterBlock}
use Rattle.rules.specs.declared.line.Expected.{Expected}
use Rattle.rules.specs.declared.line.Expected.TheVariants.{AnyHeader, OpeningTitle, ClosingTitle, CodeRecord, EntryRecord, ExternalRecord, DataRecord, InitRecord, ParameterRecord, SubRecord}
use Rattle.rules.specs.declared.line.LineAnswer.{LineAnswer}
use Rattle.rules.specs.declared.line.LineAnswer.TheVariants.{Bad, Blank, Head, Opening, Closing, Code, Entered, Mentioned, Ignored, Parameter, Sub}

-- ---- the table of headers

-- what stands in a field of a shape that was fitted: a number's value or a packed name, 0 for any other kind
abbrev pub nth : List ℕ → ℕ → ℕ
nth vs k = get_or vs k 0

abbrev pub number : Kind
number = Number 0 largest_number BadNumber

-- a row: the code, the fields between code and marker, the marker, and what the header says; field 0 is the code
pub record Row : Type 0 where
  pub code : ℕ
  pub fields : List Kind
  pub marker : List ℕ
  pub says : List ℕ → Header

abbrev pub row : ℕ → List Kind → String → (List ℕ → Header) → Row
row c ks m h = record { code = c; fields = ks; marker = bytes m; says = h }

-- "A header is a code (a number like any other, so `010` is code 10), its fields and the marker, in that order"
unfoldable pub headers : List Row
headers =
    row 0o0 (number ∷ number ∷ []) "***CODE" (λ v. CodeBlock (nth v 1) (nth v 2))
    ∷ row 0o1 [] "***END" (λ v. EndBlock)
    ∷ row 0o3 [] "***TITLE" (λ v. TitleBlock)
    ∷ row 0o4 (number ∷ []) "***ENTRY" (λ v. EntryBlock (nth v 1))
    ∷ row 0o5 (number ∷ []) "***EXT" (λ v. ExternalBlock (nth v 1))
    ∷ row 0o6 [] "***LSB" (λ v. LibraryStart)
    ∷ row 0o7 [] "***LEB" (λ v. LibraryEnd)
    ∷ row 0o10 (number ∷ Name ∷ number ∷ []) "***DBDB" (λ v. DataBlock (nth v 1))
    ∷ row 0o11 (number ∷ []) "***DBIB" (λ v. InitBlock (nth v 1))
    ∷ row 0o12 (number ∷ []) "***FPB" (λ v. ParameterBlock (nth v 1))
    ∷ row 0o13 (number ∷ []) "***AENTRY" (λ v. EntryBlock (nth v 1))
    ∷ []

-- the row with a code
unfoldable pub row_in : List Row → ℕ → Option Row
row_in [] c = none
row_in (r ∷ rs) c = let rest = row_in rs c in cond (eqb r.code c) (some r) rest

unfoldable pub row_of : ℕ → Option Row
row_of c = row_in headers c

-- the marker of a block, nothing where there is no such block
unfoldable pub marker_in : Option Row → List ℕ
marker_in none = []
marker_in (some r) = r.marker

abbrev pub marker_of : ℕ → List ℕ
marker_of c = marker_in (row_of c)

-- ---- fields against the kinds that they have to be

-- a field that is of its kind, with its value, or is not, with the fault
pub data Held : Type 0 where
  value : ℕ → Held
  wrong : FaultKind → Held

unfoldable pub held : FaultKind → Option ℕ → Held
held k none = wrong k
held k (some v) = value v

unfoldable pub in_bounds : ℕ → ℕ → FaultKind → Held → Held
in_bounds low high k (value v) = cond (between low high v) (value v) (wrong k)
in_bounds low high k (wrong j) = wrong j

-- the values of a line's fields, or its leftmost fault among the fields
pub data Fitted : Type 0 where
  fits : List ℕ → Fitted
  misfit : Fault → Fitted

abbrev pub fault : FaultKind → ℕ → Fault
fault k c = record { kind = k; column = c }

-- one field in front of those that are fitted
unfoldable pub in_front : ℕ → Held → Fitted → Fitted
in_front c (wrong k) rest = misfit (fault k c)
in_front c (value v) (misfit f) = misfit f
in_front c (value v) (fits vs) = fits (v ∷ vs)

-- a shape of lines: the kinds of their fields, and what a line says by the fields' values
pub record Shape : Type 0 where
  pub kinds : List Kind
  pub says : List ℕ → LineAnswer

abbrev pub shape : List Kind → (List ℕ → LineAnswer) → Shape
shape ks f = record { kinds = ks; says = f }

unfoldable pub said : (List ℕ → LineAnswer) → Fitted → LineAnswer
said answer (fits vs) = answer vs
said answer (misfit f) = Bad f

module _ (alphabet : Alphabet) where
  -- a field, held to the kind at its place
  unfoldable pub read_field_over : Kind → List ℕ → Held
  read_field_over (Number low high k) f = in_bounds low high k (held BadNumber (number_of f))
  read_field_over Name f = held BadName (name_over alphabet f)
  read_field_over Anything f = value 0
  read_field_over (Marker c) f = cond (same_text f (marker_of c)) (value 0) (wrong BadMarker)

  -- a field too many is told at its column, a field too few one past the line's last byte
  unfoldable pub fit_over : ℕ → List Kind → List Field → Fitted
  fit_over end [] [] = fits []
  fit_over end [] (f ∷ fs) = misfit (fault FieldCount f.column)
  fit_over end (k ∷ ks) [] = misfit (fault FieldCount end)
  fit_over end (k ∷ ks) (f ∷ fs) = in_front f.column (read_field_over k f.text) (fit_over end ks fs)

  -- what a line of a shape says, or its leftmost fault
  unfoldable pub read_as_over : Shape → ℕ → List Field → LineAnswer
  read_as_over s end fs = said s.says (fit_over end s.kinds fs)

-- ---- headers

-- the code, which has chosen the row, the row's fields, the marker
abbrev pub header_shape : Row → Shape
header_shape r = shape (Anything ∷ r.fields ++ (Marker r.code ∷ [])) (λ v. Head (r.says v))

-- none where the code is unknown or no number
unfoldable pub header_shape_in : Option Row → Option Shape
header_shape_in none = none
header_shape_in (some r) = some (header_shape r)

unfoldable pub row_at : Option ℕ → Option Row
row_at none = none
row_at (some c) = row_of c

-- the first field
unfoldable pub first_text : List Field → List ℕ
first_text [] = []
first_text (f ∷ fs) = f.text

-- ---- data records

-- four quarters as one word, the first highest
abbrev pub word_of : ℕ → ℕ → ℕ → ℕ → ℕ
word_of a b c d = ((a * 65536 + b) * 65536 + c) * 65536 + d

abbrev pub code_word : ℕ → Relocation → CodeWord
code_word t r = record { text = t; relocation = r }

-- "Type 5 is an external [..] Types 1 to 4 leave the word as written"
abbrev pub external_type : ℕ
external_type = 5

abbrev pub relocation_of : ℕ → ℕ → Relocation
relocation_of type arg = cond (eqb type external_type) (External arg) (Unread type)

abbrev pub entry : ℕ → ℕ → Bool → ℕ → Entry
entry n v r p = record { name = n; value = v; relocated = r; parameters = p }

-- the records that stand under the headers: a code record and an entry record have two shapes each
pub data Record : Type 0 where
  plain_code linked_code absolute_entry relocated_entry external opening_title closing_title data_record init_record parameter_record sub_record : Record

-- "Data records", in document 01's table: what each has to be, and what it says
unfoldable pub record_shape : Record → Shape
record_shape plain_code =
    shape
    (number ∷ number ∷ number ∷ number ∷ [])
    (λ v. Code (code_word (word_of (nth v 0) (nth v 1) (nth v 2) (nth v 3)) Plain))
record_shape linked_code =
    shape
    (Anything ∷ number ∷ number ∷ number ∷ number ∷ Number 0 0 BadType ∷ Number 1 external_type BadType ∷ number ∷ [])
    (λ v. Code (code_word (word_of (nth v 1) (nth v 2) (nth v 3) (nth v 4)) (relocation_of (nth v 6) (nth v 7))))
record_shape absolute_entry = shape (Name ∷ number ∷ Number 0 1 BadType ∷ []) (λ v. Entered (entry (nth v 0) (nth v 1) false 0))
record_shape relocated_entry =
    shape (Name ∷ number ∷ Number 0 1 BadType ∷ number ∷ []) (λ v. Entered (entry (nth v 0) (nth v 1) true (nth v 3)))
record_shape external = shape (Name ∷ []) (λ v. Mentioned (nth v 0))
record_shape opening_title = shape (Name ∷ []) (λ v. Opening (nth v 0))
record_shape closing_title = shape (Name ∷ []) (λ v. Closing (nth v 0))
record_shape data_record = shape (number ∷ number ∷ []) (λ v. Ignored)
record_shape init_record = shape (Anything ∷ Anything ∷ Anything ∷ Anything ∷ Anything ∷ []) (λ v. Ignored)
record_shape parameter_record = shape (number ∷ number ∷ Number 0 most_sub_records BadNumber ∷ []) (λ v. Parameter (nth v 2))
record_shape sub_record = shape (number ∷ number ∷ []) (λ v. Sub)

-- is the first field an asterisk
abbrev pub starred : List Field → Bool
starred fs = same_text (first_text fs) (42 ∷ [])

-- "A code record is four numbers, the quarters; or an asterisk field, four quarters, then 0, type and arg."
unfoldable pub code_shape : List Field → Shape
code_shape fs = record_shape (cond (starred fs) linked_code plain_code)

unfoldable pub is_one : Option ℕ → Bool
is_one none = false
is_one (some n) = eqb n 1

-- the text of field k, nothing past the last
unfoldable pub text_at : List Field → ℕ → List ℕ
text_at fs k = (get_or fs k (record { column = 0; text = [] })).text

-- "symbol value 0, or symbol value 1 paramnum"
unfoldable pub entry_shape : List Field → Shape
entry_shape fs = record_shape (cond (is_one (number_of (text_at fs 2))) relocated_entry absolute_entry)

-- ---- the whole line

-- what the fields of a line have to be, by what is expected
unfoldable pub shape_for : Expected → List Field → Option Shape
shape_for AnyHeader fs = header_shape_in (row_at (number_of (first_text fs)))
shape_for OpeningTitle fs = some (record_shape opening_title)
shape_for ClosingTitle fs = some (record_shape closing_title)
shape_for CodeRecord fs = some (code_shape fs)
shape_for EntryRecord fs = some (entry_shape fs)
shape_for ExternalRecord fs = some (record_shape external)
shape_for DataRecord fs = some (record_shape data_record)
shape_for InitRecord fs = some (record_shape init_record)
shape_for ParameterRecord fs = some (record_shape parameter_record)
shape_for SubRecord fs = some (record_shape sub_record)

-- the fault that is told, if any
unfoldable pub fault_in : LineAnswer → Option Fault
fault_in (Bad f) = some f
fault_in Blank = none
fault_in (Head h) = none
fault_in (Opening t) = none
fault_in (Closing t) = none
fault_in (Code w) = none
fault_in (Entered e) = none
fault_in (Mentioned x) = none
fault_in Ignored = none
fault_in (Parameter s) = none
fault_in Sub = none

-- does it stand within the first n columns
unfoldable pub within : ℕ → Option Fault → Bool
within n none = false
within n (some f) = leb f.column n

-- the first illegal byte, or the 81st, counts among the line's faults, of which the leftmost is told
unfoldable pub test_bytes : ℕ → ℕ → LineAnswer → LineAnswer
test_bytes front size answer =
    cond (leb size front) answer (cond (within front (fault_in answer)) answer (Bad (fault IllegalByte (front + 1))))

module _ (alphabet : Alphabet) where
  -- "A line with no field is skipped but counted"; a code that is unknown or no number is a fault of its own
  unfoldable pub say_fields_over : ℕ → List Field → Option Shape → LineAnswer
  say_fields_over end [] s = Blank
  say_fields_over end (f ∷ fs) none = Bad (fault BadMarker f.column)
  say_fields_over end (f ∷ fs) (some s) = read_as_over alphabet s end (f ∷ fs)

  unfoldable pub line_over : Expected → ℕ → List Field → LineAnswer
  line_over w end fs = say_fields_over end fs (shape_for w fs)

  -- what a line says, given what is expected of it
  unfoldable pub line_answer_over : Expected → List ℕ → LineAnswer
  line_answer_over w line = test_bytes (legal_front longest_line line) (length line) (line_over w (length line + 1) (fields_of line))

-- ---- by the rules' own alphabet

abbrev pub read_field : Kind → List ℕ → Held
read_field = read_field_over is_name_character

abbrev pub fit : ℕ → List Kind → List Field → Fitted
fit = fit_over is_name_character

abbrev pub read_as : Shape → ℕ → List Field → LineAnswer
read_as = read_as_over is_name_character

abbrev pub say_fields : ℕ → List Field → Option Shape → LineAnswer
say_fields = say_fields_over is_name_character

abbrev pub line_of : Expected → ℕ → List Field → LineAnswer
line_of = line_over is_name_character

abbrev pub line_answer : Expected → List ℕ → LineAnswer
line_answer = line_answer_over is_name_character
