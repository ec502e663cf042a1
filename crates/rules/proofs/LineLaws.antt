-- Laws of lines (specs/Line.antt): which answers a line can give, by what was expected of it, and within which bounds.
use Prim.Native.Nat.{ℕ, zero, suc, ◌+◌, ◌^◌, ◌<◌, ◌≤◌}
use mathlib.Core.Bool.{Bool, true, false, cond, ◌&&◌, ◌||◌}
use mathlib.Core.List.{List, [], ◌∷◌, ◌++◌}
use mathlib.Core.Option.{Option, none, some}
use mathlib.Core.Path.{◌≡◌, refl}
use native.Mathlib.Omega.{arith}
use lib.ListN.{length, get_or}
use lib.Dec.{eqb, leb, ltb}
use borrow.Author.Tests.{leb-true, le-leb, lt-ltb, ltb-true, eqb-false}
use Rattle.rules.specs.Text.{Field, fields_of, number_of, name_of, between, is_packed, same_text}
use Rattle.rules.specs.Line.{nth, Row, headers, row_in, row_of, Held, value, wrong, held, in_bounds, read_field, read_field_over, Fitted, fits, misfit, in_front, fit, fit_over, Shape, said, read_as, read_as_over, header_shape_in, row_at, first_text, marker_of, word_of, relocation_of, Record, linked_code, plain_code, relocated_entry, absolute_entry, record_shape, starred, code_shape, is_one, text_at, entry_shape, shape_for, say_fields, say_fields_over, line_over, fault_in, within, test_bytes, line_answer, line_answer_over}
use Rattle.rules.specs.declared.line.FaultKind.{FaultKind}
use Rattle.rules.specs.declared.line.FaultKind.TheVariants.{BadMarker, BadName}
use Rattle.rules.specs.declared.line.Fault.{Fault}
use Rattle.rules.specs.declared.line.Kind.{Kind}
use Rattle.rules.specs.declared.line.Kind.TheVariants.{Number, Name, Anything, Marker}
use Rattle.rules.specs.declared.line.Relocation.{Relocation}
use Rattle.rules.specs.declared.line.Relocation.TheVariants.{Plain, External, Unread}
use Rattle.rules.specs.declared.line.CodeWord.{CodeWord}
use Rattle.rules.specs.declared.line.Entry.{Entry}
use Rattle.rules.specs.declared.line.Header.{Header}
use Rattle.rules.specs.declared.line.Header.TheVariants.{CodeBlock, EndBlock, TitleBlock, EntryBlock, ExternalBlock, LibraryStart, LibraryEnd, DataBlock, InitBlock, ParameterBlock}
use Rattle.rules.specs.declared.line.Expected.{Expected}
use Rattle.rules.specs.declared.line.Expected.TheVariants.{AnyHeader, OpeningTitle, ClosingTitle, CodeRecord, EntryRecord, ExternalRecord, DataRecord, InitRecord, ParameterRecord, SubRecord}
use Rattle.rules.specs.declared.line.LineAnswer.{LineAnswer}
use Rattle.rules.specs.declared.line.LineAnswer.TheVariants.{Bad, Blank, Head, Opening, Closing, Code, Entered, Mentioned, Ignored, Parameter, Sub}
use Rattle.rules.proofs.TestLaws.{and_intro, and_left, and_right, between_intro, between_low, between_high}
use Rattle.rules.proofs.BoolLaws.{cond_cases}
use Rattle.rules.proofs.NameLaws.{name_legal}

-- ---- the tests

-- the bounds of what a line can say
unfoldable pub legal_entry : Entry → Bool
legal_entry e = is_packed e.name && (leb e.value 65535 && leb e.parameters 65535)

unfoldable pub legal_relocation : Relocation → Bool
legal_relocation Plain = true
legal_relocation (External k) = leb k 65535
legal_relocation (Unread type) = between 1 4 type

unfoldable pub legal_word : CodeWord → Bool
legal_word w = ltb w.text (2 ^ 64) && legal_relocation w.relocation

unfoldable pub legal_header : Header → Bool
legal_header (CodeBlock count offset) = leb count 65535 && leb offset 65535
legal_header EndBlock = true
legal_header TitleBlock = true
legal_header (EntryBlock count) = leb count 65535
legal_header (ExternalBlock count) = leb count 65535
legal_header LibraryStart = true
legal_header LibraryEnd = true
legal_header (DataBlock count) = leb count 65535
legal_header (InitBlock count) = leb count 65535
legal_header (ParameterBlock count) = leb count 65535

unfoldable pub legal_answer : LineAnswer → Bool
legal_answer (Bad f) = true
legal_answer Blank = true
legal_answer (Head h) = legal_header h
legal_answer (Opening t) = is_packed t
legal_answer (Closing t) = is_packed t
legal_answer (Code w) = legal_word w
legal_answer (Entered e) = legal_entry e
legal_answer (Mentioned x) = is_packed x
legal_answer Ignored = true
legal_answer (Parameter size) = leb size 7
legal_answer Sub = true

-- what can be expected, numbered
unfoldable pub expected_number : Expected → ℕ
expected_number AnyHeader = 0
expected_number OpeningTitle = 1
expected_number ClosingTitle = 2
expected_number CodeRecord = 3
expected_number EntryRecord = 4
expected_number ExternalRecord = 5
expected_number DataRecord = 6
expected_number InitRecord = 7
expected_number ParameterRecord = 8
expected_number SubRecord = 9

unfoldable pub is_expected : Expected → Expected → Bool
is_expected v w = eqb (expected_number v) (expected_number w)

-- which answers can come where w is expected
unfoldable pub fits_expected : Expected → LineAnswer → Bool
fits_expected w (Bad f) = true
fits_expected w Blank = true
fits_expected w (Head h) = is_expected AnyHeader w
fits_expected w (Opening t) = is_expected OpeningTitle w
fits_expected w (Closing t) = is_expected ClosingTitle w
fits_expected w (Code c) = is_expected CodeRecord w
fits_expected w (Entered e) = is_expected EntryRecord w
fits_expected w (Mentioned x) = is_expected ExternalRecord w
fits_expected w Ignored = is_expected DataRecord w || is_expected InitRecord w
fits_expected w (Parameter size) = is_expected ParameterRecord w
fits_expected w Sub = is_expected SubRecord w

-- both at once, to be taken apart by cases: the answers that a line can give where w is expected
pub data CanSay : Expected → LineAnswer → Type 0 where
  bad : {w : Expected} {f : Fault} → CanSay w (Bad f)
  blank : {w : Expected} → CanSay w Blank
  head : {h : Header} → legal_header h ≡ true → CanSay AnyHeader (Head h)
  opening : {t : ℕ} → is_packed t ≡ true → CanSay OpeningTitle (Opening t)
  closing : {t : ℕ} → is_packed t ≡ true → CanSay ClosingTitle (Closing t)
  coded : {c : CodeWord} → legal_word c ≡ true → CanSay CodeRecord (Code c)
  entered : {e : Entry} → legal_entry e ≡ true → CanSay EntryRecord (Entered e)
  mentioned : {x : ℕ} → is_packed x ≡ true → CanSay ExternalRecord (Mentioned x)
  data_read : CanSay DataRecord Ignored
  init_read : CanSay InitRecord Ignored
  parameter : {size : ℕ} → leb size 7 ≡ true → CanSay ParameterRecord (Parameter size)
  sub : CanSay SubRecord Sub

-- ---- fields

-- a value that a field of kind k can have
abbrev Holds : Kind → ℕ → Type 0
Holds (Number low high k) v = (low ≤ v) × (v ≤ high)
Holds Name v = is_packed v ≡ true
Holds Anything v = v ≡ 0
Holds (Marker c) v = v ≡ 0

abbrev HoldsIn : Kind → Held → Type 0
HoldsIn k (value v) = Holds k v
HoldsIn k (wrong j) = Unit {0}

abbrev HoldAll : List Kind → List ℕ → Type 0
HoldAll [] [] = Unit {0}
HoldAll [] (v ∷ vs) = ⊥
HoldAll (k ∷ ks) [] = ⊥
HoldAll (k ∷ ks) (v ∷ vs) = Holds k v × HoldAll ks vs

abbrev FitsIn : List Kind → Fitted → Type 0
FitsIn ks (fits vs) = HoldAll ks vs
FitsIn ks (misfit f) = Unit {0}

in_bounds_lem : (low high : ℕ) (j : FaultKind) (h : Held) → HoldsIn (Number low high j) (in_bounds low high j h)
unfolding in_bounds
in_bounds_lem low high j (value v) = go (between low high v) refl
  where
    go : (t : Bool) → between low high v ≡ t → HoldsIn (Number low high j) (cond t (value v) (wrong j))
    go true e = (between_low low high v e, between_high low high v e)
    go false e = tt
in_bounds_lem low high j (wrong k) = tt

read_field_lem : (k : Kind) (f : List ℕ) → HoldsIn k (read_field k f)
unfolding read_field_over held
read_field_lem (Number low high j) f = in_bounds_lem low high j _
read_field_lem Name f = go (name_of f) refl
  where
    go : (o : Option ℕ) → name_of f ≡ o → HoldsIn Name (held BadName o)
    go none e = tt
    go (some x) e = name_legal f x e
read_field_lem Anything f = refl
read_field_lem (Marker c) f = elim (same_text f (marker_of c)) as (λ t. HoldsIn (Marker c) (cond t (value 0) (wrong BadMarker))) [ true ↦ refl | false ↦ tt ]

in_front_lem : (c : ℕ) (k : Kind) (ks : List Kind) (h : Held) (r : Fitted) → HoldsIn k h → FitsIn ks r → FitsIn (k ∷ ks) (in_front c h r)
unfolding in_front
in_front_lem c k ks (wrong j) r p q = tt
in_front_lem c k ks (value v) (misfit f) p q = tt
in_front_lem c k ks (value v) (fits vs) p q = (p, q)

fit_holds : (end : ℕ) (ks : List Kind) (fs : List Field) → FitsIn ks (fit end ks fs)
unfolding fit_over
fit_holds end [] [] = tt
fit_holds end [] (f ∷ fs) = tt
fit_holds end (k ∷ ks) [] = tt
fit_holds end (k ∷ ks) (f ∷ fs) =
    in_front_lem f.column k ks (read_field k f.text) (fit end ks fs) (read_field_lem k f.text) (fit_holds end ks fs)

-- the value of each field is one of its kind
abbrev Values : List Kind → List ℕ → Type 0
Values ks vs = (i : ℕ) → Holds (get_or ks i Anything) (nth vs i)

values : (ks : List Kind) (vs : List ℕ) → HoldAll ks vs → Values ks vs
values [] [] h i = refl
values [] (v ∷ vs) h i = absurd h
values (k ∷ ks) [] h i = absurd h
values (k ∷ ks) (v ∷ vs) h zero = h.0
values (k ∷ ks) (v ∷ vs) h (suc i) = values ks vs h.1 i

-- what can be said of all values of a shape's kinds
abbrev Tells : Expected → Shape → Type 0
Tells w s = ((vs : List ℕ) → Values s.kinds vs → CanSay w (s.says vs))

-- then a line of the shape says what can be said
shape_told : (w : Expected) (s : Shape) → Tells w s → (end : ℕ) (fs : List Field) → CanSay w (read_as s end fs)
unfolding read_as_over said
shape_told w s tells end fs = go (fit end s.kinds fs) (fit_holds end s.kinds fs)
  where
    go : (r : Fitted) → FitsIn s.kinds r → CanSay w (said s.says r)
    go (fits vs) h = tells vs (values s.kinds vs h)
    go (misfit f) h = bad

-- the value of a number field, as a test
bounded : {low high v : ℕ} → (low ≤ v) × (v ≤ high) → leb v high ≡ true
bounded {low} {high} {v} h = le-leb v high h.1

-- ---- headers

-- what a row of the table says is legal
abbrev RowLegal : Row → Type 0
RowLegal r = (vs : List ℕ) → Values (Anything ∷ r.fields ++ (Marker r.code ∷ [])) vs → legal_header (r.says vs) ≡ true

infixr 20 ◌also◌
data RowsLegal : List Row → Type 0 where
  none_left : RowsLegal []
  ◌also◌ : {r : Row} {rs : List Row} → RowLegal r → RowsLegal rs → RowsLegal (r ∷ rs)

abbrev FoundLegal : Option Row → Type 0
FoundLegal none = Unit {0}
FoundLegal (some r) = RowLegal r

row_in_lem : {rs : List Row} → RowsLegal rs → (c : ℕ) → FoundLegal (row_in rs c)
unfolding row_in
row_in_lem none_left c = tt
row_in_lem (◌also◌ {r} {rs} h t) c =
    elim (eqb r.code c) as (λ t. FoundLegal (cond t (some r) (row_in rs c))) [ true ↦ h | false ↦ row_in_lem t c ]

headers_legal : RowsLegal headers
unfolding headers legal_header
headers_legal =
    (λ vs at. and_intro (bounded (at 1)) (bounded (at 2)))
    also (λ vs at. refl)
    also (λ vs at. refl)
    also (λ vs at. bounded (at 1))
    also (λ vs at. bounded (at 1))
    also (λ vs at. refl)
    also (λ vs at. refl)
    also (λ vs at. bounded (at 1))
    also (λ vs at. bounded (at 1))
    also (λ vs at. bounded (at 1))
    also (λ vs at. bounded (at 1))
    also none_left

row_at_lem : (o : Option ℕ) → FoundLegal (row_at o)
unfolding row_at row_of
row_at_lem none = tt
row_at_lem (some c) = row_in_lem headers_legal c

-- a shape, if there is one
abbrev TellsIn : Expected → Option Shape → Type 0
TellsIn w none = Unit {0}
TellsIn w (some s) = Tells w s

header_told : (r : Option Row) → FoundLegal r → TellsIn AnyHeader (header_shape_in r)
unfolding header_shape_in
header_told none h = tt
header_told (some r) h = λ vs at. head (h vs at)

-- ---- data records

-- four quarters make a word
word_bound : {a b c d : ℕ} → a ≤ 65535 → b ≤ 65535 → c ≤ 65535 → d ≤ 65535 → ltb (word_of a b c d) (2 ^ 64) ≡ true
word_bound {a} {b} {c} {d} ha hb hc hd = lt-ltb (word_of a b c d) (2 ^ 64) (omega arith)

relocation_legal : (type arg : ℕ) → (1 ≤ type) × (type ≤ 5) → leb arg 65535 ≡ true → legal_relocation (relocation_of type arg) ≡ true
unfolding legal_relocation
relocation_legal type arg l b = go (eqb type 5) refl
  where
    go : (t : Bool) → eqb type 5 ≡ t → legal_relocation (cond t (External arg) (Unread type)) ≡ true
    go true e = b
    go false e = let other = eqb-false type 5 e in between_intro 1 4 type l.0 (omega arith)

code_told : (fs : List Field) → Tells CodeRecord (code_shape fs)
unfolding code_shape record_shape legal_word legal_relocation
code_told fs =
    cond_cases (λ (r : Record). Tells CodeRecord (record_shape r)) (starred fs) linked_code plain_code
    (λ _ vs at. coded (and_intro (word_bound (at 1).1 (at 2).1 (at 3).1 (at 4).1) (relocation_legal (nth vs 6) (nth vs 7) (at 6) (bounded (at 7)))))
    (λ _ vs at. coded (and_intro (word_bound (at 0).1 (at 1).1 (at 2).1 (at 3).1) refl))

entry_told : (fs : List Field) → Tells EntryRecord (entry_shape fs)
unfolding entry_shape record_shape legal_entry
entry_told fs =
    cond_cases (λ (r : Record). Tells EntryRecord (record_shape r)) (is_one (number_of (text_at fs 2))) relocated_entry absolute_entry
    (λ _ vs at. entered (and_intro (at 0) (and_intro (bounded (at 1)) (bounded (at 3)))))
    (λ _ vs at. entered (and_intro (at 0) (and_intro (bounded (at 1)) refl)))

fields_told : (w : Expected) (fs : List Field) → TellsIn w (shape_for w fs)
unfolding shape_for record_shape
fields_told AnyHeader fs = header_told _ (row_at_lem (number_of (first_text fs)))
fields_told OpeningTitle fs = λ vs at. opening (at 0)
fields_told ClosingTitle fs = λ vs at. closing (at 0)
fields_told CodeRecord fs = code_told fs
fields_told EntryRecord fs = entry_told fs
fields_told ExternalRecord fs = λ vs at. mentioned (at 0)
fields_told DataRecord fs = λ vs at. data_read
fields_told InitRecord fs = λ vs at. init_read
fields_told ParameterRecord fs = λ vs at. parameter (bounded (at 2))
fields_told SubRecord fs = λ vs at. sub

-- ---- the whole line

say_fields_lem : (w : Expected) (end : ℕ) (fs : List Field) (s : Option Shape) → TellsIn w s → CanSay w (say_fields end fs s)
unfolding say_fields_over
say_fields_lem w end [] s h = blank
say_fields_lem w end (f ∷ fs) none h = bad
say_fields_lem w end (f ∷ fs) (some s) h = shape_told w s h end (f ∷ fs)

-- a choice between two answers that can be told
either : (w : Expected) (t : Bool) {a b : LineAnswer} → CanSay w a → CanSay w b → CanSay w (cond t a b)
either w true p q = p
either w false p q = q

tested : (w : Expected) (front size : ℕ) (a : LineAnswer) → CanSay w a → CanSay w (test_bytes front size a)
unfolding test_bytes
tested w front size a t = either w (leb size front) t (either w (within front (fault_in a)) t bad)

-- for every line, and whatever is expected of it
pub line_can_say : (w : Expected) (line : List ℕ) → CanSay w (line_answer w line)
unfolding line_answer_over line_over
line_can_say w line =
    let fs = fields_of line in
    tested w _ _ _ (say_fields_lem w (length line + 1) fs (shape_for w fs) (fields_told w fs))

-- the same as tests
pub told_tests : {w : Expected} {a : LineAnswer} → CanSay w a → (fits_expected w a && legal_answer a) ≡ true
unfolding fits_expected is_expected expected_number legal_answer
told_tests bad = refl
told_tests blank = refl
told_tests (head h) = h
told_tests (opening h) = h
told_tests (closing h) = h
told_tests (coded h) = h
told_tests (entered h) = h
told_tests (mentioned h) = h
told_tests data_read = refl
told_tests init_read = refl
told_tests (parameter h) = h
told_tests sub = refl

pub line_fits : (w : Expected) (line : List ℕ) → fits_expected w (line_answer w line) ≡ true
line_fits w line = and_left _ (legal_answer (line_answer w line)) (told_tests (line_can_say w line))

pub line_legal : (w : Expected) (line : List ℕ) → legal_answer (line_answer w line) ≡ true
line_legal w line = and_right (fits_expected w (line_answer w line)) _ (told_tests (line_can_say w line))

-- ---- what the tests mean

pub record EntryBounds (e : Entry) : Type 0 where
  pub name : is_packed e.name ≡ true
  pub value : e.value ≤ 65535
  pub parameters : e.parameters ≤ 65535

pub entry_bounds : (e : Entry) → legal_entry e ≡ true → EntryBounds e
unfolding legal_entry
entry_bounds e h =
    let numbers = and_right (is_packed e.name) _ h in
    record {
      name = and_left (is_packed e.name) _ h;
      value = leb-true e.value 65535 (and_left _ (leb e.parameters 65535) numbers);
      parameters = leb-true e.parameters 65535 (and_right (leb e.value 65535) _ numbers);
    }

pub record WordBounds (w : CodeWord) : Type 0 where
  pub text : w.text < 2 ^ 64
  pub relocation : legal_relocation w.relocation ≡ true

pub word_bounds : (w : CodeWord) → legal_word w ≡ true → WordBounds w
unfolding legal_word
word_bounds w h =
    record {
      text = ltb-true w.text (2 ^ 64) (and_left _ (legal_relocation w.relocation) h);
      relocation = and_right (ltb w.text (2 ^ 64)) _ h;
    }
