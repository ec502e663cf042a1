-- A line that is a header has the bytes of its marker, six at least.
use Prim.Native.Nat.{ℕ, ◌+◌, ◌≤◌}
use native.Mathlib.Omega.{arith}
use mathlib.Core.Bool.{Bool, true, false, cond, true≢false}
use mathlib.Core.List.{List, [], ◌∷◌, ◌++◌}
use mathlib.Core.Option.{Option, none, some}
use mathlib.Core.Path.{◌≡◌, refl, sym}
use lib.ListN.{length}
use lib.Dec.{eqb, leb}
use Rattle.rules.specs.Limits.{longest_line}
use Rattle.rules.specs.Text.{bytes, space, same_text, Field, starts_field, widen_field, add_to_fields, fields_from, fields_of, number_of, legal_front}
use Rattle.rules.specs.Line.{Row, headers, row_in, row_of, marker_in, marker_of, Held, value, wrong, read_field, read_field_over, Fitted, fits, misfit, in_front, fit, fit_over, said, read_as, read_as_over, header_shape, header_shape_in, row_at, first_text, shape_for, say_fields, say_fields_over, line_of, line_over, fault, fault_in, within, test_bytes, line_answer, line_answer_over}
use Rattle.rules.specs.declared.line.FaultKind.TheVariants.{IllegalByte, BadMarker}
use Rattle.rules.specs.declared.line.Kind.{Kind}
use Rattle.rules.specs.declared.line.Kind.TheVariants.{Marker}
use Rattle.rules.specs.declared.line.Expected.TheVariants.{AnyHeader}
use Rattle.rules.specs.declared.line.LineAnswer.{LineAnswer}
use Rattle.rules.specs.declared.line.LineAnswer.TheVariants.{Bad, Blank, Head, Opening, Closing, Code, Entered, Mentioned, Ignored, Parameter, Sub}
use Rattle.rules.proofs.TestLaws.{Every, and_right}
use Rattle.rules.proofs.BoolLaws.{cond_cases}

-- ---- the bytes of a line's fields

-- how many they are, without the spaces between
unfoldable text_bytes : List Field → ℕ
text_bytes [] = 0
text_bytes (f ∷ fs) = length f.text + text_bytes fs

widened : (c b : ℕ) (fs : List Field) (n : ℕ) → text_bytes fs ≤ n → text_bytes (widen_field c b fs) ≤ n + 1
unfolding text_bytes widen_field
widened c b [] n h = omega arith
widened c b (f ∷ fs) n h = omega arith

added : (c b : ℕ) (more : Bool) (fs : List Field) (n : ℕ) → text_bytes fs ≤ n → text_bytes (add_to_fields c b more fs) ≤ n + 1
unfolding add_to_fields text_bytes
added c b more fs n h =
    elim (eqb b space) as (λ t. text_bytes (cond t fs (cond more (widen_field c b fs) (record { column = c; text = b ∷ [] } ∷ fs))) ≤ n + 1) [
      | true ↦ omega arith
      | false ↦
          elim more as (λ t. text_bytes (cond t (widen_field c b fs) (record { column = c; text = b ∷ [] } ∷ fs)) ≤ n + 1)
          [ true ↦ widened c b fs n h | false ↦ omega arith ]
    ]

in_the_line : (c : ℕ) (line : List ℕ) → text_bytes (fields_from c line) ≤ length line
unfolding fields_from text_bytes
in_the_line c [] = omega arith
in_the_line c (b ∷ rest) = omega (arith, added c b (starts_field rest) (fields_from (c + 1) rest) (length rest) (in_the_line (c + 1) rest))

-- ---- the marker among them

same_long : (a b : List ℕ) → same_text a b ≡ true → length a ≡ length b
unfolding same_text
same_long [] [] e = refl
same_long [] (y ∷ b) e = absurd (true≢false (sym e))
same_long (x ∷ a) [] e = absurd (true≢false (sym e))
same_long (x ∷ a) (y ∷ b) e = omega (arith, same_long a b (and_right (eqb x y) _ e))

-- where fields of n bytes fit, they are six bytes or more
abbrev Marked : ℕ → Fitted → Type 0
Marked n (fits vs) = 6 ≤ n
Marked n (misfit f) = Unit {0}

module _ (c end : ℕ) (long : 6 ≤ length (marker_of c)) where
  marker_in_front : (at : ℕ) (text : List ℕ) (n : ℕ) (r : Fitted) → Marked (length text + n) (in_front at (read_field (Marker c) text) r)
  unfolding in_front read_field_over
  marker_in_front at text n r = go (same_text text (marker_of c)) refl r
    where
      go : (t : Bool) → same_text text (marker_of c) ≡ t → (r : Fitted) → Marked (length text + n) (in_front at (cond t (value 0) (wrong BadMarker)) r)
      go true e (fits vs) = omega (arith, long, same_long text (marker_of c) e)
      go true e (misfit f) = tt
      go false e r = tt

  field_in_front : (at : ℕ) (h : Held) (n m : ℕ) (r : Fitted) → Marked n r → Marked (m + n) (in_front at h r)
  unfolding in_front
  field_in_front at (wrong k) n m r h = tt
  field_in_front at (value v) n m (misfit f) h = tt
  field_in_front at (value v) n m (fits vs) h = omega arith

  marker_fits : (ks : List Kind) (fs : List Field) → Marked (text_bytes fs) (fit end (ks ++ (Marker c ∷ [])) fs)
  unfolding fit_over text_bytes
  marker_fits [] [] = tt
  marker_fits [] (f ∷ fs) = marker_in_front f.column f.text (text_bytes fs) (fit end [] fs)
  marker_fits (k ∷ ks) [] = tt
  marker_fits (k ∷ ks) (f ∷ fs) =
      field_in_front f.column (read_field k f.text) (text_bytes fs) (length f.text) (fit end (ks ++ (Marker c ∷ [])) fs) (marker_fits ks fs)

-- ---- the header

-- a line of n bytes that says a header is long enough
abbrev pub Long : ℕ → LineAnswer → Type 0
Long n (Bad f) = Unit {0}
Long n Blank = Unit {0}
Long n (Head h) = 6 ≤ n
Long n (Opening t) = Unit {0}
Long n (Closing t) = Unit {0}
Long n (Code w) = Unit {0}
Long n (Entered e) = Unit {0}
Long n (Mentioned x) = Unit {0}
Long n Ignored = Unit {0}
Long n (Parameter s) = Unit {0}
Long n Sub = Unit {0}

-- the marker of a row, and of a row that was found, has six bytes or more
abbrev RowLong : Row → Type 0
RowLong r = 6 ≤ length (marker_of r.code)

abbrev FoundLong : Option Row → Type 0
FoundLong none = Unit {0}
FoundLong (some r) = RowLong r

row_in_lem : (rs : List Row) → Every RowLong rs → (c : ℕ) → FoundLong (row_in rs c)
unfolding row_in
row_in_lem [] h c = tt
row_in_lem (r ∷ rs) h c = elim (eqb r.code c) as (λ t. FoundLong (cond t (some r) (row_in rs c))) [ true ↦ h.0 | false ↦ row_in_lem rs h.1 c ]

headers_long : Every RowLong headers
unfolding headers row_of row_in marker_in bytes
headers_long = (omega arith, (omega arith, (omega arith, (omega arith, (omega arith, (omega arith, (omega arith, (omega arith, (omega arith, (omega arith, (omega arith, tt)))))))))))

row_at_lem : (o : Option ℕ) → FoundLong (row_at o)
unfolding row_at row_of
row_at_lem none = tt
row_at_lem (some c) = row_in_lem headers headers_long c

module _ (n end : ℕ) where
  shape_says : (r : Row) (f : Field) (fs : List Field) → RowLong r → text_bytes (f ∷ fs) ≤ n → Long n (read_as (header_shape r) end (f ∷ fs))
  unfolding read_as_over said fit_over text_bytes
  shape_says r f fs h l =
      go
      (fit end (header_shape r).kinds (f ∷ fs))
      (field_in_front r.code end h f.column (read_field _ f.text) (text_bytes fs) (length f.text) _ (marker_fits r.code end h r.fields fs))
    where
      go : (x : Fitted) → Marked (text_bytes (f ∷ fs)) x → Long n (said (header_shape r).says x)
      go (fits vs) m = omega arith
      go (misfit f) m = tt

  header_says : (fs : List Field) (r : Option Row) → FoundLong r → text_bytes fs ≤ n → Long n (say_fields end fs (header_shape_in r))
  unfolding say_fields_over header_shape_in
  header_says [] r h l = tt
  header_says (f ∷ fs) none h l = tt
  header_says (f ∷ fs) (some r) h l = shape_says r f fs h l

  fields_long : (fs : List Field) → text_bytes fs ≤ n → Long n (line_of AnyHeader end fs)
  unfolding line_over shape_for
  fields_long fs l = header_says fs _ (row_at_lem (number_of (first_text fs))) l

tested : (n front size : ℕ) (a : LineAnswer) → Long n a → Long n (test_bytes front size a)
unfolding test_bytes
tested n front size a h =
    let illegal = Bad (fault IllegalByte (front + 1)) in
    cond_cases (Long n) (leb size front) a (cond (within front (fault_in a)) a illegal) (λ _. h)
    (λ _. cond_cases (Long n) (within front (fault_in a)) a illegal (λ _. h) (λ _. tt))

-- a line of which a header is expected, and which is one, has six bytes
pub header_long : (line : List ℕ) → Long (length line) (line_answer AnyHeader line)
unfolding line_answer_over fields_of
header_long line =
    let n = length line in
    tested n (legal_front longest_line line) n _ (fields_long n (n + 1) (fields_from 1 line) (in_the_line 1 line))
