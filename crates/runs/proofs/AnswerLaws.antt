-- What a line of such fields says: each field is what its place asks for, so the line is the record that was expected.
-- Assumes nothing.
use Prim.Native.Nat.{ℕ, zero, suc, ◌+◌, ◌-◌, ◌*◌, ◌≤◌}
use native.Mathlib.Omega.{arith}
use mathlib.Core.Bool.{true, false}
use mathlib.Core.List.{List, [], ◌∷◌, ◌++◌, map, append-nil}
use mathlib.Core.Option.{some}
use mathlib.Core.Path.{◌≡◌, refl, sym, ap, subst, ◌∙◌}
use lib.ListN.{length, get_or, replicate, get_or-map}
use borrow.Author.Tests.{ne_eqb, le-leb}
use Rattle.rules.specs.Text.{all, between, same_text, is_legal, legal_front, Field, fields_of, octal, is_octal, is_number, number_of, pack_name, is_name, name_over}
use Rattle.rules.specs.Line.{number, value, held, in_bounds, read_field, read_field_over, fits, in_front, fit, fit_over, said, read_as_over, first_text, Record, plain_code, linked_code, absolute_entry, relocated_entry, external, data_record, record_shape, starred, code_shape, is_one, text_at, entry_shape, shape_for, test_bytes, say_fields_over, line_of, line_over, line_answer_over}
use Rattle.rules.specs.declared.line.Expected.{Expected}
use Rattle.rules.specs.declared.line.Expected.TheVariants.{CodeRecord, EntryRecord, ExternalRecord, DataRecord}
use Rattle.rules.specs.declared.line.FaultKind.{FaultKind}
use Rattle.rules.specs.declared.line.FaultKind.TheVariants.{BadNumber, BadType}
use Rattle.rules.specs.declared.line.Kind.{Kind}
use Rattle.rules.specs.declared.line.Kind.TheVariants.{Number, Name}
use Rattle.rules.proofs.TestLaws.{Every, and_intro, and_left, and_right, between_intro, between_low, all_first, all_rest}
use Rattle.runs.specs.Runs.{texts_from, record_of, IsRecord}

-- ---- texts against the kinds that they have to be

abbrev pub Held : List Kind → List (List ℕ) → Type 0
Held [] [] = Unit {0}
Held [] (t ∷ ts) = ⊥
Held (k ∷ ks) [] = ⊥
Held (k ∷ ks) (t ∷ ts) = ((v : ℕ) × (read_field k t ≡ value v)) × Held ks ts

-- the texts of a line's fields
abbrev pub texts : List Field → List (List ℕ)
texts fs = map (λ (f : Field). f.text) fs

pub fits_held : (end : ℕ) (ks : List Kind) (fs : List Field) → Held ks (texts fs) → (vs : List ℕ) × (fit end ks fs ≡ fits vs)
unfolding fit_over in_front
fits_held end [] [] h = ([], refl)
fits_held end [] (f ∷ fs) h = absurd h
fits_held end (k ∷ ks) [] h = absurd h
fits_held end (k ∷ ks) (f ∷ fs) h =
    let rest = fits_held end ks fs h.1 in
    (h.0.0 ∷ rest.0, rw (h.0.1, rest.1))

-- ---- a field of each kind

pub number_is : (t : List ℕ) → is_number t ≡ true → number_of t ≡ some (octal 0 t)
unfolding number_of
number_is t h = rw h

pub bounded_held :
    (low high : ℕ) (k : FaultKind) (t : List ℕ) {n : ℕ} → number_of t ≡ some n → between low high n ≡ true
    → (v : ℕ) × (read_field (Number low high k) t ≡ value v)
unfolding read_field_over in_bounds held
bounded_held low high k t {n} e b = (n, rw (e, b))

pub number_held : (t : List ℕ) → is_number t ≡ true → (v : ℕ) × (read_field number t ≡ value v)
unfolding is_number
number_held t h =
    let small = and_right (all is_octal t) _ (and_right (between 1 6 (length t)) _ h) in
    bounded_held 0 65535 BadNumber t (number_is t h) (and_intro (le-leb 0 (octal 0 t) (omega arith)) small)

-- so many numbers, and what stands behind them
numbers_held :
    (n : ℕ) (ts : List (List ℕ)) (ks : List Kind) (us : List (List ℕ)) → length ts ≡ n → Every (λ t. is_number t ≡ true) ts → Held ks us
    → Held (replicate n number ++ ks) (ts ++ us)
numbers_held zero [] ks us e h g = g
numbers_held zero (t ∷ ts) ks us e h g = absurd (omega arith)
numbers_held (suc n) [] ks us e h g = absurd (omega arith)
numbers_held (suc n) (t ∷ ts) ks us e h g = (number_held t h.0, numbers_held n ts ks us (omega arith) h.1 g)

pub name_held : (t : List ℕ) → is_name t ≡ true → (v : ℕ) × (read_field Name t ≡ value v)
unfolding read_field_over held name_over
name_held t h = (pack_name t, rw h)

-- one digit
pub digit_is : (b : ℕ) → 48 ≤ b → b ≤ 55 → number_of (b ∷ []) ≡ some (b - 48)
unfolding is_number all octal
digit_is b low high =
    let v : 0 * 8 + (b - 48) ≡ b - 48 = omega arith in
    number_is (b ∷ [])
    (and_intro refl (and_intro (and_intro (between_intro 48 55 b low high) refl) (le-leb (0 * 8 + (b - 48)) 65535 (omega arith))))
    ∙ ap some v

-- the digits that the type of an entry can be
zero_is : number_of (48 ∷ []) ≡ some 0
zero_is = digit_is 48 (omega arith) (omega arith)

one_is : number_of (49 ∷ []) ≡ some 1
one_is = digit_is 49 (omega arith) (omega arith)

-- and that of a word
type_held : (b : ℕ) → 49 ≤ b → b ≤ 53 → (v : ℕ) × (read_field (Number 1 5 BadType) (b ∷ []) ≡ value v)
type_held b low high = bounded_held 1 5 BadType (b ∷ []) (digit_is b (omega arith) (omega arith)) (between_intro 1 5 (b - 48) (omega arith) (omega arith))

-- a number is no asterisk
no_star : (t : List ℕ) → is_number t ≡ true → same_text t (42 ∷ []) ≡ false
unfolding same_text is_number
no_star [] h = refl
no_star (b ∷ rest) h =
    let low = between_low 48 55 b (all_first is_octal b rest (and_left (all is_octal (b ∷ rest)) _ (and_right (between 1 6 (length (b ∷ rest))) _ h))) in
    simp (ne_eqb b 42 (λ e. omega (arith, low)))

-- ---- a line of such fields

-- a line with these fields, and legal, is such a record
abbrev pub Says : Expected → List (List ℕ) → Type 0
Says e ts = (line : List ℕ) → texts_from 1 line ≡ ts → all is_legal line ≡ true → length line ≤ 80 → IsRecord e line

pub legal_front_lem : (n : ℕ) (t : List ℕ) → all is_legal t ≡ true → length t ≤ n → legal_front n t ≡ length t
unfolding legal_front
legal_front_lem zero [] h s = refl
legal_front_lem (suc n) [] h s = refl
legal_front_lem zero (b ∷ rest) h s = absurd (omega arith)
legal_front_lem (suc n) (b ∷ rest) h s = rw (all_first is_legal b rest h, legal_front_lem n rest (all_rest is_legal b rest h) (omega arith))

module _ (e : Expected) (r : Record) (here : (vs : List ℕ) → record_of ((record_shape r).says vs) ≡ some e) where
  fields_say_lem :
      (end : ℕ) (fs : List Field) → shape_for e fs ≡ some (record_shape r) → 1 ≤ length (texts fs) → Held (record_shape r).kinds (texts fs)
      → record_of (line_of e end fs) ≡ some e
  unfolding line_over say_fields_over read_as_over said
  fields_say_lem end [] q n h = absurd (omega arith)
  fields_say_lem end (f ∷ fs) q n h =
      let w = fits_held end (record_shape r).kinds (f ∷ fs) h in
      rw (q, w.1) (here w.0)

  line_says :
      (ts : List (List ℕ)) → 1 ≤ length ts → Held (record_shape r).kinds ts
      → ((fs : List Field) → texts fs ≡ ts → shape_for e fs ≡ some (record_shape r)) → Says e ts
  unfolding line_answer_over test_bytes texts_from fields_of
  line_says ts n h q line are legal short =
      rw (legal_front_lem 80 line legal short, le-leb (length line) (length line) (omega arith))
      (fields_say_lem (length line + 1) (fields_of line) (q (fields_of line) are) (omega (arith, n, ap length are)) (subst (Held (record_shape r).kinds) (sym are) h))

-- ---- words

pub first_text_lem : (fs : List Field) → first_text fs ≡ get_or (texts fs) 0 []
unfolding first_text
first_text_lem [] = refl
first_text_lem (f ∷ fs) = refl

module _ (ts : List (List ℕ)) (fs : List Field) (are : texts fs ≡ ts) where
  star_is : starred fs ≡ same_text (get_or ts 0 []) (42 ∷ [])
  star_is = ap (λ (t : List ℕ). same_text t (42 ∷ [])) (first_text_lem fs ∙ ap (λ (us : List (List ℕ)). get_or us 0 []) are)

  type_is : is_one (number_of (text_at fs 2)) ≡ is_one (number_of (get_or ts 2 []))
  unfolding text_at
  type_is =
      ap (λ (t : List ℕ). is_one (number_of t))
      (sym (get_or-map (λ (f : Field). f.text) fs 2 (record { column = 0; text = [] })) ∙ ap (λ (us : List (List ℕ)). get_or us 2 []) are)

pub plain_says :
    (t : List ℕ) (ts : List (List ℕ)) → is_number t ≡ true → length ts ≡ 3 → Every (λ t. is_number t ≡ true) ts → Says CodeRecord (t ∷ ts)
unfolding record_of record_shape
plain_says t ts n size are =
    line_says CodeRecord plain_code (λ vs. refl) (t ∷ ts) (omega arith)
    (number_held t n, subst (Held (number ∷ number ∷ number ∷ [])) (append-nil ts) (numbers_held 3 ts [] [] size are tt))
    (λ fs same. unfold shape_for code_shape in rw (star_is (t ∷ ts) fs same ∙ no_star t n))

pub linked_says :
    (ts : List (List ℕ)) (b : ℕ) (last : List ℕ) → length ts ≡ 4 → Every (λ t. is_number t ≡ true) ts → 49 ≤ b → b ≤ 53 → is_number last ≡ true
    → Says CodeRecord ((42 ∷ []) ∷ (ts ++ (48 ∷ []) ∷ (b ∷ []) ∷ last ∷ []))
unfolding record_of record_shape
linked_says ts b last size are low high n =
    line_says CodeRecord linked_code (λ vs. refl) ((42 ∷ []) ∷ (ts ++ (48 ∷ []) ∷ (b ∷ []) ∷ last ∷ [])) (omega arith) (
      (0, unfold read_field_over in refl),
      numbers_held 4 ts (Number 0 0 BadType ∷ Number 1 5 BadType ∷ number ∷ []) ((48 ∷ []) ∷ (b ∷ []) ∷ last ∷ []) size are
          (bounded_held 0 0 BadType (48 ∷ []) zero_is refl, (type_held b low high, (number_held last n, tt))),
    )
    (λ fs same. unfold shape_for code_shape same_text in rw (star_is _ fs same))

-- ---- data records, externals and entries

pub pair_says : (t u : List ℕ) → is_number t ≡ true → is_number u ≡ true → Says DataRecord (t ∷ u ∷ [])
unfolding record_of record_shape
pair_says t u n k =
    line_says DataRecord data_record (λ vs. refl) (t ∷ u ∷ []) (omega arith) (number_held t n, (number_held u k, tt)) (λ fs same. unfold shape_for in refl)

pub external_says : {name : List ℕ} → is_name name ≡ true → Says ExternalRecord (name ∷ [])
unfolding record_of record_shape
external_says {name} n = line_says ExternalRecord external (λ vs. refl) (name ∷ []) (omega arith) (name_held name n, tt) (λ fs same. unfold shape_for in refl)

module _ {name v : List ℕ} (n : is_name name ≡ true) (k : is_number v ≡ true) where
  pub absolute_says : Says EntryRecord (name ∷ v ∷ (48 ∷ []) ∷ [])
  unfolding record_of record_shape
  absolute_says =
      line_says EntryRecord absolute_entry (λ vs. refl) _ (omega arith) (name_held name n, (number_held v k, (bounded_held 0 1 BadType (48 ∷ []) zero_is refl, tt)))
      (λ fs same. unfold shape_for entry_shape is_one in rw (type_is _ fs same, zero_is))

  pub relocated_says : {last : List ℕ} → is_number last ≡ true → Says EntryRecord (name ∷ v ∷ (49 ∷ []) ∷ last ∷ [])
  unfolding record_of record_shape
  relocated_says {last} l =
      line_says EntryRecord relocated_entry (λ vs. refl) _ (omega arith) (name_held name n, (number_held v k, (bounded_held 0 1 BadType (49 ∷ []) one_is refl, (number_held last l, tt))))
      (λ fs same. unfold shape_for entry_shape is_one in rw (type_is _ fs same, one_is))
