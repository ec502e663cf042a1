-- The whole line: its bytes, whether it has a field, and what is expected of it.
-- Assumes nothing.
use Prim.Native.Nat.{ℕ, ◌+◌, ◌-◌, ◌≤◌, ◌<◌}
use mathlib.Core.Bool.{false}
use mathlib.Core.List.{List}
use mathlib.Core.Option.{some}
use mathlib.Core.Path.{◌≡◌, refl, ◌∙◌}
use borrow.Author.Tests.{le-leb, lt-leb}
use Rattle.rules.specs.Text.{fields_of, legal_front}
use Rattle.rules.specs.Line.{fault, Shape, read_as, shape_for, say_fields_over, line_of, line_over, fault_in, within, test_bytes, line_answer, line_answer_over}
use Rattle.rules.specs.declared.line.Fault.{Fault}
use Rattle.rules.specs.declared.line.FaultKind.TheVariants.{IllegalByte}
use Rattle.rules.specs.declared.line.Expected.{Expected}
use Rattle.rules.specs.declared.line.LineAnswer.{LineAnswer}
use Rattle.rules.specs.declared.line.LineAnswer.TheVariants.{Bad, Blank, Head, Opening, Closing, Code, Entered, Mentioned, Ignored, Parameter, Sub}
use Rattle.text.specs.Scan.{part, InFile}
use Rattle.text.specs.FieldBounds.{field_start}
use Rattle.text.proofs.FieldLaws.{field_found}
use Rattle.text.proofs.ScanLaws.{length_part}
use Rattle.line.specs.Fitting.{line_fields, end_column}

-- ---- the bytes

-- an answer of another variant is no fault
no_fault : (n : ℕ) (a : LineAnswer) → ((f : Fault) → a ≡ Bad f → ⊥) → within n (fault_in a) ≡ false
unfolding fault_in within
no_fault n (Bad f) h = absurd (h f refl)
no_fault n Blank h = refl
no_fault n (Head x) h = refl
no_fault n (Opening x) h = refl
no_fault n (Closing x) h = refl
no_fault n (Code x) h = refl
no_fault n (Entered x) h = refl
no_fault n (Mentioned x) h = refl
no_fault n Ignored h = refl
no_fault n (Parameter x) h = refl
no_fault n Sub h = refl

module _ (front size : ℕ) (a : LineAnswer) where
  pub all_legal : size ≤ front → a ≡ test_bytes front size a
  unfolding test_bytes
  all_legal h = simp (le-leb size front h)

  module _ (h : front < size) where
    pub fault_first : {f : Fault} → a ≡ Bad f → f.column ≤ front → Bad f ≡ test_bytes front size a
    unfolding test_bytes fault_in within
    fault_first e g = rw e (simp (lt-leb size front h, le-leb _ front g))

    -- the fault, if there is any, stands further right
    byte_first : within front (fault_in a) ≡ false → {o : LineAnswer} → o ≡ Bad (fault IllegalByte (front + 1)) → o ≡ test_bytes front size a
    unfolding test_bytes
    byte_first n p = p ∙ simp (lt-leb size front h, n)

    pub byte_before : {f : Fault} → a ≡ Bad f → front < f.column → {o : LineAnswer} → o ≡ Bad (fault IllegalByte (front + 1)) → o ≡ test_bytes front size a
    unfolding fault_in within
    byte_before e g p = byte_first (rw e (lt-leb _ front g)) p

    pub byte_only : ((f : Fault) → a ≡ Bad f → ⊥) → {o : LineAnswer} → o ≡ Bad (fault IllegalByte (front + 1)) → o ≡ test_bytes front size a
    byte_only t p = byte_first (no_fault front a t) p

-- ---- the whole line

module _ (w : Expected) {at stop : ℕ} {l : List ℕ} (h : InFile at stop l) where
  abbrev Says : LineAnswer → Type 0
  Says a = a ≡ line_of w (end_column at stop) (line_fields at stop l)

  module _ {s : ℕ} (e : s ≡ field_start at stop l) where
    -- where there is a field, a shape tells what the line says
    pub line_shaped : s < stop → {x : Shape} {a : LineAnswer} → a ≡ read_as x (end_column at stop) (line_fields at stop l) →
        shape_for w (line_fields at stop l) ≡ some x → Says a
    unfolding fields_of line_over say_fields_over
    line_shaped g p q = p ∙ rw (q, (field_found at stop s l h e g _ refl).anywhere 1)

  pub line_whole : {front : ℕ} {a o : LineAnswer} → front ≡ legal_front 80 (part at stop l) → Says o → a ≡ test_bytes front (stop - at) o →
      a ≡ line_answer w (part at stop l)
  unfolding line_answer_over
  line_whole n q p = p ∙ rw (length_part at stop l h.size, ← n, ← q)
