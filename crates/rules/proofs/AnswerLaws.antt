-- The numbers of the answers: 0 to 21, each with one name; of a load, reading stops with 6 and 17 to 21, which have a column, or with 7
-- and 8, which have none; placing with 9 to 14.
use Prim.Native.Nat.{ℕ, ◌+◌, ◌≤◌}
use native.Mathlib.Omega.{arith}
use mathlib.Core.Bool.{Bool, true, false, cond, not, ◌&&◌, ◌||◌, or-true}
use mathlib.Core.List.{List, [], ◌∷◌, map}
use mathlib.Core.Logic.{◌⊎◌, inl, inr}
use mathlib.Core.Option.{some}
use mathlib.Core.Path.{◌≡◌, refl}
use lib.Dec.{eqb, ltb, leb}
use borrow.Author.Tests.{eqb-true, ne_eqb}
use Rattle.std.specs.Prelude.{Err}
use Rattle.rules.specs.Answers.{answers, is_line_fault, is_file_fault}
use Rattle.rules.specs.Text.{between, lines_of}
use Rattle.rules.specs.Line.{fault_in, line_answer}
use Rattle.rules.specs.Faults.{fault_number}
use Rattle.rules.specs.Reading.{title_step, library_step, library_end_step, header_step, closing_step, entry_step, external_step, parameter_step, sub_step, step_of, step_at, is_header, at_end, reading_of, at_start, Module, Reading, Complete}
use Rattle.rules.specs.State.{State}
use Rattle.rules.specs.Placing.{placing_fault, no_room, overlaps, bad_arguments, out_of_range, duplicates, table_full}
use Rattle.rules.specs.declared.line.FaultKind.{FaultKind}
use Rattle.rules.specs.declared.line.FaultKind.TheVariants.{IllegalByte, BadMarker, FieldCount, BadNumber, BadName, BadType}
use Rattle.rules.specs.declared.line.Fault.{Fault}
use Rattle.rules.specs.declared.line.Header.{Header}
use Rattle.rules.specs.declared.line.Header.TheVariants.{CodeBlock, EndBlock, TitleBlock, EntryBlock, ExternalBlock, LibraryStart, LibraryEnd, DataBlock, InitBlock, ParameterBlock}
use Rattle.rules.specs.declared.line.LineAnswer.{LineAnswer}
use Rattle.rules.specs.declared.line.LineAnswer.TheVariants.{Bad, Blank, Head, Opening, Closing, Code, Entered, Mentioned, Ignored, Parameter, Sub}
use Rattle.rules.specs.declared.reading.Mode.{Mode}
use Rattle.rules.specs.declared.reading.Step.{Step}
use Rattle.rules.specs.declared.reading.Step.TheVariants.{Stop, Next, Add, CloseModule, CloseSection}
use Rattle.rules.proofs.TestLaws.{cond_keeps, between_low, between_wider}
use Rattle.rules.proofs.BoolLaws.{or_on}
use Rattle.rules.proofs.FaultLaws.{line_column}
use Rattle.rules.proofs.FoldLaws.{on_step, read_from, reading_lines}

-- ---- the table

-- "What the calls return" numbers its rows from 0 to 16, in order, and document 02 goes on
pub answers_numbered : map (λ a. a.number) answers
    ≡ 0 ∷ 1 ∷ 2 ∷ 3 ∷ 4 ∷ 5 ∷ 6 ∷ 7 ∷ 8 ∷ 9 ∷ 10 ∷ 11 ∷ 12 ∷ 13 ∷ 14 ∷ 15 ∷ 16 ∷ 17 ∷ 18 ∷ 19 ∷ 20 ∷ 21 ∷ 23 ∷ []
unfolding answers
answers_numbered = refl

-- ---- reading

-- of a refusal by what stands in the file: a line's fault has a column, and 7 up to a highest number have none
unfoldable pub right_column : ℕ → ℕ → ℕ → Bool
right_column highest k c = cond (eqb c 0) (between 7 highest k) (is_line_fault k)

module _ (k c : ℕ) where
  pub right_wider : right_column 8 k c ≡ true → right_column 14 k c ≡ true
  unfolding right_column
  right_wider h = go (eqb c 0) h
    where
      go : (t : Bool) → cond t (between 7 8 k) (is_line_fault k) ≡ true → cond t (between 7 14 k) (is_line_fault k) ≡ true
      go true r = between_wider 7 8 7 14 k (omega arith) (omega arith) r
      go false r = r

  -- such a number is one of the file's faults
  pub right_fault : right_column 14 k c ≡ true → is_file_fault k ≡ true
  unfolding right_column
  right_fault h = go (eqb c 0) h
    where
      go : (t : Bool) → cond t (between 7 14 k) (is_line_fault k) ≡ true → is_file_fault k ≡ true
      go true r = rw r (or-true (is_line_fault k))
      go false r = rw r

-- and 6 at least
pub file_fault_low : (k : ℕ) → is_file_fault k ≡ true → 6 ≤ k
file_fault_low k h = go (or_on (is_line_fault k) (between 7 14 k) h)
  where
    line : (eqb k 6 ≡ true) ⊎ (between 17 21 k ≡ true) → 6 ≤ k
    line (inl e) = omega (arith, eqb-true k 6 e)
    line (inr e) = omega (arith, between_low 17 21 k e)

    go : (is_line_fault k ≡ true) ⊎ (between 7 14 k ≡ true) → 6 ≤ k
    go (inl e) = line (or_on (eqb k 6) (between 17 21 k) e)
    go (inr e) = omega (arith, between_low 7 14 k e)

unfoldable pub step_number : Step → Bool
step_number (Stop k c) = right_column 8 k c
step_number (Next m) = true
step_number (Add m p) = true
step_number (CloseModule m n) = true
step_number (CloseSection m n) = true

header_number : (n : ℕ) (m : Mode) (h : Header) → step_number (header_step n m h) ≡ true
unfolding step_number right_column header_step title_step library_step library_end_step
header_number n m (CodeBlock c o) = cond_keeps step_number m.object.inside refl refl
header_number n m EndBlock = cond_keeps step_number m.object.inside refl refl
header_number n m TitleBlock =
    cond_keeps
    step_number
    m.object.inside
    refl
    (cond_keeps step_number (m.section.inside && leb 256 m.section.modules) refl refl)
header_number n m (EntryBlock c) = cond_keeps step_number m.object.inside refl refl
header_number n m (ExternalBlock c) = cond_keeps step_number m.object.inside refl refl
header_number n m LibraryStart = cond_keeps step_number (m.object.inside || m.section.inside) refl refl
header_number n m LibraryEnd = cond_keeps step_number (m.object.inside || not m.section.inside) refl refl
header_number n m (DataBlock c) = cond_keeps step_number m.object.inside refl refl
header_number n m (InitBlock c) = cond_keeps step_number m.object.inside refl refl
header_number n m (ParameterBlock c) = cond_keeps step_number m.object.inside refl refl

fault_number_lem : (k : FaultKind) → is_line_fault (fault_number k) ≡ true
unfolding fault_number
fault_number_lem IllegalByte = refl
fault_number_lem BadMarker = refl
fault_number_lem FieldCount = refl
fault_number_lem BadNumber = refl
fault_number_lem BadName = refl
fault_number_lem BadType = refl

-- a fault has a column
abbrev Placed : LineAnswer → Type 0
Placed a = ((f : Fault) → fault_in a ≡ some f → 1 ≤ f.column)

step_number_lem : (n : ℕ) (m : Mode) (a : LineAnswer) → Placed a → step_number (step_of n m a) ≡ true
unfolding step_number right_column step_of closing_step entry_step external_step parameter_step sub_step fault_in
step_number_lem n m (Bad f) p = let c = p f refl in rw (ne_eqb f.column 0 (λ e. omega (arith, c)), fault_number_lem f.kind)
step_number_lem n m Blank p = refl
step_number_lem n m (Head h) p = header_number n m h
step_number_lem n m (Opening t) p = refl
step_number_lem n m (Closing t) p = cond_keeps step_number (eqb t m.object.title) refl refl
step_number_lem n m (Code w) p = refl
step_number_lem n m (Entered e) p = cond_keeps step_number (ltb m.object.entries 64) refl refl
step_number_lem n m (Mentioned x) p = cond_keeps step_number (ltb m.object.externals 64) refl refl
step_number_lem n m Ignored p = refl
step_number_lem n m (Parameter size) p = refl
step_number_lem n m Sub p = refl

unfoldable pub reading_number : Reading → Bool
reading_number Complete = true
reading_number (Err s) = right_column 8 s.number s.column

on_step_number : (n : ℕ) (s : Step) (go : Mode → Reading)
    → step_number s ≡ true → ((m : Mode) → reading_number (go m) ≡ true) → reading_number (on_step n s go) ≡ true
unfolding step_number reading_number on_step
on_step_number n (Stop k c) go h f = h
on_step_number n (Next m) go h f = f m
on_step_number n (Add m p) go h f = f m
on_step_number n (CloseModule m l) go h f = f m
on_step_number n (CloseSection m l) go h f = f m

read_number : (n : ℕ) (m : Mode) (ls : List (List ℕ)) → reading_number (read_from n m ls) ≡ true
unfolding read_from at_end reading_number right_column
read_number n m [] =
    cond_keeps reading_number (is_header m.expected && not (m.object.inside || m.section.inside)) refl refl
read_number n m (l ∷ ls) =
    on_step_number
    n
    (step_at n m l)
    (λ m'. read_from (n + 1) m' ls)
    (step_number_lem n m (line_answer m.expected l) (line_column m.expected l))
    (λ m'. read_number (n + 1) m' ls)

pub reading_number_lem : (file : List ℕ) → reading_number (reading_of file) ≡ true
reading_number_lem file = rw reading_lines (read_number 1 at_start (lines_of file))

-- ---- placing

unfoldable pub placing_number : ℕ → Bool
placing_number k = eqb k 0 || between 9 14 k

pub placing_number_lem : (s : State) (m : Module) → placing_number (placing_fault s m) ≡ true
unfolding placing_number placing_fault
placing_number_lem s m =
    cond_keeps
    placing_number
    (no_room s m)
    refl
    (cond_keeps
    placing_number
    (overlaps s m)
    refl
    (cond_keeps
    placing_number
    (bad_arguments m)
    refl
    (cond_keeps
    placing_number
    (out_of_range s m)
    refl
    (cond_keeps placing_number (duplicates s m) refl (cond_keeps placing_number (table_full s m) refl refl)))))
