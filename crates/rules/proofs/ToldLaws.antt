-- Document 02, 3/14, on LOAD's own outcome: of the first line that has faults the leftmost is told, with its number, line and column,
-- and the broken mark is set.
use Prim.Native.Nat.{ℕ, ◌+◌, ◌≤◌}
use native.Mathlib.Omega.{arith}
use mathlib.Core.List.{List, [], ◌∷◌, ◌++◌, append_assoc}
use mathlib.Core.Bool.{true}
use mathlib.Core.Option.{some}
use mathlib.Core.Path.{◌≡◌, sym, ap, ◌∙◌}
use lib.ListN.{length}
use Rattle.rules.specs.Limits.{longest_file}
use Rattle.rules.specs.Text.{lines_of}
use Rattle.rules.specs.Line.{fault_in, line_answer}
use Rattle.rules.specs.Faults.{fault_number, faults_of, leftmost}
use Rattle.rules.specs.Reading.{step_of, unread, stepped, if_complete, read_line_over, read_lines, read_lines_over, reading_of, reading_over, Complete, Stopped}
use Rattle.rules.specs.State.{State, unmarked, broken, marked}
use Rattle.rules.specs.Load.{load_read_over, load_file_over}
use Rattle.rules.specs.Calls.{now, holding, outcome, load_answer, load}
use Rattle.rules.specs.declared.line.Fault.{Fault}
use Rattle.rules.specs.declared.line.LineAnswer.{LineAnswer}
use Rattle.rules.specs.declared.line.LineAnswer.TheVariants.{Bad, Blank, Head, Opening, Closing, Code, Entered, Mentioned, Ignored, Parameter, Sub}
use Rattle.rules.proofs.BoolLaws.{never_none}
use Rattle.rules.proofs.FaultLaws.{told_leftmost}
use Rattle.rules.proofs.FirstFault.{first_fault, lines_append, lines_counted}
use Rattle.rules.proofs.OrderLaws.{load_reads}

-- an answer that tells a fault is that fault
is_bad_lem : (a : LineAnswer) (f : Fault) → fault_in a ≡ some f → a ≡ Bad f
unfolding fault_in
is_bad_lem (Bad g) f e = let same : g ≡ f = cc in ap Bad same
is_bad_lem Blank f e = never_none e
is_bad_lem (Head h) f e = never_none e
is_bad_lem (Opening t) f e = never_none e
is_bad_lem (Closing t) f e = never_none e
is_bad_lem (Code w) f e = never_none e
is_bad_lem (Entered x) f e = never_none e
is_bad_lem (Mentioned x) f e = never_none e
is_bad_lem Ignored f e = never_none e
is_bad_lem (Parameter n) f e = never_none e
is_bad_lem Sub f e = never_none e

module _ (before more : List (List ℕ)) (line : List ℕ) (f : Fault) (clean : (read_lines unread before).fault ≡ Complete)
    (least : leftmost (faults_of (read_lines unread before).mode.expected line) ≡ some f) where
  answers_bad : line_answer (read_lines unread before).mode.expected line ≡ Bad f
  answers_bad = is_bad_lem _ f (told_leftmost (read_lines unread before).mode.expected line ∙ least)

  stops_there : (read_lines unread (before ++ (line ∷ []))).fault ≡ Stopped (fault_number f.kind) (length before + 1) f.column
  unfolding unread read_lines_over read_line_over if_complete stepped step_of
  stops_there =
      let n : (read_lines unread before).line ≡ length before + 1 = lines_counted before unread clean ∙ omega arith in
      rw (lines_append before (line ∷ []) unread, clean, answers_bad, n)

  reads_so : (file : List ℕ) → lines_of file ≡ before ++ (line ∷ more) →
      reading_of file ≡ Stopped (fault_number f.kind) (length before + 1) f.column
  unfolding reading_over if_complete
  reads_so file e = rw (e, sym (append_assoc before (line ∷ []) more), first_fault (before ++ (line ∷ [])) more _ _ _ stops_there, stops_there)

  -- whatever stands behind that line
  pub leftmost_told : (s : State) (file : List ℕ) → s.mark ≡ unmarked → length file ≤ longest_file → lines_of file ≡ before ++ (line ∷ more) →
      load (holding s) true file ≡ outcome (load_answer (fault_number f.kind) (length before + 1) f.column 0) (now (marked broken s))
  unfolding load_file_over load_read_over
  leftmost_told s file m l e = load_reads s file m l ∙ rw (reads_so file e)
