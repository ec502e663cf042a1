-- "the earliest line with 6, 7 or 8 decides", and "A file ending too soon is at the last line number plus one."
use Prim.Native.Nat.{ℕ, ◌+◌}
use native.Mathlib.Omega.{arith}
use mathlib.Core.Bool.{Bool, true, false, not, ◌&&◌, ◌||◌}
use mathlib.Core.List.{List, [], ◌∷◌, ◌++◌}
use mathlib.Core.Path.{◌≡◌, refl, sym, ap, subst, ◌∙◌}
use lib.ListN.{length}
use Rattle.std.specs.Prelude.{Err}
use Rattle.rules.specs.Text.{lines_of, Alphabet, is_name_character}
use Rattle.rules.specs.Answers.{PLACE}
use Rattle.rules.specs.Reading.{step_at, step_over, Module, module_at, ReadSoFar, unread, module_done, stepped, if_complete, read_line, read_line_over, read_lines, read_lines_over, is_header, at_end, reading_of, reading_over, Reading, Complete, Stopped}
use Rattle.rules.specs.declared.reading.Mode.{Mode}
use Rattle.rules.specs.declared.reading.Step.{Step}
use Rattle.rules.specs.declared.reading.Step.TheVariants.{Stop, Next, Add, CloseModule, CloseSection}

-- ---- behind a fault nothing is read

module _ (alphabet : Alphabet) where
  line_after : (r : ReadSoFar) (l : List ℕ) (k n c : ℕ) → r.fault ≡ Stopped k n c → read_line_over alphabet r l ≡ r
  unfolding read_line_over if_complete
  line_after r l k n c e = ap (λ f. if_complete f (stepped r (step_over alphabet r.line r.mode l)) r) e

  pub lines_after : (ls : List (List ℕ)) (r : ReadSoFar) (k n c : ℕ) → r.fault ≡ Stopped k n c → read_lines_over alphabet r ls ≡ r
  unfolding read_lines_over
  lines_after [] r k n c e = refl
  lines_after (l ∷ ls) r k n c e = ap (λ q. read_lines_over alphabet q ls) (line_after r l k n c e) ∙ lines_after ls r k n c e

pub lines_append : (ls more : List (List ℕ)) (r : ReadSoFar) → read_lines r (ls ++ more) ≡ read_lines (read_lines r ls) more
unfolding read_lines_over
lines_append [] more r = refl
lines_append (l ∷ ls) more r = lines_append ls more (read_line r l)

-- lines that come behind the first fault change nothing of what a file reads to
pub first_fault : (ls more : List (List ℕ)) (k n c : ℕ) → (read_lines unread ls).fault ≡ Stopped k n c →
    read_lines unread (ls ++ more) ≡ read_lines unread ls
first_fault ls more k n c e = lines_append ls more unread ∙ lines_after is_name_character more (read_lines unread ls) k n c e

-- ---- without a fault each line counts one

abbrev Counted : ReadSoFar → ReadSoFar → Type 0
Counted r q = (q.fault ≡ Complete → q.line ≡ r.line + 1)

pub never_stopped : (k n c : ℕ) {A : Type 0} → Stopped k n c ≡ Complete → A
never_stopped k n c e = absurd (let z : ◌≡◌ {A = ℕ} 0 1 = cc in omega arith)

member_counted : (r : ReadSoFar) (t : Bool) (m : Mode) (md : Module) → Counted r (module_done r t m md)
unfolding module_done
member_counted r true m md e = refl
member_counted r false m md e = refl

step_counted : (r : ReadSoFar) (a : Step) → Counted r (stepped r a)
unfolding stepped
step_counted r (Stop k c) e = never_stopped k r.line c e
step_counted r (Next m) e = refl
step_counted r (Add m p) e = refl
step_counted r (CloseModule m line) e = member_counted r m.section.inside m (module_at line r.parts) e
step_counted r (CloseSection m line) e = refl

-- where the last line is reached without a fault, there was none before
was_clean : (ls : List (List ℕ)) (r : ReadSoFar) → (read_lines r ls).fault ≡ Complete → r.fault ≡ Complete
was_clean ls r e = go r.fault refl
  where
    go : (f : Reading) → r.fault ≡ f → r.fault ≡ Complete
    go Complete q = q
    go (Err s) q =
        never_stopped s.number s.line s.column (sym q ∙ sym (ap (λ (p : ReadSoFar). p.fault) (lines_after is_name_character ls r s.number s.line s.column q)) ∙ e)

pub line_counted : (r : ReadSoFar) (l : List ℕ) → r.fault ≡ Complete → Counted r (read_line r l)
unfolding read_line_over if_complete
line_counted r l clean =
    let step = step_at r.line r.mode l in
    subst (Counted r) (sym (ap (λ f. if_complete f (stepped r step) r) clean)) (step_counted r step)

pub lines_counted : (ls : List (List ℕ)) (r : ReadSoFar) → (read_lines r ls).fault ≡ Complete → (read_lines r ls).line ≡ r.line + length ls
unfolding read_lines_over
lines_counted [] r e = omega arith
lines_counted (l ∷ ls) r e =
    let one = line_counted r l (was_clean (l ∷ ls) r e) (was_clean ls (read_line r l) e) in
    omega (arith, lines_counted ls (read_line r l) e, one)

-- a file without a fault in a line, which ends where a record must follow, or inside a module or a section
pub ends_too_soon : (file : List ℕ) → let r = read_lines unread (lines_of file) in
    r.fault ≡ Complete → (is_header r.mode.expected && not (r.mode.object.inside || r.mode.section.inside)) ≡ false →
    reading_of file ≡ Stopped PLACE (length (lines_of file) + 1) 0
unfolding reading_over if_complete at_end unread
ends_too_soon file e open_still =
    let n = lines_counted (lines_of file) unread e in
    rw (e, open_still) (ap (λ k. Stopped 7 k 0) (n ∙ omega arith))
