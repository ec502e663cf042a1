-- The tests of a call in their order, each with the number that it answers: "1 to 5 as numbered; then the whole file is read",
-- "FORCE tests 15 before 14", "An END tests 16 last". And the marks: "the broken mark, which only a reset clears".
use Prim.Native.Nat.{ℕ, ◌≤◌, ◌<◌}
use native.Mathlib.Omega.{arith}
use mathlib.Core.Bool.{Bool, true, false, cond, not, ◌||◌, or-true}
use mathlib.Core.List.{List, [], ◌∷◌}
use mathlib.Core.Logic.{◌≢◌}
use mathlib.Core.Path.{◌≡◌, refl, sym, ap, ◌∙◌}
use lib.ListN.{length}
use lib.Dec.{eqb, leb, ltb}
use borrow.Author.Tests.{lt-ltb, le-ltb, le-leb, lt-leb, ne_eqb}
use Rattle.rules.specs.Limits.{longest_file, most_symbols, largest_base}
use Rattle.rules.specs.Text.{is_name, pack_name, between}
use Rattle.rules.specs.Answers.{BUFFER, DAMAGED, RESET, FROZEN, TOO_LONG, RANGE, TABLE, NAME, OUT, is_line_fault, is_file_fault}
use Rattle.rules.specs.State.{Symbol, State, state, Mark, unmarked, broken, frozen, is_symbol, undefined_only}
use Rattle.rules.specs.Placing.{mention}
use Rattle.rules.specs.Load.{load_file}
use Rattle.rules.specs.Image.{image_of}
use Rattle.rules.specs.declared.answer.SymbolAnswer.{SymbolAnswer}
use Rattle.rules.specs.declared.answer.UndefinedAnswer.{UndefinedAnswer}
use Rattle.rules.specs.Calls.{Lent, as_before, Outcome, outcome, EndOutcome, wrong_length, damaged, holding, shut_by, load_stopped, load_outcome, load_state, load_state_over, load_lent_over, load, load_over, stopped, done, with_symbols, force_state_over, force, force_over, base_state, base, reset, memory, symbol_at, symbols, undefined_at, undefined, end_stopped, end_done, is_broken, end_state, end}
use Rattle.rules.specs.History.{Call, loading, forcing, basing, resetting, asking_high, listing, listing_undefined, ending, reply_to, reply_over, number_in, can_answer, work_fits, left_over, state_after, called, called_all}
use Rattle.rules.proofs.TestLaws.{Every}
use Rattle.rules.proofs.TestLaws.{between_low, between_high}
use Rattle.rules.proofs.BoolLaws.{cond_cases}
use Rattle.rules.proofs.AnswerLaws.{right_column, right_fault}
use Rattle.rules.proofs.LoadLaws.{Ending, done as accepted, ahead, for_file, state_ends}
use Rattle.rules.proofs.CallLaws.{force_cases, base_cases, end_cases}

-- ---- LOAD

pub load_without_work : (m : Lent) (file : List ℕ) → load m false file ≡ load_stopped BUFFER
unfolding load_over
load_without_work m file = refl

pub load_wrong_length : (fits : Bool) (file : List ℕ) → load wrong_length fits file ≡ load_stopped BUFFER
unfolding load_over load_lent_over
load_wrong_length false file = refl
load_wrong_length true file = refl

pub load_damaged : (file : List ℕ) → load damaged true file ≡ load_stopped DAMAGED
unfolding load_over load_lent_over
load_damaged file = refl

-- so LOAD answers no number but 1 to 5 unless it is lent a sound state, and work memory of its length
pub load_lent_lem : (m : Lent) (fits : Bool) (file : List ℕ) → let n = (load m fits file).answer.number in
    (1 ≤ n → 6 ≤ n) → (s : State) × (m ≡ holding s) × (fits ≡ true)
unfolding load_over load_lent_over
load_lent_lem m false file h = absurd (omega (arith, h (omega arith)))
load_lent_lem wrong_length true file h = absurd (omega (arith, h (omega arith)))
load_lent_lem damaged true file h = absurd (omega (arith, h (omega arith)))
load_lent_lem (holding s) true file h = (s, refl, refl)

module _ (s : State) (file : List ℕ) where
  pub load_broken : s.mark ≡ broken → load (holding s) true file ≡ load_stopped RESET
  unfolding load_over load_lent_over load_state_over shut_by
  load_broken e = rw e

  pub load_frozen : s.mark ≡ frozen → load (holding s) true file ≡ load_stopped FROZEN
  unfolding load_over load_lent_over load_state_over shut_by
  load_frozen e = rw e

  pub load_too_long : s.mark ≡ unmarked → longest_file < length file → load (holding s) true file ≡ load_stopped TOO_LONG
  unfolding load_over load_lent_over load_state_over shut_by
  load_too_long e h = rw (e, lt-ltb longest_file (length file) h)

  pub load_reads : s.mark ≡ unmarked → length file ≤ longest_file → load (holding s) true file ≡ load_outcome (load_file s file)
  unfolding load_over load_lent_over load_state_over shut_by
  load_reads e h = rw (e, le-ltb longest_file (length file) h)

-- ---- FORCE

module _ (s : State) (name : List ℕ) where
  pub force_broken : s.mark ≡ broken → force (holding s) name ≡ stopped RESET
  unfolding force_over force_state_over shut_by
  force_broken e = rw e

  pub force_frozen : s.mark ≡ frozen → force (holding s) name ≡ stopped FROZEN
  unfolding force_over force_state_over shut_by
  force_frozen e = rw e

  pub force_no_name : s.mark ≡ unmarked → is_name name ≡ false → force (holding s) name ≡ stopped NAME
  unfolding force_over force_state_over shut_by
  force_no_name e n = rw (e, n)

  pub force_known : s.mark ≡ unmarked → is_name name ≡ true → is_symbol (pack_name name) s.symbols ≡ true → force (holding s) name ≡ done s
  unfolding force_over force_state_over shut_by
  force_known e n k = rw (e, n, k)

  pub force_full : s.mark ≡ unmarked → is_name name ≡ true → is_symbol (pack_name name) s.symbols ≡ false →
      most_symbols ≤ length s.symbols → force (holding s) name ≡ stopped TABLE
  unfolding force_over force_state_over shut_by
  force_full e n k h = rw (e, n, k, le-leb most_symbols (length s.symbols) h)

  pub force_new : s.mark ≡ unmarked → is_name name ≡ true → is_symbol (pack_name name) s.symbols ≡ false →
      length s.symbols < most_symbols → force (holding s) name ≡ done (with_symbols (mention (pack_name name) s.symbols) s)
  unfolding force_over force_state_over shut_by
  force_new e n k h = rw (e, n, k, lt-leb most_symbols (length s.symbols) h)

-- ---- BASE

module _ (s : State) (address : ℕ) where
  pub base_broken : s.mark ≡ broken → base (holding s) address ≡ stopped RESET
  unfolding base base_state shut_by
  base_broken e = rw e

  pub base_frozen : s.mark ≡ frozen → base (holding s) address ≡ stopped FROZEN
  unfolding base base_state shut_by
  base_frozen e = rw e

  pub base_over : s.mark ≡ unmarked → largest_base < address → base (holding s) address ≡ stopped RANGE
  unfolding base base_state shut_by
  base_over e h = rw (e, lt-ltb largest_base address h)

  pub base_moves : s.mark ≡ unmarked → address ≤ largest_base →
      base (holding s) address ≡ done (state s.symbols s.words address s.mark)
  unfolding base base_state shut_by
  base_moves e h = rw (e, le-ltb largest_base address h)

-- ---- END, which a frozen state does not refuse

module _ (s : State) (out : List ℕ) where
  pub end_broken : s.mark ≡ broken → end (holding s) out ≡ end_stopped RESET out
  unfolding end end_state is_broken
  end_broken e = rw e

  pub end_short : is_broken s.mark ≡ false → length out < length (image_of s) → end (holding s) out ≡ end_stopped OUT out
  unfolding end end_state
  end_short e h = rw (e, lt-ltb (length out) (length (image_of s)) h)

  pub end_done_lem : is_broken s.mark ≡ false → length (image_of s) ≤ length out → end (holding s) out ≡ end_done s (image_of s) out
  unfolding end end_state
  end_done_lem e h = rw (e, le-ltb (length out) (length (image_of s)) h)

-- ---- "the broken mark, which only a reset clears"

-- a state for which LOAD, FORCE and BASE are shut, and which END leaves
record Shut (s : State) : Type 0 where
  loads : (file : List ℕ) → state_after s (load (holding s) true file).left ≡ s
  forces : (name : List ℕ) → state_after s (force (holding s) name).left ≡ s
  bases : (address : ℕ) → state_after s (base (holding s) address).left ≡ s
  ends : (out : List ℕ) → state_after s (end (holding s) out).call.left ≡ s

shut_stays : (s : State) → Shut s → (c : Call) → c ≢ resetting → called s c ≡ s
unfolding called left_over state_after load_over
shut_stays s h (loading work file) other = go (work_fits work)
  where
    go : (fits : Bool) → state_after s (load (holding s) fits file).left ≡ s
    go false = refl
    go true = h.loads file
shut_stays s h (forcing name) other = h.forces name
shut_stays s h (basing address) other = h.bases address
shut_stays s h resetting other = absurd (other refl)
shut_stays s h asking_high other = refl
shut_stays s h (listing i) other = refl
shut_stays s h (listing_undefined i) other = refl
shut_stays s h (ending out) other = h.ends out

-- what a refusal leaves
refused : {A : Type 0} (s : State) (a : A) {o : Outcome A} → o ≡ outcome a as_before → state_after s o.left ≡ s
unfolding state_after
refused {A} s a e = ap (λ (x : Outcome A). state_after s x.left) e

-- every call but RESET leaves a broken state exactly as it is
pub broken_stays : (s : State) → s.mark ≡ broken → (c : Call) → c ≢ resetting → called s c ≡ s
broken_stays s e =
    shut_stays s
    (record {
      loads = λ file. refused s _ (load_broken s file e);
      forces = λ name. refused s _ (force_broken s name e);
      bases = λ address. refused s _ (base_broken s address e);
      ends = λ out. refused s _ (ap (λ (o : EndOutcome). o.call) (end_broken s out e));
    })

-- and a frozen one: END writes its image again
pub frozen_stays : (s : State) → s.mark ≡ frozen → (c : Call) → c ≢ resetting → called s c ≡ s
unfolding state_after
frozen_stays s e =
    shut_stays s
    (record {
      loads = λ file. refused s _ (load_frozen s file e);
      forces = λ name. refused s _ (force_frozen s name e);
      bases = λ address. refused s _ (base_frozen s address e);
      ends = λ out.
          end_cases (λ o. state_after s o.call.left ≡ s) s out
          (λ k _. refl)
          (λ _. ap (λ (k : Mark). state s.symbols s.words s.next k) (sym e));
    })

-- whatever calls come, until one is RESET
until_reset : (s : State) → ((c : Call) → c ≢ resetting → called s c ≡ s) → (cs : List Call) → Every (λ c. c ≢ resetting) cs → called_all s cs ≡ s
unfolding called_all
until_reset s stays [] h = refl
until_reset s stays (c ∷ cs) h = ap (λ (t : State). called_all t cs) (stays c h.0) ∙ until_reset s stays cs h.1

pub broken_until_reset : (s : State) → s.mark ≡ broken → (cs : List Call) → Every (λ c. c ≢ resetting) cs → called_all s cs ≡ s
broken_until_reset s e = until_reset s (broken_stays s e)

pub frozen_until_reset : (s : State) → s.mark ≡ frozen → (cs : List Call) → Every (λ c. c ≢ resetting) cs → called_all s cs ≡ s
frozen_until_reset s e = until_reset s (frozen_stays s e)

-- ---- "7 and 8 come after all, at column 0", and no other answer but a line's fault names a column

right_zero : (k c : ℕ) → right_column 14 k c ≡ true → eqb c 0 ≡ not (is_line_fault k)
unfolding right_column
right_zero k c h = go (eqb c 0) h
  where
    go : (t : Bool) → cond t (between 7 14 k) (is_line_fault k) ≡ true → t ≡ not (is_line_fault k)
    go true r = rw (ne_eqb k 6 (λ e. omega (arith, between_low 7 14 k r)), lt-leb 17 k (omega (arith, between_high 7 14 k r)))
    go false r = rw r

pub columns_named : (m : Lent) (fits : Bool) (file : List ℕ) → let a = (load m fits file).answer in
    eqb a.column 0 ≡ not (is_line_fault a.number)
unfolding load_over load_lent_over
columns_named m false file = refl
columns_named wrong_length true file = refl
columns_named damaged true file = refl
columns_named (holding s) true file = go (state_ends s file)
  where
    go : Ending s (load_state s file) → let a = (load_state s file).answer in eqb a.column 0 ≡ not (is_line_fault a.number)
    go (accepted e c) = rw (e, c)
    go (ahead k _ c _ _) =
        let n = (load_state s file).answer.number in
        rw (c, ne_eqb n 6 (λ e. omega (arith, between_high 1 5 n k)), lt-leb 17 n (omega (arith, between_high 1 5 n k)))
    go (for_file k _ _) = right_zero _ _ k

-- ---- "each call ends with an answer from the list in document 01": whatever is lent, and in each call no number but its own

-- where LOAD's work memory has its length or not
pub load_answers : (m : Lent) (fits : Bool) (file : List ℕ) → (let k = (load m fits file).answer.number in leb k TOO_LONG || is_file_fault k) ≡ true
unfolding load_over load_lent_over
load_answers m false file = refl
load_answers wrong_length true file = refl
load_answers damaged true file = refl
load_answers (holding s) true file = go (state_ends s file)
  where
    go : Ending s (load_state s file) → (leb (load_state s file).answer.number TOO_LONG || is_file_fault (load_state s file).answer.number) ≡ true
    go (accepted e _) = rw e
    go (ahead k _ _ _ _) = let n = (load_state s file).answer.number in rw (le-leb n 5 (between_high 1 5 n k))
    go (for_file k _ _) = let n = (load_state s file).answer.number in rw (right_fault n _ k) (or-true (leb n 5))

symbol_done : (t : List Symbol) (i : ℕ) → leb (symbol_at t i).number DAMAGED ≡ true
unfolding symbol_at
symbol_done t i = cond_cases (λ (a : SymbolAnswer). leb a.number 2 ≡ true) (ltb i (length t)) _ _ (λ _. refl) (λ _. refl)

undefined_done : (s : State) (i : ℕ) → leb (undefined_at s i).number DAMAGED ≡ true
unfolding undefined_at
undefined_done s i =
    cond_cases (λ (a : UndefinedAnswer). leb a.number 2 ≡ true) (ltb i (length (undefined_only s.symbols))) _ _ (λ _. refl) (λ _. refl)

pub answers_only : (m : Lent) (c : Call) → can_answer c (number_in (reply_to m c)) ≡ true
unfolding reply_over number_in can_answer force_over base reset memory symbols undefined end
answers_only m (loading work file) = load_answers m (work_fits work) file
answers_only wrong_length (forcing name) = refl
answers_only damaged (forcing name) = refl
answers_only (holding s) (forcing name) =
    force_cases (λ o. can_answer (forcing name) o.answer.number ≡ true) s name (λ k e. e) (λ _. refl) (λ _ _ _. refl)
answers_only wrong_length (basing address) = refl
answers_only damaged (basing address) = refl
answers_only (holding s) (basing address) =
    base_cases (λ o. can_answer (basing address) o.answer.number ≡ true) s address (λ k e. e) (λ _. refl)
answers_only wrong_length resetting = refl
answers_only damaged resetting = refl
answers_only (holding s) resetting = refl
answers_only wrong_length asking_high = refl
answers_only damaged asking_high = refl
answers_only (holding s) asking_high = refl
answers_only wrong_length (listing i) = refl
answers_only damaged (listing i) = refl
answers_only (holding s) (listing i) = symbol_done s.symbols i
answers_only wrong_length (listing_undefined i) = refl
answers_only damaged (listing_undefined i) = refl
answers_only (holding s) (listing_undefined i) = undefined_done s i
answers_only wrong_length (ending out) = refl
answers_only damaged (ending out) = refl
answers_only (holding s) (ending out) =
    end_cases (λ o. can_answer (ending out) o.call.answer.number ≡ true) s out (λ k e. e) (λ _. refl)
