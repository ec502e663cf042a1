-- Refused loads: what they leave, and what is refused behind them.
use Prim.Native.Nat.{ℕ, zero, suc, ◌≤◌}
use native.Mathlib.Omega.{arith}
use mathlib.Core.Bool.{Bool, true, false, cond}
use mathlib.Core.List.{List}
use mathlib.Core.Logic.{◌≢◌}
use mathlib.Core.Path.{◌≡◌, refl, sym, ap, ◌∙◌}
use lib.ListN.{length, get_or, replicate}
use borrow.Author.Tests.{eq-eqb, ne_eqb}
use Rattle.rules.specs.Limits.{work_size}
use Rattle.rules.specs.State.{State, Mark, broken, frozen, marked, sound}
use Rattle.rules.specs.Calls.{Lent, wrong_length, damaged, holding, Left, as_before, now, Outcome, load_stopped, EndOutcome, end_stopped, load_answer, call_answer, end_answer, stopped, load, force, base, end, work_after}
use Rattle.rules.specs.History.{loading, work_fits, left_over, state_after, called}
use Rattle.rules.proofs.SoundCalls.{called_sound}
use Rattle.rules.specs.declared.answer.LoadAnswer.{LoadAnswer}
use Rattle.rules.specs.declared.answer.CallAnswer.{CallAnswer}
use Rattle.rules.specs.declared.answer.EndAnswer.{EndAnswer}
use Rattle.rules.proofs.TestLaws.{between_high}
use Rattle.rules.proofs.AnswerLaws.{right_fault, file_fault_low}
use Rattle.rules.proofs.LoadLaws.{Ending, done, ahead, for_file, load_ends}
use Rattle.rules.proofs.OrderLaws.{load_without_work, load_wrong_length, load_damaged, load_lent_lem, load_broken, load_frozen, force_broken, base_broken, end_broken}
use Rattle.state.specs.Layout.{encode, lent, cells_after}
use Rattle.state.specs.Promise.{Called, Ended}
use Rattle.state.proofs.LentLaws.{held_encoded, held_sound}
use Rattle.customers.specs.Words.{SameButMark}
use Rattle.customers.proofs.LentBefore.{zeros_fit, answer_is, holds_then}

-- ---- what a refused load leaves

-- two states that differ in the mark have the same cells but the mark's
marked_cells : (k : Mark) (s : State) → SameButMark (encode s) (encode (marked k s))
unfolding encode
marked_cells k s zero other = refl
marked_cells k s (suc zero) other = refl
marked_cells k s (suc (suc zero)) other = absurd (other refl)
marked_cells k s (suc (suc (suc i))) other = refl

abbrev Kept : List ℕ → Outcome LoadAnswer → Type 0
Kept cells o =
    o.answer.number ≢ 0
    → SameButMark cells (cells_after cells o.left) × (o.answer.number ≤ 5 → cells_after cells o.left ≡ cells)

stopped_keeps : (cells : List ℕ) (o : Outcome LoadAnswer) → o.left ≡ as_before → Kept cells o
unfolding cells_after
stopped_keeps cells o e z =
    let same : cells_after cells o.left ≡ cells = ap (cells_after cells) e in
    ((λ i _. ap (λ (l : List ℕ). get_or l i 0) same), (λ _. same))

broken_keeps : (cells : List ℕ) (s : State) (o : Outcome LoadAnswer) → cells ≡ encode s → 6 ≤ o.answer.number →
    o.left ≡ now (marked broken s) → Kept cells o
unfolding cells_after
broken_keeps cells s o e k l z = (
  (λ i other.
      ap (λ (x : Left). get_or (cells_after cells x) i 0) l
      ∙ marked_cells broken s i other
      ∙ ap (λ (x : List ℕ). get_or x i 0) (sym e)),
  (λ few. absurd (omega arith)),
)

-- a load that is stopped leaves everything
left_is : {o : Outcome LoadAnswer} (k : ℕ) → o ≡ load_stopped k → o.left ≡ as_before
left_is k e = ap (λ (x : Outcome LoadAnswer). x.left) e

lent_keeps : (cells : List ℕ) (m : Lent) (fits : Bool) (file : List ℕ) → lent cells ≡ m → Kept cells (load m fits file)
lent_keeps cells wrong_length fits file e = stopped_keeps cells (load wrong_length fits file) (left_is 1 (load_wrong_length fits file))
lent_keeps cells damaged false file e = stopped_keeps cells (load damaged false file) (left_is 1 (load_without_work damaged file))
lent_keeps cells damaged true file e = stopped_keeps cells (load damaged true file) (left_is 2 (load_damaged file))
lent_keeps cells (holding s) fits file e = go (load_ends s fits file)
  where
    go : Ending s (load (holding s) fits file) → Kept cells (load (holding s) fits file)
    go (done d _) z = absurd (z d)
    go (ahead k _ _ _ l) z = stopped_keeps cells (load (holding s) fits file) l z
    go (for_file k _ l) z =
        broken_keeps cells s (load (holding s) fits file) (held_encoded cells s e) (file_fault_low _ (right_fault _ _ k)) l z

module _ (cells work file : List ℕ) (r : LoadAnswer) (after : List ℕ) (c : Called (load (lent cells) (work_fits work) file) cells r after) where
  pub refused_keeps : r.number ≢ 0 → SameButMark cells after × (r.number ≤ 5 → after ≡ cells)
  refused_keeps z =
      let o = load (lent cells) (work_fits work) file in
      let n : o.answer.number ≡ r.number = sym (ap (λ (a : LoadAnswer). a.number) c.answer) in
      let kept = lent_keeps cells (lent cells) (work_fits work) file refl (λ e. z (sym n ∙ e)) in (
        (λ i other. ap (λ (l : List ℕ). get_or l i 0) c.cells ∙ kept.0 i other),
        (λ few. c.cells ∙ kept.1 (omega (arith, n))),
      )

-- ---- behind a load that was refused for its file

-- such a load leaves the state that it was lent broken
refused_left : (s : State) (fits : Bool) (file : List ℕ) → 6 ≤ (load (holding s) fits file).answer.number → (load (holding s) fits file).left ≡ now (marked broken s)
refused_left s fits file six = go (load_ends s fits file)
  where
    go : Ending s (load (holding s) fits file) → (load (holding s) fits file).left ≡ now (marked broken s)
    go (done d _) = absurd (omega (arith, d))
    go (ahead k _ _ _ l) = let n = (load (holding s) fits file).answer.number in absurd (omega (arith, between_high 1 5 n k))
    go (for_file k _ l) = l

-- the mark is no part of what soundness asks
broken_sound : (s : State) (work file : List ℕ) → (load (holding s) (work_fits work) file).left ≡ now (marked broken s) → sound s ≡ true → sound (marked broken s) ≡ true
unfolding called left_over state_after
broken_sound s work file left h = sym (ap (λ (l : Left). sound (state_after s l)) left) ∙ called_sound s (loading work file) h

-- memory that holds a broken state
pub record BrokenCells (cells : List ℕ) : Type 0 where
  pub state : State
  pub held : lent cells ≡ holding state
  pub mark : state.mark ≡ broken

module _ (cells work file : List ℕ) (r : LoadAnswer) (after : List ℕ)
    (c : Called (load (lent cells) (work_fits work) file) cells r after) (six : 6 ≤ r.number) where
  number : (load (lent cells) (work_fits work) file).answer.number ≡ r.number
  number = sym (ap (λ (a : LoadAnswer). a.number) c.answer)

  before : (s : State) × (lent cells ≡ holding s) × (work_fits work ≡ true)
  before = load_lent_lem (lent cells) (work_fits work) file (λ _. omega (arith, number))

  pub refused_fits : work_fits work ≡ true
  refused_fits = before.2

  pub refused_breaks : BrokenCells after
  refused_breaks =
      let s = before.0 in
      let held = before.1 in
      let o = load (holding s) (work_fits work) file in
      let told : r.number ≡ o.answer.number = ap (λ (a : LoadAnswer). a.number) c.answer ∙ ap (λ m. (load m (work_fits work) file).answer.number) held in
      let left = refused_left s (work_fits work) file (omega (arith, told)) in
      record {
        state = marked broken s;
        held =
            holds_then (λ m. load m (work_fits work) file) cells after r c (holding s) held o refl (marked broken s) left
            (broken_sound s work file left (held_sound cells s held));
        mark = refl;
      }

-- work memory of its length is of its length after the load
pub again_fits : (work used : List ℕ) → used ≡ work_after work_size work → work_fits work ≡ true → work_fits used ≡ true
unfolding work_after
again_fits work used e fits = ap work_fits (e ∙ ap (λ (f : Bool). cond f (replicate work_size 0) work) fits) ∙ zeros_fit work_size

pub fits : (work : List ℕ) → length work ≡ work_size → work_fits work ≡ true
fits work e = eq-eqb (length work) work_size e

-- what is then refused
module _ (cells : List ℕ) (b : BrokenCells cells) where
  pub load_shut : (work file : List ℕ) (r : LoadAnswer) (after : List ℕ) → work_fits work ≡ true → Called (load (lent cells) (work_fits work) file) cells r after → r ≡ load_answer 3 0 0 0
  load_shut work file r after fits c =
      answer_is (λ m. load m (work_fits work) file) cells after r c (holding b.state) b.held (load_stopped 3)
      (ap (λ (f : Bool). load (holding b.state) f file) fits ∙ load_broken b.state file b.mark)

  pub force_shut : (name : List ℕ) (r : CallAnswer) (after : List ℕ) → Called (force (lent cells) name) cells r after → r ≡ call_answer 3
  force_shut name r after c =
      answer_is (λ m. force m name) cells after r c (holding b.state) b.held (stopped 3) (force_broken b.state name b.mark)

  pub base_shut : (address : ℕ) (r : CallAnswer) (after : List ℕ) → Called (base (lent cells) address) cells r after → r ≡ call_answer 3
  base_shut address r after c =
      answer_is (λ m. base m address) cells after r c (holding b.state) b.held (stopped 3) (base_broken b.state address b.mark)

  pub end_shut : (out : List ℕ) (r : EndAnswer) (after written : List ℕ) → Ended (end (lent cells) out) cells r after written → (r ≡ end_answer 3 0) × (written ≡ out)
  end_shut out r after written e =
      let is : end (lent cells) out ≡ end_stopped 3 out = ap (λ m. end m out) b.held ∙ end_broken b.state out b.mark in (
        e.call.answer ∙ ap (λ (o : EndOutcome). o.call.answer) is,
        e.output ∙ ap (λ (o : EndOutcome). o.output) is,
      )

-- ---- work memory

pub work_cleared : (work after : List ℕ) → after ≡ work_after work_size work →
    (length work ≡ work_size → after ≡ replicate work_size 0) × (length work ≢ work_size → after ≡ work)
unfolding work_after
work_cleared work after e = ((λ fits. e ∙ rw (eq-eqb (length work) work_size fits)), (λ other. e ∙ rw (ne_eqb (length work) work_size other)))

-- ---- behind END

pub load_shut_out : (cells work file : List ℕ) (s : State) (r : LoadAnswer) (after : List ℕ) → lent cells ≡ holding (marked frozen s) → work_fits work ≡ true → Called (load (lent cells) (work_fits work) file) cells r after → r ≡ load_answer 4 0 0 0
load_shut_out cells work file s r after held fits c =
    let f = marked frozen s in
    answer_is (λ m. load m (work_fits work) file) cells after r c (holding f) held (load_stopped 4)
    (ap (λ (b : Bool). load (holding f) b file) fits ∙ load_frozen f file refl)
