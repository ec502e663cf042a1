-- Document 02, 1/14, on memory: MEMORY tells the same before and after FORCE, BASE and END, and whatever calls come, until a RESET it
-- tells no lower address. So no step back of the base can cut an image off.
use Prim.Native.Nat.{ℕ}
use native.Mathlib.Omega.{arith}
use mathlib.Core.Bool.{Bool, true, false}
use mathlib.Core.List.{List}
use mathlib.Core.Logic.{◌≢◌}
use mathlib.Core.Path.{◌≡◌, refl, sym, ap, subst, ◌∙◌}
use Rattle.rules.specs.State.{State}
use Rattle.rules.specs.Calls.{Lent, wrong_length, damaged, holding, as_before, load_lent_over, load, load_over, force_over, base, memory, end}
use Rattle.rules.specs.History.{Call, loading, forcing, basing, resetting, asking_high, listing, listing_undefined, ending, Reply, work_fits, left_by, left_over, called, called_all}
use Rattle.rules.proofs.TestLaws.{Every}
use Rattle.rules.proofs.BoolLaws.{never}
use Rattle.rules.proofs.HighLaws.{force_keeps_high, base_keeps_high, end_keeps_high, high_until_reset}
use Rattle.state.specs.Layout.{lent, cells_after}
use Rattle.state.specs.Sequence.{cells_called, cells_called_over, Replied, Run, stop, step, NotLower}
use Rattle.state.proofs.LentLaws.{held_sound}
use Rattle.state.proofs.SequenceLaws.{holds_called, holds_run}

-- ---- memory that holds no sound state: every call but RESET leaves it

data Unheld : Lent → Type 0 where
  short : Unheld wrong_length
  spoilt : Unheld damaged

load_leaves : {m : Lent} → Unheld m → (fits : Bool) (file : List ℕ) → (load m fits file).left ≡ as_before
unfolding load_over load_lent_over
load_leaves u false file = refl
load_leaves short true file = refl
load_leaves spoilt true file = refl

unheld_left : {m : Lent} → Unheld m → (c : Call) → c ≢ resetting → left_by m c ≡ as_before
unfolding left_over force_over base end
unheld_left u (loading work file) other = load_leaves u (work_fits work) file
unheld_left short (forcing name) other = refl
unheld_left spoilt (forcing name) other = refl
unheld_left short (basing address) other = refl
unheld_left spoilt (basing address) other = refl
unheld_left u resetting other = absurd (other refl)
unheld_left u asking_high other = refl
unheld_left u (listing i) other = refl
unheld_left u (listing_undefined i) other = refl
unheld_left short (ending out) other = refl
unheld_left spoilt (ending out) other = refl

unheld_stays : (cells : List ℕ) → Unheld (lent cells) → (c : Call) → c ≢ resetting → cells_called cells c ≡ cells
unfolding cells_called_over cells_after
unheld_stays cells u c other = ap (cells_after cells) (unheld_left u c other)

unheld_run : {cells last : List ℕ} {cs : List Call} {rs : List Reply} → Run cells cs rs last → Unheld (lent cells) → Every (λ c. c ≢ resetting) cs → last ≡ cells
unheld_run stop u others = refl
unheld_run {cells} (step {c} p run) u others =
    let same = p.cells ∙ unheld_stays cells u c others.0 in
    unheld_run run (subst (λ (l : List ℕ). Unheld (lent l)) (sym same) u) others.1 ∙ same

-- ---- what MEMORY tells

abbrev pub is_reset : Call → Bool
is_reset (loading work file) = false
is_reset (forcing name) = false
is_reset (basing address) = false
is_reset resetting = true
is_reset asking_high = false
is_reset (listing i) = false
is_reset (listing_undefined i) = false
is_reset (ending out) = false

pub no_reset : (c : Call) → is_reset c ≡ false → c ≢ resetting
no_reset c f e = never (ap is_reset e) f

-- a call that changes no HIGH
module _ (c : Call) (other : c ≢ resetting) (keeps : (s : State) → memory (holding (called s c)) ≡ memory (holding s)) where
  same_high : (cells after : List ℕ) (r : Reply) → Replied cells c r after → memory (lent after) ≡ memory (lent cells)
  same_high cells after r p = ap (λ (l : List ℕ). memory (lent l)) p.cells ∙ go (lent cells) refl
    where
      go : (m : Lent) → lent cells ≡ m → memory (lent (cells_called cells c)) ≡ memory (lent cells)
      go wrong_length e = ap (λ (l : List ℕ). memory (lent l)) (unheld_stays cells (subst Unheld (sym e) short) c other)
      go damaged e = ap (λ (l : List ℕ). memory (lent l)) (unheld_stays cells (subst Unheld (sym e) spoilt) c other)
      go (holding s) e = ap memory (holds_called cells s e c) ∙ keeps s ∙ sym (ap memory e)

pub force_tells_same : (name cells after : List ℕ) (r : Reply) → Replied cells (forcing name) r after → memory (lent after) ≡ memory (lent cells)
force_tells_same name = same_high (forcing name) (no_reset (forcing name) refl) (λ s. force_keeps_high s name)

pub base_tells_same : (address : ℕ) (cells after : List ℕ) (r : Reply) → Replied cells (basing address) r after → memory (lent after) ≡ memory (lent cells)
base_tells_same address = same_high (basing address) (no_reset (basing address) refl) (λ s. base_keeps_high s address)

pub end_tells_same : (out cells after : List ℕ) (r : Reply) → Replied cells (ending out) r after → memory (lent after) ≡ memory (lent cells)
end_tells_same out = same_high (ending out) (no_reset (ending out) refl) (λ s. end_keeps_high s out)

done_both : (s t : State) → (memory (holding t)).number ≡ (memory (holding s)).number
unfolding memory
done_both s t = refl

-- whatever calls come, until one is RESET
pub step_back :
    {cells last : List ℕ} {cs : List Call} {rs : List Reply} → Run cells cs rs last → Every (λ c. c ≢ resetting) cs
    → NotLower (memory (lent cells)) (memory (lent last))
step_back {cells} {last} {cs} run others = go (lent cells) refl
  where
    unchanged : last ≡ cells → NotLower (memory (lent cells)) (memory (lent last))
    unchanged e = rw e (record { as_told = refl; high = λ some. (omega arith, some) })

    go : (m : Lent) → lent cells ≡ m → NotLower (memory (lent cells)) (memory (lent last))
    go wrong_length e = unchanged (unheld_run run (subst Unheld (sym e) short) others)
    go damaged e = unchanged (unheld_run run (subst Unheld (sym e) spoilt) others)
    go (holding s) e = rw (e, holds_run run s e) (record { as_told = done_both s (called_all s cs); high = high_until_reset s (held_sound cells s e) cs others })
