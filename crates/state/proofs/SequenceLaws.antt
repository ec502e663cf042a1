-- Calls in a row: what the promise of each call says of them all.
use Prim.Native.Nat.{ℕ}
use mathlib.Core.Bool.{true}
use mathlib.Core.List.{List}
use mathlib.Core.Logic.{◌≢◌}
use mathlib.Core.Path.{◌≡◌, refl, sym, ap, ap₂, ◌∙◌}
use Rattle.rules.specs.State.{State, broken, frozen, sound}
use Rattle.rules.specs.Calls.{Lent, holding, Left, as_before, now, load, force, base, reset, memory, symbols, undefined, end}
use Rattle.rules.specs.History.{Call, loading, forcing, basing, resetting, asking_high, listing, listing_undefined, ending, Reply, of_load, of_call, of_memory, of_symbols, of_undefined, of_end, work_fits, reply_over, left_by, left_over, state_after, called, called_all}
use Rattle.rules.specs.declared.answer.LoadAnswer.{LoadAnswer}
use Rattle.rules.specs.declared.answer.CallAnswer.{CallAnswer}
use Rattle.rules.specs.declared.answer.MemoryAnswer.{MemoryAnswer}
use Rattle.rules.specs.declared.answer.SymbolAnswer.{SymbolAnswer}
use Rattle.rules.specs.declared.answer.UndefinedAnswer.{UndefinedAnswer}
use Rattle.rules.specs.declared.answer.EndAnswer.{EndAnswer}
use Rattle.rules.proofs.TestLaws.{Every}
use Rattle.rules.proofs.OrderLaws.{broken_until_reset, frozen_until_reset}
use Rattle.rules.proofs.SoundCalls.{called_sound}
use Rattle.state.specs.Layout.{lent, cells_after}
use Rattle.state.specs.Promise.{Called, LoadCalled, Ended}
use Rattle.state.specs.Sequence.{cells_called, cells_called_over, Replied, Run, stop, step}
use Rattle.state.proofs.LentLaws.{held_encoded, held_sound, lent_encode}

-- ---- each call's own promise is the promise of any call

module _ (cells after : List ℕ) where
  pub load_replied : (work file : List ℕ) (r : LoadAnswer) (left : List ℕ) → LoadCalled (load (lent cells) (work_fits work) file) cells work r after left → Replied cells (loading work file) (of_load r left) after
  unfolding reply_over cells_called_over left_over
  load_replied work file r left c =
      record { reply = ap₂ {C = Reply} of_load c.call.answer c.work_left; cells = c.call.cells }

  pub force_replied : (name : List ℕ) (r : CallAnswer) → Called (force (lent cells) name) cells r after → Replied cells (forcing name) (of_call r) after
  unfolding reply_over cells_called_over left_over
  force_replied name r c = record { reply = ap of_call c.answer; cells = c.cells }

  pub base_replied : (address : ℕ) (r : CallAnswer) → Called (base (lent cells) address) cells r after → Replied cells (basing address) (of_call r) after
  unfolding reply_over cells_called_over left_over
  base_replied address r c = record { reply = ap of_call c.answer; cells = c.cells }

  pub reset_replied : (r : CallAnswer) → Called (reset (lent cells)) cells r after → Replied cells resetting (of_call r) after
  unfolding reply_over cells_called_over left_over
  reset_replied r c = record { reply = ap of_call c.answer; cells = c.cells }

  pub end_replied : (before : List ℕ) (r : EndAnswer) (out : List ℕ) → Ended (end (lent cells) before) cells r after out → Replied cells (ending before) (of_end r out) after
  unfolding reply_over cells_called_over left_over
  end_replied before r out e = record { reply = ap₂ {C = Reply} of_end e.call.answer e.output; cells = e.call.cells }

-- the calls that only look
module _ (cells : List ℕ) where
  pub memory_replied : (r : MemoryAnswer) → r ≡ memory (lent cells) → Replied cells asking_high (of_memory r) cells
  unfolding reply_over cells_called_over left_over cells_after
  memory_replied r e = record { reply = ap of_memory e; cells = refl }

  pub symbols_replied : (i : ℕ) (r : SymbolAnswer) → r ≡ symbols (lent cells) i → Replied cells (listing i) (of_symbols r) cells
  unfolding reply_over cells_called_over left_over cells_after
  symbols_replied i r e = record { reply = ap of_symbols e; cells = refl }

  pub undefined_replied : (i : ℕ) (r : UndefinedAnswer) → r ≡ undefined (lent cells) i → Replied cells (listing_undefined i) (of_undefined r) cells
  unfolding reply_over cells_called_over left_over cells_after
  undefined_replied i r e = record { reply = ap of_undefined e; cells = refl }

-- ---- what is lent holds a sound state, and after any call the state that the call's definition gives

module _ (cells : List ℕ) (s : State) (h : lent cells ≡ holding s) where
  left_holds : (l : Left) → sound (state_after s l) ≡ true → lent (cells_after cells l) ≡ holding (state_after s l)
  unfolding cells_after state_after
  left_holds as_before y = h
  left_holds (now t) y = lent_encode t y

  pub holds_called : (c : Call) → lent (cells_called cells c) ≡ holding (called s c)
  unfolding cells_called_over called
  holds_called c =
      ap (λ (m : Lent). lent (cells_after cells (left_by m c))) h
      ∙ left_holds (left_by (holding s) c) (called_sound s c (held_sound cells s h))

-- and after any calls in a row
pub holds_run :
    {cells last : List ℕ} {cs : List Call} {rs : List Reply} → Run cells cs rs last → (s : State) → lent cells ≡ holding s
    → lent last ≡ holding (called_all s cs)
unfolding called_all
holds_run stop s h = h
holds_run {cells} (step {c} p run) s h = holds_run run (called s c) (ap lent p.cells ∙ holds_called cells s h c)

-- ---- "the broken mark, which only a reset clears", on memory

-- memory that holds a state which the calls leave as it is
stays_run :
    {cells last : List ℕ} {cs : List Call} {rs : List Reply} → Run cells cs rs last → (s : State) → lent cells ≡ holding s
    → called_all s cs ≡ s → last ≡ cells
stays_run {cells} {last} run s h e = held_encoded last s (holds_run run s h ∙ ap holding e) ∙ sym (held_encoded cells s h)

-- whatever calls come, until one is RESET: every cell of a broken link is as it was
pub broken_cells_stay :
    {cells last : List ℕ} {cs : List Call} {rs : List Reply} → Run cells cs rs last → (s : State) → lent cells ≡ holding s
    → s.mark ≡ broken → Every (λ c. c ≢ resetting) cs → last ≡ cells
broken_cells_stay {cs} run s h e others = stays_run run s h (broken_until_reset s e cs others)

-- and of a frozen one
pub frozen_cells_stay :
    {cells last : List ℕ} {cs : List Call} {rs : List Reply} → Run cells cs rs last → (s : State) → lent cells ≡ holding s
    → s.mark ≡ frozen → Every (λ c. c ≢ resetting) cs → last ≡ cells
frozen_cells_stay {cs} run s h e others = stays_run run s h (frozen_until_reset s e cs others)
