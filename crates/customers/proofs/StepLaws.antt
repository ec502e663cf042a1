-- MEMORY before and after FORCE, BASE and a load behind a BASE.
use Prim.Native.Nat.{ℕ}
use mathlib.Core.List.{List}
use mathlib.Core.Path.{◌≡◌, refl, sym, ◌∙◌}
use Rattle.rules.specs.Calls.{force, base, load, memory}
use Rattle.rules.specs.History.{basing, loading, of_call, work_fits}
use Rattle.rules.specs.declared.answer.CallAnswer.{CallAnswer}
use Rattle.rules.specs.declared.answer.LoadAnswer.{LoadAnswer}
use Rattle.rules.specs.declared.answer.MemoryAnswer.{MemoryAnswer}
use Rattle.state.specs.Layout.{lent}
use Rattle.state.specs.Promise.{Called, LoadCalled}
use Rattle.state.specs.Sequence.{stop, step, NotLower}
use Rattle.state.proofs.SequenceLaws.{force_replied, base_replied, load_replied}
use Rattle.state.proofs.StepBack.{force_tells_same, base_tells_same, no_reset, step_back}

module _ (cells after : List ℕ) (q r : MemoryAnswer) (first : q ≡ memory (lent cells)) (a : CallAnswer) where
  pub force_same : (name : List ℕ) → Called (force (lent cells) name) cells a after → r ≡ memory (lent after) → r ≡ q
  force_same name c second = second ∙ force_tells_same name cells after (of_call a) (force_replied cells after name a c) ∙ sym first

  pub base_same : (address : ℕ) → Called (base (lent cells) address) cells a after → r ≡ memory (lent after) → r ≡ q
  base_same address c second = second ∙ base_tells_same address cells after (of_call a) (base_replied cells after address a c) ∙ sym first

  pub stepped_back :
      (address : ℕ) (work file : List ℕ) (b : LoadAnswer) (last used : List ℕ) → Called (base (lent cells) address) cells a after
      → LoadCalled (load (lent after) (work_fits work) file) after work b last used → r ≡ memory (lent last) → NotLower q r
  stepped_back address work file b last used c l second =
      rw (first, second)
      (step_back
      (step (base_replied cells after address a c) (step (load_replied after last work file b used l) stop))
      (no_reset (basing address) refl, (no_reset (loading work file) refl, tt)))
