-- After RESET.
use Prim.Native.Nat.{ℕ}
use mathlib.Core.Bool.{Bool, true, false, cond}
use native.Mathlib.Omega.{arith}
use mathlib.Core.List.{List, [], ◌∷◌}
use mathlib.Core.Logic.{◌≢◌}
use mathlib.Core.Path.{◌≡◌, refl, sym, ap, subst, ◌∙◌}
use lib.ListN.{length, replicate}
use lib.Dec.{eqb}
use borrow.Author.Tests.{le-ltb}
use Rattle.rules.specs.State.{State, fresh}
use Rattle.rules.specs.Calls.{Lent, holding, Outcome, call_answer, stopped, reset, memory, memory_answer, symbols, symbol_at, symbol_none, undefined, undefined_at, undefined_none, work_after, load, end}
use Rattle.rules.specs.Limits.{work_size}
use Rattle.rules.specs.History.{Call, loading, ending, of_call, of_load, of_end, work_fits}
use Rattle.rules.specs.State as State
use Rattle.rules.specs.declared.answer.CallAnswer.{CallAnswer}
use Rattle.rules.specs.declared.answer.LoadAnswer.{LoadAnswer}
use Rattle.rules.specs.declared.answer.EndAnswer.{EndAnswer}
use Rattle.rules.specs.declared.answer.MemoryAnswer.{MemoryAnswer}
use Rattle.rules.specs.declared.answer.SymbolAnswer.{SymbolAnswer}
use Rattle.rules.specs.declared.answer.UndefinedAnswer.{UndefinedAnswer}
use Rattle.rules.proofs.SoundCalls.{fresh_is_sound}
use Rattle.state.specs.Layout.{size, lent, cells_after}
use Rattle.state.specs.Promise.{Called, LoadCalled, Ended}
use Rattle.state.specs.Sequence.{stop, step, Alike, none, same, loads}
use Rattle.state.proofs.LentLaws.{lent_wrong, lent_encode}
use Rattle.state.proofs.SequenceLaws.{reset_replied, load_replied, end_replied}
use Rattle.state.proofs.LastWeek.{reset_always, last_week_is_gone}
use Rattle.customers.proofs.LentBefore.{zeros_fit}
use Rattle.customers.specs.Words.{ResetKept, Memories, memories, Linked, SameLinks}

module _ (cells next : List ℕ) (a : CallAnswer) (c : Called (reset (lent cells)) cells a next) where
  reset_answer : length cells ≡ size → a ≡ call_answer 0
  reset_answer e = c.answer ∙ ap (λ (o : Outcome CallAnswer). o.answer) (reset_always cells e)

  reset_refused : length cells ≢ size → (a ≡ call_answer 1) × (next ≡ cells)
  unfolding reset cells_after
  reset_refused e =
      let is : reset (lent cells) ≡ stopped 1 = ap reset (lent_wrong cells e) in (
        c.answer ∙ ap (λ (o : Outcome CallAnswer). o.answer) is,
        c.cells ∙ ap (λ (o : Outcome CallAnswer). cells_after cells o.left) is,
      )

  -- what memory holds after RESET
  pub reset_holds : length cells ≡ size → lent next ≡ holding fresh
  unfolding cells_after
  reset_holds e =
      ap lent (c.cells ∙ ap (λ (o : Outcome CallAnswer). cells_after cells o.left) (reset_always cells e))
      ∙ lent_encode fresh fresh_is_sound

  pub reset_kept : ResetKept cells a next
  reset_kept =
      record {
        done = reset_answer;
        refused = λ other. (reset_refused other).0;
        untouched = λ other. (reset_refused other).1;
      }

-- what is told of it
fresh_symbols : (i : ℕ) → symbols (holding fresh) i ≡ symbol_none 0 1
unfolding symbols symbol_at fresh
fresh_symbols i = rw (le-ltb i 0 (omega arith))

fresh_undefined : (i : ℕ) → undefined (holding fresh) i ≡ undefined_none 0 1
unfolding undefined undefined_at fresh State.undefined_only
fresh_undefined i = rw (le-ltb i 0 (omega arith))

fresh_memory : memory (holding fresh) ≡ memory_answer 0 65535
unfolding memory State.highest_where State.highest_from fresh State.no_words
fresh_memory = refl

module _ (cells next : List ℕ) (a : CallAnswer) (c : Called (reset (lent cells)) cells a next) (e : length cells ≡ size) where
  pub nothing_listed : (i : ℕ) (r : SymbolAnswer) → r ≡ symbols (lent next) i → r ≡ symbol_none 0 1
  nothing_listed i r p = p ∙ ap (λ (m : Lent). symbols m i) (reset_holds cells next a c e) ∙ fresh_symbols i

  pub nothing_undefined : (i : ℕ) (r : UndefinedAnswer) → r ≡ undefined (lent next) i → r ≡ undefined_none 0 1
  nothing_undefined i r p = p ∙ ap (λ (m : Lent). undefined m i) (reset_holds cells next a c e) ∙ fresh_undefined i

  pub nothing_high : (r : MemoryAnswer) → r ≡ memory (lent next) → r ≡ memory_answer 0 65535
  nothing_high r p = p ∙ ap memory (reset_holds cells next a c e) ∙ fresh_memory

-- ---- a link, and two of them

module _
    {state cleared loaded ended work used out written file : List ℕ} {a : CallAnswer} {load_answer_lem : LoadAnswer} {end_answer_lem : EndAnswer}
    (r : Called (reset (lent state)) state a cleared)
    (l : LoadCalled (load (lent cleared) (work_fits work) file) cleared work load_answer_lem loaded used)
    (e : Ended (end (lent loaded) out) loaded end_answer_lem ended written) where
  pub linked : Linked (memories state work out) file load_answer_lem end_answer_lem (memories ended used written)
  linked =
      record {
        reset = a;
        run =
            step (reset_replied state cleared a r)
            (step (load_replied cleared loaded work file load_answer_lem used l)
            (step (end_replied loaded ended out end_answer_lem written e) stop));
        cleared = l.work_left;
      }

alike_self : (cs : List Call) → Alike cs cs
alike_self [] = none
alike_self (c ∷ cs) = same (alike_self cs)

-- work memory that a load has left is as good as it was
work_again : (work used : List ℕ) → used ≡ work_after work_size work → (file : List ℕ) (cs : List Call) → Alike (loading work file ∷ cs) (loading used file ∷ cs)
unfolding work_after
work_again work used e file cs = go (work_fits work) refl e
  where
    go : (fits : Bool) → work_fits work ≡ fits → used ≡ cond fits (replicate work_size 0) work → Alike (loading work file ∷ cs) (loading used file ∷ cs)
    go true f u = loads f (ap (λ (l : List ℕ). eqb (length l) work_size) u ∙ zeros_fit work_size) (alike_self cs)
    go false f u = subst (λ (l : List ℕ). Alike (loading work file ∷ cs) (loading l file ∷ cs)) (sym u) (alike_self (loading work file ∷ cs))

-- two links of one file, the second with the work memory that the first has left
pub two_links :
    (first second work out again file : List ℕ) (l m : LoadAnswer) (d e : EndAnswer) (a b : Memories)
    → Linked (memories first work out) file l d a → Linked (memories second a.work again) file m e b → out ≡ again
    → length first ≡ size → length second ≡ size
    → SameLinks l m d e a.state b.state a.out b.out
two_links first second work out again file l m d e a b x y' same_out la lb =
    let y = subst (λ (o : List ℕ). Linked (memories second a.work o) file m e b) (sym same_out) y' in
    let alike = work_again work a.work x.cleared file (ending out ∷ []) in
    let same = last_week_is_gone la lb alike x.run y.run in
    told y.reset same.0 same.1
  where
    told : (z : CallAnswer) → of_call x.reset ∷ of_load l a.work ∷ of_end d a.out ∷ [] ≡ of_call z ∷ of_load m b.work ∷ of_end e b.out ∷ [] → a.state ≡ b.state →
        SameLinks l m d e a.state b.state a.out b.out
    told z p s = record { loads = cc; ends = cc; states = s; images = cc }
