-- LOAD: its contract as a whole, of a file that is one library, and the symbols that are left.
use Prim.Native.Nat.{ℕ}
use mathlib.Core.Bool.{Bool}
use mathlib.Core.List.{List, [], ◌∷◌}
use mathlib.Core.Path.{◌≡◌, ap, subst, ◌∙◌}
use lib.ListN.{length}
use borrow.Author.Tests.{eq-eqb}
use Rattle.rules.specs.Limits.{work_size}
use Rattle.rules.specs.Reading.{Module, section, reading_of, items_of, Stopped}
use Rattle.rules.specs.State.{State, broken, marked}
use Rattle.rules.specs.Load.{refusal, walking, searched, walk_from, loaded, load_read, load_read_over, load_file, load_file_over}
use Rattle.rules.specs.Calls.{holding, Outcome, load_outcome, load, symbol_at, symbols}
use Rattle.rules.specs.History.{work_fits}
use Rattle.rules.specs.declared.answer.LoadAnswer.{LoadAnswer}
use Rattle.rules.specs.Demand.{LeastSufficient, LeastAtEach}
use Rattle.rules.specs.declared.answer.SymbolAnswer.{SymbolAnswer}
use Rattle.rules.proofs.OrderLaws.{load_reads, columns_named}
use Rattle.rules.proofs.ToldLaws.{leftmost_told}
use Rattle.rules.proofs.Demand3.{library_least}
use Rattle.state.specs.Layout.{lent, cells_after}
use Rattle.state.specs.Promise.{LoadCalled, DemandMet}
use Rattle.state.proofs.AcceptedBefore.{load_accepted}
use Rattle.loading.proofs.LoadDemand.{load_least, load_rounds_most}
use Rattle.customers.specs.Words.{LoadKept, Listed}
use Rattle.customers.proofs.LentBefore.{same_held, answer_is}
use Rattle.customers.proofs.RefusedLaws.{refused_keeps, work_cleared}

module _ (cells file after : List ℕ) (d : DemandMet cells file after) (s : State) (h : lent cells ≡ holding s) where
  -- demand 3 from the state that was lent
  least_from : LeastAtEach s file d.to
  least_from = subst (λ t. LeastAtEach t file d.to) (same_held d.held h) d.least

  library_left : (line : ℕ) (ms : List Module) → items_of file ≡ section line ms ∷ [] →
      LeastSufficient s.symbols ms (searched ms (walking s)).taken × (lent after ≡ holding (searched ms (walking s)).now.state)
  library_left line ms e =
      let here = library_least s d.to file line ms least_from e in
      (here.0, d.holds ∙ ap holding here.1)

  symbols_left : (i : ℕ) (r : SymbolAnswer) → r ≡ symbols (lent after) i → r ≡ symbol_at (walk_from s (items_of file)).walk.state.symbols i
  unfolding symbols
  symbols_left i r e = e ∙ ap (λ m. symbols m i) d.holds ∙ ap (λ (t : State). symbol_at t.symbols i) least_from.ends

-- what a file that cannot be read comes to
stopped_load : (s : State) (file : List ℕ) (k n c : ℕ) → reading_of file ≡ Stopped k n c → load_file s file ≡ loaded (refusal k n) c 0 (marked broken s)
unfolding load_file_over load_read_over
stopped_load s file k n c e = ap (load_read s file) e

module _ (before work file : List ℕ) (r : LoadAnswer) (after used : List ℕ) (p : LoadCalled (load (lent before) (work_fits work) file) before work r after used) where
  pub load_kept : LoadKept before work file r after used
  load_kept =
      let c = p.call in
      let kept = refused_keeps before work file r after c in
      let least = load_least before work file r after c in
      record {
        kept = λ z. (kept z).0;
        unread = λ z few. (kept z).1 few;
        told = λ s k n c h mark room short e.
            answer_is (λ m. load m (work_fits work) file) before after r p.call (holding s) h
            (load_outcome (loaded (refusal k n) c 0 (marked broken s)))
            (ap (λ (f : Bool). load (holding s) f file) (eq-eqb (length work) work_size room)
            ∙ load_reads s file mark short
            ∙ ap load_outcome (stopped_load s file k n c e));
        leftmost_told = λ s ls more line f h mark room short lines clean least.
            answer_is (λ m. load m (work_fits work) file) before after r p.call (holding s) h _
            (ap (λ (f : Bool). load (holding s) f file) (eq-eqb (length work) work_size room)
            ∙ leftmost_told ls more line f clean least s file mark short lines);
        accepted_before = λ e.
            let same = load_accepted before (work_fits work) file e in
            (c.answer ∙ ap (λ (o : Outcome LoadAnswer). o.answer) same, c.cells ∙ ap (λ (o : Outcome LoadAnswer). cells_after before o.left) same);
        columns = rw c.answer (columns_named (lent before) (work_fits work) file);
        cleared = (work_cleared work used p.work_left).0;
        untouched = (work_cleared work used p.work_left).1;
        least = least;
        library = λ z s line ms h e. library_left before file after (least z) s h line ms e;
        rounds = λ z s h. load_rounds_most before work file r after c z s h;
      }

  pub listed : (i : ℕ) (q : SymbolAnswer) → q ≡ symbols (lent after) i → Listed before file i r q
  listed i q e z s h = symbols_left before file after (load_least before work file r after p.call z) s h i q e
