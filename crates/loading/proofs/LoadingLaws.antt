-- Each way that LOAD can end.
use Prim.Native.Nat.{ℕ, ◌≤◌, ◌<◌}
use mathlib.Core.List.{List}
use mathlib.Core.Logic.{◌≢◌}
use mathlib.Core.Path.{◌≡◌, refl, sym, ap, subst, ◌∙◌}
use lib.ListN.{length, replicate}
use borrow.Author.Tests.{eq-eqb, ne_eqb, lt-ltb, le-ltb}
use Rattle.std.specs.Prelude.{Err}
use Rattle.rules.specs.Answers.{reason_number}
use Rattle.rules.specs.History.{work_fits}
use Rattle.rules.specs.declared.answer.Reason.{Reason}
use Rattle.rules.specs.declared.reading.Stop.{Stop}
use Rattle.soundness.specs.Checks.{Refusal as Unsound}
use Rattle.soundness.proofs.RefusalLaws.{reason_refuses, refused}
use Rattle.rules.specs.Reading.{Item, reading_of, items_of, Complete}
use Rattle.rules.specs.State.{State, marked, broken}
use Rattle.rules.specs.Load.{walking, Progress, progress, walk_items, Loaded, walked, walk_from, load_read, load_read_over, load_file, load_file_over}
use Rattle.rules.specs.Calls.{Outcome, load_answer, load_stopped, load_outcome, load_state_over, load_lent, load_lent_over, load, load_over, shut_by, work_after}
use Rattle.rules.specs.declared.answer.LoadAnswer.{LoadAnswer}
use Rattle.state.specs.Layout.{lent, encode, decode, cells_after}
use Rattle.state.specs.Good.{Holds}
use Rattle.state.proofs.LentLaws.{held_cells}
use Rattle.state.specs.Promise.{Called, LoadCalled}
use Rattle.state.proofs.PromiseLaws.{called_stopped}
use Rattle.rules.specs.declared.answer.Refusal.{Refusal}
use Rattle.placing.proofs.PlacedLaws.{goes_on_lem, stands}
use Rattle.walking.specs.declared.WalkSoFar.{WalkSoFar}
use Rattle.walking.specs.Walking.{unwalked, Tracks, Advances}

-- what a load that is read comes to
abbrev Loads : Loaded → List ℕ → LoadAnswer → List ℕ → Type 0
Loads l before a after = Called (load_outcome l) before a after

-- ---- the walk

-- a walk begins at the state that the cells hold
begins : (cells : List ℕ) → Tracks (progress (walking (decode cells)) 0) unwalked cells
begins cells = record { agrees = record { refusal_is = refl; state_is = λ _. refl }; rounds_are = refl }

module _ (items : List Item) {before after : List ℕ} {n : ℕ} {w : WalkSoFar}
    (went : Advances (λ p. walk_items p items) n unwalked before w after) where
  abbrev whole : Progress
  whole = walk_from (decode before) items

  ends : Tracks whole w after
  ends = went.does (progress (walking (decode before)) 0) (begins before)

  pub walk_accepted : w.refusal.number ≡ 0 → Loads (walked (decode before) whole) before (load_answer 0 0 0 w.rounds) after
  unfolding walked cells_after
  walk_accepted e =
      rw (goes_on_lem ends.agrees e)
      (record {
        answer = ap (load_answer 0 0 0) ends.rounds_are;
        cells = went.good.encoded ∙ ap encode (ends.agrees.state_is e);
      })

  -- `back` is what was put back
  pub walk_refused : {left back : List ℕ} → back ≡ before → w.refusal.number ≢ 0 → Holds left (marked broken (decode back)) →
      Loads (walked (decode before) whole) before (load_answer w.refusal.number w.refusal.line 0 0) left
  unfolding walked cells_after
  walk_refused same z h =
      rw (stands ends.agrees z)
      (record {
        answer = ap (λ (r : Refusal). load_answer r.number r.line 0 0) ends.agrees.refusal_is;
        cells = held_cells h ∙ ap (λ b. encode (marked broken (decode b))) same;
      })

-- ---- the file

module _ (s : State) (file : List ℕ) {before after : List ℕ} where
  pub file_stopped : (stop : Stop) → Err stop ≡ reading_of file → Holds after (marked broken s) →
      Loads (load_file s file) before (load_answer stop.number stop.line stop.column 0) after
  unfolding load_file_over load_read_over cells_after
  file_stopped stop e h =
      subst (λ r. Loads (load_read s file r) before (load_answer stop.number stop.line stop.column 0) after) e (record { answer = refl; cells = held_cells h })

  pub file_walked : {items : List Item} {a : LoadAnswer} → Complete ≡ reading_of file → items ≡ items_of file → Loads (walked s (walk_from s items)) before a after →
      Loads (load_file s file) before a after
  unfolding load_file_over load_read_over
  file_walked {items} {a} e i l =
      subst (λ r. Loads (load_read s file r) before a after) e (subst (λ is. Loads (walked s (walk_from s is)) before a after) i l)

-- ---- the call

module _ {cells : List ℕ} (file : List ℕ) where
  pub load_unsound : (e : Reason) → Unsound cells (reason_number e) → Called (load_lent (lent cells) file) cells (load_answer (reason_number e) 0 0 0) cells
  unfolding load_lent_over
  load_unsound e r = called_stopped (refused (λ l. load_lent l file) load_stopped refl refl e r)

  pub load_shut : (e : Reason) → Unsound cells 0 → reason_number e ≡ shut_by (decode cells).mark → Called (load_lent (lent cells) file) cells (load_answer (reason_number e) 0 0 0) cells
  unfolding load_lent_over load_state_over
  load_shut e r q = called_stopped (rw (r.holds refl, ← q) (simp (ne_eqb (reason_number e) 0 (reason_refuses e))))

  pub load_long : Unsound cells 0 → 0 ≡ shut_by (decode cells).mark → 65536 < length file → Called (load_lent (lent cells) file) cells (load_answer 5 0 0 0) cells
  unfolding load_lent_over load_state_over
  load_long r q l = called_stopped (simp (r.holds refl, sym q, lt-ltb 65536 (length file) l))

  pub load_done : {a : LoadAnswer} {after : List ℕ} → Unsound cells 0 → 0 ≡ shut_by (decode cells).mark → length file ≤ 65536 → Loads (load_file (decode cells) file) cells a after →
      Called (load_lent (lent cells) file) cells a after
  unfolding load_lent_over load_state_over
  load_done {a} {after} r q l d =
      let is : load_lent (lent cells) file ≡ load_outcome (load_file (decode cells) file) = simp (r.holds refl, sym q, le-ltb 65536 (length file) l) in
      subst (λ (o : Outcome LoadAnswer). Called o cells a after) (sym is) d

module _ {cells work : List ℕ} (file : List ℕ) where
  pub load_room : length work ≢ 65536 → LoadCalled (load (lent cells) (work_fits work) file) cells work (load_answer 1 0 0 0) cells work
  unfolding load_over work_after
  load_room z =
      let short = ne_eqb (length work) 65536 z in
      record { call = called_stopped (simp short); work_left = rw short }

  pub load_whole : (used : List ℕ) {a : LoadAnswer} {after left : List ℕ} → length work ≡ 65536 → Called (load_lent (lent cells) file) cells a after →
      length used ≡ length work → left ≡ replicate (length used) 0 →
      LoadCalled (load (lent cells) (work_fits work) file) cells work a after left
  unfolding load_over work_after
  load_whole used e d same p =
      let right = eq-eqb (length work) 65536 e in
      record { call = rw right d; work_left = rw right (p ∙ ap (λ n. replicate n 0) (same ∙ e)) }
