-- Demand 3 on LOAD itself, and the bound of its rounds: from its contract, and an answer 0.
use Prim.Native.Nat.{ℕ, ◌+◌, ◌≤◌}
use native.Mathlib.Omega.{arith}
use mathlib.Core.Bool.{true}
use mathlib.Core.List.{List}
use mathlib.Core.Path.{◌≡◌, sym, ap, ap₂, ◌∙◌}
use Rattle.rules.specs.Reading.{items_of}
use Rattle.rules.specs.State.{State}
use Rattle.rules.specs.Load.{walk_from, taken_in, sections_in, progress, walking}
use Rattle.rules.specs.Calls.{holding, now, Outcome, load}
use Rattle.rules.specs.declared.answer.LoadAnswer.{LoadAnswer}
use Rattle.rules.specs.History.{loading, work_fits, left_over, state_after, called}
use Rattle.rules.proofs.WalkLaws.{load_accepted}
use Rattle.rules.proofs.RoundLaws.{load_rounds}
use Rattle.rules.proofs.OrderLaws.{load_lent_lem}
use Rattle.rules.proofs.Demand3.{demand_3}
use Rattle.state.specs.Layout.{lent}
use Rattle.state.specs.Promise.{Called, DemandMet}
use Rattle.state.specs.Sequence.{cells_called_over}
use Rattle.state.proofs.LentLaws.{held_sound}
use Rattle.state.proofs.SequenceLaws.{holds_called}

module _ (cells work file : List ℕ) (r : LoadAnswer) (left : List ℕ)
    (c : Called (load (lent cells) (work_fits work) file) cells r left) (z : r.number ≡ 0) where
  -- what an accepted load was lent
  lent_sound : (s : State) × (lent cells ≡ holding s) × (work_fits work ≡ true)
  lent_sound =
      load_lent_lem (lent cells) (work_fits work) file (λ some. absurd (omega (arith, ap (λ (a : LoadAnswer). a.number) c.answer, z)))

  -- so its outcome is that of a load from that state
  module _ (s : State) (h : lent cells ≡ holding s) where
    is : load (lent cells) (work_fits work) file ≡ load (holding s) true file
    is = ap₂ {C = Outcome LoadAnswer} (λ m fits. load m fits file) h lent_sound.2

    done : (load (holding s) true file).answer.number ≡ 0
    done = sym (ap (λ (o : Outcome LoadAnswer). o.answer.number) is) ∙ sym (ap (λ (a : LoadAnswer). a.number) c.answer) ∙ z

    -- "they are at most modules taken plus sections"
    pub load_rounds_most : r.rounds ≤ taken_in (progress (walking s) 0) (items_of file) + sections_in (items_of file)
    load_rounds_most =
        let told : r.rounds ≡ (load (holding s) true file).answer.rounds =
        ap (λ (a : LoadAnswer). a.rounds) c.answer ∙ ap (λ (o : Outcome LoadAnswer). o.answer.rounds) is in
        omega (arith, load_rounds s file done, told)

  pub load_least : DemandMet cells file left
  unfolding called left_over state_after cells_called_over
  load_least =
      let from = lent_sound.0 in
      let held = lent_sound.1 in
      let accepted = done from held in
      let to = (walk_from from (items_of file)).walk.state in
      let leaves : (load (holding from) true file).left ≡ now to = ap (λ (o : Outcome LoadAnswer). o.left) (load_accepted from file accepted).1 in
      let state : called from (loading work file) ≡ to =
      ap (λ fits. state_after from (load (holding from) fits file).left) lent_sound.2 ∙ ap (state_after from) leaves in
      record {
        from = from;
        to = to;
        held = held;
        holds = ap lent c.cells ∙ holds_called cells from held (loading work file) ∙ ap holding state;
        least = demand_3 from to file (held_sound cells from held) accepted leaves;
      }
