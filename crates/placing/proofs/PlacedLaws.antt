-- Placing the module of a row, by a walk that goes on or is refused.
use Prim.Native.Nat.{ℕ}
use mathlib.Core.Bool.{true, false}
use mathlib.Core.List.{List}
use mathlib.Core.Logic.{◌≢◌}
use mathlib.Core.Path.{◌≡◌, refl, sym, ap, ap₂, subst, ◌∙◌}
use borrow.Author.Tests.{eq-eqb, ne_eqb}
use Rattle.rules.specs.Reading.{Module, module_at}
use Rattle.rules.specs.State.{State}
use Rattle.rules.specs.Placing.{placing_fault, placed}
use Rattle.rules.specs.Load.{refusal, Walk, accepted, try_place, place}
use Rattle.rules.specs.declared.answer.Refusal.{Refusal}
use Rattle.rules.proofs.ReadingLaws.{ModuleSound}
use Rattle.tables.specs.Tables.{parts_of, line_in, start_in, end_in, cells_in, module_in}
use Rattle.state.specs.Layout.{decode}
use Rattle.state.specs.Good.{Good}
use Rattle.placing.specs.Effects.{Tried}
use Rattle.placing.specs.Walks.{Agrees, PlacedRow}
use Rattle.rules.specs.Answers.{reason_number}
use Rattle.rules.specs.declared.answer.Reason.{Reason}
use Rattle.rules.specs.declared.reading.Part.{Part}
use Rattle.placing.proofs.ReasonLaws.{refuses}
use Rattle.placing.proofs.PlaceLaws.{any_line}

-- the module of a row, from the parts that are lent
module _ (parts rows : List ℕ) (row : ℕ) {ps : List Part} (q : ps ≡ parts_of (cells_in parts (start_in rows row) (end_in rows row))) where
  module_is : module_in parts rows row ≡ module_at (line_in rows row) ps
  unfolding module_in
  module_is = sym (ap (module_at (line_in rows row)) q)

  pub sound_lent : ModuleSound (module_in parts rows row) → ModuleSound (module_at 0 ps)
  sound_lent h = subst ModuleSound module_is h

  pub tried_row : {s : State} {r : ℕ} {after : List ℕ} → Tried s (module_at 0 ps) r after → Tried s (module_in parts rows row) r after
  tried_row {s} {r} {after} t = subst (λ m. Tried s m r after) (sym module_is) (any_line t)

pub line_row : (parts rows : List ℕ) (row : ℕ) → (module_in parts rows row).line ≡ line_in rows row
unfolding module_in
line_row parts rows row = refl

module _ {w : Walk} {r : Refusal} {cells : List ℕ} (a : Agrees w r cells) where
  pub goes_on_lem : r.number ≡ 0 → accepted w ≡ true
  goes_on_lem z = eq-eqb w.refusal.number 0 (sym (ap (λ (x : Refusal). x.number) a.refusal_is) ∙ z)

  pub stands : r.number ≢ 0 → accepted w ≡ false
  stands n = ne_eqb w.refusal.number 0 (λ e. n (ap (λ (x : Refusal). x.number) a.refusal_is ∙ e))

module _ {m : Module} {old : Refusal} {before : List ℕ} where
  pub place_refused : Good before → old.number ≢ 0 → PlacedRow m old before old before
  unfolding place
  place_refused g n = record { good = g; does = λ w a. subst (λ v. Agrees v old before) (sym (rw (stands a n))) a }

  module _ (z : old.number ≡ 0) {after : List ℕ} where
    pub place_done : Tried (decode before) m 0 after → PlacedRow m old before (refusal 0 0) after
    unfolding place try_place
    place_done t =
        record {
          good = t.good;
          does =
              λ w a.
              let s : decode before ≡ w.state = a.state_is z in
              let none : placing_fault w.state m ≡ 0 = ap (λ v. placing_fault v m) (sym s) ∙ sym t.number in
              rw (goes_on_lem a z, none) (record { refusal_is = refl; state_is = λ _. t.done refl ∙ ap (λ v. placed v m) s });
        }

    pub place_not : (e : Reason) → Tried (decode before) m (reason_number e) after → {r l : ℕ} → r ≡ reason_number e → l ≡ m.line →
        PlacedRow m old before (refusal r l) after
    unfolding place try_place
    place_not e t {r} {l} o q =
        let n : r ≢ 0 = λ z. refuses e (sym o ∙ z) in
        record {
          good = t.good;
          does =
              λ w a.
              let s : decode before ≡ w.state = a.state_is z in
              let is : r ≡ placing_fault w.state m = o ∙ t.number ∙ ap (λ v. placing_fault v m) s in
              rw (goes_on_lem a z, ne_eqb (placing_fault w.state m) 0 (λ e. n (is ∙ e)))
              (record { refusal_is = ap₂ refusal is q; state_is = λ f. absurd (n f) });
        }
