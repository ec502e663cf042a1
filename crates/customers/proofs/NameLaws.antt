-- FORCE and BASE, from the fresh state.
use Prim.Native.Nat.{ℕ, ◌≤◌, ◌<◌}
use native.Mathlib.Omega.{arith}
use mathlib.Core.Bool.{true, false}
use mathlib.Core.List.{List}
use mathlib.Core.Path.{◌≡◌, refl, sym, ap, ◌∙◌}
use Rattle.rules.specs.Text as Text
use Rattle.rules.specs.Text.{is_name, pack_name}
use Rattle.rules.specs.State as State
use Rattle.rules.specs.State.{State, state, fresh, no_words, position_of, undefined_only, highest_from, highest_where, highest, sound}
use Rattle.rules.specs.Placing.{mention}
use Rattle.rules.specs.Calls.{Lent, holding, Outcome, stopped, done, with_symbols, load, reset, force, base, symbols, undefined, undefined_at}
use Rattle.rules.specs.History.{forcing, basing, work_fits, left_over, state_after, called}
use Rattle.rules.specs.declared.answer.CallAnswer.{CallAnswer}
use Rattle.rules.specs.declared.answer.LoadAnswer.{LoadAnswer}
use Rattle.rules.specs.declared.answer.SymbolAnswer.{SymbolAnswer}
use Rattle.rules.specs.declared.answer.UndefinedAnswer.{UndefinedAnswer}
use Rattle.rules.proofs.OrderLaws.{force_no_name, force_new, base_over, base_moves}
use Rattle.rules.proofs.SoundCalls.{called_sound, fresh_is_sound}
use Rattle.state.specs.Layout.{lent}
use Rattle.state.specs.Promise.{Called, LoadCalled}
use Rattle.customers.specs.Words.{forced_only, Forced, Moved}
use Rattle.customers.proofs.LentBefore.{answer_is, holds_then}
use Rattle.customers.proofs.FreshLaws.{reset_holds}
use Rattle.customers.proofs.LoadLaws.{listed}

-- ---- FORCE

abbrev forced : List ℕ → State
forced name = with_symbols (mention (pack_name name) fresh.symbols) fresh

module _ (name : List ℕ) (legal : is_name name ≡ true) where
  force_fresh : force (holding fresh) name ≡ done (forced name)
  unfolding fresh Text.any State.is_symbol
  force_fresh = force_new fresh name refl legal refl (omega arith)

  forced_sound : sound (forced name) ≡ true
  unfolding called left_over state_after
  forced_sound =
      sym (ap (λ (o : Outcome CallAnswer). sound (state_after fresh o.left)) force_fresh)
      ∙ called_sound fresh (forcing name) fresh_is_sound

-- no word of the fresh state refers to anything
none_refers : (i : ℕ) → highest i fresh.words ≡ 65535
unfolding highest_where highest_from fresh no_words
none_refers i = refl

forced_listed : (name : List ℕ) → undefined (holding (forced name)) 0 ≡ forced_only (pack_name name)
unfolding undefined undefined_at undefined_only mention fresh
forced_listed name = ap forced_at (none_refers (position_of (pack_name name) (forced name).symbols))
  where
    forced_at : ℕ → UndefinedAnswer
    forced_at h = record { number = 0; line = 0; none = 0; name = pack_name name; value = 0; defined = 0; highest = h }

force_refused : (name : List ℕ) → is_name name ≡ false → force (holding fresh) name ≡ stopped 15
unfolding fresh
force_refused name no_name = force_no_name fresh name refl no_name

-- ---- BASE

abbrev moved : ℕ → State
moved address = state fresh.symbols fresh.words address fresh.mark

module _ (address : ℕ) (low : address ≤ 4095) where
  base_fresh : base (holding fresh) address ≡ done (moved address)
  unfolding fresh
  base_fresh = base_moves fresh address refl low

  moved_sound : sound (moved address) ≡ true
  unfolding called left_over state_after
  moved_sound =
      sym (ap (λ (o : Outcome CallAnswer). sound (state_after fresh o.left)) base_fresh)
      ∙ called_sound fresh (basing address) fresh_is_sound

base_refused : (address : ℕ) → 4095 < address → base (holding fresh) address ≡ stopped 12
unfolding fresh
base_refused address over = base_over fresh address refl over

-- ---- behind RESET

module _ (cells cleared : List ℕ) (a : CallAnswer) (c : Called (reset (lent cells)) cells a cleared) (r : CallAnswer) (after : List ℕ) where
  pub forced_as_told : (name : List ℕ) (q : UndefinedAnswer) → Called (force (lent cleared) name) cleared r after → q ≡ undefined (lent after) 0 → Forced cells name r q
  forced_as_told name q d e =
      let f : Lent → Outcome CallAnswer = λ m. force m name in
      record {
        joins = λ long legal.
            let here = holds_then f cleared after r d (holding fresh) (reset_holds cells cleared a c long) (done (forced name)) (force_fresh name legal) (forced name) refl (forced_sound name legal) in
            e ∙ ap (λ (m : Lent). undefined m 0) here ∙ forced_listed name;
        refused = λ long illegal.
            answer_is f cleared after r d (holding fresh) (reset_holds cells cleared a c long) (stopped 15) (force_refused name illegal);
      }

  pub moved_as_told :
      (address : ℕ) (work file : List ℕ) (index : ℕ) (q : LoadAnswer) (last used : List ℕ) (y : SymbolAnswer)
      → Called (base (lent cleared) address) cleared r after
      → LoadCalled (load (lent after) (work_fits work) file) after work q last used → y ≡ symbols (lent last) index
      → Moved cells address file index r q y
  unfolding fresh
  moved_as_told address work file index q last used y d l e =
      let f : Lent → Outcome CallAnswer = λ m. base m address in
      record {
        moves = λ long low z.
            let here = holds_then f cleared after r d (holding fresh) (reset_holds cells cleared a c long) (done (moved address)) (base_fresh address low) (moved address) refl (moved_sound address low) in
            listed after work file q last used l index y e z (moved address) here;
        refused = λ long over.
            answer_is f cleared after r d (holding fresh) (reset_holds cells cleared a c long) (stopped 12) (base_refused address over);
      }
