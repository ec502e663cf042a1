-- Each way that a call can end, as its definition has it.
use Prim.Native.Nat.{ℕ, suc, ◌+◌, ◌≤◌, ◌<◌}
use native.Mathlib.Omega.{arith}
use mathlib.Core.Bool.{Bool, true, false, cond, ◌||◌, true≢false, false≢true}
use mathlib.Core.List.{List, [], ◌∷◌, ◌++◌}
use mathlib.Core.Logic.{◌≢◌}
use mathlib.Core.Option.{none, some}
use mathlib.Core.Path.{◌≡◌, refl, sym, ap, ◌∙◌}
use native.Mathlib.Nat.{zero-add}
use lib.ListN.{length, drop}
use lib.Dec.{leb}
use borrow.Author.Tests.{eq-eqb, ne_eqb, lt-ltb, le-ltb, le-leb, lt-leb, leb-true, leb-false}
use Rattle.std.specs.Prelude.{Result, Ok, Err}
use Rattle.rules.specs.Answers.{reason_number, answer_number}
use Rattle.rules.specs.declared.answer.Reason.{Reason}
use Rattle.rules.specs.Text.{any, is_name, pack_name, name_of, name_over}
use Rattle.rules.specs.State.{Symbol, State, Mark, unmarked, broken, frozen, fresh, marked, name_is, is_symbol}
use Rattle.rules.specs.Placing.{mention}
use Rattle.rules.specs.Image.{image_of}
use Rattle.rules.specs.Calls.{Lent, wrong_length, damaged, holding, shut_by, call_answer, stopped, done, with_symbols, reset, base_state, base, force_state_over, force, force_over, EndOutcome, end_answer, end_stopped, end_done, is_broken, end_state, end}
use Rattle.state.specs.Layout.{size, lent, lent_over, sound_cells, decode}
use Rattle.state.specs.Good.{Holds, with_next}
use Rattle.state.specs.Table.{Joined}
use Rattle.image.specs.Output.{overlay, Written}
use Rattle.state.proofs.LentLaws.{lent_wrong, held_cells}
use Rattle.state.specs.Promise.{Called, Ended}
use Rattle.state.proofs.TableLaws.{joined_holds}
use Rattle.soundness.specs.Checks.{Refusal}
use Rattle.soundness.proofs.RefusalLaws.{reason_refuses, refused}
use Rattle.state.proofs.PromiseLaws.{called_stopped, called_done}

-- ---- RESET

held_short : (b : Bool) (s : State) → cond b (holding s) damaged ≡ wrong_length → ⊥
held_short true s e = let z : ◌≡◌ {A = ℕ} 0 1 = cc in omega arith
held_short false s e = let z : ◌≡◌ {A = ℕ} 0 1 = cc in omega arith

pub reset_short : {cells : List ℕ} → length cells ≢ size → Called (reset (lent cells)) cells (call_answer 1) cells
unfolding reset
reset_short {cells} h = called_stopped (rw (lent_wrong cells h))

lent_right : (cells : List ℕ) → length cells ≡ size → lent cells ≢ wrong_length
unfolding lent_over
lent_right cells h e = held_short (sound_cells cells) (decode cells) (sym (simp (eq-eqb (length cells) size h)) ∙ e)

reset_any : (l : Lent) → l ≢ wrong_length → reset l ≡ done fresh
unfolding reset
reset_any wrong_length h = absurd (h refl)
reset_any damaged h = refl
reset_any (holding s) h = refl

pub reset_done : {cells after : List ℕ} → length cells ≡ size → Holds after fresh → Called (reset (lent cells)) cells (call_answer 0) after
reset_done {cells} h q = called_done (reset_any (lent cells) (lent_right cells h)) q

-- ---- BASE

module _ {cells : List ℕ} (a : ℕ) where
  pub base_unsound : (e : Reason) → Refusal cells (reason_number e) → Called (base (lent cells) a) cells (call_answer (reason_number e)) cells
  unfolding base
  base_unsound e r = called_stopped (refused (λ l. base l a) stopped refl refl e r)

  pub base_shut : (e : Reason) → Refusal cells 0 → reason_number e ≡ shut_by (decode cells).mark → Called (base (lent cells) a) cells (call_answer (reason_number e)) cells
  unfolding base base_state
  base_shut e r q = called_stopped (rw (r.holds refl, ← q) (simp (ne_eqb (reason_number e) 0 (reason_refuses e))))

  pub base_over : Refusal cells 0 → 0 ≡ shut_by (decode cells).mark → 4095 < a → Called (base (lent cells) a) cells (call_answer 12) cells
  unfolding base base_state
  base_over r q o = called_stopped (simp (r.holds refl, sym q, lt-ltb 4095 a o))

  pub base_done : {after : List ℕ} → Refusal cells 0 → 0 ≡ shut_by (decode cells).mark → a ≤ 4095 → Holds after (with_next a (decode cells)) →
      Called (base (lent cells) a) cells (call_answer 0) after
  unfolding base base_state
  base_done r q o h = called_done (simp (r.holds refl, sym q, le-ltb 4095 a o)) h

-- ---- FORCE

-- a legal name and its number, or none
chosen_name : (b : Bool) (n x : ℕ) → some x ≡ cond b (some n) none → (b ≡ true) × (x ≡ n)
chosen_name true n x e = (refl, cc)
chosen_name false n x e = absurd (let z : ◌≡◌ {A = ℕ} 0 1 = cc in omega arith)

no_name : (b : Bool) (n : ℕ) → none ≡ cond b (some n) none → b ≡ false
no_name true n e = absurd (let z : ◌≡◌ {A = ℕ} 0 1 = cc in omega arith)
no_name false n e = refl

-- a symbol that is there is not mentioned again, and one that is not there makes the table longer
mention_known : (x : ℕ) (t : List Symbol) → is_symbol x t ≡ true → mention x t ≡ t
unfolding mention is_symbol any
mention_known x [] h = absurd (false≢true h)
mention_known x (s ∷ t) h = go (name_is x s) h (mention_known x t)
  where
    go : (b : Bool) → (b || any (name_is x) t) ≡ true → (any (name_is x) t ≡ true → mention x t ≡ t) → cond b (s ∷ t) (s ∷ mention x t) ≡ s ∷ t
    go true h ih = refl
    go false h ih = ap (◌∷◌ s) (ih h)

mention_new : (x : ℕ) (t : List Symbol) → is_symbol x t ≡ false → length (mention x t) ≡ length t + 1
unfolding mention is_symbol any
mention_new x [] h = refl
mention_new x (s ∷ t) h = go (name_is x s) h (mention_new x t)
  where
    go : (b : Bool) → (b || any (name_is x) t) ≡ false → (any (name_is x) t ≡ false → length (mention x t) ≡ length t + 1) →
        length (cond b (s ∷ t) (s ∷ mention x t)) ≡ suc (length t) + 1
    go true h ih = absurd (true≢false h)
    go false h ih = let k = ih h in omega arith

module _ {cells : List ℕ} (name : List ℕ) where
  pub force_unsound : (e : Reason) → Refusal cells (reason_number e) → Called (force (lent cells) name) cells (call_answer (reason_number e)) cells
  unfolding force_over
  force_unsound e r = called_stopped (refused (λ l. force l name) stopped refl refl e r)

  pub force_shut : (e : Reason) → Refusal cells 0 → reason_number e ≡ shut_by (decode cells).mark → Called (force (lent cells) name) cells (call_answer (reason_number e)) cells
  unfolding force_over force_state_over
  force_shut e r q = called_stopped (rw (r.holds refl, ← q) (simp (ne_eqb (reason_number e) 0 (reason_refuses e))))

  pub force_illegal : Refusal cells 0 → 0 ≡ shut_by (decode cells).mark → none ≡ name_of name → Called (force (lent cells) name) cells (call_answer 15) cells
  unfolding force_over force_state_over name_over
  force_illegal r free e =
      called_stopped (simp (r.holds refl, sym free, no_name (is_name name) (pack_name name) e))

  module _ (x : ℕ) (r : Refusal cells 0) (free : 0 ≡ shut_by (decode cells).mark) (e : some x ≡ name_of name) where
    legal : (is_name name ≡ true) × (x ≡ pack_name name)
    unfolding name_over
    legal = chosen_name (is_name name) (pack_name name) x e

    abbrev t : List Symbol
    t = (decode cells).symbols

    -- there already, or with room for one more
    done_if : leb (length (mention x t)) 256 ≡ true → force (lent cells) name ≡ done (with_symbols (mention x t) (decode cells))
    unfolding force_over force_state_over
    done_if fits = simp (r.holds refl, sym free, legal.0) (rw (← legal.1) (go (is_symbol x t) refl))
      where
        go : (b : Bool) → is_symbol x t ≡ b →
            cond b (done (decode cells)) (cond (leb 256 (length t)) (stopped 14) (done (with_symbols (mention x t) (decode cells)))) ≡ done (with_symbols (mention x t) (decode cells))
        go true q = ap (λ u. done (with_symbols u (decode cells))) (sym (mention_known x t q))
        go false q =
            let few = leb-true (length (mention x t)) 256 fits in
            simp (lt-leb 256 (length t) (omega (arith, mention_new x t q, few)))

    full_if : leb (length (mention x t)) 256 ≡ false → force (lent cells) name ≡ stopped 14
    unfolding force_over force_state_over
    full_if full = simp (r.holds refl, sym free, legal.0) (rw (← legal.1) (go (is_symbol x t) refl))
      where
        over : 256 < length (mention x t)
        over = leb-false (length (mention x t)) 256 full

        go : (b : Bool) → is_symbol x t ≡ b →
            cond b (done (decode cells)) (cond (leb 256 (length t)) (stopped 14) (done (with_symbols (mention x t) (decode cells)))) ≡ stopped 14
        go true q = absurd (omega (arith, over, (r.good refl).tidy.few, ap length (mention_known x t q)))
        go false q = simp (le-leb 256 (length t) (omega (arith, mention_new x t q, over)))

    -- by whether the name has joined the table
    pub force_joined : (o : Result (Unit {0}) Reason) {after : List ℕ} → Joined (mention x (decode cells).symbols) (decode cells) o after →
        Called (force (lent cells) name) cells (call_answer (answer_number o)) after
    force_joined (Ok u) j = called_done (done_if (sym j.room)) (joined_holds j)
    force_joined (Err y) {after} j =
        let kept : Holds after (decode cells) = rw (← j.room) at j.holds in
        let same : after ≡ cells = held_cells kept ∙ sym (r.good refl).encoded in
        rw (same, j.full) (called_stopped (full_if (sym j.room)))

-- ---- END

broken_mark : (k : Mark) → k ≡ broken → is_broken k ≡ true
unfolding is_broken
broken_mark k e = rw e

whole_mark : (k : Mark) → k ≢ broken → is_broken k ≡ false
unfolding is_broken
whole_mark unmarked e = refl
whole_mark broken e = absurd (e refl)
whole_mark frozen e = refl

ended_stopped : {o : EndOutcome} {k : ℕ} {cells out : List ℕ} → o ≡ end_stopped k out → Ended o cells (end_answer k 0) cells out
ended_stopped e =
    record { call = called_stopped (ap (λ (x : EndOutcome). x.call) e); output = ap (λ (x : EndOutcome). x.output) (sym e) }

module _ {cells : List ℕ} (out : List ℕ) where
  pub end_unsound : (e : Reason) → Refusal cells (reason_number e) → Ended (end (lent cells) out) cells (end_answer (reason_number e) 0) cells out
  unfolding end
  end_unsound e r = ended_stopped (refused (λ l. end l out) (λ k. end_stopped k out) refl refl e r)

  pub end_broken : Refusal cells 0 → (decode cells).mark ≡ broken → Ended (end (lent cells) out) cells (end_answer 3 0) cells out
  unfolding end end_state
  end_broken r q = ended_stopped (simp (r.holds refl, broken_mark (decode cells).mark q))

  module _ (r : Refusal cells 0) (q : (decode cells).mark ≢ broken) (n : ℕ) (size : n ≡ length (image_of (decode cells))) where
    pub end_short : length out < n → Ended (end (lent cells) out) cells (end_answer 16 0) cells out
    unfolding end end_state
    end_short l =
        ended_stopped (simp (r.holds refl, whole_mark (decode cells).mark q, lt-ltb (length out) (length (image_of (decode cells))) (omega arith)))

    ends_if : n ≤ length out → end (lent cells) out ≡ end_done (decode cells) (image_of (decode cells)) out
    unfolding end end_state
    ends_if l = simp (r.holds refl, whole_mark (decode cells).mark q, le-ltb (length out) (length (image_of (decode cells))) (omega arith))

    pub end_written : {after written : List ℕ} {behind : ℕ} → n ≤ length out → Written 0 (image_of (decode cells)) out written behind →
        Holds after (marked frozen (decode cells)) → Ended (end (lent cells) out) cells (end_answer 0 n) after written
    unfolding overlay
    end_written l w h =
        let e = ends_if l in
        record {
          call = rw size (called_done (ap (λ (x : EndOutcome). x.call) e) h);
          output =
              w.out
              ∙ ap (λ k. image_of (decode cells) ++ drop k out) (zero-add (length (image_of (decode cells))))
              ∙ ap (λ (x : EndOutcome). x.output) (sym e);
        }
