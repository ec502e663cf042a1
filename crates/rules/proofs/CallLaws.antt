-- FORCE, BASE and END: a refusal changes nothing, and none of them places or moves a word.
use Prim.Native.Nat.{ℕ, zero, suc}
use borrow.Author.Tests.{not-false}
use native.Mathlib.Omega.{arith}
use mathlib.Core.Bool.{Bool, true, false, cond, not, ◌||◌}
use mathlib.Core.List.{List}
use mathlib.Core.Logic.{◌⊎◌, inl, inr}
use mathlib.Core.Path.{◌≡◌, refl}
use lib.ListN.{length, replicate, length-replicate}
use lib.Dec.{eqb, ltb, leb}
use Rattle.rules.specs.Text.{is_name, pack_name}
use Rattle.rules.specs.State.{State, state, Mark, unmarked, broken, frozen, unplaced, fresh, no_words, placed_words, is_symbol}
use Rattle.rules.specs.Placing.{mention}
use Rattle.rules.specs.Image.{image_of}
use Rattle.rules.specs.declared.answer.CallAnswer.{CallAnswer}
use Rattle.rules.specs.Calls.{as_before, holding, shut_by, Outcome, stopped, done, with_symbols, force_state_over, force, force_over, base_state, base, EndOutcome, end_stopped, end_done, is_broken, end_state, end}
use Rattle.rules.specs.Answers.{FROZEN}
use Rattle.rules.specs.History.{forcing, basing, ending, can_answer, state_after}
use Rattle.rules.proofs.BoolLaws.{cond_cases}

-- ---- a property of every way that a call can end: by a number of its own, or done

shut_four : (k : Mark) → leb (shut_by k) FROZEN ≡ true
unfolding shut_by
shut_four unmarked = refl
shut_four broken = refl
shut_four frozen = refl

shut_answered : (k : Mark) (more : Bool) → (leb (shut_by k) FROZEN || more) ≡ true
shut_answered k more = rw (shut_four k)

module _ (P : Outcome CallAnswer → Type 0) (s : State) where
  pub force_cases : (name : List ℕ)
      → ((k : ℕ) → can_answer (forcing name) k ≡ true → P (stopped k))
      → (is_symbol (pack_name name) s.symbols ≡ true → P (done s))
      → (is_name name ≡ true → leb 256 (length s.symbols) ≡ false → is_symbol (pack_name name) s.symbols ≡ false → P (done (with_symbols (mention (pack_name name) s.symbols) s)))
      → P (force (holding s) name)
  unfolding force_over force_state_over can_answer
  force_cases name no_change known new =
      let k = shut_by s.mark in
      let added = done (with_symbols (mention (pack_name name) s.symbols) s) in
      let full = cond (leb 256 (length s.symbols)) (stopped 14) added in
      let present = cond (is_symbol (pack_name name) s.symbols) (done s) full in
      cond_cases P (not (eqb k 0)) (stopped k) (cond (not (is_name name)) (stopped 15) present) (λ _. no_change k (shut_answered s.mark _)) λ _.
      cond_cases P (not (is_name name)) (stopped 15) present (λ _. no_change 15 refl) λ legal.
      cond_cases P (is_symbol (pack_name name) s.symbols) (done s) full known λ absent.
      cond_cases P (leb 256 (length s.symbols)) (stopped 14) added (λ _. no_change 14 refl) λ room.
      new (not-false (is_name name) legal) room absent

  pub base_cases : (address : ℕ)
      → ((k : ℕ) → can_answer (basing address) k ≡ true → P (stopped k))
      → (ltb 4095 address ≡ false → P (done (state s.symbols s.words address s.mark)))
      → P (base (holding s) address)
  unfolding base base_state can_answer
  base_cases address no_change moved =
      let k = shut_by s.mark in
      let set = done (state s.symbols s.words address s.mark) in
      cond_cases P (not (eqb k 0)) (stopped k) (cond (ltb 4095 address) (stopped 12) set) (λ _. no_change k (shut_answered s.mark _)) λ _.
      cond_cases P (ltb 4095 address) (stopped 12) set (λ _. no_change 12 refl) moved

pub end_cases : (P : EndOutcome → Type 0) (s : State) (out : List ℕ)
    → ((k : ℕ) → can_answer (ending out) k ≡ true → P (end_stopped k out)) → (ltb (length out) (length (image_of s)) ≡ false → P (end_done s (image_of s) out)) → P (end (holding s) out)
unfolding end end_state can_answer
end_cases P s out no_change ended =
    let image = image_of s in
    cond_cases P (is_broken s.mark) (end_stopped 3 out) (cond (ltb (length out) (length image)) (end_stopped 16 out) (end_done s image out)) (λ _. no_change 3 refl) λ _.
    cond_cases P (ltb (length out) (length image)) (end_stopped 16 out) (end_done s image out) (λ _. no_change 16 refl) ended

-- ---- "Every other refusal changes nothing."

pub force_refused : (s : State) (name : List ℕ) → ((force (holding s) name).answer.number ≡ 0) ⊎ ((force (holding s) name).left ≡ as_before)
force_refused s name =
    force_cases (λ o. (o.answer.number ≡ 0) ⊎ (o.left ≡ as_before)) s name (λ k _. inr refl) (λ _. inl refl) (λ _ _ _. inl refl)

pub base_refused : (s : State) (address : ℕ) → ((base (holding s) address).answer.number ≡ 0) ⊎ ((base (holding s) address).left ≡ as_before)
base_refused s address =
    base_cases (λ o. (o.answer.number ≡ 0) ⊎ (o.left ≡ as_before)) s address (λ k _. inr refl) (λ _. inl refl)

pub end_refused : (s : State) (out : List ℕ)
    → ((end (holding s) out).call.answer.number ≡ 0) ⊎ (((end (holding s) out).call.left ≡ as_before) × ((end (holding s) out).output ≡ out))
end_refused s out =
    end_cases (λ o. (o.call.answer.number ≡ 0) ⊎ ((o.call.left ≡ as_before) × (o.output ≡ out))) s out (λ k _. inr (refl, refl)) (λ _. inl refl)

-- ---- words

pub force_words : (s : State) (name : List ℕ) → (state_after s (force (holding s) name).left).words ≡ s.words
unfolding state_after
force_words s name = force_cases (λ o. (state_after s o.left).words ≡ s.words) s name (λ k _. refl) (λ _. refl) (λ _ _ _. refl)

pub base_words : (s : State) (address : ℕ) → (state_after s (base (holding s) address).left).words ≡ s.words
unfolding state_after
base_words s address = base_cases (λ o. (state_after s o.left).words ≡ s.words) s address (λ k _. refl) (λ _. refl)

pub end_words : (s : State) (out : List ℕ) → (state_after s (end (holding s) out).call.left).words ≡ s.words
unfolding state_after
end_words s out = end_cases (λ o. (state_after s o.call.left).words ≡ s.words) s out (λ k _. refl) (λ _. refl)

-- ---- the fresh state

count_unplaced : (n : ℕ) → placed_words (replicate n unplaced) ≡ 0
unfolding placed_words
count_unplaced zero = refl
count_unplaced (suc n) = omega (arith, count_unplaced n)

pub fresh_size : length fresh.words ≡ 4096
unfolding fresh no_words
fresh_size = length-replicate 4096 unplaced

pub fresh_count : placed_words fresh.words ≡ 0
unfolding fresh no_words
fresh_count = count_unplaced 4096
