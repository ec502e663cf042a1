-- END: what it writes, what it keeps, and that it may be repeated.
use Prim.Native.Nat.{ℕ, zero, suc, ◌+◌, ◌*◌, ◌≤◌}
use native.Mathlib.Omega.{arith}
use mathlib.Core.Bool.{true, false}
use mathlib.Core.List.{List, [], ◌∷◌, ◌++◌}
use mathlib.Core.Path.{◌≡◌, refl, sym, ap, ap₂, ◌∙◌}
use lib.ListN.{length, get_or, take, drop}
use lib.Seq.{take-append_seam}
use lib.Dec.{ltb}
use borrow.Author.Tests.{ltb-false}
use Rattle.rules.specs.State.{State, Mark, frozen, marked, placed_words, sound}
use Rattle.rules.specs.Image.{image_of, end_record}
use Rattle.rules.specs.Calls.{Lent, wrong_length, damaged, holding, Left, now, EndOutcome, end_answer, end_done, overwritten, is_broken, end_state, end}
use Rattle.rules.specs.History.{ending, left_over, state_after, called}
use Rattle.rules.specs.declared.answer.EndAnswer.{EndAnswer}
use Rattle.rules.proofs.BoolLaws.{cond_cases}
use Rattle.rules.proofs.ImageLaws.{image_length_lem}
use Rattle.rules.proofs.OrderLaws.{end_done_lem}
use Rattle.rules.proofs.SoundCalls.{called_sound}
use Rattle.state.specs.Layout.{lent, cells_after}
use Rattle.state.specs.Promise.{Ended}
use Rattle.state.proofs.LentLaws.{held_sound, lent_encode}
use Rattle.customers.specs.Words.{SameFrom, EndKept, SameEnds}
use Rattle.customers.proofs.LentBefore.{same_held}

-- ---- bytes past the image

drop_none : (n : ℕ) → ◌≡◌ {A = List ℕ} (drop n []) []
drop_none zero = refl
drop_none (suc n) = refl

past : (image out : List ℕ) (i : ℕ) → length image ≤ i → get_or (overwritten image out) i 0 ≡ get_or out i 0
past [] out i h = refl
past (b ∷ bs) out zero h = absurd (omega arith)
past (b ∷ bs) [] (suc i) h = ap (λ (l : List ℕ). get_or (bs ++ l) i 0) (sym (drop_none (length bs))) ∙ past bs [] i (omega arith)
past (b ∷ bs) (o ∷ out) (suc i) h = past bs out i (omega arith)

-- whatever END comes to, the bytes past the length that it answers are kept
kept : (m : Lent) (out : List ℕ) → SameFrom (end m out).call.answer.length out (end m out).output
unfolding end end_state
kept wrong_length out = λ i h. refl
kept damaged out = λ i h. refl
kept (holding s) out =
    let P : EndOutcome → Type 0 = λ o. SameFrom o.call.answer.length out o.output in
    cond_cases P (is_broken s.mark) _ _ (λ _ i h. refl) λ _.
    cond_cases P (ltb (length out) (length (image_of s))) _ _ (λ _ i h. refl) (λ _ i h. past (image_of s) out i h)

module _ (cells out : List ℕ) (r : EndAnswer) (after written : List ℕ) (e : Ended (end (lent cells) out) cells r after written) where
  bytes_kept : SameFrom r.length out written
  bytes_kept i h =
      ap (λ (l : List ℕ). get_or l i 0) e.output
      ∙ kept (lent cells) out i (omega (arith, ap (λ (a : EndAnswer). a.length) e.call.answer))

-- ---- an END that is done

-- it was lent a sound state that is not broken, and room
end_lent : (m : Lent) (out : List ℕ) → (end m out).call.answer.number ≡ 0 → (s : State) × (m ≡ holding s) × (end m out ≡ end_done s (image_of s) out)
unfolding end end_state
end_lent wrong_length out = λ z. absurd (omega arith)
end_lent damaged out = λ z. absurd (omega arith)
end_lent (holding s) out =
    let P : EndOutcome → Type 0 = λ o. o.call.answer.number ≡ 0 → (t : State) × (holding s ≡ holding t) × (o ≡ end_done t (image_of t) out) in
    cond_cases P (is_broken s.mark) _ _ (λ _ z. absurd (omega arith)) λ _.
    cond_cases P (ltb (length out) (length (image_of s))) _ _ (λ _ z. absurd (omega arith)) (λ _ z. (s, refl, refl))

-- the image fits into the output
image_fits : (s : State) (out : List ℕ) → (end (holding s) out).call.answer.number ≡ 0 → length (image_of s) ≤ length out
unfolding end end_state
image_fits s out =
    let P : EndOutcome → Type 0 = λ o. o.call.answer.number ≡ 0 → length (image_of s) ≤ length out in
    cond_cases P (is_broken s.mark) _ _ (λ _ z. absurd (omega arith)) λ _.
    cond_cases P (ltb (length out) (length (image_of s))) _ _
    (λ _ z. absurd (omega arith))
    (λ e z. ltb-false (length out) (length (image_of s)) e)

frozen_sound : (s : State) (out : List ℕ) → (end (holding s) out).call.left ≡ now (marked frozen s) → sound s ≡ true → sound (marked frozen s) ≡ true
unfolding called left_over state_after
frozen_sound s out left h = sym (ap (λ (l : Left). sound (state_after s l)) left) ∙ called_sound s (ending out) h

-- what is known once it is done: the state that it was lent, the image in front of the output, and the frozen state
pub record Done (cells out : List ℕ) (r : EndAnswer) (after written : List ℕ) : Type 0 where
  pub state : State
  pub held : lent cells ≡ holding state
  pub room : length (image_of state) ≤ length out
  pub answer : r ≡ end_answer 0 (length (image_of state))
  pub output : written ≡ overwritten (image_of state) out
  pub frozen_now : lent after ≡ holding (marked frozen state)

module _ (cells out : List ℕ) (r : EndAnswer) (after written : List ℕ) (e : Ended (end (lent cells) out) cells r after written) where
  pub end_is_done : r.number ≡ 0 → Done cells out r after written
  unfolding cells_after
  end_is_done z =
      let d = end_lent (lent cells) out (sym (ap (λ (a : EndAnswer). a.number) e.call.answer) ∙ z) in
      let s = d.0 in
      let is : end (lent cells) out ≡ end_done s (image_of s) out = d.2 in
      let own : end (holding s) out ≡ end_done s (image_of s) out = sym (ap (λ m. end m out) d.1) ∙ is in
      record {
        state = s;
        held = d.1;
        room = image_fits s out (ap (λ (o : EndOutcome). o.call.answer.number) own);
        answer = e.call.answer ∙ ap (λ (o : EndOutcome). o.call.answer) is;
        output = e.output ∙ ap (λ (o : EndOutcome). o.output) is;
        frozen_now =
            ap lent (e.call.cells ∙ ap (λ (o : EndOutcome). cells_after cells o.call.left) is)
            ∙ lent_encode (marked frozen s) (frozen_sound s out (ap (λ (o : EndOutcome). o.call.left) own) (held_sound cells s d.1));
      }

-- ---- the image

image_written : (cells out : List ℕ) (r : EndAnswer) (after written : List ℕ) → Done cells out r after written → (s : State) → lent cells ≡ holding s →
    (take r.length written ≡ image_of s) × (r.length ≡ 11 * placed_words s.words + 5)
image_written cells out r after written d s h =
    let same : d.state ≡ s = same_held d.held h in
    let long : r.length ≡ length (image_of d.state) = ap (λ (a : EndAnswer). a.length) d.answer in (
      ap₂ {C = List ℕ} take long d.output ∙ take-append_seam (image_of d.state) (drop (length (image_of d.state)) out) ∙ ap image_of same,
      long ∙ ap (λ (t : State). length (image_of t)) same ∙ image_length_lem s,
    )

-- ---- END again, of the frozen state

marked_image : (k : Mark) (s : State) → image_of (marked k s) ≡ image_of s
unfolding image_of end_record
marked_image k s = refl

frozen_unbroken : is_broken frozen ≡ false
unfolding is_broken
frozen_unbroken = refl

image_again : (cells out again : List ℕ) (r q : EndAnswer) (after written last rewritten : List ℕ) → Done cells out r after written
    → length again ≡ length out → Ended (end (lent after) again) after q last rewritten
    → (q ≡ r) × (take q.length rewritten ≡ take r.length written)
image_again cells out again r q after written last rewritten d same e =
    let s = d.state in
    let f = marked frozen s in
    let image = marked_image frozen s in
    let is : end (lent after) again ≡ end_done f (image_of s) again =
    ap (λ m. end m again) d.frozen_now
    ∙ end_done_lem f again frozen_unbroken (omega (arith, d.room, same, ap length image))
    ∙ ap (λ (i : List ℕ). end_done f i again) image in
    let answer : q ≡ r = e.call.answer ∙ ap (λ (o : EndOutcome). o.call.answer) is ∙ sym d.answer in
    let first : take r.length written ≡ image_of s =
    ap₂ {C = List ℕ} take (ap (λ (a : EndAnswer). a.length) d.answer) d.output ∙ take-append_seam (image_of s) (drop (length (image_of s)) out) in
    let second : take q.length rewritten ≡ image_of s =
    ap₂ {C = List ℕ} take (ap (λ (a : EndAnswer). a.length) (answer ∙ d.answer)) (e.output ∙ ap (λ (o : EndOutcome). o.output) is)
    ∙ take-append_seam (image_of s) (drop (length (image_of s)) again) in
    (answer, second ∙ sym first)

-- ---- the contracts

module _ (cells out : List ℕ) (r : EndAnswer) (after written : List ℕ) (e : Ended (end (lent cells) out) cells r after written) where
  pub end_kept : EndKept cells out r written
  end_kept =
      record {
        kept = bytes_kept cells out r after written e;
        image = λ z s h. (image_written cells out r after written (end_is_done cells out r after written e z) s h).0;
        bytes = λ z s h. (image_written cells out r after written (end_is_done cells out r after written e z) s h).1;
      }

  pub same_ends : (again : List ℕ) (q : EndAnswer) (last rewritten : List ℕ) → Ended (end (lent after) again) after q last rewritten → SameEnds out again r q written rewritten
  same_ends again q last rewritten f =
      record {
        answers = λ z same. (image_again cells out again r q after written last rewritten (end_is_done cells out r after written e z) same f).0;
        images = λ z same. (image_again cells out again r q after written last rewritten (end_is_done cells out r after written e z) same f).1;
      }
