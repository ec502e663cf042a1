-- Document 02, 4/14: "States and files accepted before stay accepted with the same answers.", on state memory: each call, and calls in
-- a row. Before, names went by document 01's alphabet, `is_letter_or_digit`; rules' AcceptedBefore has the claim on states and files.
use Prim.Native.Nat.{ℕ}
use native.Mathlib.Omega.{arith}
use mathlib.Core.Bool.{Bool, true, false, cond}
use mathlib.Core.List.{List, [], ◌∷◌}
use mathlib.Core.Logic.{◌≢◌, ◌⊎◌, inl, inr}
use mathlib.Core.Path.{◌≡◌, refl, sym, ap, subst, ◌∙◌}
use lib.ListN.{length}
use lib.Dec.{eqb}
use Rattle.rules.specs.Text.{same_text, is_letter_or_digit, is_name_character}
use Rattle.rules.specs.Answers.{DONE}
use Rattle.rules.specs.Calls.{Lent, wrong_length, damaged, holding, load, load_over, load_lent_over}
use Rattle.rules.specs.History.{Call, Reply, number_in}
use Rattle.rules.proofs.TestLaws.{Every, and_intro, and_left, and_right}
use Rattle.rules.proofs.AlphabetCalls.{RefusedName, CallGrows, call_grows, damaged_grows}
use Rattle.rules.proofs.AcceptedBefore.{letters_within, state_stays, load_stays}
use Rattle.state.specs.Layout.{size, encode, decode, sound_cells, sound_cells_over, lent, lent_over, cells_after}
use Rattle.state.specs.Sequence.{cells_called_over, RepliedOver, RunOver, stop, step, Replied, Run, Alike, none, same}
use Rattle.state.proofs.LastWeek.{same_run}

-- ---- what is lent

cells_stay : (cells : List ℕ) → sound_cells_over is_letter_or_digit cells ≡ true → sound_cells cells ≡ true
unfolding sound_cells_over
cells_stay cells h =
    let same = same_text cells (encode (decode cells)) in
    and_intro (and_left same _ h) (state_stays (decode cells) (and_right same _ h))

-- memory that held a state holds it; what was refused by its length still is; what was unsound may hold a state
lent_grows : (cells : List ℕ) →
    (lent_over is_letter_or_digit cells ≡ lent cells)
    ⊎ ((lent_over is_letter_or_digit cells ≡ damaged) × (lent cells ≡ holding (decode cells)))
unfolding lent_over
lent_grows cells =
    go (eqb (length cells) size) (sound_cells_over is_letter_or_digit cells) (sound_cells cells) (cells_stay cells)
  where
    go : (fits was is : Bool) → (was ≡ true → is ≡ true) →
        let before = cond fits (cond was (holding (decode cells)) damaged) wrong_length in
        let now = cond fits (cond is (holding (decode cells)) damaged) wrong_length in
        (before ≡ now) ⊎ ((before ≡ damaged) × (now ≡ holding (decode cells)))
    go false was is h = inl refl
    go true true is h = inl (ap (λ (t : Bool). cond t (holding (decode cells)) damaged) (sym (h refl)))
    go true false true h = inr (refl, refl)
    go true false false h = inl refl

-- ---- a call

-- on m before, and on n now
abbrev pub Stays : Lent → Lent → Call → Type 0
Stays m n c = CallGrows is_letter_or_digit m is_name_character n c

-- what any call answers and leaves is as before, unless it was refused for a name: by 2, 15 or 19
pub call_but_names : (cells : List ℕ) (c : Call) → Stays (lent_over is_letter_or_digit cells) (lent cells) c
call_but_names cells c = go (lent_grows cells)
  where
    before : Lent
    before = lent_over is_letter_or_digit cells

    go : (before ≡ lent cells) ⊎ ((before ≡ damaged) × (lent cells ≡ holding (decode cells))) → Stays before (lent cells) c
    go (inl e) = subst (λ (n : Lent). Stays before n c) e (call_grows letters_within before c)
    go (inr (e, f)) =
        subst (λ (m : Lent). Stays m (lent cells) c) (sym e)
        (subst (λ (n : Lent). Stays damaged n c) (sym f) (damaged_grows is_letter_or_digit is_name_character (decode cells) c))

-- a LOAD that was accepted, by itself
pub load_accepted : (cells : List ℕ) (fits : Bool) (file : List ℕ) →
    let was = load_over is_letter_or_digit (lent_over is_letter_or_digit cells) fits file in
    was.answer.number ≡ DONE → load (lent cells) fits file ≡ was
unfolding load_over load_lent_over
load_accepted cells fits file h = go (lent_grows cells)
  where
    before : Lent
    before = lent_over is_letter_or_digit cells

    was : Lent → Bool → ℕ
    was m t = (load_over is_letter_or_digit m t file).answer.number

    no_state : (t : Bool) → was damaged t ≢ DONE
    no_state true = λ e. omega arith
    no_state false = λ e. omega arith

    go : (before ≡ lent cells) ⊎ ((before ≡ damaged) × (lent cells ≡ holding (decode cells))) →
        load (lent cells) fits file ≡ load_over is_letter_or_digit before fits file
    go (inl e) = ap (λ (m : Lent). load m fits file) (sym e) ∙ load_stays before fits file h
    go (inr (e, f)) = absurd (no_state fits (ap (λ (m : Lent). was m fits) (sym e) ∙ h))

-- ---- calls in a row

-- a reply that refuses nothing for a name
abbrev pub NamesTaken : Reply → Type 0
NamesTaken r = (RefusedName (number_in r) → ⊥)

-- a call that kept its promise by document 01's alphabet, and refused no name, keeps it
replied_stays : {cells next : List ℕ} {c : Call} {r : Reply} → RepliedOver is_letter_or_digit cells c r next → NamesTaken r → Replied cells c r next
unfolding cells_called_over
replied_stays {cells} {next} {c} {r} p taken = go (call_but_names cells c)
  where
    go : Stays (lent_over is_letter_or_digit cells) (lent cells) c → Replied cells c r next
    go (inl (e, f)) = record { reply = p.reply ∙ e; cells = p.cells ∙ ap (cells_after cells) f }
    go (inr h) = absurd (taken (subst (λ (q : Reply). RefusedName (number_in q)) (sym p.reply) h))

run_stays : {cells last : List ℕ} {cs : List Call} {rs : List Reply} → RunOver is_letter_or_digit cells cs rs last → Every NamesTaken rs → Run cells cs rs last
run_stays stop taken = stop
run_stays (step p run) taken = step (replied_stays p taken.0) (run_stays run taken.1)

alike_same : (cs : List Call) → Alike cs cs
alike_same [] = none
alike_same (c ∷ cs) = same (alike_same cs)

-- Calls in a row of which none was refused for a name have the same replies and leave the same cells.
pub calls_but_names :
    {cells last end : List ℕ} {cs : List Call} {rs qs : List Reply}
    → RunOver is_letter_or_digit cells cs rs last → Every NamesTaken rs → Run cells cs qs end → (qs ≡ rs) × (end ≡ last)
calls_but_names {cs} was taken is = same_run refl (alike_same cs) is (run_stays was taken)

-- what is accepted refuses no name
accepted_taken : (r : Reply) → number_in r ≡ DONE → NamesTaken r
accepted_taken r e (inl k) = let z : ◌≡◌ {A = ℕ} 0 2 = sym e ∙ k in omega arith
accepted_taken r e (inr (inl k)) = let z : ◌≡◌ {A = ℕ} 0 15 = sym e ∙ k in omega arith
accepted_taken r e (inr (inr k)) = let z : ◌≡◌ {A = ℕ} 0 19 = sym e ∙ k in omega arith

abbrev pub Accepted : Reply → Type 0
Accepted r = number_in r ≡ DONE

all_taken : (rs : List Reply) → Every Accepted rs → Every NamesTaken rs
all_taken [] h = tt
all_taken (r ∷ rs) h = (accepted_taken r h.0, all_taken rs h.1)

-- So have calls in a row that were all accepted: "States and files accepted before stay accepted with the same answers."
pub accepted_before :
    {cells last end : List ℕ} {cs : List Call} {rs qs : List Reply}
    → RunOver is_letter_or_digit cells cs rs last → Every Accepted rs → Run cells cs qs end → (qs ≡ rs) × (end ≡ last)
accepted_before {rs} was h is = calls_but_names was (all_taken rs h) is
