-- Document 02, 4/14: "States and files accepted before stay accepted with the same answers." Before, names went by document 01's
-- alphabet, `is_letter_or_digit`. Every rule that asks for a name is one definition over an alphabet, and is used here at both. On state
-- memory, and of calls in a row, the same is said in crate state, AcceptedBefore.
use Prim.Native.Nat.{ℕ}
use native.Mathlib.Omega.{arith}
use mathlib.Core.Bool.{Bool, true, not, ◌||◌, or-true, or-false}
use mathlib.Core.List.{List}
use mathlib.Core.Logic.{◌≢◌, inl, inr}
use mathlib.Core.Path.{◌≡◌, sym, ap, ◌∙◌}
use lib.Dec.{eqb}
use borrow.Author.Tests.{not-true}
use Rattle.rules.specs.Text.{all, dollar, dot, is_letter, is_digit, is_name_character, is_letter_or_digit}
use Rattle.rules.specs.Answers.{DONE, NAME, SYMBOL}
use Rattle.rules.specs.Reading.{reading_of, reading_over, items_of, items_over, Complete, Stopped}
use Rattle.rules.specs.State.{State, sound, sound_over}
use Rattle.rules.specs.Calls.{Lent, load, load_over, force, force_over}
use Rattle.rules.proofs.BoolLaws.{or_cases}
use Rattle.rules.proofs.FirstFault.{never_stopped}
use Rattle.rules.proofs.AgreeLaws.{Agree, name_agrees, file_agrees}
use Rattle.rules.proofs.AlphabetLaws.{Within, FileGrows, file_grows}
use Rattle.rules.proofs.AlphabetCalls.{unless_other, load_number, call_number, load_same, load_grows, force_same, force_grows, sound_grows}

-- document 01's alphabet is within the rules' own
pub letters_within : Within is_letter_or_digit is_name_character
unfolding is_letter_or_digit is_name_character
letters_within b h = or_cases (is_letter b) (is_digit b) h (λ l. rw l) (λ d. rw d (or-true (is_letter b)))

-- ---- nothing changes but what was refused for a name

-- the reading of a file, unless it stopped by 19
pub file_but_19 : (file : List ℕ) → ((n c : ℕ) → reading_over is_letter_or_digit file ≢ Stopped SYMBOL n c) →
    (reading_of file ≡ reading_over is_letter_or_digit file) × (items_of file ≡ items_over is_letter_or_digit file)
file_but_19 file h = go (file_grows letters_within file)
  where
    go : FileGrows is_letter_or_digit is_name_character file →
        (reading_of file ≡ reading_over is_letter_or_digit file) × (items_of file ≡ items_over is_letter_or_digit file)
    go (inl (r, i)) = (sym r, sym i)
    go (inr (n, c, r)) = absurd (h n c r)

-- what LOAD answers and leaves, whatever it is lent, unless it answered 19
pub load_but_19 : (m : Lent) (fits : Bool) (file : List ℕ) → (load_over is_letter_or_digit m fits file).answer.number ≢ SYMBOL →
    load m fits file ≡ load_over is_letter_or_digit m fits file
load_but_19 m fits file h = unless_other load_number (load_grows letters_within m fits file) h

-- what FORCE answers and leaves, unless it answered 15
pub force_but_15 : (m : Lent) (name : List ℕ) → (force_over is_letter_or_digit m name).answer.number ≢ NAME →
    force m name ≡ force_over is_letter_or_digit m name
force_but_15 m name h = unless_other call_number (force_grows letters_within m name) h

-- ---- nor anything where neither of the two characters stands, refused or not

abbrev pub neither : ℕ → Bool
neither b = not (eqb b dollar || eqb b dot)

-- there the two alphabets agree
neither_agrees : Agree neither is_letter_or_digit is_name_character
unfolding is_letter_or_digit is_name_character
neither_agrees b h =
    sym (ap (λ (t : Bool). is_letter b || (is_digit b || t)) (not-true _ h) ∙ ap (◌||◌ (is_letter b)) (or-false (is_digit b)))

pub load_without : (m : Lent) (fits : Bool) (file : List ℕ) → all neither file ≡ true → load m fits file ≡ load_over is_letter_or_digit m fits file
load_without m fits file h =
    sym (load_same is_letter_or_digit is_name_character m fits file (file_agrees neither is_letter_or_digit is_name_character neither_agrees file h))

pub force_without : (m : Lent) (name : List ℕ) → all neither name ≡ true → force m name ≡ force_over is_letter_or_digit m name
force_without m name h =
    sym (force_same is_letter_or_digit is_name_character m name (name_agrees neither is_letter_or_digit is_name_character neither_agrees name h))

-- ---- so what was accepted stays accepted

-- a state that was sound is sound
pub state_stays : (s : State) → sound_over is_letter_or_digit s ≡ true → sound s ≡ true
state_stays = sound_grows letters_within

-- a file that was read without a fault is read without one, to the same items
pub file_stays : (file : List ℕ) → reading_over is_letter_or_digit file ≡ Complete →
    (reading_of file ≡ Complete) × (items_of file ≡ items_over is_letter_or_digit file)
file_stays file e =
    let same = file_but_19 file (λ n c r. never_stopped SYMBOL n c (sym r ∙ e)) in
    (same.0 ∙ e, same.1)

-- a load that was accepted has the same answer and leaves the same state
pub load_stays : (m : Lent) (fits : Bool) (file : List ℕ) → (load_over is_letter_or_digit m fits file).answer.number ≡ DONE →
    load m fits file ≡ load_over is_letter_or_digit m fits file
load_stays m fits file e = load_but_19 m fits file (λ k. let z : ◌≡◌ {A = ℕ} 0 19 = sym e ∙ k in omega arith)

-- and so has a FORCE
pub force_stays : (m : Lent) (name : List ℕ) → (force_over is_letter_or_digit m name).answer.number ≡ DONE →
    force m name ≡ force_over is_letter_or_digit m name
force_stays m name e = force_but_15 m name (λ k. let z : ◌≡◌ {A = ℕ} 0 15 = sym e ∙ k in omega arith)
