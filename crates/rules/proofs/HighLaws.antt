-- Document 02, 1/14: HIGH is "the highest address that holds a placed word", "in MEMORY and in the END record". FORCE, BASE and END do
-- not change it, and until a RESET it never sinks.
use Prim.Native.Nat.{ℕ, zero, suc, ◌+◌, ◌≤◌, ◌<◌}
use native.Mathlib.Nat.{not-suc-le-zero, le_of_suc-le-suc}
use native.Mathlib.Omega.{arith}
use mathlib.Core.Bool.{Bool, true, false, cond}
use mathlib.Core.List.{List, [], ◌∷◌, ◌++◌}
use mathlib.Core.Logic.{◌≢◌}
use mathlib.Core.Path.{◌≡◌, refl, sym, ap, ◌∙◌}
use lib.ListN.{length, get_or, set, get_or-eq_default}
use lib.Dec.{eqb, ltb}
use borrow.Author.Tests.{ltb-true, ltb-false}
use Rattle.rules.specs.Limits.{no_address}
use Rattle.rules.specs.Reading.{Module, Item, free, section, items_of}
use Rattle.rules.specs.State.{Symbol, Word, unplaced, State, is_placed, highest_from, highest_where, high, undefined_only, sound}
use Rattle.rules.specs.Placing.{Code, linked, put_all, placing_fault, placed}
use Rattle.rules.specs.Search.{ModuleSet}
use Rattle.rules.specs.Load.{Walk, walking, accepted, try_place, place, takes, searched, test_section, Progress, progress, walk_item, walk_items}
use Rattle.rules.specs.Image.{two, records_from, end_record, image_of}
use Rattle.rules.specs.Calls.{holding, load, load_over, memory}
use Rattle.rules.specs.History.{Call, loading, forcing, basing, resetting, asking_high, listing, listing_undefined, ending, work_fits, left_over, state_after, called, called_all}
use Rattle.rules.proofs.TestLaws.{Every}
use Rattle.rules.proofs.BoolLaws.{cond_cases, never}
use Rattle.rules.proofs.CountLaws.{linked_placed}
use Rattle.rules.proofs.SoundLaws.{facts}
use Rattle.rules.proofs.SearchLaws.{search_keeps}
use Rattle.rules.proofs.WalkLaws.{load_accepted}
use Rattle.rules.proofs.LoadLaws.{Ending, done, ahead, for_file, load_ends}
use Rattle.rules.proofs.CallLaws.{force_words, base_words, end_words}
use Rattle.rules.proofs.HistoryLaws.{test_state}
use Rattle.rules.proofs.SoundCalls.{called_sound}

-- ---- the highest address whose word passes a test

-- an address whose word passes while none above it does; or 65,535, and none passes
pub data IsHighest (p : Word → Bool) (ws : List Word) (h : ℕ) : Type 0 where
  address : p (get_or ws h unplaced) ≡ true → ((a : ℕ) → h < a → p (get_or ws a unplaced) ≡ false) → IsHighest p ws h
  none : h ≡ no_address → ((a : ℕ) → p (get_or ws a unplaced) ≡ false) → IsHighest p ws h

-- the same in words from an address on, after the highest so far
data Found (p : Word → Bool) (from so_far : ℕ) (ws : List Word) (h : ℕ) : Type 0 where
  there : (i : ℕ) → h ≡ from + i → p (get_or ws i unplaced) ≡ true → ((j : ℕ) → i < j → p (get_or ws j unplaced) ≡ false) → Found p from so_far ws h
  nowhere : h ≡ so_far → ((j : ℕ) → p (get_or ws j unplaced) ≡ false) → Found p from so_far ws h

module _ (p : Word → Bool) (out : p unplaced ≡ false) where
  found : (from so_far : ℕ) (ws : List Word) → Found p from so_far ws (highest_from p from so_far ws)
  unfolding highest_from
  found from so_far [] = nowhere refl (λ _. out)
  found from so_far (w ∷ ws) = go (p w) refl (found (from + 1) (cond (p w) from so_far) ws)
    where
      above : (i : ℕ) → ((j : ℕ) → i < j → p (get_or ws j unplaced) ≡ false) → (j : ℕ) → suc i < j → p (get_or (w ∷ ws) j unplaced) ≡ false
      above i rest zero h = absurd (not-suc-le-zero h)
      above i rest (suc j) h = rest j (le_of_suc-le-suc h)

      behind : ((j : ℕ) → p (get_or ws j unplaced) ≡ false) → (j : ℕ) → 0 < j → p (get_or (w ∷ ws) j unplaced) ≡ false
      behind rest zero h = absurd (not-suc-le-zero h)
      behind rest (suc j) h = rest j

      both : p w ≡ false → ((j : ℕ) → p (get_or ws j unplaced) ≡ false) → (j : ℕ) → p (get_or (w ∷ ws) j unplaced) ≡ false
      both e rest zero = e
      both e rest (suc j) = rest j

      go : (b : Bool) → p w ≡ b → {h : ℕ} → Found p (from + 1) (cond b from so_far) ws h → Found p from so_far (w ∷ ws) h
      go b e (there i q t rest) = there (suc i) (omega arith) t (above i rest)
      go true e (nowhere q rest) = there 0 (omega arith) e (behind rest)
      go false e (nowhere q rest) = nowhere q (both e rest)

  pub highest_is : (ws : List Word) → IsHighest p ws (highest_where p ws)
  unfolding highest_where
  highest_is ws = go (found 0 no_address ws)
    where
      go : {h : ℕ} → Found p 0 no_address ws h → IsHighest p ws h
      go {h} (there i q t rest) =
          let same : h ≡ i = omega arith in
          address (ap (λ (a : ℕ). p (get_or ws a unplaced)) same ∙ t) (λ a l. rest a (omega arith))
      go (nowhere q rest) = none q rest

-- there is one such number
pub one_highest : {p : Word → Bool} {ws : List Word} {h k : ℕ} → IsHighest p ws h → IsHighest p ws k → h ≡ k
one_highest {p} {ws} {h} {k} (address s rest) (address t more) = go (ltb h k) (ltb k h) refl refl
  where
    go : (x y : Bool) → ltb h k ≡ x → ltb k h ≡ y → h ≡ k
    go true y e f = never t (rest k (ltb-true h k e))
    go false true e f = never s (more h (ltb-true k h f))
    go false false e f = omega (arith, ltb-false h k e, ltb-false k h f)
one_highest {h} (address s rest) (none e more) = never s (more h)
one_highest {k} (none e rest) (address t more) = never t (rest k)
one_highest (none e rest) (none f more) = e ∙ sym f

-- ---- HIGH

abbrev pub IsHigh : List Word → ℕ → Type 0
IsHigh ws h = IsHighest is_placed ws h

pub high_is : (ws : List Word) → IsHigh ws (high ws)
high_is ws = highest_is is_placed refl ws

-- what MEMORY tells
abbrev pub told : State → ℕ
told s = (memory (holding s)).high

pub memory_tells : (s : State) → IsHigh s.words (told s)
unfolding memory
memory_tells s = high_is s.words

-- and the END record the same
pub end_tells : (s : State) →
    image_of s ≡ records_from s.symbols 0 s.words ++ (0x45 ∷ two (told s) ++ two (length (undefined_only s.symbols)))
unfolding image_of end_record memory
end_tells s = refl

-- ---- FORCE, BASE and END change no HIGH

same_words : (s t : State) → t.words ≡ s.words → memory (holding t) ≡ memory (holding s)
unfolding memory
same_words s t e = ap (λ (ws : List Word). record { number = 0; line = 0; high = high ws }) e

module _ (s : State) where
  pub force_keeps_high : (name : List ℕ) → memory (holding (called s (forcing name))) ≡ memory (holding s)
  unfolding called left_over
  force_keeps_high name = same_words s (called s (forcing name)) (force_words s name)

  pub base_keeps_high : (to : ℕ) → memory (holding (called s (basing to))) ≡ memory (holding s)
  unfolding called left_over
  base_keeps_high to = same_words s (called s (basing to)) (base_words s to)

  pub end_keeps_high : (out : List ℕ) → memory (holding (called s (ending out))) ≡ memory (holding s)
  unfolding called left_over
  end_keeps_high out = same_words s (called s (ending out)) (end_words s out)

-- ---- a placed word stays placed until a RESET

Stay : List Word → List Word → Type 0
Stay ws vs = (a : ℕ) → is_placed (get_or ws a unplaced) ≡ true → is_placed (get_or vs a unplaced) ≡ true

set_stays : (ws : List Word) (i : ℕ) (w : Word) → is_placed w ≡ true → Stay ws (set ws i w)
unfolding Stay
set_stays [] i w e a h = h
set_stays (v ∷ ws) zero w e zero h = e
set_stays (v ∷ ws) zero w e (suc a) h = h
set_stays (v ∷ ws) (suc i) w e zero h = h
set_stays (v ∷ ws) (suc i) w e (suc a) h = set_stays ws i w e a h

put_stays : (base : ℕ) (xs : List ℕ) (t : List Symbol) (cs : List Code) (ws : List Word) → Stay ws (put_all base xs t cs ws)
unfolding put_all Stay
put_stays base xs t [] ws a h = h
put_stays base xs t (c ∷ cs) ws a h =
    let w = linked xs t c.word.text c.word.relocation in
    put_stays base xs t cs (set ws (base + c.address) w) a
    (set_stays ws (base + c.address) w (linked_placed xs t c.word.text c.word.relocation) a h)

abbrev Since : State → Walk → Type 0
Since s w = Stay s.words w.state.words

place_stays : (s : State) (w : Walk) (m : Module) → Since s w → Since s (place w m)
unfolding place try_place placed Stay
place_stays s w m h =
    let here = w.state in
    cond_cases (Since s) (accepted w) _ _
    (λ _. cond_cases (Since s) (eqb (placing_fault here m) 0) _ _ (λ _ a e. put_stays here.next _ _ _ here.words a (h a e)) (λ _. h))
    (λ _. h)

item_stays : (s : State) (p : Progress) (i : Item) → Since s p.walk → Since s (walk_item p i).walk
unfolding walk_item searched
item_stays s p (free m) h = place_stays s p.walk m h
item_stays s p (section line ms) h =
    search_keeps takes place (λ (t : ModuleSet) (w : Walk). Since s w) ms (test_section line ms p.walk)
    (λ i m t w _ _ _. place_stays s w m)
    (rw (test_state line ms p.walk) h)

items_stay : (s : State) (is : List Item) (p : Progress) → Since s p.walk → Since s (walk_items p is).walk
unfolding walk_items
items_stay s [] p h = h
items_stay s (i ∷ is) p h = items_stay s is (walk_item p i) (item_stays s p i h)

load_stays : (s : State) (fits : Bool) (file : List ℕ) → Stay s.words (state_after s (load (holding s) fits file).left).words
unfolding state_after load_over Stay
load_stays s false file = λ a h. h
load_stays s true file = go (load_ends s true file)
  where
    go : Ending s (load (holding s) true file) → Stay s.words (state_after s (load (holding s) true file).left).words
    go (done e _) = rw (load_accepted s file e).1 (items_stay s (items_of file) (progress (walking s) 0) (λ a h. h))
    go (ahead _ _ _ _ l) = rw l (λ a h. h)
    go (for_file _ _ l) = rw l (λ a h. h)

pub placed_stays : (s : State) (c : Call) → c ≢ resetting → (a : ℕ) →
    is_placed (get_or s.words a unplaced) ≡ true → is_placed (get_or (called s c).words a unplaced) ≡ true
unfolding called left_over state_after Stay
placed_stays s (loading work file) other = load_stays s (work_fits work) file
placed_stays s (forcing name) other = λ a h. rw (force_words s name) h
placed_stays s (basing to) other = λ a h. rw (base_words s to) h
placed_stays s resetting other = absurd (other refl)
placed_stays s asking_high other = λ a h. h
placed_stays s (listing i) other = λ a h. h
placed_stays s (listing_undefined i) other = λ a h. h
placed_stays s (ending out) other = λ a h. rw (end_words s out) h

-- ---- so HIGH, once a word is placed, stays an address and never sinks

abbrev pub AtLeast : ℕ → ℕ → Type 0
AtLeast h k = h ≢ no_address → (h ≤ k) × (k ≢ no_address)

-- of words below 65,535
rises : (ws vs : List Word) → length vs ≤ no_address → ((a : ℕ) → is_placed (get_or ws a unplaced) ≡ true → is_placed (get_or vs a unplaced) ≡ true) → AtLeast (high ws) (high vs)
rises ws vs few stay some = go (high_is ws) (high_is vs)
  where
    inside : (a : ℕ) → is_placed (get_or vs a unplaced) ≡ true → a < length vs
    inside a e = below (ltb a (length vs)) refl
      where
        below : (b : Bool) → ltb a (length vs) ≡ b → a < length vs
        below true f = ltb-true a (length vs) f
        below false f = never e (ap is_placed (get_or-eq_default vs unplaced (ltb-false a (length vs) f)))

    go : IsHigh ws (high ws) → IsHigh vs (high vs) → (high ws ≤ high vs) × (high vs ≢ no_address)
    go (none e _) _ = absurd (some e)
    go (address s _) (none e rest) = never (stay (high ws) s) (rest (high ws))
    go (address s _) (address t above) = (not_below (ltb (high vs) (high ws)) refl, λ e. omega (arith, inside (high vs) t))
      where
        not_below : (b : Bool) → ltb (high vs) (high ws) ≡ b → high ws ≤ high vs
        not_below true f = never (stay (high ws) s) (above (high ws) (ltb-true (high vs) (high ws) f))
        not_below false f = ltb-false (high vs) (high ws) f

pub high_not_lower : (s : State) → sound s ≡ true → (c : Call) → c ≢ resetting → AtLeast (told s) (told (called s c))
unfolding memory
high_not_lower s h c other =
    let after = facts (called s c) (called_sound s c h) in
    rises s.words (called s c).words (omega (arith, after.size)) (placed_stays s c other)

-- after any calls in a row
pub high_until_reset : (s : State) → sound s ≡ true → (cs : List Call) → Every (λ c. c ≢ resetting) cs → AtLeast (told s) (told (called_all s cs))
unfolding called_all
high_until_reset s h [] others some = (omega arith, some)
high_until_reset s h (c ∷ cs) others some =
    let first = high_not_lower s h c others.0 some in
    let rest = high_until_reset (called s c) (called_sound s c h) cs others.1 first.1 in
    (omega (arith, first.0, rest.0), rest.1)
