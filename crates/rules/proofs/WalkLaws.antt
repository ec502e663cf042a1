-- The walk over what a file holds: a refused walk stays refused, and what an accepted load tells of its walk.
use Prim.Native.Nat.{ℕ}
use native.Mathlib.Omega.{arith}
use mathlib.Core.Bool.{true, false, not, ◌&&◌}
use mathlib.Core.List.{List, [], ◌∷◌, ◌++◌}
use mathlib.Core.Path.{◌≡◌, refl, ap}
use lib.ListN.{length}
use lib.Dec.{eqb, ltb}
use borrow.Author.Tests.{eqb-false, not-true}
use Rattle.std.specs.Prelude.{Err}
use Rattle.rules.specs.Reading.{Module, Item, free, section, reading_of, items_of, Reading, Complete}
use Rattle.rules.specs.State.{State, different_names}
use Rattle.rules.specs.Placing.{placing_fault, placed, twice}
use Rattle.rules.specs.Load.{refusal, Walk, walking, loaded, accepted, try_place, place, takes, searched, section_names, test_section, Progress, walk_item, walk_items, walk_from, Loaded, walked, load_read, load_read_over, load_file_over}
use Rattle.rules.specs.declared.answer.LoadAnswer.{LoadAnswer}
use Rattle.rules.specs.Calls.{Outcome, load_outcome, holding, shut_by, load_state_over, load_lent_over, load, load_over}
use Rattle.rules.proofs.BoolLaws.{cond_cases, never}
use Rattle.rules.proofs.SearchLaws.{search_keeps}
use Rattle.rules.proofs.TableLaws.{different_joined}
use Rattle.rules.proofs.AnswerLaws.{reading_number, reading_number_lem, right_wider, right_fault, file_fault_low}

-- ---- a refused walk stays refused: where the walk is accepted afterwards, it was before

pub place_accepted : (w : Walk) (m : Module) → accepted (place w m) ≡ true → accepted w ≡ true
unfolding place
place_accepted w m =
    cond_cases (λ (v : Walk). accepted v ≡ true → accepted w ≡ true) (accepted w) _ _ (λ e _. e) (λ _ h. h)

-- and its module is placed
pub place_placed : (w : Walk) (m : Module) → accepted (place w m) ≡ true → place w m ≡ walking (placed w.state m)
unfolding place try_place
place_placed w m =
    let done = walking (placed w.state m) in
    let fault = placing_fault w.state m in
    cond_cases (λ (v : Walk). accepted v ≡ true → v ≡ done) (accepted w) _ _
    (λ _. cond_cases (λ (v : Walk). accepted v ≡ true → v ≡ done) (eqb fault 0) _ _ (λ _ _. refl) (λ e h. never h e))
    (λ e h. never h e)

pub search_accepted : (ms : List Module) (w : Walk) → accepted (searched ms w).now ≡ true → accepted w ≡ true
unfolding searched
search_accepted ms w =
    search_keeps takes place (λ t v. accepted v ≡ true → accepted w ≡ true) ms w
    (λ i m t v _ _ _ ih h. ih (place_accepted v m h))
    (λ h. h)

-- a section passes its test if no name stands twice in it, and the test then changes nothing
pub test_accepted : (line : ℕ) (ms : List Module) (w : Walk) → accepted (test_section line ms w) ≡ true →
    (accepted w ≡ true) × (test_section line ms w ≡ w) × (twice (section_names ms) ≡ false)
unfolding test_section
test_accepted line ms w =
    cond_cases
    (λ (v : Walk). accepted v ≡ true → (accepted w ≡ true) × (v ≡ w) × (twice (section_names ms) ≡ false))
    (accepted w && twice (section_names ms)) _ _
    (λ _ h. never h refl)
    (λ e h. (h, refl, rw h at e))

-- a section on the way of an accepted walk
pub section_accepted : (p : Progress) (line : ℕ) (ms : List Module) →
    accepted (walk_item p (section line ms)).walk ≡ true →
    (accepted p.walk ≡ true) × (test_section line ms p.walk ≡ p.walk) × (twice (section_names ms) ≡ false)
unfolding walk_item
section_accepted p line ms h = test_accepted line ms p.walk (search_accepted ms (test_section line ms p.walk) h)

pub item_accepted : (p : Progress) (i : Item) → accepted (walk_item p i).walk ≡ true → accepted p.walk ≡ true
unfolding walk_item
item_accepted p (free m) h = place_accepted p.walk m h
item_accepted p (section line ms) h = (section_accepted p line ms h).0

pub items_accepted : (p : Progress) (is : List Item) → accepted (walk_items p is).walk ≡ true →
    accepted p.walk ≡ true
unfolding walk_items
items_accepted p [] h = h
items_accepted p (i ∷ is) h = item_accepted p i (items_accepted (walk_item p i) is h)

pub items_append : (p : Progress) (is js : List Item) → walk_items p (is ++ js) ≡ walk_items (walk_items p is) js
unfolding walk_items
items_append p [] js = refl
items_append p (i ∷ is) js = items_append (walk_item p i) is js

-- ---- names stay different

abbrev Different : Walk → Type 0
Different w = different_names w.state.symbols ≡ true

place_different : (w : Walk) (m : Module) → Different w → Different (place w m)
unfolding place try_place placed
place_different w m h =
    cond_cases Different (accepted w) _ _
    (λ _.
    cond_cases Different (eqb (placing_fault w.state m) 0) _ _
    (λ _. different_joined w.state.next m w.state.symbols h)
    (λ _. h))
    (λ _. h)

item_different : (p : Progress) (i : Item) → Different p.walk → Different (walk_item p i).walk
unfolding walk_item searched test_section
item_different p (free m) h = place_different p.walk m h
item_different p (section line ms) h =
    let w = test_section line ms p.walk in
    search_keeps takes place (λ t v. Different v) ms w
    (λ i m t v _ _ _ d. place_different v m d)
    (cond_cases Different (accepted p.walk && twice (section_names ms)) _ _ (λ _. h) (λ _. h))

pub items_different : (p : Progress) (is : List Item) → different_names p.walk.state.symbols ≡ true →
    different_names (walk_items p is).walk.state.symbols ≡ true
unfolding walk_items
items_different p [] h = h
items_different p (i ∷ is) h = items_different (walk_item p i) is (item_different p i h)

-- ---- an accepted load

abbrev accomplished : Progress → Loaded
accomplished p = loaded (refusal 0 0) 0 p.rounds p.walk.state

walked_accepted : (s : State) (p : Progress) → (walked s p).refusal.number ≡ 0 →
    (accepted p.walk ≡ true) × (walked s p ≡ accomplished p)
unfolding walked
walked_accepted s p =
    cond_cases (λ (l : Loaded). l.refusal.number ≡ 0 → (accepted p.walk ≡ true) × (l ≡ accomplished p))
    (accepted p.walk) _ _
    (λ e _. (e, refl))
    (λ e h. absurd (eqb-false p.walk.refusal.number 0 e h))

read_accepted : (s : State) (file : List ℕ) (r : Reading) → reading_number r ≡ true → (load_read s file r).refusal.number ≡ 0 →
    let p = walk_from s (items_of file) in (accepted p.walk ≡ true) × (load_read s file r ≡ accomplished p)
unfolding load_read_over reading_number
read_accepted s file (Err at) t h = absurd (omega (arith, file_fault_low at.number (right_fault at.number at.column (right_wider at.number at.column t))))
read_accepted s file Complete t h = walked_accepted s (walk_from s (items_of file)) h

-- an accepted load is what its walk comes to
abbrev Comes : Progress → Outcome LoadAnswer → Type 0
Comes p o = o.answer.number ≡ 0 → (accepted p.walk ≡ true) × (o ≡ load_outcome (accomplished p))

pub load_accepted : (s : State) (file : List ℕ) → (load (holding s) true file).answer.number ≡ 0 →
    let p = walk_from s (items_of file) in
    (accepted p.walk ≡ true)
    × (load (holding s) true file
    ≡ load_outcome (loaded (refusal 0 0) 0 p.rounds p.walk.state))
unfolding load_over load_lent_over load_state_over load_file_over
load_accepted s file =
    let p = walk_from s (items_of file) in
    let k = shut_by s.mark in
    cond_cases (Comes p) (not (eqb k 0)) _ _
    (λ e h. absurd (eqb-false k 0 (not-true (eqb k 0) e) h))
    (λ _.
    cond_cases (Comes p) (ltb 65536 (length file)) _ _
    (λ _ h. absurd (omega arith))
    (λ _ h. let q = read_accepted s file (reading_of file) (reading_number_lem file) h in (q.0, ap load_outcome q.1)))
