-- How a load can end: accepted; refused ahead of reading, with nothing changed; or refused for its file, with the broken mark set
-- and nothing else changed.
use Prim.Native.Nat.{ℕ}
use native.Mathlib.Omega.{arith}
use mathlib.Core.Bool.{Bool, true, false, cond, not, ◌&&◌}
use mathlib.Core.List.{List, [], ◌∷◌}
use mathlib.Core.Path.{◌≡◌, refl}
use lib.ListN.{length}
use lib.Dec.{eqb, ltb}
use Rattle.std.specs.Prelude.{Err}
use Rattle.rules.specs.Text.{between}
use Rattle.rules.specs.Reading.{Module, Item, free, section, reading_of, items_of, Reading, Complete}
use Rattle.rules.specs.State.{State, Mark, unmarked, broken, frozen, marked}
use Rattle.rules.specs.Placing.{placing_fault, placed, twice}
use Rattle.rules.specs.Search.{ModuleSet}
use Rattle.rules.specs.Load.{Walk, refusal, walk, walking, accepted, try_place, place, takes, searched, section_names, test_section, Progress, progress, walk_item, walk_items, walk_from, loaded, walked, load_read, load_read_over, load_file, load_file_over}
use Rattle.rules.specs.declared.answer.LoadAnswer.{LoadAnswer}
use Rattle.rules.specs.Calls.{as_before, now, holding, shut_by, Outcome, load_stopped, load_outcome, load_state, load_state_over, load_lent_over, load, load_over}
use Rattle.rules.proofs.TestLaws.{cond_keeps, between_wider}
use Rattle.rules.proofs.BoolLaws.{cond_cases}
use Rattle.rules.proofs.SearchLaws.{search_keeps}
use Rattle.rules.proofs.AnswerLaws.{right_column, right_wider, reading_number, reading_number_lem, placing_number, placing_number_lem}

-- ---- the walk's number is 0 or 9 to 14

walk_number : Walk → Bool
walk_number w = placing_number w.refusal.number

place_number : (w : Walk) (m : Module) → walk_number w ≡ true → walk_number (place w m) ≡ true
unfolding place try_place walk_number placing_number
place_number w m h =
    let s = w.state in
    let tried = cond_keeps walk_number (eqb (placing_fault s m) 0) {x = walking (placed s m)} {y = walk (refusal (placing_fault s m) m.line) s} refl (placing_number_lem s m) in
    cond_keeps walk_number (accepted w) {x = try_place s m} {y = w} tried h

section_number : (line : ℕ) (ms : List Module) (w : Walk) → walk_number w ≡ true → walk_number (test_section line ms w) ≡ true
unfolding test_section walk_number placing_number
section_number line ms w h = cond_keeps walk_number (accepted w && twice (section_names ms)) {x = walk (refusal 13 line) w.state} {y = w} refl h

item_number : (p : Progress) (i : Item) → walk_number p.walk ≡ true → walk_number (walk_item p i).walk ≡ true
unfolding walk_item searched
item_number p (free m) h = place_number p.walk m h
item_number p (section line ms) h =
    search_keeps
    takes
    place
    (λ (t : ModuleSet) (w : Walk). walk_number w ≡ true)
    ms
    (test_section line ms p.walk)
    (λ i m t w _ _ _. place_number w m)
    (section_number line ms p.walk h)

items_number : (is : List Item) (p : Progress) → walk_number p.walk ≡ true → walk_number (walk_items p is).walk ≡ true
unfolding walk_items
items_number [] p h = h
items_number (i ∷ is) p h = items_number is (walk_item p i) (item_number p i h)

-- ---- how a load ends

pub data Ending (s : State) (o : Outcome LoadAnswer) : Type 0 where
  done : o.answer.number ≡ 0 → o.answer.column ≡ 0 → Ending s o
  ahead : between 1 5 o.answer.number ≡ true → o.answer.line ≡ 0 → o.answer.column ≡ 0 → o.answer.rounds ≡ 0 → o.left ≡ as_before → Ending s o
  for_file : right_column 14 o.answer.number o.answer.column ≡ true → o.answer.rounds ≡ 0 → o.left ≡ now (marked broken s) → Ending s o

-- a number that is 0 or 9 to 14, and not 0
refused_number : (k : ℕ) → placing_number k ≡ true → eqb k 0 ≡ false → right_column 14 k 0 ≡ true
unfolding placing_number right_column
refused_number k h e = between_wider 9 14 7 14 k (omega arith) (omega arith) (rw e at h)

walked_ends : (s : State) (p : Progress) → walk_number p.walk ≡ true → Ending s (load_outcome (walked s p))
unfolding walked walk_number
walked_ends s p h =
    cond_cases
    (λ l. Ending s (load_outcome l))
    (accepted p.walk)
    (loaded (refusal 0 0) 0 p.rounds p.walk.state)
    (loaded p.walk.refusal 0 0 (marked broken s))
    (λ e. done refl refl)
    (λ e. for_file (refused_number p.walk.refusal.number h e) refl refl)

read_ends : (s : State) (file : List ℕ) (r : Reading) → reading_number r ≡ true → Ending s (load_outcome (load_read s file r))
unfolding load_read_over reading_number walk_number placing_number
read_ends s file Complete h = walked_ends s (walk_from s (items_of file)) (items_number (items_of file) (progress (walking s) 0) refl)
read_ends s file (Err at) h = for_file (right_wider at.number at.column h) refl refl

shut_number : (k : Mark) → not (eqb (shut_by k) 0) ≡ true → between 1 5 (shut_by k) ≡ true
unfolding shut_by
shut_number unmarked h = h
shut_number broken h = refl
shut_number frozen h = refl

pub state_ends : (s : State) (file : List ℕ) → Ending s (load_state s file)
unfolding load_state_over load_file_over
state_ends s file =
    let read = load_outcome (load_file s file) in
    cond_cases
    (Ending s)
    (not (eqb (shut_by s.mark) 0))
    (load_stopped (shut_by s.mark))
    (cond (ltb 65536 (length file)) (load_stopped 5) read)
    (λ e. ahead (shut_number s.mark e) refl refl refl refl)
    (λ e.
    cond_cases
    (Ending s)
    (ltb 65536 (length file))
    (load_stopped 5)
    read
    (λ f. ahead refl refl refl refl refl)
    (λ f. read_ends s file (reading_of file) (reading_number_lem file)))

-- "A refused call leaves image, symbols, marks and next address as they were, except that a load refused for what is in its file
-- sets the broken mark"
pub load_ends : (s : State) (work_fits_lem : Bool) (file : List ℕ) → Ending s (load (holding s) work_fits_lem file)
unfolding load_over load_lent_over
load_ends s false file = ahead refl refl refl refl refl
load_ends s true file = state_ends s file
