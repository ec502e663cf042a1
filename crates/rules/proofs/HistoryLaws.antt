-- "Placed words always equal the sum of the CODE counts of all modules placed since the reset."
use Prim.Native.Nat.{ℕ, zero, suc, ◌+◌, ◌<◌}
use native.Mathlib.Omega.{arith}
use mathlib.Core.Bool.{Bool, true, false, cond, ◌&&◌}
use mathlib.Core.List.{List, [], ◌∷◌, ◌++◌}
use mathlib.Core.Option.{some}
use mathlib.Core.Path.{◌≡◌, refl, sym, ap, ◌∙◌}
use lib.ListN.{length, get_elem?}
use lib.Dec.{eqb}
use borrow.Author.Tests.{ne_eqb, eq-eqb}
use Rattle.rules.specs.Text.{between}
use Rattle.rules.specs.Reading.{Module, Item, free, section, items_of}
use Rattle.rules.specs.State.{State, fresh, placed_words}
use Rattle.rules.specs.Placing.{code_count, twice}
use Rattle.rules.specs.Search.{ModuleSet, no_modules, with_module}
use Rattle.rules.specs.Load.{Walk, refusal, walk, walking, accepted, place, takes, searched, section_names, test_section, Progress, progress, walk_item, walk_items}
use Rattle.rules.specs.Calls.{holding, load, load_over, reset}
use Rattle.rules.specs.History.{Call, loading, forcing, basing, resetting, asking_high, listing, listing_undefined, ending, work_fits, left_over, state_after, called, called_all, chosen, placed_by, placed_from, code_counts, count_placed, count_after, count_since}
use Rattle.rules.proofs.TestLaws.{Every, every_found, between_low}
use Rattle.rules.proofs.BoolLaws.{cond_cases, never_none}
use Rattle.rules.proofs.SearchLaws.{search_keeps}
use Rattle.rules.proofs.ReadingLaws.{ModuleSound, ItemSound, items_sound}
use Rattle.rules.proofs.AnswerLaws.{right_fault, file_fault_low}
use Rattle.rules.proofs.LoadLaws.{Ending, done, ahead, for_file, load_ends}
use Rattle.rules.proofs.CallLaws.{force_words, base_words, end_words, fresh_size, fresh_count}
use Rattle.rules.proofs.PlacingLaws.{place_passed, Coded, placed_length, placed_count}
use Rattle.rules.proofs.WalkLaws.{place_accepted, place_placed, items_accepted, load_accepted}

-- ---- the modules of a set

-- an index ahead of the list changes nothing
chosen_ahead : (t : ModuleSet) (i k : ℕ) (ms : List Module) → i < k → chosen (with_module i t) k ms ≡ chosen t k ms
unfolding chosen with_module
chosen_ahead t i k [] h = refl
chosen_ahead t i k (m ∷ ms) h = rw (ne_eqb i k (omega arith), chosen_ahead t i (k + 1) ms (omega arith))

-- one module more adds its counts
chosen_with : (t : ModuleSet) (i k j : ℕ) (ms : List Module) (m : Module)
    → i ≡ k + j → get_elem? ms j ≡ some m → t i ≡ false → code_counts (chosen (with_module i t) k ms) ≡ code_counts (chosen t k ms) + code_count m
unfolding chosen with_module code_counts
chosen_with t i k j [] m e g u = never_none g
chosen_with t i k zero (x ∷ ms) m e g u =
    let here : i ≡ k = omega arith in
    let out : t k ≡ false = ap t (sym here) ∙ u in
    let same : x ≡ m = cc in
    rw (eq-eqb i k here, out, chosen_ahead t i (k + 1) ms (omega arith), same) (omega arith)
chosen_with t i k (suc j) (x ∷ ms) m e g u =
    let rest = chosen_with t i (k + 1) j ms m (omega arith) g u in
    rw (ne_eqb i k (omega arith)) (go (t k) rest)
  where
    go : (b : Bool)
        → code_counts (chosen (with_module i t) (k + 1) ms) ≡ code_counts (chosen t (k + 1) ms) + code_count m
        → code_counts (cond b (x ∷ chosen (with_module i t) (k + 1) ms) (chosen (with_module i t) (k + 1) ms))
        ≡ code_counts (cond b (x ∷ chosen t (k + 1) ms) (chosen t (k + 1) ms)) + code_count m
    go true r = omega arith
    go false r = r

chosen_none : (k : ℕ) (ms : List Module) → code_counts (chosen no_modules k ms) ≡ 0
unfolding chosen no_modules code_counts
chosen_none k [] = refl
chosen_none k (m ∷ ms) = chosen_none (k + 1) ms

counts_append : (a b : List Module) → code_counts (a ++ b) ≡ code_counts a + code_counts b
unfolding code_counts
counts_append [] b = omega arith
counts_append (m ∷ a) b = omega (arith, counts_append a b)

-- the test of a section changes no state

pub test_state : (line : ℕ) (ms : List Module) (w : Walk) → (test_section line ms w).state ≡ w.state
unfolding test_section
test_state line ms w =
    cond_cases (λ v. v.state ≡ w.state) (accepted w && twice (section_names ms)) (walk (refusal 13 line) w.state) w (λ _. refl) (λ _. refl)

-- 4,096 words, of which n more are placed than before
pub record Grown (n : ℕ) (before after : State) : Type 0 where
  pub size : length after.words ≡ 4096
  pub count : placed_words after.words ≡ placed_words before.words + n

-- a number from a positive one up
positive : (a b k : ℕ) → between a b k ≡ true → 0 < a → k ≡ 0 → ⊥
positive a b k h p e = omega (arith, between_low a b k h)

-- ---- words along a walk

-- what the reading leaves is what placing counts on
sound_coded : (m : Module) → ModuleSound m → Coded m
sound_coded m h = record { as_many = h.counted; within = h.below }

-- an accepted module adds its counts
grown_module : (n : ℕ) (s : State) (w : Walk) (m : Module)
    → ModuleSound m → Grown n s w.state → accepted (place w m) ≡ true → Grown (n + code_count m) s (place w m).state
grown_module n s w m g h k =
    let c = placed_count w.state m h.size (sound_coded m g) (place_passed w m k) in
    rw (place_placed w m k) (record { size = placed_length w.state m ∙ h.size; count = omega arith })

grown_item : (p : Progress) (i : Item)
    → ItemSound i → length p.walk.state.words ≡ 4096 → accepted (walk_item p i).walk ≡ true
    → Grown (code_counts (placed_by p i)) p.walk.state (walk_item p i).walk.state
unfolding walk_item placed_by code_counts searched
grown_item p (free m) g size h =
    let r = grown_module 0 p.walk.state p.walk m g (record { size = size; count = omega arith }) h in
    record { size = r.size; count = omega arith }
grown_item p (section line ms) g size h =
    search_keeps
    takes
    place
    (λ (t : ModuleSet) (w : Walk). accepted w ≡ true → Grown (code_counts (chosen t 0 ms)) p.walk.state w.state)
    ms
    (test_section line ms p.walk)
    (λ i m t w e out _ ih k.
    rw
    (chosen_with t i 0 i ms m (omega arith) e out)
    (grown_module (code_counts (chosen t 0 ms)) p.walk.state w m (every_found ModuleSound ms i g.0 e) (ih (place_accepted w m k)) k))
    (λ _.
    rw (test_state line ms p.walk, chosen_none 0 ms) (record { size = size; count = omega arith }))
    h

pub grown_items : (is : List Item) (p : Progress)
    → Every ItemSound is → length p.walk.state.words ≡ 4096 → accepted (walk_items p is).walk ≡ true
    → Grown (code_counts (placed_from p is)) p.walk.state (walk_items p is).walk.state
unfolding walk_items placed_from code_counts
grown_items [] p g size h = record { size = size; count = omega arith }
grown_items (i ∷ is) p g size h =
    let first =
    grown_item
    p
    i
    g.0
    size
    (items_accepted (walk_item p i) is h) in
    let rest = grown_items is (walk_item p i) g.1 first.size h in
    record {
      size = rest.size;
      count = omega (arith, counts_append (placed_by p i) (placed_from (walk_item p i) is), first.count, rest.count);
    }

-- ---- along calls

-- the same of a load whose work memory fits or not
abbrev count_loaded : State → Bool → List ℕ → ℕ
count_loaded s fits file =
    cond (eqb (load (holding s) fits file).answer.number 0) (code_counts (placed_from (progress (walking s) 0) (items_of file))) 0

abbrev loaded_by : State → Bool → List ℕ → State
loaded_by s fits file = state_after s (load (holding s) fits file).left

load_grown : (s : State) (work file : List ℕ)
    → length s.words ≡ 4096 → Grown (count_placed s work file) s (called s (loading work file))
unfolding called left_over count_placed state_after load_over
load_grown s work file size = go (work_fits work)
  where
    read : Ending s (load (holding s) true file) → Grown (count_loaded s true file) s (loaded_by s true file)
    read (done e _) =
        let d = load_accepted s file e in
        let g = grown_items (items_of file) (progress (walking s) 0) (items_sound file) size d.0 in
        rw (eq-eqb (load (holding s) true file).answer.number 0 e, d.1) g
    read (ahead k _ _ _ l) =
        rw (ne_eqb (load (holding s) true file).answer.number 0 (positive 1 5 _ k (omega arith)), l) (record { size = size; count = omega arith })
    read (for_file k _ l) =
        rw (ne_eqb (load (holding s) true file).answer.number 0 (λ z. let low = file_fault_low (load (holding s) true file).answer.number (right_fault _ (load (holding s) true file).answer.column k) in omega arith), l) (record { size = size; count = omega arith })

    go : (fits : Bool) → Grown (count_loaded s fits file) s (loaded_by s fits file)
    go false = record { size = size; count = omega arith }
    go true = read (load_ends s true file)

counted_from : (cs : List Call) (n : ℕ) (s : State)
    → length s.words ≡ 4096 → placed_words s.words ≡ n → placed_words (called_all s cs).words ≡ count_since n s cs
unfolding called_all count_since count_after called left_over reset state_after
counted_from [] n s size e = e
counted_from (loading work file ∷ cs) n s size e =
    let g = load_grown s work file size in
    counted_from cs (n + count_placed s work file) (called s (loading work file)) g.size (omega (arith, g.count))
counted_from (forcing name ∷ cs) n s size e =
    let same = force_words s name in
    counted_from cs n (called s (forcing name)) (ap length same ∙ size) (ap placed_words same ∙ e)
counted_from (basing address ∷ cs) n s size e =
    let same = base_words s address in
    counted_from cs n (called s (basing address)) (ap length same ∙ size) (ap placed_words same ∙ e)
counted_from (resetting ∷ cs) n s size e = counted_from cs 0 fresh fresh_size fresh_count
counted_from (asking_high ∷ cs) n s size e = counted_from cs n s size e
counted_from (listing i ∷ cs) n s size e = counted_from cs n s size e
counted_from (listing_undefined i ∷ cs) n s size e = counted_from cs n s size e
counted_from (ending out ∷ cs) n s size e =
    let same = end_words s out in
    counted_from cs n (called s (ending out)) (ap length same ∙ size) (ap placed_words same ∙ e)

pub words_counted : (cs : List Call) → placed_words (called_all fresh cs).words ≡ count_since 0 fresh cs
words_counted cs = counted_from cs 0 fresh fresh_size fresh_count
