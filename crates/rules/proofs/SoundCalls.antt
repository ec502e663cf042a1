-- Every call takes a sound state to a sound state.
use Prim.Native.Nat.{ℕ, zero, suc, ◌+◌, ◌≤◌}
use native.Mathlib.Omega.{arith}
use mathlib.Core.Bool.{Bool, true, false, cond}
use mathlib.Core.List.{List, [], ◌∷◌}
use mathlib.Core.Path.{◌≡◌, refl}
use lib.ListN.{length, replicate}
use lib.Dec.{eqb}
use borrow.Author.Tests.{ltb-false, leb-false, eqb-true}
use Rattle.rules.specs.Text.{all, pack_name}
use Rattle.rules.specs.Reading.{Module, Item, free, section, items_of}
use Rattle.rules.specs.State.{Symbol, name_is, Mark, State, unplaced, fresh, no_words, marked, broken, frozen, sound_word, different_names, sound}
use Rattle.rules.specs.Placing.{mention, placing_fault, placed}
use Rattle.rules.specs.Search.{ModuleSet}
use Rattle.rules.specs.Load.{Walk, refusal, walk, walking, accepted, try_place, place, takes, searched, test_section, Progress, progress, walk_item, walk_items}
use Rattle.rules.specs.Calls.{holding, load, load_over, force, base, reset, end}
use Rattle.rules.specs.History.{Call, loading, forcing, basing, resetting, asking_high, listing, listing_undefined, ending, work_fits, left_over, state_after, called}
use Rattle.rules.proofs.TestLaws.{Every, every_found, all_cons, all_weaken}
use Rattle.rules.proofs.BoolLaws.{cond_cases}
use Rattle.rules.proofs.NameLaws.{pack_legal}
use Rattle.rules.proofs.SearchLaws.{search_keeps}
use Rattle.rules.proofs.TableLaws.{different_mention}
use Rattle.rules.proofs.PlacingLaws.{passed}
use Rattle.rules.proofs.SoundLaws.{Sound, facts, whole, Legal, placed_sound, mention_each, mention_longer, sound_word_more}
use Rattle.rules.proofs.LoadLaws.{Ending, done, ahead, for_file, load_ends}
use Rattle.rules.proofs.WalkLaws.{load_accepted}
use Rattle.rules.proofs.CallLaws.{force_cases, base_cases, end_cases, fresh_size}
use Rattle.rules.proofs.HistoryLaws.{test_state}
use Rattle.rules.proofs.PartLaws.{legal_entries, legal_externals, legal_code_lem}
use Rattle.rules.proofs.ReadingLaws.{ModuleSound, ItemSound, items_sound as file_sound}

-- the mark is no part of what soundness asks
marked_sound : (k : Mark) (s : State) → Sound s → Sound (marked k s)
marked_sound k s h =
    record { few = h.few; each = h.each; different = h.different; size = h.size; words = h.words; next = h.next }

-- ---- FORCE, BASE, RESET, END

-- a table with one symbol more at the most
mention_most : (x : ℕ) (t : List Symbol) → length (mention x t) ≤ length t + 1
unfolding mention
mention_most x [] = omega arith
mention_most x (s ∷ t) =
    cond_cases (λ u. length u ≤ length (s ∷ t) + 1) (name_is x s) (s ∷ t) (s ∷ mention x t) (λ _. omega arith) (λ _. omega (arith, mention_most x t))

force_sound : (s : State) (name : List ℕ) → Sound s → Sound (state_after s (force (holding s) name).left)
unfolding state_after
force_sound s name h =
    force_cases (λ o. Sound (state_after s o.left)) s name (λ k _. h) (λ _. h) λ legal room _.
    let x = pack_name name in
    let t = s.symbols in
    record {
      few = omega (arith, mention_most x t, leb-false 256 (length t) room);
      each = mention_each x t (pack_legal name legal) h.each;
      different = different_mention x t h.different;
      size = h.size;
      words = all_weaken (sound_word (length t)) (sound_word (length (mention x t))) (sound_word_more (length t) (length (mention x t)) (mention_longer x t)) s.words h.words;
      next = h.next;
    }

base_sound : (s : State) (address : ℕ) → Sound s → Sound (state_after s (base (holding s) address).left)
unfolding state_after
base_sound s address h =
    base_cases (λ o. Sound (state_after s o.left)) s address (λ k _. h) λ small.
    record {
      few = h.few;
      each = h.each;
      different = h.different;
      size = h.size;
      words = h.words;
      next = omega (arith, ltb-false 4095 address small);
    }

end_sound : (s : State) (out : List ℕ) → Sound s → Sound (state_after s (end (holding s) out).call.left)
unfolding state_after
end_sound s out h = end_cases (λ o. Sound (state_after s o.call.left)) s out (λ k _. h) (λ _. marked_sound frozen s h)

all_unplaced : (n k : ℕ) → all (sound_word n) (replicate k unplaced) ≡ true
unfolding all sound_word
all_unplaced n zero = refl
all_unplaced n (suc k) = all_cons (sound_word n) unplaced (replicate k unplaced) refl (all_unplaced n k)

fresh_words : all (sound_word 0) fresh.words ≡ true
unfolding fresh no_words
fresh_words = all_unplaced 0 4096

fresh_sound : Sound fresh
unfolding fresh all different_names
fresh_sound =
    record {
      few = omega arith;
      each = refl;
      different = refl;
      size = fresh_size;
      words = fresh_words;
      next = omega arith;
    }

pub fresh_is_sound : sound fresh ≡ true
fresh_is_sound = whole fresh fresh_sound

-- ---- the walk

place_sound : (w : Walk) (m : Module) → Legal m → Sound w.state → Sound (place w m).state
unfolding place try_place
place_sound w m l h =
    let s = w.state in
    let tried = cond (eqb (placing_fault s m) 0) (walking (placed s m)) (walk (refusal (placing_fault s m) m.line) s) in
    cond_cases (λ v. Sound v.state) (accepted w) tried w
    (λ _.
    cond_cases (λ v. Sound v.state) (eqb (placing_fault s m) 0) (walking (placed s m)) (walk (refusal (placing_fault s m) m.line) s)
    (λ e. placed_sound s m h l (passed s m (eqb-true (placing_fault s m) 0 e)))
    (λ _. h))
    (λ _. h)

-- what the reading leaves is legal
sound_legal : (m : Module) → ModuleSound m → Legal m
sound_legal m h =
    record {
      entries_legal = legal_entries m.parts h.legal;
      externals_legal = legal_externals m.parts h.legal;
      code_legal = legal_code_lem m.parts h.legal;
    }

item_sound : (p : Progress) (i : Item) → ItemSound i → Sound p.walk.state → Sound (walk_item p i).walk.state
unfolding walk_item searched
item_sound p (free m) g h = place_sound p.walk m (sound_legal m g) h
item_sound p (section line ms) g h =
    search_keeps
    takes
    place
    (λ (t : ModuleSet) (w : Walk). Sound w.state)
    ms
    (test_section line ms p.walk)
    (λ i m t w e _ _. place_sound w m (sound_legal m (every_found ModuleSound ms i g.0 e)))
    (rw (test_state line ms p.walk) h)

items_sound : (is : List Item) (p : Progress) → Every ItemSound is → Sound p.walk.state → Sound (walk_items p is).walk.state
unfolding walk_items
items_sound [] p g h = h
items_sound (i ∷ is) p g h =
    items_sound is (walk_item p i) g.1 (item_sound p i g.0 h)

-- ---- LOAD

load_sound : (s : State) (fits : Bool) (file : List ℕ) → Sound s → Sound (state_after s (load (holding s) fits file).left)
unfolding state_after load_over
load_sound s false file h = h
load_sound s true file h = go (load_ends s true file)
  where
    go : Ending s (load (holding s) true file) → Sound (state_after s (load (holding s) true file).left)
    go (done e _) =
        rw (load_accepted s file e).1 (items_sound (items_of file) (progress (walking s) 0) (file_sound file) h)
    go (ahead _ _ _ _ l) = rw l h
    go (for_file _ _ l) = rw l (marked_sound broken s h)

-- "Demands 2 and 3 hold from every sound state": every call leaves one
pub called_sound : (s : State) (c : Call) → sound s ≡ true → sound (called s c) ≡ true
unfolding called left_over reset state_after
called_sound s (loading work file) h = whole (called s (loading work file)) (load_sound s (work_fits work) file (facts s h))
called_sound s (forcing name) h = whole (called s (forcing name)) (force_sound s name (facts s h))
called_sound s (basing address) h = whole (called s (basing address)) (base_sound s address (facts s h))
called_sound s resetting h = fresh_is_sound
called_sound s asking_high h = h
called_sound s (listing i) h = h
called_sound s (listing_undefined i) h = h
called_sound s (ending out) h = whole (called s (ending out)) (end_sound s out (facts s h))
