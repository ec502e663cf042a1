-- A module that is placed passed the tests 9 to 14, and places as many words as it has.
use Prim.Native.Nat.{ℕ, suc, ◌+◌, ◌≤◌}
use native.Mathlib.Omega.{arith}
use mathlib.Core.Bool.{Bool, true, false, cond}
use mathlib.Core.List.{List, [], ◌∷◌}
use mathlib.Core.Path.{◌≡◌, refl, ap, ◌∙◌}
use lib.ListN.{length, set, length-set}
use lib.Dec.{eqb, ltb}
use borrow.Author.Tests.{eqb-true, ltb-true, ltb-false, lt-ltb}
use Rattle.rules.specs.Text.{all}
use Rattle.rules.specs.Reading.{Module}
use Rattle.rules.specs.State.{Symbol, State, Word, placed_words}
use Rattle.rules.specs.Placing.{Code, externals, code, module_length, code_count, joined, linked, put_all, no_room, overlaps, bad_arguments, out_of_range, duplicates, table_full, placing_fault, placed}
use Rattle.rules.specs.Load.{Walk, refusal, walk, walking, accepted, try_place, place}
use Rattle.rules.proofs.TestLaws.{all_weaken}
use Rattle.rules.proofs.BoolLaws.{cond_cases, never}
use Rattle.rules.proofs.OverlapLaws.{below, clash_overlap}
use Rattle.rules.proofs.CountLaws.{put_count}

-- ---- the tests of a module that is placed

pub record Passed (s : State) (m : Module) : Type 0 where
  pub room : no_room s m ≡ false
  pub apart : overlaps s m ≡ false
  pub arguments : bad_arguments m ≡ false
  pub range : out_of_range s m ≡ false
  pub single : duplicates s m ≡ false
  pub table : table_full s m ≡ false

-- a test that would have answered did not apply
not_this : (b : Bool) (k n : ℕ) → cond b (suc k) n ≡ 0 → (b ≡ false) × (n ≡ 0)
not_this true k n e = absurd (omega arith)
not_this false k n e = (refl, e)

pub passed : (s : State) (m : Module) → placing_fault s m ≡ 0 → Passed s m
unfolding placing_fault
passed s m e =
    let a = not_this (no_room s m) 8 _ e in
    let b = not_this (overlaps s m) 9 _ a.1 in
    let c = not_this (bad_arguments m) 10 _ b.1 in
    let d = not_this (out_of_range s m) 11 _ c.1 in
    let f = not_this (duplicates s m) 12 _ d.1 in
    let g = not_this (table_full s m) 13 0 f.1 in
    record { room = a.0; apart = b.0; arguments = c.0; range = d.0; single = f.0; table = g.0 }

-- where a walk is accepted after a module, the module passed
pub place_passed : (w : Walk) (m : Module) → accepted (place w m) ≡ true → Passed w.state m
unfolding place try_place
place_passed w m =
    let s = w.state in
    let tried = cond (eqb (placing_fault s m) 0) (walking (placed s m)) (walk (refusal (placing_fault s m) m.line) s) in
    cond_cases (λ v. accepted v ≡ true → Passed s m) (accepted w) tried w
    (λ _.
    cond_cases (λ v. accepted v ≡ true → Passed s m) (eqb (placing_fault s m) 0) (walking (placed s m)) (walk (refusal (placing_fault s m) m.line) s)
    (λ e _. passed s m (eqb-true (placing_fault s m) 0 e))
    (λ e h. never h e))
    (λ e h. never h e)

-- ---- words

-- a module as the reading leaves it: its words are as many as its CODE counts say, and within its length
pub record Coded (m : Module) : Type 0 where
  pub as_many : length (code m) ≡ code_count m
  pub within : all (λ c. ltb c.address (module_length m)) (code m) ≡ true

put_length : (base : ℕ) (xs : List ℕ) (t : List Symbol) (cs : List Code) (ws : List Word) → length (put_all base xs t cs ws) ≡ length ws
unfolding put_all
put_length base xs t [] ws = refl
put_length base xs t (c ∷ cs) ws =
    put_length base xs t cs (set ws (base + c.address) (linked xs t c.word.text c.word.relocation))
    ∙ length-set ws (base + c.address) (linked xs t c.word.text c.word.relocation)

pub placed_length : (s : State) (m : Module) → length (placed s m).words ≡ length s.words
unfolding placed
placed_length s m = put_length s.next (externals m) (joined s.next m s.symbols) (code m) s.words

pub placed_count : (s : State) (m : Module)
    → length s.words ≡ 4096 → Coded m → Passed s m → placed_words (placed s m).words ≡ placed_words s.words + code_count m
unfolding placed no_room overlaps below
placed_count s m size c p =
    let room : s.next + module_length m ≤ 4096 = ltb-false 4096 (s.next + module_length m) p.room in
    let reach : (x : Code) → ltb x.address (module_length m) ≡ true → below s.next (length s.words) x ≡ true =
    λ x h. lt-ltb (s.next + x.address) (length s.words) (omega (arith, ltb-true x.address (module_length m) h)) in
    let inside = all_weaken _ (below s.next (length s.words)) reach (code m) c.within in
    let counted =
    put_count
    s.next
    (externals m)
    (joined s.next m s.symbols)
    (code m)
    s.words
    (clash_overlap s.next (code m) s.words inside ∙ p.apart)
    inside in
    counted ∙ ap (λ n. placed_words s.words + n) c.as_many
