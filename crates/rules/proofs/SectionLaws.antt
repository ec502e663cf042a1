-- The modules of a library section, told by their places: sets of them, and names that are an entry once.
use Prim.Native.Nat.{ℕ, zero, suc, ◌+◌}
use native.Mathlib.Omega.{arith}
use native.Mathlib.Nat.{zero-add, add-zero}
use mathlib.Core.Bool.{Bool, true, false, ◌&&◌, ◌||◌, or-true}
use mathlib.Core.List.{List, [], ◌∷◌, ◌++◌}
use mathlib.Core.Logic.{⊎_elim}
use mathlib.Core.Option.{some}
use mathlib.Core.Path.{◌≡◌, refl, ◌∙◌, ap}
use lib.ListN.{get_elem?}
use lib.Dec.{eqb}
use borrow.Author.Tests.{eqb-true}
use Rattle.rules.specs.Text.{any}
use Rattle.rules.specs.Reading.{Module}
use Rattle.rules.specs.Placing.{twice}
use Rattle.rules.specs.Search.{ModuleSet, no_modules, with_module}
use Rattle.rules.specs.Load.{entry_names, section_names}
use Rattle.rules.specs.Demand.{some_from, is_entry, Contains}
use Rattle.rules.proofs.BoolLaws.{never, never_none, or_on, or_off, and_on, both_ways, inside, eqb_same, any_append}

-- ---- some module of a set

-- a module of a set, its index in the list and its index in the section, that passes a test
pub record Member (p : Module → Bool) (set : ModuleSet) (ms : List Module) : Type 0 where
  pub index : ℕ
  pub one : Module
  pub stands : get_elem? ms index ≡ some one
  pub belongs : set index ≡ true
  pub passes : p one ≡ true

some_at_from : (p : Module → Bool) (set : ModuleSet) (j : ℕ) (ms : List Module) → Member p (λ k. set (j + k)) ms →
    some_from p set j ms ≡ true
unfolding some_from
some_at_from p set j ms w = go j ms w.index w.stands w.belongs
  where
    go : (j : ℕ) (ms : List Module) (k : ℕ) → get_elem? ms k ≡ some w.one → set (j + k) ≡ true →
        some_from p set j ms ≡ true
    go j [] k e s = never_none e
    go j (n ∷ ms) zero e s =
        let same : n ≡ w.one = cc in
        rw (same, w.passes, rw add-zero at s)
    go j (n ∷ ms) (suc k) e s =
        let q : j + suc k ≡ j + 1 + k = omega arith in
        rw (go (j + 1) ms k e (rw q at s)) (or-true (set j && p n))

some_in_from : (p : Module → Bool) (set : ModuleSet) (j : ℕ) (ms : List Module) → some_from p set j ms ≡ true →
    Member p (λ k. set (j + k)) ms
unfolding some_from
some_in_from p set j [] h = never h refl
some_in_from p set j (n ∷ ms) h =
    ⊎_elim
    (λ e.
    let q = and_on (set j) (p n) e in
    record { index = 0; one = n; stands = refl; belongs = rw add-zero q.0; passes = q.1 })
    (λ e.
    let w = some_in_from p set (j + 1) ms e in
    let q : j + suc w.index ≡ j + 1 + w.index = omega arith in
    let k = w.index in
    record { index = suc k; one = w.one; stands = w.stands; belongs = rw q w.belongs; passes = w.passes })
    (or_on (set j && p n) (some_from p set (j + 1) ms) h)

module _ (p : Module → Bool) (ms : List Module) where
  -- the same module, as one of another set
  pub as_in : (big : ModuleSet) {set : ModuleSet} → (w : Member p set ms) → big w.index ≡ true → Member p big ms
  as_in big w h = record { index = w.index; one = w.one; stands = w.stands; belongs = h; passes = w.passes }

  pub some_at : (set : ModuleSet) → Member p set ms → some_from p set 0 ms ≡ true
  some_at set w = some_at_from p set 0 ms (as_in (λ k. set (0 + k)) w (rw zero-add w.belongs))

  pub some_here : (set : ModuleSet) (i : ℕ) (m : Module) → get_elem? ms i ≡ some m → set i ≡ true → p m ≡ true →
      some_from p set 0 ms ≡ true
  some_here set i m e b h = some_at set (record { index = i; one = m; stands = e; belongs = b; passes = h })

  pub some_in : (set : ModuleSet) → some_from p set 0 ms ≡ true → Member p set ms
  some_in set h = let w = some_in_from p set 0 ms h in as_in set w (rw (zero-add w.index) at w.belongs)

  -- none of the empty set, and of a larger set no fewer
  pub some_none : some_from p no_modules 0 ms ≡ false
  unfolding no_modules
  some_none = both_ways (some_from p no_modules 0 ms) false (λ h. (some_in no_modules h).belongs) (λ h. never h refl)

  pub some_larger : (big small : ModuleSet) → Contains ms big small → some_from p small 0 ms ≡ true →
      some_from p big 0 ms ≡ true
  unfolding Contains
  some_larger big small c h =
      let w = some_in small h in
      some_at big (as_in big w (c w.index (inside ms w.index w.stands) w.belongs))

  -- with one module more
  pub some_with : (i : ℕ) (m : Module) (t : ModuleSet) → get_elem? ms i ≡ some m →
      some_from p (with_module i t) 0 ms ≡ (p m || some_from p t 0 ms)
  unfolding with_module
  some_with i m t e = both_ways (some_from p (with_module i t) 0 ms) (p m || some_from p t 0 ms) less more
    where
      less : some_from p (with_module i t) 0 ms ≡ true → (p m || some_from p t 0 ms) ≡ true
      less h =
          let w = some_in (with_module i t) h in
          ⊎_elim
          (λ q.
          let here : get_elem? ms i ≡ some w.one = ap (get_elem? ms) (eqb-true i w.index q) ∙ w.stands in
          let same : m ≡ w.one = cc in
          rw (same, w.passes))
          (λ q. rw (some_at t (as_in t w q)) (or-true (p m)))
          (or_on (eqb i w.index) (t w.index) w.belongs)

      more : (p m || some_from p t 0 ms) ≡ true → some_from p (with_module i t) 0 ms ≡ true
      more h =
          ⊎_elim
          (λ q. some_here (with_module i t) i m e (rw (eqb_same i)) q)
          (λ q.
          let w = some_in t q in
          some_at (with_module i t) (as_in (with_module i t) w (rw w.belongs (or-true (eqb i w.index)))))
          (or_on (p m) (some_from p t 0 ms) h)

-- ---- a name that stands once

pub twice_append : (xs ys : List ℕ) → twice (xs ++ ys) ≡ false →
    (twice ys ≡ false) × ((x : ℕ) → any (eqb x) xs ≡ true → any (eqb x) ys ≡ false)
unfolding twice any
twice_append [] ys h = (h, λ x e. never e refl)
twice_append (z ∷ xs) ys h =
    let q = or_off (any (eqb z) (xs ++ ys)) (twice (xs ++ ys)) h in
    let ih = twice_append xs ys q.1 in (
      ih.0,
      λ x e.
          ⊎_elim
          (λ a. rw (eqb-true x z a) (or_off (any (eqb z) xs) (any (eqb z) ys) (rw any_append at q.0)).1)
          (λ a. ih.1 x a)
          (or_on (eqb x z) (any (eqb x) xs) e),
    )

pub in_section : (x : ℕ) (ms : List Module) (k : ℕ) (m : Module) → get_elem? ms k ≡ some m → is_entry x m ≡ true →
    any (eqb x) (section_names ms) ≡ true
unfolding section_names is_entry
in_section x [] k m e h = never_none e
in_section x (n ∷ ms) zero m e h = let same : n ≡ m = cc in rw (any_append, same, h)
in_section x (n ∷ ms) (suc k) m e h = rw (any_append, in_section x ms k m e h) (or-true (any (eqb x) (entry_names n)))

-- in a section without a name twice, two modules with one entry are the same
pub alone : (x : ℕ) (ms : List Module) → twice (section_names ms) ≡ false → (i k : ℕ) (m n : Module) →
    get_elem? ms i ≡ some m → get_elem? ms k ≡ some n → is_entry x m ≡ true → is_entry x n ≡ true → i ≡ k
unfolding section_names is_entry
alone x [] h i k m n a b p q = never_none a
alone x (o ∷ ms) h zero zero m n a b p q = refl
alone x (o ∷ ms) h zero (suc k) m n a b p q =
    let same : o ≡ m = cc in
    never (in_section x ms k n b q) ((twice_append (entry_names o) (section_names ms) h).1 x (rw same p))
alone x (o ∷ ms) h (suc i) zero m n a b p q =
    let same : o ≡ n = cc in
    never (in_section x ms i m a p) ((twice_append (entry_names o) (section_names ms) h).1 x (rw same q))
alone x (o ∷ ms) h (suc i) (suc k) m n a b p q =
    ap suc (alone x ms (twice_append (entry_names o) (section_names ms) h).0 i k m n a b p q)
