-- Tests and choices, over plain Booleans, and the indices of a list.
use Prim.Native.Nat.{ℕ, zero, suc, ◌<◌}
use native.Mathlib.Omega.{arith}
use mathlib.Core.Bool.{Bool, true, false, cond, ◌&&◌, ◌||◌, or-true, or_assoc}
use mathlib.Core.List.{List, [], ◌∷◌, ◌++◌, map}
use mathlib.Core.Logic.{◌⊎◌, inl, inr}
use mathlib.Core.Option.{none, some}
use mathlib.Core.Path.{◌≡◌, refl, sym}
use lib.ListN.{length, get_elem?}
use lib.Dec.{eqb}
use borrow.Author.Tests.{eqb-true, eqb-false, eq-eqb, ne_eqb}
use Rattle.rules.specs.Text.{any}

-- what holds of both choices, each under its test, holds of the choice
pub cond_cases : {A : Type 0} (Q : A → Type 0) (b : Bool) (x y : A) → (b ≡ true → Q x) → (b ≡ false → Q y) →
    Q (cond b x y)
cond_cases Q true x y f g = f refl
cond_cases Q false x y f g = g refl

-- nothing is both true and false
pub never : {A : Type 0} {b : Bool} → b ≡ true → b ≡ false → A
never p q = absurd (let z : ◌≡◌ {A = ℕ} 0 1 = cc in omega arith)

pub never_none : {A B : Type 0} {x : A} → none ≡ some x → B
never_none e = absurd (let z : ◌≡◌ {A = ℕ} 0 1 = cc in omega arith)

-- what a test of two parts tells of them
pub or_on : (a b : Bool) → (a || b) ≡ true → (a ≡ true) ⊎ (b ≡ true)
or_on true b e = inl refl
or_on false b e = inr e

pub or_cases : {A : Type 0} (a b : Bool) → (a || b) ≡ true → (a ≡ true → A) → (b ≡ true → A) → A
or_cases true b e f g = f refl
or_cases false b e f g = g e

pub or_off : (a b : Bool) → (a || b) ≡ false → (a ≡ false) × (b ≡ false)
or_off true b e = never refl e
or_off false b e = (refl, e)

pub and_on : (a b : Bool) → (a && b) ≡ true → (a ≡ true) × (b ≡ true)
and_on true b e = (refl, e)
and_on false b e = never e refl

pub or_left_comm : (a b c : Bool) → (a || (b || c)) ≡ (b || (a || c))
or_left_comm true true c = refl
or_left_comm true false c = refl
or_left_comm false b c = refl

-- two tests that pass together are the same
pub both_ways : (a b : Bool) → (a ≡ true → b ≡ true) → (b ≡ true → a ≡ true) → a ≡ b
both_ways true b p q = sym (p refl)
both_ways false true p q = q refl
both_ways false false p q = refl

-- an element of a list stands inside it
pub inside : {A : Type 0} (xs : List A) (i : ℕ) {x : A} → get_elem? xs i ≡ some x → i < length xs
inside [] i e = never_none e
inside (y ∷ xs) zero e = omega arith
inside (y ∷ xs) (suc i) e = omega (arith, inside xs i e)

-- ---- tests of numbers

pub eqb_same : (a : ℕ) → eqb a a ≡ true
eqb_same a = eq-eqb a a refl

pub eqb_comm : (a b : ℕ) → eqb a b ≡ eqb b a
eqb_comm a b = go (eqb a b) refl
  where
    go : (t : Bool) → eqb a b ≡ t → t ≡ eqb b a
    go true e = sym (eq-eqb b a (sym (eqb-true a b e)))
    go false e = sym (ne_eqb b a (λ q. eqb-false a b e (sym q)))

-- ---- some element passes a test

pub any_at : {A : Type 0} (p : A → Bool) (xs : List A) (i : ℕ) (x : A) → get_elem? xs i ≡ some x → p x ≡ true →
    any p xs ≡ true
unfolding any
any_at p [] i x e h = never_none e
any_at p (y ∷ xs) zero x e h = let same : y ≡ x = cc in rw (same, h)
any_at p (y ∷ xs) (suc i) x e h = rw (any_at p xs i x e h) (or-true (p y))

pub any_in : {A : Type 0} (p : A → Bool) (xs : List A) → any p xs ≡ true →
    (i : ℕ) × (x : A) × (get_elem? xs i ≡ some x) × (p x ≡ true)
unfolding any
any_in {A} p [] h = never h refl
any_in {A} p (y ∷ xs) h = go (p y) refl h (any_in p xs)
  where
    go : (b : Bool) → p y ≡ b → (b || any p xs) ≡ true →
        (any p xs ≡ true → (i : ℕ) × (x : A) × (get_elem? xs i ≡ some x) × (p x ≡ true)) →
        (i : ℕ) × (x : A) × (get_elem? (y ∷ xs) i ≡ some x) × (p x ≡ true)
    go true e h ih = (0, y, refl, e)
    go false e h ih = let r = ih h in (suc r.0, r.1, r.2, r.3)

pub any_map : {A B : Type 0} (p : B → Bool) (f : A → B) (xs : List A) → any p (map f xs) ≡ any (λ x. p (f x)) xs
unfolding any
any_map p f [] = refl
any_map p f (x ∷ xs) = rw (any_map p f xs)

pub any_append : {A : Type 0} (p : A → Bool) (xs ys : List A) → any p (xs ++ ys) ≡ (any p xs || any p ys)
unfolding any
any_append p [] ys = refl
any_append p (x ∷ xs) ys = rw (any_append p xs ys) (sym (or_assoc (p x) (any p xs) (any p ys)))
