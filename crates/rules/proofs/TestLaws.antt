-- Laws of tests: of `&&` and `||`, of a choice, of numbers between two others, and of a test of every element of a list.
use Prim.Native.Nat.{ℕ, zero, suc, ◌<◌, ◌≤◌}
use mathlib.Core.Bool.{Bool, true, false, cond, ◌&&◌, ◌||◌, and-eq-true_iff, and_assoc, true≢false}
use mathlib.Core.List.{List, [], ◌∷◌, ◌++◌}
use mathlib.Core.Path.{◌≡◌, refl, sym, ap, subst, ◌∙◌}
use native.Mathlib.Nat.{le_of_suc-le-suc, not-suc-le-zero}
use mathlib.Core.Option.{some}
use lib.ListN.{length, get_or, set, get_elem?}
use native.Mathlib.Omega.{arith}
use lib.Dec.{leb}
use borrow.Author.Tests.{leb-true, le-leb}
use Rattle.rules.specs.Text.{all, any, between}

-- a conjunction, from its halves and into them
pub and_intro : {a b : Bool} → a ≡ true → b ≡ true → (a && b) ≡ true
and_intro {a} {b} p q = (and-eq-true_iff a b).1 (p, q)

pub and_left : (a b : Bool) → (a && b) ≡ true → a ≡ true
and_left a b h = ((and-eq-true_iff a b).0 h).0

pub and_right : (a b : Bool) → (a && b) ≡ true → b ≡ true
and_right a b h = ((and-eq-true_iff a b).0 h).1

-- a disjunction that fails
pub or_left : (a b : Bool) → (a || b) ≡ false → a ≡ false
or_left true b e = e
or_left false b e = refl

pub or_right : (a b : Bool) → (a || b) ≡ false → b ≡ false
or_right true b e = absurd (true≢false e)
or_right false b e = e

-- a test that both choices pass
pub cond_keeps {ℓ} : {A : Type ℓ} (p : A → Bool) (b : Bool) {x y : A} → p x ≡ true → p y ≡ true → p (cond b x y) ≡ true
cond_keeps p true hx hy = hx
cond_keeps p false hx hy = hy

-- a number between two others
pub between_intro : (low high n : ℕ) → low ≤ n → n ≤ high → between low high n ≡ true
between_intro low high n l h = and_intro (le-leb low n l) (le-leb n high h)

pub between_low : (low high n : ℕ) → between low high n ≡ true → low ≤ n
between_low low high n h = leb-true low n (and_left (leb low n) (leb n high) h)

pub between_high : (low high n : ℕ) → between low high n ≡ true → n ≤ high
between_high low high n h = leb-true n high (and_right (leb low n) (leb n high) h)

pub between_wider : (a b c d n : ℕ) → c ≤ a → b ≤ d → between a b n ≡ true → between c d n ≡ true
between_wider a b c d n l h e = between_intro c d n (omega (arith, between_low a b n e)) (omega (arith, between_high a b n e))

-- a test of every element: of the first and of the rest, weakened, of two lists, and at an index
module _ {ℓ} {A : Type ℓ} where
  module _ (p : A → Bool) (x : A) (xs : List A) where
    pub all_cons : p x ≡ true → all p xs ≡ true → all p (x ∷ xs) ≡ true
    unfolding all
    all_cons h t = and_intro h t

    pub all_first : all p (x ∷ xs) ≡ true → p x ≡ true
    unfolding all
    all_first h = and_left (p x) (all p xs) h

    pub all_rest : all p (x ∷ xs) ≡ true → all p xs ≡ true
    unfolding all
    all_rest h = and_right (p x) (all p xs) h

  pub all_append : (p : A → Bool) (xs ys : List A) → all p (xs ++ ys) ≡ (all p xs && all p ys)
  unfolding all
  all_append p [] ys = refl
  all_append p (x ∷ xs) ys = ap (◌&&◌ (p x)) (all_append p xs ys) ∙ sym (and_assoc (p x) (all p xs) (all p ys))

  pub all_weaken : (p q : A → Bool) → ((x : A) → p x ≡ true → q x ≡ true) → (xs : List A) → all p xs ≡ true → all q xs ≡ true
  unfolding all
  all_weaken p q f [] h = refl
  all_weaken p q f (x ∷ xs) h = and_intro (f x (all_first p x xs h)) (all_weaken p q f xs (all_rest p x xs h))

  pub all_at : (p : A → Bool) (xs : List A) (i : ℕ) (d : A) → all p xs ≡ true → i < length xs → p (get_or xs i d) ≡ true
  unfolding all
  all_at p [] i d h l = absurd (not-suc-le-zero l)
  all_at p (x ∷ xs) zero d h l = all_first p x xs h
  all_at p (x ∷ xs) (suc i) d h l = all_at p xs i d (all_rest p x xs h) (le_of_suc-le-suc l)

module _ {ℓ} {A : Type ℓ} (p : A → Bool) where
  pub all_set : (l : List A) (i : ℕ) (a : A) → all p l ≡ true → p a ≡ true → all p (set l i a) ≡ true
  all_set [] i a h k = h
  all_set (x ∷ l) zero a h k = all_cons p a l k (all_rest p x l h)
  all_set (x ∷ l) (suc i) a h k = all_cons p x (set l i a) (all_first p x l h) (all_set l i a (all_rest p x l h) k)

  -- no element passes: neither the first nor one of the rest
  pub none_first : (x : A) (xs : List A) → any p (x ∷ xs) ≡ false → p x ≡ false
  unfolding any
  none_first x xs h = or_left (p x) (any p xs) h

  pub none_rest : (x : A) (xs : List A) → any p (x ∷ xs) ≡ false → any p xs ≡ false
  unfolding any
  none_rest x xs h = or_right (p x) (any p xs) h

-- something that holds of every element
abbrev pub Every {ℓ} : {A : Type ℓ} → (A → Type 0) → List A → Type 0
Every P [] = Unit {0}
Every P (x ∷ xs) = P x × Every P xs

pub every_add {ℓ} : {A : Type ℓ} (P : A → Type 0) (xs : List A) (y : A) → Every P xs → P y → Every P (xs ++ (y ∷ []))
every_add P [] y h p = (p, tt)
every_add P (x ∷ xs) y h p = (h.0, every_add P xs y h.1 p)

-- as a test
pub every_all {ℓ} : {A : Type ℓ} (P : A → Type 0) (p : A → Bool) → ((x : A) → P x → p x ≡ true) → (xs : List A) → Every P xs → all p xs ≡ true
unfolding all
every_all P p f [] h = refl
every_all P p f (x ∷ xs) h = and_intro (f x h.0) (every_all P p f xs h.1)

-- at an index
pub every_found : {A : Type 0} (P : A → Type 0) (xs : List A) (i : ℕ) {x : A} → Every P xs → get_elem? xs i ≡ some x → P x
every_found P [] i h e = absurd (let z : ◌≡◌ {A = ℕ} 0 1 = cc in omega arith)
every_found P (y ∷ xs) zero {x} h e = let same : y ≡ x = cc in subst P same h.0
every_found P (y ∷ xs) (suc i) h e = every_found P xs i h.1 e
