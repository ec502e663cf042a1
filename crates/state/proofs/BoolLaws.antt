-- Tests that are joined, and two tests that hold together.
use mathlib.Core.Bool.{Bool, true, false, not, ◌&&◌, ◌||◌}
use mathlib.Core.Path.{◌≡◌, refl, sym, ◌∙◌}
use borrow.Author.Tests.{not-true, not-false}

pub both : (a b : Bool) → a ≡ true → b ≡ true → a && b ≡ true
both a b p q = simp (p, q)

pub first : (a b : Bool) → a && b ≡ true → a ≡ true
first true b e = refl
first false b e = e

pub second : (a b : Bool) → a && b ≡ true → b ≡ true
second true b e = e
second false true e = refl
second false false e = e

pub same_test : (a b : Bool) → (a ≡ true → b ≡ true) → (b ≡ true → a ≡ true) → a ≡ b
same_test true b f g = sym (f refl)
same_test false true f g = g refl
same_test false false f g = refl

pub neither : (a b : Bool) → a ≡ false → b ≡ false → a || b ≡ false
neither a b p q = simp (p, q)

pub not_first : (a b : Bool) → a || b ≡ false → a ≡ false
not_first true b e = e
not_first false b e = refl

pub not_second : (a b : Bool) → a || b ≡ false → b ≡ false
not_second true true e = e
not_second true false e = refl
not_second false b e = e

pub or_false : (a : Bool) → a || false ≡ a
or_false true = refl
or_false false = refl

pub not_not : (a : Bool) → not (not a) ≡ a
not_not true = refl
not_not false = refl

-- a test that a call answers, after `if !call(..)`
pub refused : (r t : Bool) → r ≡ t → not r ≡ true → t ≡ false
refused r t e n = sym e ∙ not-true r n

pub passed : (r t : Bool) → r ≡ t → not r ≡ false → t ≡ true
passed r t e n = sym e ∙ not-false r n
