-- What `==` says of two texts.
-- Assumes nothing.
use Prim.Native.Nat.{ℕ}
use mathlib.Core.Bool.{Bool, ◌&&◌}
use mathlib.Core.List.{List, [], ◌∷◌}
use mathlib.Core.Path.{◌≡◌, refl, ap}
use lib.Pointwise.{pointwise}
use lib.Dec.{eqb}
use Rattle.rules.specs.Text.{same_text}

pub same_is : (a b : List ℕ) → pointwise eqb a b ≡ same_text a b
unfolding same_text
same_is [] [] = refl
same_is [] (y ∷ ys) = refl
same_is (x ∷ xs) [] = refl
same_is (x ∷ xs) (y ∷ ys) = ap (λ (t : Bool). eqb x y && t) (same_is xs ys)
