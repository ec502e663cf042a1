-- The union of cells is zero where each of them is, and only there.
use Rattle.std.specs.Prelude.{◌==◌}
use Rattle.std.specs.List.{list_all, fold}
use Rattle.std.specs.Int.Bits.{bit_or, or_zero_l}
use Rattle.std.proofs.lemmas.List.Folds.{list_all_at}
use Prim.Native.Nat.{ℕ, ◌<◌}
use mathlib.Core.Bool.{Bool, true, false, ◌&&◌}
use mathlib.Core.List.{List, [], ◌∷◌}
use mathlib.Core.Path.{◌≡◌, refl, ap, ap₂, sym, ◌∙◌}
use native.Mathlib.Omega.{arith}
use lib.Bits.{or_add_and, and_le_l, and_le_r}
use borrow.Author.Tests.{eq-eqb, eqb-true}
use lib.ListN.{length, get_or}
use lib.Dec.{eqb}
use Rattle.rules.proofs.BoolLaws.{never}

same : (s t : Bool) → (s ≡ true → t ≡ true) → (t ≡ true → s ≡ true) → s ≡ t
same true true f g = refl
same true false f g = sym (f refl)
same false true f g = g refl
same false false f g = refl

both : (s t : Bool) → (s && t) ≡ true → (s ≡ true) × (t ≡ true)
both true t e = (refl, e)
both false true e = (e, refl)
both false false e = (e, e)

or_zero : (a b : ℕ) → bit_or a b ≡ 0 → (a ≡ 0) × (b ≡ 0)
or_zero a b e =
    (omega (arith, e, or_add_and a b, and_le_r a b), omega (arith, e, or_add_and a b, and_le_l a b))

or_test : (a b : ℕ) → (bit_or a b == 0) ≡ (a == 0 && b == 0)
or_test a b =
    same _ _
    (λ e. let z = or_zero a b (eqb-true _ 0 e) in ap₂ ◌&&◌ (eq-eqb a 0 z.0) (eq-eqb b 0 z.1))
    (λ e.
    let t = both (a == 0) (b == 0) e in
    eq-eqb _ 0 (ap₂ bit_or (eqb-true a 0 t.0) (eqb-true b 0 t.1) ∙ or_zero_l 0))

and_next : (s t u : Bool) → ((s && t) && u) ≡ (s && (t && u))
and_next true t u = refl
and_next false t u = refl

and_end : (s : Bool) → s ≡ (s && true)
and_end true = refl
and_end false = refl

union_with : (a : ℕ) (cells : List ℕ) → (fold bit_or a cells == 0) ≡ (a == 0 && list_all (λ c. c == 0) cells)
union_with a [] = and_end (a == 0)
union_with a (c ∷ cells) =
    union_with (bit_or a c) cells
    ∙ ap (λ t. t && list_all (λ c. c == 0) cells) (or_test a c)
    ∙ and_next (a == 0) (c == 0) (list_all (λ c. c == 0) cells)

pub union_is : (cells : List ℕ) → (fold bit_or 0 cells == 0) ≡ list_all (λ c. c == 0) cells
union_is cells = union_with 0 cells

-- each cell, where the union is zero
pub each_zero : (cells : List ℕ) → fold bit_or 0 cells ≡ 0 → (i : ℕ) → i < length cells → get_or cells i 0 ≡ 0
each_zero cells e i h = go (eqb (get_or cells i 0) 0) refl
  where
    go : (b : Bool) → eqb (get_or cells i 0) 0 ≡ b → get_or cells i 0 ≡ 0
    go true q = eqb-true (get_or cells i 0) 0 q
    go false q =
        absurd (never (sym (union_is cells) ∙ eq-eqb (fold bit_or 0 cells) 0 e) (list_all_at (λ c. c == 0) cells i 0 h q))
