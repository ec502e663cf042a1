-- The last part that passes a test.
use Prim.Native.Nat.{ℕ, zero, suc, ◌-◌, ◌<◌, ◌≤◌}
use native.Mathlib.Omega.{arith}
use native.Mathlib.Decide.{ℕ_discrete}
use mathlib.Core.Bool.{Bool, true, false, cond}
use mathlib.Core.Logic.{◌≢◌}
use mathlib.Core.Path.{◌≡◌, refl, ap, ◌∙◌}
use Rattle.index.specs.Index.{last_where}

pub last_most : (p : ℕ → Bool) (j : ℕ) → last_where p j ≤ j
unfolding last_where
last_most p zero = omega arith
last_most p (suc j) = go (p j) (last_most p j)
  where
    go : (b : Bool) → last_where p j ≤ j → cond b (suc j) (last_where p j) ≤ suc j
    go true h = omega arith
    go false h = omega (arith, h)

-- it passes
pub last_passes : (p : ℕ → Bool) (j : ℕ) → last_where p j ≢ 0 → p (last_where p j - 1) ≡ true
unfolding last_where
last_passes p zero n = absurd (n refl)
last_passes p (suc j) n = go (p j) refl (last_passes p j) n
  where
    go : (b : Bool) → p j ≡ b → (last_where p j ≢ 0 → p (last_where p j - 1) ≡ true) → cond b (suc j) (last_where p j) ≢ 0 →
        p (cond b (suc j) (last_where p j) - 1) ≡ true
    go true e f n = let back : suc j - 1 ≡ j = omega arith in ap p back ∙ e
    go false e f n = f n

-- two tests that agree below
pub last_same : (p q : ℕ → Bool) (j : ℕ) → ((k : ℕ) → k < j → p k ≡ q k) → last_where p j ≡ last_where q j
unfolding last_where
last_same p q zero f = refl
last_same p q (suc j) f =
    ap (λ b. cond b (suc j) (last_where p j)) (f j (omega arith))
    ∙ ap (cond (q j) (suc j)) (last_same p q j (λ k h. f k (omega (arith, h))))

-- one more, by its test
pub last_next : (p : ℕ → Bool) (j : ℕ) {b : Bool} → p j ≡ b → last_where p (suc j) ≡ cond b (suc j) (last_where p j)
unfolding last_where
last_next p j e = ap (λ b. cond b (suc j) (last_where p j)) e

-- where there is none, no part passes
pub last_none : (p : ℕ → Bool) (j : ℕ) → last_where p j ≡ 0 → (k : ℕ) → k < j → p k ≡ false
unfolding last_where
last_none p zero z k h = absurd (omega arith)
last_none p (suc j) z k h = go (p j) refl z (last_none p j)
  where
    go : (b : Bool) → p j ≡ b → cond b (suc j) (last_where p j) ≡ 0 → (last_where p j ≡ 0 → (k : ℕ) → k < j → p k ≡ false) →
        p k ≡ false
    go true e z f = absurd (omega (arith, z))
    go false e z f = elim (ℕ_discrete k j) [
      | yes q ↦ ap p q ∙ e
      | no q ↦ f z k (omega (arith, h, q))
    ]
