-- A slice cleared from its front: the first i of n cells are zero, and the rest is as it was.
use Prim.Native.Nat.{ℕ, ◌+◌, ◌≤◌, ◌<◌}
use native.Mathlib.Omega.{arith}
use mathlib.Core.List.{List, ◌++◌}
use mathlib.Core.Path.{◌≡◌, ap, ◌∙◌}
use lib.ListN.{length, drop, set, length-set, replicate}
use borrow.Author.Fill.{fill_more}

pub record Cleared (before : List ℕ) (n : ℕ) (cells : List ℕ) (i : ℕ) : Type 0 where
  pub within : i ≤ n
  pub room : n ≤ length before
  pub size : length cells ≡ length before
  pub is : cells ≡ replicate i 0 ++ drop i before

pub cleared_step : (before : List ℕ) (n : ℕ) (cells : List ℕ) (i : ℕ) → Cleared before n cells i → i < n → Cleared before n (set cells i 0) (i + 1)
cleared_step before n cells i f l =
    record {
      within = omega arith;
      room = f.room;
      size = length-set cells i 0 ∙ f.size;
      is = ap (λ (c : List ℕ). set c i 0) f.is ∙ fill_more i 0 before (omega (arith, f.room));
    }

pub cleared_end : (before : List ℕ) (n : ℕ) (cells : List ℕ) (i : ℕ) → Cleared before n cells i → n ≤ i → cells ≡ replicate n 0 ++ drop n before
cleared_end before n cells i f l =
    let last : i ≡ n = omega (arith, f.within) in
    f.is ∙ ap (λ (k : ℕ). replicate k 0 ++ drop k before) last
