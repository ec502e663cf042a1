-- The rounds of a search, one at a time: with fuel enough, one round more is one turn.
use Prim.Native.Nat.{ℕ, zero, suc, ◌+◌, ◌<◌}
use native.Mathlib.Omega.{arith}
use mathlib.Core.Bool.{Bool, true, false, cond}
use mathlib.Core.List.{List}
use mathlib.Core.Logic.{◌≢◌}
use mathlib.Core.Path.{◌≡◌, refl, ap}
use lib.ListN.{length}
use lib.Dec.{eqb}
use borrow.Author.Tests.{eqb-false}
use Rattle.rules.specs.Search.{ModuleSet, Found, found, round_more, round, rounds, count}
use Rattle.rules.proofs.SearchLaws.{count_most, round_took}

-- after a round that took n, the end or more rounds
more_same : {X : Type 0} (n : ℕ) (end : Found X) {p q : Found X} → (n ≢ 0 → p ≡ q) →
    cond (eqb n 0) end (round_more p) ≡ cond (eqb n 0) end (round_more q)
more_same {X} n end {p} {q} f = go (eqb n 0) refl
  where
    go : (b : Bool) → eqb n 0 ≡ b → cond b end (round_more p) ≡ cond b end (round_more q)
    go true e = refl
    go false e = ap round_more (f (eqb-false n 0 e))

module _ {M X : Type 0} (takes : X → M → Bool) (place : X → M → X) (ms : List M) where
  -- a round of fuel for each module that is not taken, and one more, is enough
  rounds_enough : (fuel : ℕ) (t : ModuleSet) (x : X) → length ms < fuel + count t (length ms) →
      rounds takes place fuel ms t x ≡ rounds takes place (suc fuel) ms t x
  unfolding rounds
  rounds_enough zero t x h = absurd (omega (arith, count_most t (length ms)))
  rounds_enough (suc fuel) t x h =
      let r = round takes place ms t x in
      more_same r.took (found r.taken 1 r.now)
      (λ n. rounds_enough fuel r.taken r.now (omega (arith, n, round_took takes place ms t x)))

  -- all rounds from where the modules t are taken
  abbrev pub rounds_from : ModuleSet → X → Found X
  rounds_from t x = rounds takes place (suc (length ms)) ms t x

  pub rounds_turn : (t : ModuleSet) (x : X) →
      let r = round takes place ms t x in
      rounds_from t x ≡ cond (eqb r.took 0) (found r.taken 1 r.now) (round_more (rounds_from r.taken r.now))
  unfolding rounds
  rounds_turn t x =
      let r = round takes place ms t x in
      more_same r.took (found r.taken 1 r.now)
      (λ n. rounds_enough (length ms) r.taken r.now (omega (arith, n, round_took takes place ms t x)))
