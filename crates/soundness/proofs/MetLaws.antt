-- The filter of names: what it has not met is none of the names that it has met.
use Prim.Native.Nat.{ℕ, ◌+◌, ◌-◌, ◌%◌, ◌≤◌, ◌<◌}
use mathlib.Core.Bool.{Bool, true, false, not}
use mathlib.Core.List.{List}
use mathlib.Core.Logic.{◌≢◌}
use mathlib.Core.Path.{◌≡◌, refl, sym, ap, ◌∙◌}
use native.Mathlib.Decide.{ℕ_discrete}
use native.Mathlib.Omega.{arith}
use borrow.Author.Tests.{eqb-true, ne_eqb}
use lib.ListN.{length, get_or, set, length-set}
use lib.Seq.{get_or-set_same, get_or-set_other}
use lib.Dec.{eqb}
use Rattle.rules.specs.Text.{all}
use Rattle.rules.proofs.BoolLaws.{never}
use Rattle.rules.proofs.TestLaws.{all_cons}
use Rattle.state.specs.Layout.{range}
use Rattle.state.proofs.ListLaws.{range_step, range_end, all_weaken, all_range}
use Rattle.soundness.specs.Checks.{unlike_at, unlike, differs_at, names_differ, is_met, met_at, HasMet, Alone}

not_met : (cells met : List ℕ) (x j : ℕ) → get_or met (x % 3989) 0 ≡ 0 → met_at cells met j ≡ true → unlike_at cells x j ≡ true
not_met cells met x j z e = go (eqb (get_or cells (4 + j) 0) x) refl
  where
    go : (b : Bool) → eqb (get_or cells (4 + j) 0) x ≡ b → not b ≡ true
    go false q = refl
    go true q = absurd (never e (ap (is_met met) (eqb-true (get_or cells (4 + j) 0) x q) ∙ ap (λ v. not (eqb v 0)) z))

-- one remainder more
marked : (met : List ℕ) (h x : ℕ) → h < length met → is_met met x ≡ true → is_met (set met h 1) x ≡ true
marked met h x l e = elim (ℕ_discrete (x % 3989) h) [
  | yes q ↦ ap (λ k. not (eqb (get_or (set met h 1) k 0) 0)) q ∙ ap (λ v. not (eqb v 0)) (get_or-set_same met h 1 0 l)
  | no q ↦ ap (λ v. not (eqb v 0)) (get_or-set_other met h (x % 3989) 1 0 q) ∙ e
]

module _ (cells : List ℕ) (n i : ℕ) (h : i < n) (met : List ℕ) (m : HasMet cells n (i + 1) met) where
  abbrev name : ℕ
  name = get_or cells (4 + i) 0

  with_name : (met' : List ℕ) → length met' ≡ 4096 → is_met met' name ≡ true → all (met_at cells met') (range (i + 1) n) ≡ true → HasMet cells n i met'
  with_name met' s e r = record { size = s; each = rw (range_step i n h) (all_cons (met_at cells met') i (range (i + 1) n) e r) }

  pub alone_new : get_or met (name % 3989) 0 ≡ 0 → Alone cells n i true (set met (name % 3989) 1)
  unfolding unlike
  alone_new z =
      let small : name % 3989 < length met = omega (arith, m.size) in
      let met' : List ℕ = set met (name % 3989) 1 in
      record {
        is = sym (all_weaken (met_at cells met) (unlike_at cells name) (λ j. not_met cells met name j z) (range (i + 1) n) m.each);
        has =
            with_name met' (length-set met (name % 3989) 1 ∙ m.size)
            (ap (λ v. not (eqb v 0)) (get_or-set_same met (name % 3989) 1 0 small))
            (all_weaken (met_at cells met) (met_at cells met') (λ j. marked met (name % 3989) (get_or cells (4 + j) 0) small) (range (i + 1) n) m.each);
      }

  pub alone_met : (r : Bool) → get_or met (name % 3989) 0 ≢ 0 → r ≡ unlike cells name (i + 1) n → Alone cells n i r met
  alone_met r z e = record { is = e; has = with_name met m.size (ap not (ne_eqb (get_or met (name % 3989) 0) 0 z)) m.each }

-- ---- the loop, from the last name to the first

pub record Behind (cells : List ℕ) (n i : ℕ) (met : List ℕ) : Type 0 where
  pub within : i ≤ n
  pub has : HasMet cells n i met
  pub differ : all (differs_at cells n) (range i n) ≡ true

module _ (cells : List ℕ) (n : ℕ) where
  pub behind_start : (met : List ℕ) → length met ≡ 4096 → Behind cells n n met
  unfolding all
  behind_start met s = record { within = omega arith; has = record { size = s; each = rw (range_end n n (omega arith)) refl }; differ = rw (range_end n n (omega arith)) refl }

  module _ (met : List ℕ) (i : ℕ) (b : Behind cells n i met) (more : 0 < i) where
    pub behind_has : HasMet cells n (i - 1 + 1) met
    behind_has = let same : i - 1 + 1 ≡ i = omega arith in rw same b.has

    pub behind_step : (met' : List ℕ) (r : Bool) → Alone cells n (i - 1) r met' → r ≡ true → Behind cells n (i - 1) met'
    behind_step met' r t e =
        let same : i - 1 + 1 ≡ i = omega arith in
        let low : i - 1 < n = omega (arith, b.within) in
        record {
          within = omega (arith, b.within);
          has = t.has;
          differ =
              rw (range_step (i - 1) n low)
              (all_cons (differs_at cells n) (i - 1) (range (i - 1 + 1) n) (sym t.is ∙ e) (rw same b.differ));
        }

  pub behind_end : (met : List ℕ) (i : ℕ) → Behind cells n i met → i ≤ 0 → true ≡ names_differ cells n
  unfolding names_differ
  behind_end met i b l = let start : i ≡ 0 = omega arith in sym (rw start at b.differ)

-- a test that fails at one position of a range fails for the range
pub fails_at : (cells : List ℕ) (n i : ℕ) → i < n → differs_at cells n i ≡ false → false ≡ names_differ cells n
unfolding names_differ
fails_at cells n i h f = go (all (differs_at cells n) (range 0 n)) refl
  where
    go : (b : Bool) → all (differs_at cells n) (range 0 n) ≡ b → false ≡ b
    go false e = refl
    go true e = absurd (never (all_range (differs_at cells n) 0 n e i (omega arith) h) f)
