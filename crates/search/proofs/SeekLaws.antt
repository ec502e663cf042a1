-- The rounds of a section's search, one turn a round.
use Prim.Native.Nat.{ℕ, zero, suc, ◌+◌, ◌<◌, ◌≤◌}
use native.Mathlib.Omega.{arith}
use mathlib.Core.Bool.{Bool, true, false, cond}
use mathlib.Core.List.{List}
use mathlib.Core.Path.{◌≡◌, refl, sym, ap, ap₂, subst, ◌∙◌}
use lib.ListN.{length, get_or, replicate}
use lib.Dec.{eqb}
use borrow.Author.Tests.{eq-eqb, ne_eqb}
use Rattle.rules.specs.Reading.{Module}
use Rattle.rules.specs.Search.{ModuleSet, no_modules, Found, found, round_more, round, search, count}
use Rattle.rules.specs.Load.{Walk, walk, takes, place, searched}
use Rattle.rules.proofs.SearchLaws.{round_took}
use Rattle.rules.proofs.FuelLaws.{rounds_from, rounds_turn}
use Rattle.tables.specs.Tables.{modules_in}
use Rattle.state.specs.Layout.{decode}
use Rattle.rules.specs.declared.answer.Refusal.{Refusal}
use Rattle.placing.specs.Walks.{Agrees}
use Rattle.search.specs.Searching.{set_of, Rounded, later, Seeking}
use Rattle.search.specs.declared.rounds.Round.{Round}
use Rattle.search.proofs.SweepLaws.{same_sets}

found_same : {t t' : ModuleSet} {n n' : ℕ} {x x' : Walk} → t ≡ t' → n ≡ n' → x ≡ x' → found t n x ≡ found t' n' x'
found_same p q r = λ j. found (p j) (q j) (r j)

pub length_modules : (parts rows : List ℕ) (i n : ℕ) → length (modules_in parts rows i n) ≡ n
unfolding modules_in
length_modules parts rows i zero = refl
length_modules parts rows i (suc n) = ap suc (length_modules parts rows (i + 1) n)

-- ---- the flags

-- clear flags are the empty set
clear_flag : (n j : ℕ) → get_or (replicate n false) j false ≡ false
clear_flag zero j = refl
clear_flag (suc n) zero = refl
clear_flag (suc n) (suc j) = clear_flag n j

clear : (n : ℕ) → set_of (replicate n false) ≡ no_modules
unfolding no_modules
clear n = same_sets (clear_flag n)

-- a round flags as many modules as it took
pub round_counts : {ms : List Module} {n : ℕ} → length ms ≡ n → {flags : List Bool} {old : Refusal} {cells : List ℕ}
    {r : Round} {taken : List Bool} {after : List ℕ} → Rounded ms flags old cells r taken after →
    count (set_of taken) n ≡ count (set_of flags) n + r.took
round_counts {ms} {n} e {flags} {old} {cells} {r} {taken} q =
    let w : Walk = walk old (decode cells) in
    let d = q.does w (record { refusal_is = refl; state_is = λ _. refl }) in
    subst (λ k. count (set_of taken) k ≡ count (set_of flags) k + r.took) e
    (ap (λ t. count t (length ms)) d.taken_is
    ∙ round_took takes place ms (set_of flags) w
    ∙ ap (λ k. count (set_of flags) (length ms) + k) (sym d.took_is))

-- ---- the search

module _ (ms : List Module) where
  pub seek_start : (n : ℕ) (w : Walk) {old : Refusal} {cells : List ℕ} → Agrees w old cells →
      Seeking (searched ms w) ms 0 1 (replicate n false) old cells
  unfolding searched search
  seek_start n w a =
      record {
        here = w;
        agrees = a;
        is =
            ap (λ t. later 0 (rounds_from takes place ms t w)) (clear n)
            ∙ found_same refl (omega arith) refl;
      }

  module _ {f : Found Walk} {k took : ℕ} {flags : List Bool} {old : Refusal} {cells : List ℕ}
      (l : Seeking f ms k took flags old cells) where
    pub seek_next : 0 < took → {r : Round} {taken : List Bool} {after : List ℕ} → Rounded ms flags old cells r taken after →
        Seeking f ms (k + 1) r.took taken r.refusal after
    seek_next h {r} q =
        let d = q.does l.here l.agrees in
        let s = round takes place ms (set_of flags) l.here in
        record {
          here = s.now;
          agrees = d.agrees;
          is =
              ap₂
              (λ n t. cond (eqb n 0) (found t (k + 1) s.now) (later (k + 1) (rounds_from takes place ms t s.now)))
              d.took_is
              d.taken_is
              ∙ go (eqb s.took 0) s.taken s.now (rounds_from takes place ms s.taken s.now)
              ∙ ap (later k) (sym (rounds_turn takes place ms (set_of flags) l.here))
              ∙ sym (ap (λ b. cond b (found (set_of flags) k l.here) (later k (rounds_from takes place ms (set_of flags) l.here))) (ne_eqb took 0 (omega arith)))
              ∙ l.is;
        }
      where
        go : (b : Bool) (t : ModuleSet) (x : Walk) (more : Found Walk) →
            cond b (found t (k + 1) x) (later (k + 1) more) ≡ later k (cond b (found t 1 x) (round_more more))
        go true t x more = found_same refl (omega arith) refl
        go false t x more = found_same refl (omega arith) refl

    seek_end : took ≤ 0 → found (set_of flags) k l.here ≡ f
    seek_end h =
        sym (ap (λ b. cond b (found (set_of flags) k l.here) (later k (rounds_from takes place ms (set_of flags) l.here))) (eq-eqb took 0 (omega arith)))
        ∙ l.is

    pub seek_rounds : took ≤ 0 → k ≡ f.rounds
    seek_rounds h = ap (λ (g : Found Walk). g.rounds) (seek_end h)

    pub seek_agrees : took ≤ 0 → Agrees f.now old cells
    seek_agrees h = subst (λ (g : Found Walk). Agrees g.now old cells) (seek_end h) l.agrees
