-- The search of specs/Search.antt, whatever a module needs and whatever placing it does: what every taking keeps, that
-- the end is quiet, and how many rounds there are.
use Prim.Native.Nat.{ℕ, zero, suc, ◌+◌, ◌≤◌, ◌<◌}
use native.Mathlib.Omega.{arith}
use native.Mathlib.Nat.{zero-add, add-zero}
use mathlib.Core.Bool.{Bool, true, false, cond, not, ◌||◌}
use mathlib.Core.List.{List, [], ◌∷◌}
use mathlib.Core.Logic.{◌≢◌}
use mathlib.Core.Option.{some}
use mathlib.Core.Path.{◌≡◌, refl, sym, ◌∙◌, ap}
use lib.ListN.{length, get_elem?}
use lib.Dec.{eqb}
use borrow.Author.Tests.{eqb-true, eqb-false, ne_eqb, not-false}
use Rattle.rules.specs.Search.{ModuleSet, no_modules, with_module, Sweep, Found, sweep_of, visit, sweep, round, rounds, search, count}
use Rattle.rules.proofs.BoolLaws.{cond_cases, never_none, or_off, inside}

-- ---- sets of modules

pub count_most : (t : ModuleSet) (n : ℕ) → count t n ≤ n
unfolding count
count_most t zero = omega arith
count_most t (suc n) =
    let ih = count_most t n in
    cond_cases (λ k. k + count t n ≤ suc n) (t n) 1 0 (λ _. omega arith) (λ _. omega arith)

pub count_none : (n : ℕ) → count no_modules n ≡ 0
unfolding count no_modules
count_none zero = refl
count_none (suc n) = omega (arith, count_none n)

-- a module more, beyond the first n and among them
pub count_beyond : (i : ℕ) (t : ModuleSet) (n : ℕ) → n ≤ i → count (with_module i t) n ≡ count t n
unfolding count with_module
count_beyond i t zero h = refl
count_beyond i t (suc n) h = rw (ne_eqb i n (omega arith), count_beyond i t n (omega arith))

pub count_with : (i : ℕ) (t : ModuleSet) (n : ℕ) → t i ≡ false → i < n → count (with_module i t) n ≡ count t n + 1
unfolding count with_module
count_with i t zero e h = omega arith
count_with i t (suc n) e h = go (eqb i n) refl (count_with i t n e)
  where
    go : (b : Bool) → eqb i n ≡ b → (i < n → count (with_module i t) n ≡ count t n + 1) →
        cond (b || t n) 1 0 + count (with_module i t) n ≡ cond (t n) 1 0 + count t n + 1
    go true q ih =
        let i_is_n : i ≡ n = eqb-true i n q in
        let out : t n ≡ false = ap t (sym i_is_n) ∙ e in
        rw out (omega (arith, count_beyond i t n (omega arith)))
    go false q ih = omega (arith, ih (omega (arith, i_is_not_n)))
      where
        i_is_not_n : i ≢ n
        i_is_not_n = eqb-false i n q

-- ---- what every taking keeps

module _ {M X : Type 0} (takes : X → M → Bool) (place : X → M → X) where
  -- a module taken in its turn
  abbrev pub taking : ℕ → M → Sweep X → Sweep X
  taking i m r = sweep_of (with_module i r.taken) (r.took + 1) (place r.now m)

  -- taking module m at index i keeps P, where m is not taken and is needed
  abbrev pub Keeps : (Sweep X → Type 0) → ℕ → M → Type 0
  Keeps P i m = (r : Sweep X) → r.taken i ≡ false → takes r.now m ≡ true → P r → P (taking i m r)

  pub visit_keeps : (P : Sweep X → Type 0) (i : ℕ) (m : M) → Keeps P i m → (r : Sweep X) → P r →
      P (visit takes place i m r)
  unfolding visit
  visit_keeps P i m step r p =
      cond_cases P (r.taken i || not (takes r.now m)) _ _ (λ _. p) λ e.
      let h = or_off (r.taken i) (not (takes r.now m)) e in
      step r h.0 (not-false (takes r.now m) h.1) p

  -- the modules from index i on: the one at index j is the one at k of the list, where j is i plus k
  pub sweep_keeps : (P : Sweep X → Type 0) (i : ℕ) (ms : List M) →
      ((j k : ℕ) (m : M) → j ≡ i + k → get_elem? ms k ≡ some m → Keeps P j m) →
      (r : Sweep X) → P r → P (sweep takes place i ms r)
  unfolding sweep
  sweep_keeps P i [] step r p = p
  sweep_keeps P i (m ∷ ms) step r p =
      sweep_keeps P (i + 1) ms
      (λ j k n h. step j (suc k) n (omega arith))
      (visit takes place i m r)
      (visit_keeps P i m (step i 0 m (omega arith) refl) r p)

  pub round_keeps : (P : Sweep X → Type 0) (ms : List M) (t : ModuleSet) (x : X) →
      ((i : ℕ) (m : M) → get_elem? ms i ≡ some m → Keeps P i m) → P (sweep_of t 0 x) → P (round takes place ms t x)
  unfolding round
  round_keeps P ms t x step p =
      sweep_keeps P 0 ms (λ j k m h e. step j m (rw (h, zero-add) e)) (sweep_of t 0 x) p

  pub rounds_keeps : (P : ModuleSet → X → Type 0) (ms : List M) →
      ((t : ModuleSet) (x : X) → P t x → P (round takes place ms t x).taken (round takes place ms t x).now) →
      (fuel : ℕ) (t : ModuleSet) (x : X) → P t x →
      P (rounds takes place fuel ms t x).taken (rounds takes place fuel ms t x).now
  unfolding rounds
  rounds_keeps P ms step zero t x p = p
  rounds_keeps P ms step (suc fuel) t x p =
      let r = round takes place ms t x in
      let q = step t x p in
      cond_cases (λ (f : Found X). P f.taken f.now) (eqb r.took 0) _ _
      (λ _. q)
      (λ _. rounds_keeps P ms step fuel r.taken r.now q)

  -- what holds at the start, and is kept by every taking, holds at the end of a search
  pub search_keeps : (P : ModuleSet → X → Type 0) (ms : List M) (x : X) →
      ((i : ℕ) (m : M) (t : ModuleSet) (y : X) → get_elem? ms i ≡ some m → t i ≡ false → takes y m ≡ true → P t y →
      P (with_module i t) (place y m)) →
      P no_modules x → P (search takes place ms x).taken (search takes place ms x).now
  unfolding search
  search_keeps P ms x step p =
      rounds_keeps P ms
      (λ t y. round_keeps (λ r. P r.taken r.now) ms t y (λ i m e r. step i m r.taken r.now e))
      _
      no_modules
      x
      p

  -- ---- the end is quiet

  -- a round counts what it takes
  pub round_took : (ms : List M) (t : ModuleSet) (x : X) →
      count (round takes place ms t x).taken (length ms) ≡ count t (length ms) + (round takes place ms t x).took
  round_took ms t x =
      round_keeps (λ r. count r.taken (length ms) ≡ count t (length ms) + r.took) ms t x
      (λ i m h r e _ p. omega (arith, count_with i r.taken (length ms) e (inside ms i h)))
      (omega arith)

  -- a round takes no less than it took before
  pub sweep_more : (i : ℕ) (ms : List M) (r : Sweep X) → r.took ≤ (sweep takes place i ms r).took
  sweep_more i ms r =
      sweep_keeps (λ (q : Sweep X). r.took ≤ q.took) i ms (λ j k m _ _ q _ _ p. omega arith) r (omega arith)

  -- a module that a round leaves: it was taken before, or is not needed
  abbrev pub settled : ModuleSet → X → ℕ → M → Bool
  settled t x i m = t i || not (takes x m)

  -- what takes nothing changes nothing, and leaves each module settled
  pub visit_quiet : (i : ℕ) (m : M) (r : Sweep X) → settled r.taken r.now i m ≡ true →
      visit takes place i m r ≡ r
  unfolding visit
  visit_quiet i m r e = rw e

  pub visit_takes : (i : ℕ) (m : M) (r : Sweep X) → settled r.taken r.now i m ≡ false →
      visit takes place i m r ≡ taking i m r
  unfolding visit
  visit_takes i m r e = rw e

  -- the modules from index i on, all of them settled
  abbrev pub AllSettled : ℕ → List M → ModuleSet → X → Type 0
  AllSettled i ms t x = (k : ℕ) (m : M) → get_elem? ms k ≡ some m → settled t x (i + k) m ≡ true

  all_settled_cons : (i : ℕ) (m : M) (ms : List M) (t : ModuleSet) (x : X) → settled t x i m ≡ true →
      AllSettled (i + 1) ms t x → AllSettled i (m ∷ ms) t x
  all_settled_cons i m ms t x e h zero n q =
      let same : m ≡ n = cc in
      rw (add-zero, ← same) e
  all_settled_cons i m ms t x e h (suc k) n q =
      let place_is : i + suc k ≡ i + 1 + k = omega arith in
      rw place_is (h k n q)

  pub sweep_quiet : (i : ℕ) (ms : List M) (r : Sweep X) → (sweep takes place i ms r).took ≡ r.took →
      (sweep takes place i ms r ≡ r) × AllSettled i ms r.taken r.now
  unfolding sweep
  sweep_quiet i [] r e = (refl, λ k m q. never_none q)
  sweep_quiet i (m ∷ ms) r e =
      let q : settled r.taken r.now i m ≡ true = go (settled r.taken r.now i m) refl in
      let same = ap (sweep takes place (i + 1) ms) (visit_quiet i m r q) in
      let h = sweep_quiet (i + 1) ms r (ap (λ (s : Sweep X). s.took) (sym same) ∙ e) in
      (same ∙ h.0, all_settled_cons i m ms r.taken r.now q h.1)
    where
      go : (b : Bool) → settled r.taken r.now i m ≡ b → b ≡ true
      go true q = refl
      go false q =
          let more = ap (λ (s : Sweep X). (sweep takes place (i + 1) ms s).took) (visit_takes i m r q) in
          absurd (omega (arith, more, e, sweep_more (i + 1) ms (taking i m r)))

  pub round_quiet : (ms : List M) (t : ModuleSet) (x : X) → (round takes place ms t x).took ≡ 0 →
      (round takes place ms t x ≡ sweep_of t 0 x) × AllSettled 0 ms t x
  unfolding round
  round_quiet ms t x e = sweep_quiet 0 ms (sweep_of t 0 x) e

  -- with a round of fuel for each module that is not taken, and one more, the last round takes nothing
  pub rounds_end : (ms : List M) (fuel : ℕ) (t : ModuleSet) (x : X) → length ms < fuel + count t (length ms) →
      let f = rounds takes place fuel ms t x in (round takes place ms f.taken f.now).took ≡ 0
  unfolding rounds
  rounds_end ms zero t x h = absurd (omega (arith, count_most t (length ms)))
  rounds_end ms (suc fuel) t x h =
      let r = round takes place ms t x in
      cond_cases (λ (f : Found X). (round takes place ms f.taken f.now).took ≡ 0) (eqb r.took 0) _ _
      (λ e. let q = eqb-true r.took 0 e in rw (round_quiet ms t x q).0 q)
      (λ e. rounds_end ms fuel r.taken r.now (omega (arith, round_took ms t x, eqb-false r.took 0 e)))

  -- the fuel of a search suffices: one round more takes nothing, and leaves all as it is
  pub search_end : (ms : List M) (x : X) →
      let f = search takes place ms x in (round takes place ms f.taken f.now).took ≡ 0
  unfolding search
  search_end ms x = rounds_end ms (suc (length ms)) no_modules x (omega arith)

  pub search_stays : (ms : List M) (x : X) →
      let f = search takes place ms x in round takes place ms f.taken f.now ≡ sweep_of f.taken 0 f.now
  search_stays ms x = let f = search takes place ms x in (round_quiet ms f.taken f.now (search_end ms x)).0

  -- at the end every module is taken or is not needed
  pub search_settled : (ms : List M) (x : X) (i : ℕ) (m : M) → get_elem? ms i ≡ some m →
      let f = search takes place ms x in (f.taken i || not (takes f.now m)) ≡ true
  search_settled ms x i m e =
      let f = search takes place ms x in
      rw (zero-add i) at ((round_quiet ms f.taken f.now (search_end ms x)).1 i m e)

  -- ---- rounds

  -- every round but the last takes a module
  pub rounds_most : (ms : List M) (fuel : ℕ) (t : ModuleSet) (x : X) →
      let f = rounds takes place fuel ms t x in f.rounds + count t (length ms) ≤ count f.taken (length ms) + 1
  unfolding rounds
  rounds_most ms zero t x = omega arith
  rounds_most ms (suc fuel) t x =
      let r = round takes place ms t x in
      let took = round_took ms t x in
      cond_cases (λ (f : Found X). f.rounds + count t (length ms) ≤ count f.taken (length ms) + 1)
      (eqb r.took 0) _ _
      (λ _. omega arith)
      (λ e. omega (arith, eqb-false r.took 0 e, rounds_most ms fuel r.taken r.now))

  -- so a search has at most one round more than it takes modules, it has one at least, and without modules just one
  pub search_rounds_most : (ms : List M) (x : X) →
      let f = search takes place ms x in f.rounds ≤ count f.taken (length ms) + 1
  unfolding search
  search_rounds_most ms x = omega (arith, rounds_most ms (suc (length ms)) no_modules x)

  pub search_rounds_least : (ms : List M) (x : X) → 1 ≤ (search takes place ms x).rounds
  unfolding search rounds
  search_rounds_least ms x =
      let r = round takes place ms no_modules x in
      cond_cases (λ (f : Found X). 1 ≤ f.rounds) (eqb r.took 0) _ _ (λ _. omega arith) (λ _. omega arith)

  pub search_rounds_empty : (x : X) → (search takes place [] x).rounds ≡ 1
  unfolding search rounds round sweep
  search_rounds_empty x = refl
