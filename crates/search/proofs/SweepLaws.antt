-- A round, visit by visit: the flags are the set of the modules taken.
use Prim.Native.Nat.{ℕ, suc, ◌+◌, ◌-◌, ◌<◌, ◌≤◌}
use native.Mathlib.Omega.{arith}
use mathlib.Core.Bool.{Bool, true, false, cond, not, ◌||◌}
use mathlib.Core.List.{List, [], ◌∷◌}
use mathlib.Core.Path.{◌≡◌, refl, sym, ap, ap₂, subst, ◌∙◌}
use lib.ListN.{length, get_or, set}
use lib.Seq.{get_or-set_same, get_or-set_other}
use lib.Dec.{eqb}
use borrow.Author.Tests.{eqb-true, eqb-false}
use Rattle.rules.specs.Reading.{Module}
use Rattle.rules.specs.Search.{ModuleSet, with_module, Sweep, sweep_of, visit, sweep, round}
use Rattle.rules.specs.Load.{Walk, takes, place}
use Rattle.tables.specs.Tables.{module_in, modules_in}
use Rattle.rules.specs.declared.answer.Refusal.{Refusal}
use Rattle.placing.specs.Walks.{Agrees}
use Rattle.search.specs.declared.library.Library.{Library}
use Rattle.search.specs.Searching.{Taken, set_of, RoundIs, Swept}

-- ---- the modules of the rows from a row on

module _ (parts rows : List ℕ) (first n i : ℕ) where
  modules_done : n ≤ i → modules_in parts rows (first + i) (n - i) ≡ []
  unfolding modules_in
  modules_done h =
      let none : n - i ≡ 0 = omega arith in
      ap (modules_in parts rows (first + i)) none

  modules_next : i < n →
      modules_in parts rows (first + i) (n - i)
      ≡ module_in parts rows (first + i) ∷ modules_in parts rows (first + (i + 1)) (n - (i + 1))
  unfolding modules_in
  modules_next h =
      let more : n - i ≡ suc (n - (i + 1)) = omega arith in
      let on : first + i + 1 ≡ first + (i + 1) = omega arith in
      ap (modules_in parts rows (first + i)) more
      ∙ ap (λ k. module_in parts rows (first + i) ∷ modules_in parts rows k (n - (i + 1))) on

-- ---- a flag set is a module more

pub same_sets : {p q : ModuleSet} → ((j : ℕ) → p j ≡ q j) → p ≡ q
same_sets h = λ k j. h j k

flag_set : (flags : List Bool) (i : ℕ) → i < length flags → set_of (set flags i true) ≡ with_module i (set_of flags)
unfolding with_module
flag_set flags i h = same_sets (λ j. go j (eqb i j) refl)
  where
    go : (j : ℕ) (b : Bool) → eqb i j ≡ b → get_or (set flags i true) j false ≡ (b || get_or flags j false)
    go j true e =
        let same : i ≡ j = eqb-true i j e in
        ap (λ k. get_or (set flags i true) k false) (sym same) ∙ get_or-set_same flags i true false h
    go j false e = get_or-set_other flags i j true false (λ q. eqb-false i j e (sym q))

-- ---- a visit

module _ (m : Module) (i k : ℕ) (flags : List Bool) (w : Walk) where
  abbrev here : Sweep Walk
  here = sweep_of (set_of flags) k w

  visit_idle : (get_or flags i false || not (takes w m)) ≡ true → visit takes place i m here ≡ here
  unfolding visit
  visit_idle e = ap (λ b. cond b here (sweep_of (with_module i (set_of flags)) (k + 1) (place w m))) e

  visit_taken : i < length flags → get_or flags i false ≡ false → takes w m ≡ true →
      visit takes place i m here ≡ sweep_of (set_of (set flags i true)) (k + 1) (place w m)
  unfolding visit
  visit_taken h e t =
      ap₂ (λ b d. cond (b || not d) here (sweep_of (with_module i (set_of flags)) (k + 1) (place w m))) e t
      ∙ ap (λ u. sweep_of u (k + 1) (place w m)) (sym (flag_set flags i h))

-- ---- a round

module _ (l : Library) where
  abbrev parts : List ℕ
  parts = l.tables.parts.now

  abbrev rows : List ℕ
  rows = l.tables.rows.now

  abbrev first : ℕ
  first = l.section.first

  abbrev n : ℕ
  n = l.section.count

  -- the modules from the i-th on
  abbrev pub from : ℕ → List Module
  from i = modules_in parts rows (first + i) (n - i)

  pub swept_start : (flags : List Bool) (w : Walk) {old : Refusal} {cells : List ℕ} → Agrees w old cells →
      Swept (round takes place (modules_in parts rows first n) (set_of flags) w) 0 0 (from 0) flags old cells
  unfolding round
  swept_start flags w a =
      let begin : first + 0 ≡ first = omega arith in
      let whole : n - 0 ≡ n = omega arith in
      record {
        here = w;
        agrees = a;
        is = ap₂ (λ i k. sweep takes place 0 (modules_in parts rows i k) (sweep_of (set_of flags) 0 w)) begin whole;
      }

  module _ {s : Sweep Walk} {i k : ℕ} {flags : List Bool} {old : Refusal} {cells : List ℕ}
      (v : Swept s i k (from i) flags old cells) where
    -- a module that is taken already, or is not to be taken, is passed by
    pub swept_idle : i < n → ((w : Walk) → Agrees w old cells → (get_or flags i false || not (takes w (module_in parts rows (first + i)))) ≡ true) →
        {after : List ℕ} → ((w : Walk) → Agrees w old cells → Agrees w old after) → Swept s (i + 1) k (from (i + 1)) flags old after
    unfolding sweep
    swept_idle b idle same =
        let m = module_in parts rows (first + i) in
        record {
          here = v.here;
          agrees = same v.here v.agrees;
          is =
              ap (sweep takes place (i + 1) (from (i + 1))) (sym (visit_idle m i k flags v.here (idle v.here v.agrees)))
              ∙ ap (λ ms. sweep takes place i ms (sweep_of (set_of flags) k v.here)) (sym (modules_next parts rows first n i b))
              ∙ v.is;
        }

    pub swept_taken : i < n → i < length flags → {t : Refusal} {after : List ℕ} →
        Taken (module_in parts rows (first + i)) (get_or flags i false) old cells t after → Swept s (i + 1) (k + 1) (from (i + 1)) (set flags i true) t after
    unfolding sweep
    swept_taken b h q =
        let m = module_in parts rows (first + i) in
        let d = q.does v.here v.agrees in
        record {
          here = place v.here m;
          agrees = d.1;
          is =
              ap (sweep takes place (i + 1) (from (i + 1))) (sym (visit_taken m i k flags v.here h q.fresh d.0))
              ∙ ap (λ ms. sweep takes place i ms (sweep_of (set_of flags) k v.here)) (sym (modules_next parts rows first n i b))
              ∙ v.is;
        }

    pub swept_done : n ≤ i → RoundIs s (record { took = k; refusal = old }) flags cells
    unfolding sweep
    swept_done h =
        subst (λ u. RoundIs u (record { took = k; refusal = old }) flags cells)
        (ap (λ ms. sweep takes place i ms (sweep_of (set_of flags) k v.here)) (sym (modules_done parts rows first n i h)) ∙ v.is)
        (record { taken_is = refl; took_is = refl; agrees = v.agrees })
