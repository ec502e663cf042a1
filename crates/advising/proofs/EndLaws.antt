-- The end of the whole lines, behind the last LF.
use Prim.Native.Nat.{ℕ, zero, suc, ◌+◌, ◌-◌, ◌≤◌, ◌<◌}
use native.Mathlib.Omega.{arith}
use mathlib.Core.List.{List, [], ◌∷◌, ◌++◌}
use mathlib.Core.Logic.{◌≢◌}
use mathlib.Core.Path.{◌≡◌, refl, sym, ap, subst, ◌∙◌}
use lib.ListN.{length, get_or, take}
use lib.Seq.{take-suc, length-take-le}
use borrow.Author.Tests.{eq-eqb, ne_eqb}
use Rattle.std.proofs.lemmas.List.{get_or-take}
use Rattle.rules.specs.Text.{LF}
use Rattle.rules.specs.Feed.{whole_lines}
use Rattle.rules.proofs.WholeLaws.{whole_LF, whole_last}
use Rattle.advising.specs.Whole.{LinesEnd, NoneFrom, IsLast}

module _ (file : List ℕ) (n : ℕ) where
  -- the bytes from e on are in no whole line
  pub record Sought (e : ℕ) : Type 0 where
    pub most : e ≤ n
    pub same : whole_lines (take e file) ≡ whole_lines (take n file)

  sought : Sought n
  sought = record { most = omega arith; same = refl }

  module _ (e : ℕ) (s : Sought e) (p : 1 ≤ e) (h : n ≤ length file) where
    last : take e file ≡ take (e - 1) file ++ (get_or file (e - 1) 0 ∷ [])
    last =
        let step : e ≡ suc (e - 1) = omega arith in
        ap (λ (k : ℕ). take k file) step ∙ take-suc file (e - 1) 0 (omega (arith, s.most))

    found : get_or file (e - 1) 0 ≡ LF → LinesEnd file n e
    found q =
        record {
          most = s.most;
          whole = last ∙ sym (whole_LF (get_or file (e - 1) 0) (eq-eqb _ _ q) (take (e - 1) file)) ∙ ap whole_lines (sym last) ∙ s.same;
        }

    on : get_or file (e - 1) 0 ≢ LF → Sought (e - 1)
    on q =
        record {
          most = omega (arith, s.most);
          same = sym (whole_last (get_or file (e - 1) 0) (ne_eqb _ _ q) (take (e - 1) file)) ∙ ap whole_lines (sym last) ∙ s.same;
        }

  module _ (h : n ≤ length file) where
    -- so are they where no LF stands from there on
    sweep : (d e : ℕ) → e + d ≡ n → ((j : ℕ) → e ≤ j → j < n → get_or file j 0 ≢ LF) → Sought e
    sweep zero e q f = subst Sought (omega arith) sought
    sweep (suc d) e q f =
        let back : e + 1 - 1 ≡ e = omega arith in
        subst Sought back
        (on (e + 1) (sweep d (e + 1) (omega arith) (λ j a b. f j (omega arith) b)) (omega arith) h
        (subst (λ (k : ℕ). get_or file k 0 ≢ LF) (sym back) (f e (omega arith) (omega arith))))

    none_from : (e : ℕ) → e ≤ n → NoneFrom e (take n file) → Sought e
    none_from e most f =
        let long = length-take-le n file h in
        sweep (n - e) e (omega arith)
        (λ j a b. subst (λ (x : ℕ). x ≢ LF) (get_or-take n file j 0 b) (f j a (omega (arith, long))))

    pub last_ends : (i : ℕ) → IsLast (take n file) i → LinesEnd file n (i + 1)
    last_ends i l =
        let long = length-take-le n file h in
        let back : i + 1 - 1 ≡ i = omega arith in
        found (i + 1) (none_from (i + 1) (omega (arith, l.0, long)) l.2) (omega arith) h
        (ap (λ (k : ℕ). get_or file k 0) back ∙ sym (get_or-take n file i 0 (omega (arith, l.0, long))) ∙ l.1)

    pub none_ends : NoneFrom 0 (take n file) → LinesEnd file n 0
    unfolding whole_lines
    none_ends f =
        let s = none_from 0 (omega arith) f in
        record { most = s.most; whole = s.same }
