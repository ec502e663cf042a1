-- The first fault of lines that come in two parts.
use Prim.Native.Nat.{ℕ, ◌+◌, ◌≤◌}
use mathlib.Core.List.{List, ◌++◌}
use mathlib.Core.Path.{◌≡◌, refl, sym, ap, subst, ◌∙◌}
use native.Mathlib.Omega.{arith}
use lib.ListN.{length, take, drop, take-append-drop}
use lib.Seq.{take-take}
use Rattle.std.specs.Prelude.{Ok, Err, MatchResult, IsOkAnd}
use Rattle.rules.specs.Text.{lines_of}
use Rattle.rules.specs.Reading.{at_start, if_complete, Reading, Complete}
use Rattle.rules.specs.Feed.{whole_lines, fault_so_far}
use Rattle.rules.specs.declared.reading.Mode.{Mode}
use Rattle.rules.specs.declared.reading.Stop.{Stop}
use Rattle.rules.proofs.WholeLaws.{whole_behind}
use Rattle.reading.specs.Lines.{Reached, go_on, line_in, told, ReadOn}
use Rattle.reading.specs.declared.Place.{Place}
use Rattle.reading.specs.declared.Clean.{Clean}
use Rattle.reading.proofs.GoLaws.{lines_fault, behind, go_append}
use Rattle.advising.specs.Whole.{LinesEnd, early_fault}

-- the line behind clean ones
pub next_line_lem : {file : List ℕ} {p : Place} {r : Reached} → ReadOn file p r → {c : Clean} → r ≡ Ok c → c.line ≤ length file + 1
unfolding line_in
next_line_lem {file} b e = subst (λ (x : Reached). line_in x ≤ length file + 1) e b.counted

-- the fault alone, as `map` gives it
pub told_by_map : (r : Reached) (f : Reading) (P : Clean → Unit {0} → Type 0) → MatchResult r (λ x. IsOkAnd f (P x)) (λ s. f ≡ Err s) → f ≡ told r
unfolding told
told_by_map (Ok c) (Ok u) P h = refl
told_by_map (Ok c) (Err s) P h = absurd h
told_by_map (Err s) f P h = h

abbrev place : ℕ → ℕ → Mode → Place
place a n m = record { at = a; line = n; mode = m }

module _ {file : List ℕ} {old end : ℕ} (h : old ≤ end) {done : ℕ} (e : LinesEnd file old done) {start : Mode} (at_first : start ≡ at_start)
    {before : Reached} (b : ReadOn (take done file) (place 0 1 start) before) where
  before_is : before ≡ go_on 1 at_start (lines_of (whole_lines (take old file)))
  before_is = b.is ∙ ap (λ (l : List ℕ). go_on 1 start (lines_of l)) e.whole ∙ ap (λ (m : Mode). go_on 1 m (lines_of (whole_lines (take old file)))) at_first

  old_fault : fault_so_far (take old file) ≡ told before
  unfolding fault_so_far
  old_fault = lines_fault (lines_of (whole_lines (take old file))) ∙ sym (ap told before_is)

  -- the fault was there before
  pub known : {s : Stop} → before ≡ Err s → Complete ≡ early_fault (take old file) (take end file)
  unfolding early_fault if_complete told
  known q = rw (old_fault, q)

  -- the lines up to the end are the old ones and those behind them
  parts : lines_of (take end file) ≡ lines_of (whole_lines (take old file)) ++ lines_of (drop done (take end file))
  parts =
      ap lines_of (sym (take-append-drop done (take end file)) ∙ ap (λ (l : List ℕ). l ++ drop done (take end file)) (take-take done end file (omega (arith, e.most)) ∙ e.whole))
      ∙ whole_behind (take old file) (drop done (take end file))

  pub new :
      {c : Clean} → before ≡ Ok c → {after : Reached} → ReadOn (take end file) (place done c.line c.mode) after → {r : Reading} → r ≡ told after
      → r ≡ early_fault (take old file) (take end file)
  unfolding early_fault if_complete told behind
  new {c} q {after} a {r} t =
      let behind_them = lines_of (drop done (take end file)) in
      t
      ∙ ap told (a.is ∙ sym (go_append (lines_of (whole_lines (take old file))) behind_them 1 at_start ∙ ap (λ (x : Reached). behind x behind_them) (sym before_is ∙ q)))
      ∙ ap (λ (ls : List (List ℕ)). told (go_on 1 at_start ls)) (sym parts)
      ∙ sym (lines_fault (lines_of (take end file)))
      ∙ rw (old_fault, q)
