-- Whether one module of the tables is needed.
use mathlib.Core.Bool.{Bool, true, false, cond, ◌&&◌, ◌||◌}
use mathlib.Core.List.{List, ◌∷◌, map}
use mathlib.Core.Path.{◌≡◌, refl, ap, ◌∙◌}
use Prim.Native.Nat.{ℕ}
use Rattle.std.specs.List.{list_any}
use Rattle.rules.specs.Text.{any}
use Rattle.rules.specs.Reading.{module_at}
use Rattle.rules.specs.State.{State, is_undefined}
use Rattle.rules.specs.Placing.{entries_in}
use Rattle.rules.specs.Load.{entry_names, is_needed}
use Rattle.rules.specs.declared.reading.Part.{Part}
use Rattle.tables.specs.declared.iter.PartCells.{PartCells}
use Rattle.tables.specs.Heads.{is_entry, names_in}
use Rattle.tables.specs.Iter.{part_at}
use Rattle.tables.proofs.PairLaws.{some_part, names_cons}

-- ---- is one of the entries undefined

abbrev pub needed_in : State → List Part → Bool
needed_in s ps = any (λ x. is_undefined x s.symbols) (names_in ps)

pub needed_is : (s : State) (n : ℕ) (ps : List Part) → is_needed s (module_at n ps) ≡ needed_in s ps
unfolding is_needed entry_names
needed_is s n ps = refl

module _ (s : State) where
  abbrev pub needs : PartCells → Bool
  needs p = is_entry p.head && is_undefined p.body s.symbols

  needed_cons : (x : PartCells) (ps : List Part) → needed_in s (part_at x ∷ ps) ≡ (needs x || needed_in s ps)
  unfolding any
  needed_cons x ps = ap (any (λ y. is_undefined y s.symbols)) (names_cons x ps) ∙ go (is_entry x.head) (names_in ps)
    where
      go : (b : Bool) (xs : List ℕ) → any (λ y. is_undefined y s.symbols) (cond b (x.body ∷ xs) xs)
          ≡ (b && is_undefined x.body s.symbols || any (λ y. is_undefined y s.symbols) xs)
      go true xs = refl
      go false xs = refl

  pub needed_pass : (xs : List PartCells) → list_any needs xs ≡ needed_in s (map part_at xs)
  unfolding entries_in any
  needed_pass = some_part (needed_in s) needs refl needed_cons
