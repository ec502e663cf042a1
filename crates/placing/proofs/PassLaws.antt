-- What the passes over the parts that only read find.
use Prim.Native.Nat.{ℕ, ◌+◌, ◌≤◌, max}
use native.Mathlib.Omega.{arith}
use mathlib.Core.Bool.{Bool, true, false, cond, ◌&&◌, ◌||◌, or-true, or_assoc}
use mathlib.Core.List.{List, [], ◌∷◌, map}
use mathlib.Core.Path.{◌≡◌, refl, sym, ap, ◌∙◌}
use lib.ListN.{length}
use lib.Dec.{eqb}
use mathlib.Core.Bool.{beq}
use mir.Val.{bool_byte}
use Rattle.std.specs.List.{list_any}
use Rattle.std.specs.Option.{option_eq}
use Rattle.std.specs.Prelude.{Option, None, Some}
use Rattle.state.specs.Table.{Stands}
use Rattle.rules.specs.Text.{any}
use Rattle.rules.specs.State.{Symbol, is_defined}
use Rattle.rules.specs.Placing.{entries_in, externals_in, code_in, length_in, bad_argument, twice}
use Rattle.rules.specs.declared.reading.Part.{Part}
use Rattle.tables.specs.declared.iter.PartCells.{PartCells}
use Rattle.tables.specs.Heads.{names_in, is_entry, is_external, block_end, value_of}
use Rattle.tables.specs.Iter.{part_at}
use Rattle.tables.proofs.HeadLaws.{part_cases, length_cons, externals_cons}
use Rattle.tables.proofs.PairLaws.{some_part, names_cons}
use Rattle.placing.specs.Passes.{bad_code, over_range, is_bad, is_over, repeated, is_repeated}

-- a name stands twice, or is defined: the first one, or one of the rest
pub repeated_cons : (t : List Symbol) (x : ℕ) (xs : List ℕ) →
    repeated t (x ∷ xs) ≡ (is_defined x t || any (eqb x) xs || repeated t xs)
unfolding twice any
repeated_cons t x xs = go (is_defined x t) (any (eqb x) xs) (twice xs) (any (λ y. is_defined y t) xs)
  where
    go : (d a b c : Bool) → (a || b || (d || c)) ≡ (d || a || (b || c))
    go true true b c = refl
    go true false b c = or-true b
    go false a b c = or_assoc a b c

-- the first part, by its first cell: a test of the words, and one of the entries
module _ (x : PartCells) (ps : List Part) where
  pub bad_cons : (n : ℕ) → any (bad_code n) (code_in (part_at x ∷ ps)) ≡ (is_bad n x.head || any (bad_code n) (code_in ps))
  unfolding code_in any bad_argument is_bad
  bad_cons n =
      part_cases x.head x.body (λ p. any (bad_code n) (code_in (p ∷ ps)) ≡ (is_bad n x.head || any (bad_code n) (code_in ps)))
      (λ e. rw e) (λ e. rw e) (λ e. rw e) (λ e. rw e) (λ e. rw e) (λ e. rw e) (λ e. rw e) (λ e. rw e)

  pub over_cons : (base : ℕ) →
      any (over_range base) (entries_in (part_at x ∷ ps)) ≡ (is_over base x.head || any (over_range base) (entries_in ps))
  unfolding entries_in any is_over value_of
  over_cons base =
      part_cases x.head x.body
      (λ p. any (over_range base) (entries_in (p ∷ ps)) ≡ (is_over base x.head || any (over_range base) (entries_in ps)))
      (λ e. rw e) (λ e. rw e) (λ e. rw e) (λ e. rw e) (λ e. rw e) (λ e. rw e) (λ e. rw e) (λ e. rw e)

  named_cons : (y : ℕ) → any (eqb y) (names_in (part_at x ∷ ps)) ≡ (is_entry x.head && eqb y x.body || any (eqb y) (names_in ps))
  unfolding any
  named_cons y = ap (any (eqb y)) (names_cons x ps) ∙ go (is_entry x.head) (names_in ps)
    where
      go : (b : Bool) (xs : List ℕ) → any (eqb y) (cond b (x.body ∷ xs) xs) ≡ (b && eqb y x.body || any (eqb y) xs)
      go true xs = refl
      go false xs = refl

  pub repeats_cons : (t : List Symbol) → repeated t (names_in (part_at x ∷ ps)) ≡ (is_repeated t x ps || repeated t (names_in ps))
  repeats_cons t = ap (repeated t) (names_cons x ps) ∙ go (is_entry x.head) (names_in ps)
    where
      go : (b : Bool) (xs : List ℕ) → repeated t (cond b (x.body ∷ xs) xs)
          ≡ (b && (is_defined x.body t || any (eqb x.body) xs) || repeated t xs)
      go true xs = repeated_cons t x.body xs
      go false xs = refl

  pub lengths_cons : length_in (part_at x ∷ ps) ≡ max (block_end x.head) (length_in ps)
  lengths_cons = length_cons x.head x.body ps

  pub count_cons : length (externals_in (part_at x ∷ ps)) ≡ cond (is_external x.head) 1 0 + length (externals_in ps)
  count_cons = ap length (externals_cons x.head x.body ps) ∙ go (is_external x.head) x.body (externals_in ps)
    where
      go : (b : Bool) (x : ℕ) (xs : List ℕ) → length (cond b (x ∷ xs) xs) ≡ cond b 1 0 + length xs
      go true x xs = omega arith
      go false x xs = omega arith

-- the same tests of all parts
module _ (xs : List PartCells) where
  pub bad_pass : (n : ℕ) → list_any (λ p. is_bad n p.head) xs ≡ any (bad_code n) (code_in (map part_at xs))
  unfolding code_in any
  bad_pass n = some_part (λ ps. any (bad_code n) (code_in ps)) (λ p. is_bad n p.head) refl (λ x ps. bad_cons x ps n) xs

  pub over_pass : (base : ℕ) → list_any (λ p. is_over base p.head) xs ≡ any (over_range base) (entries_in (map part_at xs))
  unfolding entries_in any
  over_pass base = some_part (λ ps. any (over_range base) (entries_in ps)) (λ p. is_over base p.head) refl (λ x ps. over_cons x ps base) xs

  pub named_pass : (y : ℕ) → list_any (λ p. is_entry p.head && eqb y p.body) xs ≡ any (eqb y) (names_in (map part_at xs))
  unfolding entries_in any
  named_pass y = some_part (λ ps. any (eqb y) (names_in ps)) (λ p. is_entry p.head && eqb y p.body) refl (λ x ps. named_cons x ps y) xs

-- no more externals than parts
pub count_few : (xs : List PartCells) → length (externals_in (map part_at xs)) ≤ length xs
unfolding externals_in
count_few [] = omega arith
count_few (x ∷ xs) = go (is_external x.head) (count_cons x (map part_at xs)) (count_few xs)
  where
    go : (b : Bool) → length (externals_in (part_at x ∷ map part_at xs)) ≡ cond b 1 0 + length (externals_in (map part_at xs))
        → length (externals_in (map part_at xs)) ≤ length xs → length (externals_in (part_at x ∷ map part_at xs)) ≤ length (x ∷ xs)
    go true e h = omega (arith, e, h)
    go false e h = omega (arith, e, h)

-- ---- a turn of a loop over the parts, and its end

module _ {here rest : List PartCells} {x : PartCells} (h : here ≡ x ∷ rest) where
  pub repeats_turn : (t : List Symbol) {whole r b : Bool} → repeated t (names_in (map part_at here)) ≡ whole
      → r ≡ is_repeated t x (map part_at rest) → r ≡ b → (b || repeated t (names_in (map part_at rest))) ≡ whole
  repeats_turn t w q e =
      ap (λ b. b || repeated t (names_in (map part_at rest))) (sym e ∙ q)
      ∙ sym (ap (λ xs. repeated t (names_in (map part_at xs))) h ∙ repeats_cons x (map part_at rest) t)
      ∙ w

  pub lengths_turn : length_in (map part_at here) ≡ max (block_end x.head) (length_in (map part_at rest))
  lengths_turn = ap (λ xs. length_in (map part_at xs)) h ∙ lengths_cons x (map part_at rest)

  pub count_turn : length (externals_in (map part_at here)) ≡ cond (is_external x.head) 1 0 + length (externals_in (map part_at rest))
  count_turn = ap (λ xs. length (externals_in (map part_at xs))) h ∙ count_cons x (map part_at rest)

module _ {here : List PartCells} (h : here ≡ []) where
  pub repeats_end : (t : List Symbol) {whole : Bool} → repeated t (names_in (map part_at here)) ≡ whole → false ≡ whole
  unfolding entries_in any twice
  repeats_end t w = sym (ap (λ xs. repeated t (names_in (map part_at xs))) h) ∙ w

  pub lengths_end : length_in (map part_at here) ≡ 0
  unfolding length_in
  lengths_end = ap (λ xs. length_in (map part_at xs)) h

  pub count_end : length (externals_in (map part_at here)) ≡ 0
  unfolding externals_in
  count_end = ap (λ xs. length (externals_in (map part_at xs))) h

-- how a name stands, as the code asks
pub stands_told : (x : ℕ) (t : List Symbol) (r : Option Bool) → Stands x t r → is_defined x t ≡ option_eq beq r (Some true)
stands_told x t None s = s.0
stands_told x t (Some true) s = s.0
stands_told x t (Some false) s = s.0

-- a test, counted
pub bit_is : (b : Bool) → bool_byte b ≡ cond b 1 0
bit_is true = refl
bit_is false = refl
