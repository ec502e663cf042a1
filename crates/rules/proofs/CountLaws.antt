-- Placing a module places as many words as it has code words.
use Prim.Native.Nat.{ℕ, zero, suc, ◌+◌, ◌<◌}
use native.Mathlib.Nat.{le_of_suc-le-suc, not-suc-le-zero}
use native.Mathlib.Omega.{arith}
use mathlib.Core.Bool.{true, false}
use mathlib.Core.List.{List, [], ◌∷◌, map}
use mathlib.Core.Path.{◌≡◌, refl, sym, ap, ◌∙◌}
use lib.ListN.{length, get_or, set, length-set, get_or-map}
use borrow.Author.Tests.{ltb-true}
use Rattle.rules.specs.Text.{all}
use Rattle.rules.specs.State.{Symbol, Word, unplaced, plain, is_placed, placed_words}
use Rattle.rules.specs.Placing.{Code, linked, put_all}
use Rattle.rules.specs.declared.line.Relocation.{Relocation}
use Rattle.rules.specs.declared.line.Relocation.TheVariants.{Plain, External, Unread}
use Rattle.rules.proofs.TestLaws.{or_left, or_right, all_first, all_rest}
use Rattle.rules.proofs.OverlapLaws.{clash, below}

-- one word more
count_set : (ws : List Word) (i : ℕ) (w : Word)
    → i < length ws → is_placed (get_or ws i unplaced) ≡ false → is_placed w ≡ true → placed_words (set ws i w) ≡ placed_words ws + 1
unfolding placed_words
count_set [] i w h u p = absurd (not-suc-le-zero h)
count_set (v ∷ ws) zero w h u p = simp (u, p) (omega arith)
count_set (v ∷ ws) (suc i) w h u p = omega (arith, count_set ws i w (le_of_suc-le-suc h) u p)

map_set {ℓ κ} : {A : Type ℓ} {B : Type κ} (f : A → B) (l : List A) (i : ℕ) (a : A) → map f (set l i a) ≡ set (map f l) i (f a)
map_set f [] i a = refl
map_set f (x ∷ l) zero a = refl
map_set f (x ∷ l) (suc i) a = ap (λ t. f x ∷ t) (map_set f l i a)

pub linked_placed : (xs : List ℕ) (t : List Symbol) (text : ℕ) (r : Relocation) → is_placed (linked xs t text r) ≡ true
unfolding linked
linked_placed xs t text Plain = refl
linked_placed xs t text (External k) = refl
linked_placed xs t text (Unread type) = refl

-- the words of vs stand where those of ws do, and one more does in both
same_places : (ws vs : List Word) (i : ℕ) (v w : Word)
    → map is_placed ws ≡ map is_placed vs → is_placed v ≡ is_placed w → map is_placed (set ws i v) ≡ map is_placed (set vs i w)
same_places ws vs i v w e p = map_set is_placed ws i v ∙ rw (e, p) (sym (map_set is_placed vs i w))

same_place : (ws vs : List Word) (i : ℕ)
    → map is_placed ws ≡ map is_placed vs → is_placed (get_or ws i unplaced) ≡ is_placed (get_or vs i unplaced)
same_place ws vs i e =
    sym (get_or-map is_placed ws i unplaced) ∙ ap (λ l. get_or l i false) e ∙ get_or-map is_placed vs i unplaced

module _ (base : ℕ) (xs : List ℕ) (t : List Symbol) where
  put_count_from : (cs : List Code) (ws vs : List Word)
      → map is_placed ws ≡ map is_placed vs
      → clash base cs vs ≡ false
      → all (below base (length ws)) cs ≡ true
      → placed_words (put_all base xs t cs ws) ≡ placed_words ws + length cs
  unfolding clash put_all below
  put_count_from [] ws vs e h k = omega arith
  put_count_from (c ∷ cs) ws vs e h k =
      let i : ℕ = base + c.address in
      let w = linked xs t c.word.text c.word.relocation in
      let fits : i < length ws = ltb-true i (length ws) (all_first (below base (length ws)) c cs k) in
      let taken : is_placed (get_or vs i unplaced) ≡ false =
      or_left (is_placed (get_or vs i unplaced)) (clash base cs (set vs i (plain 0))) h in
      let free : is_placed (get_or ws i unplaced) ≡ false = same_place ws vs i e ∙ taken in
      let one : placed_words (set ws i w) ≡ placed_words ws + 1 = count_set ws i w fits free (linked_placed xs t c.word.text c.word.relocation) in
      let rest : placed_words (put_all base xs t cs (set ws i w)) ≡ placed_words (set ws i w) + length cs =
      put_count_from
      cs
      (set ws i w)
      (set vs i (plain 0))
      (same_places ws vs i w (plain 0) e (linked_placed xs t c.word.text c.word.relocation))
      (or_right (is_placed (get_or vs i unplaced)) (clash base cs (set vs i (plain 0))) h)
      (rw length-set (all_rest (below base (length ws)) c cs k)) in
      omega arith

  -- every word that is put at an unplaced address of its own counts one
  pub put_count : (cs : List Code) (ws : List Word)
      → clash base cs ws ≡ false
      → all (below base (length ws)) cs ≡ true
      → placed_words (put_all base xs t cs ws) ≡ placed_words ws + length cs
  put_count cs ws h k = put_count_from cs ws ws refl h k
