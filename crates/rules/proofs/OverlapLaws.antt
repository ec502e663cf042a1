-- Test 10 word by word, as the code makes it: is one of the words placed already when its turn comes? For words within memory that
-- is the definition's test.
use Prim.Native.Nat.{ℕ, ◌<◌}
use mathlib.Core.Bool.{Bool, true, false, ◌||◌}
use mathlib.Core.List.{List, [], ◌∷◌, map}
use mathlib.Core.Path.{◌≡◌, refl, sym, ap, ap₂, ◌∙◌}
use lib.ListN.{length, get_or, set, length-set}
use lib.Dec.{eqb, ltb}
use lib.Seq.{get_or-set_same, get_or-set_other}
use borrow.Author.Tests.{ltb-true, eqb-true, eqb-false}
use Rattle.rules.specs.Text.{all, any}
use Rattle.rules.specs.State.{Word, unplaced, plain, is_placed}
use Rattle.rules.specs.Placing.{Code, address_at, twice}
use Rattle.rules.proofs.TestLaws.{all_first, all_rest}

unfoldable pub clash : ℕ → List Code → List Word → Bool
clash base [] ws = false
clash base (c ∷ cs) ws =
    is_placed (get_or ws (address_at base c) unplaced) || clash base cs (set ws (address_at base c) (plain 0))

-- is a code word's address, from a base, below n
unfoldable pub below : ℕ → ℕ → Code → Bool
below base n c = ltb (address_at base c) n

-- one word more is placed
placed_set :
    (ws : List Word) (i a : ℕ) → i < length ws
    → is_placed (get_or (set ws i (plain 0)) a unplaced) ≡ (eqb i a || is_placed (get_or ws a unplaced))
placed_set ws i a h = go (eqb i a) refl
  where
    go : (t : Bool) → eqb i a ≡ t → is_placed (get_or (set ws i (plain 0)) a unplaced) ≡ (t || is_placed (get_or ws a unplaced))
    go true e =
        ap (λ k. is_placed (get_or (set ws i (plain 0)) k unplaced)) (sym (eqb-true i a e)) ∙ ap is_placed (get_or-set_same ws i (plain 0) unplaced h)
    go false e = ap is_placed (get_or-set_other ws i a (plain 0) unplaced (λ q. eqb-false i a e (sym q)))

any_placed :
    (ws : List Word) (i : ℕ) → i < length ws → (ls : List ℕ)
    → any (λ a. is_placed (get_or (set ws i (plain 0)) a unplaced)) ls ≡ (any (eqb i) ls || any (λ a. is_placed (get_or ws a unplaced)) ls)
unfolding any
any_placed ws i h [] = refl
any_placed ws i h (a ∷ ls) =
    ap₂ ◌||◌ (placed_set ws i a h) (any_placed ws i h ls)
    ∙ regroup (eqb i a) (is_placed (get_or ws a unplaced)) (any (eqb i) ls) (any (λ b. is_placed (get_or ws b unplaced)) ls)
  where
    regroup : (e p f q : Bool) → ((e || p) || (f || q)) ≡ ((e || f) || (p || q))
    regroup true p f q = refl
    regroup false true true q = refl
    regroup false true false q = refl
    regroup false false f q = refl

pub clash_overlap :
    (base : ℕ) (cs : List Code) (ws : List Word) → all (below base (length ws)) cs ≡ true
    → clash base cs ws ≡ (twice (map (address_at base) cs) || any (λ a. is_placed (get_or ws a unplaced)) (map (address_at base) cs))
unfolding clash twice any below
clash_overlap base [] ws h = refl
clash_overlap base (c ∷ cs) ws h =
    let i : ℕ = address_at base c in
    let ls : List ℕ = map (address_at base) cs in
    let fits : i < length ws = ltb-true i (length ws) (all_first (below base (length ws)) c cs h) in
    let rest = clash_overlap base cs (set ws i (plain 0)) (rw length-set (all_rest (below base (length ws)) c cs h)) in
    ap (◌||◌ (is_placed (get_or ws i unplaced))) (rest ∙ ap (◌||◌ (twice ls)) (any_placed ws i fits ls))
    ∙ regroup (is_placed (get_or ws i unplaced)) (twice ls) (any (eqb i) ls) (any (λ a. is_placed (get_or ws a unplaced)) ls)
  where
    regroup : (p t e a : Bool) → (p || (t || (e || a))) ≡ ((e || t) || (p || a))
    regroup true t true a = refl
    regroup true true false a = refl
    regroup true false false a = refl
    regroup false true true a = refl
    regroup false true false a = refl
    regroup false false e a = sym (ap (λ (b : Bool). b || a) (or_false e))
      where
        or_false : (b : Bool) → (b || false) ≡ b
        or_false true = refl
        or_false false = refl
