-- The search by halves: how many names it reads, that it depends on those alone, and that it finds what is there.
use Prim.Native.Nat.{ℕ, zero, suc, ◌+◌, ◌-◌, ◌/◌, ◌≤◌, ◌<◌}
use mathlib.Core.Bool.{Bool, true, false, cond}
use mathlib.Core.List.{List}
use mathlib.Core.Logic.{◌≢◌, ◌⊎◌, inl, inr}
use mathlib.Core.Path.{◌≡◌, refl, sym, ap, subst, ◌∙◌}
use native.Mathlib.Omega.{arith}
use borrow.Author.Tests.{eq-eqb, ne_eqb, lt-ltb, le-ltb, ltb-true, ltb-false}
use lib.ListN.{length, get_or}
use lib.Dec.{eqb, ltb}
use Rattle.rules.specs.Limits.{most_names}
use Rattle.rules.specs.declared.lookup.Lookup.{Lookup}
use Rattle.rules.specs.Lookup.{Search, tells, asks, answered, read_by, lookup, rank_left, halves, look_up, InOrder, LookedUp}
use Rattle.rules.proofs.TestLaws.{Every}

-- ---- a search depends on the names that it reads, and on no others

pub those_alone : (a b : ℕ → ℕ) (s : Search) → Every (λ p. a p ≡ b p) (read_by a s) → answered a s ≡ answered b s
unfolding answered read_by
those_alone a b (tells r) e = refl
those_alone a b (asks p next) e =
    those_alone a b (next (a p)) e.1 ∙ ap (λ (y : ℕ). answered b (next y)) e.0

-- ---- small things

chosen : {A : Type 0} (b : Bool) (s t : A) → b ≡ true → cond b s t ≡ s
chosen b s t e = ap (λ (c : Bool). cond c s t) e

passed : {A : Type 0} (b : Bool) (s t : A) → b ≡ false → cond b s t ≡ t
passed b s t e = ap (λ (c : Bool). cond c s t) e

absurd_less : (a b : ℕ) → a ≡ b → a < b → ⊥
absurd_less a b e l = absurd (omega arith)

-- how many ranks a number of names decides between, and one more
abbrev doubled : ℕ → ℕ
doubled zero = 1
doubled (suc k) = doubled k + doubled k

-- k names suffice: where some are left, the next rank m is between low and high, and so are the names on either side of it
abbrev Fits : ℕ → ℕ → ℕ → ℕ → Type 0
Fits zero low high m = high ≤ low
Fits (suc k) low high m = low < high → (low ≤ m) × (m < high) × (m - low < doubled k) × (high - (m + 1) < doubled k)

-- wherever it begins, at most 255 names are left on a side
fits_start : (n m : ℕ) → n ≤ 256 → m ≤ n - 1 → Fits most_names 0 n m
fits_start n m h f l = (omega arith, omega arith, omega arith, omega arith)

-- between low and high are names for k to decide: the middle one fits
fits_middle : (k low high m : ℕ) → high - low < doubled k → m ≡ (low + high) / 2 → Fits k low high m
fits_middle zero low high m d e = omega arith
fits_middle (suc k) low high m d e = λ l. (omega arith, omega arith, omega arith, omega arith)

module _ (k low high m : ℕ) (h : low < high) (f : Fits (suc k) low high m) where
  fits_up : {m' : ℕ} → m' ≡ (m + 1 + high) / 2 → Fits k (m + 1) high m'
  fits_up e = fits_middle k (m + 1) high _ (f h).3 e

  fits_down : {m' : ℕ} → m' ≡ (low + m) / 2 → Fits k low m m'
  fits_down e = fits_middle k low m _ (f h).2 e

-- ---- it reads no more names than it has to read

module _ (names : ℕ → ℕ) where
  either_few : (b : Bool) (s t : Search) (k : ℕ) → length (read_by names s) ≤ k → length (read_by names t) ≤ k → length (read_by names (cond b s t)) ≤ k
  either_few true s t k f g = f
  either_few false s t k f g = g

  tells_few : (r : Lookup) (k : ℕ) → length (read_by names (tells r)) ≤ k
  unfolding read_by
  tells_few r k = omega arith

  asks_few : (p : ℕ) (next : ℕ → Search) (k : ℕ) → length (read_by names (next (names p))) ≤ k → length (read_by names (asks p next)) ≤ suc k
  unfolding read_by
  asks_few p next k f = omega arith

  module _ (order : List ℕ) (n x : ℕ) where
    halves_few : (k low high m : ℕ) → length (read_by names (halves k order n x low high m)) ≤ k
    unfolding halves
    halves_few zero low high m = tells_few (lookup low n) 0
    halves_few (suc k) low high m =
        let p = get_or order m 0 in
        either_few (rank_left low high) _ (tells (lookup low n)) (suc k)
        (asks_few p _ k
        (either_few (eqb (names p) x) (tells (lookup m p)) _ k (tells_few (lookup m p) k)
        (either_few (ltb (names p) x) _ _ k (halves_few k (m + 1) high ((m + 1 + high) / 2)) (halves_few k low m ((low + m) / 2)))))
        (tells_few (lookup low n) (suc k))

    -- "reads at most nine of the table's names", whatever the order and the names are, and wherever it begins
    pub nine_names : (first : ℕ) → length (read_by names (look_up order n first x)) ≤ 9
    unfolding look_up
    nine_names first = halves_few most_names 0 n first

    -- ---- a turn of the search

    abbrev asked : ℕ → ℕ
    asked m = names (get_or order m 0)

    abbrev to : ℕ → ℕ → ℕ → ℕ → Lookup
    to k low high m = answered names (halves k order n x low high m)

    module _ (k low high m : ℕ) (h : low < high) where
      turn_found : asked m ≡ x → to (suc k) low high m ≡ lookup m (get_or order m 0)
      unfolding halves answered
      turn_found e =
          ap (answered names) (chosen (rank_left low high) _ _ (lt-ltb low high h))
          ∙ ap (answered names) (chosen (eqb (asked m) x) _ _ (eq-eqb _ _ e))

      turn_up : asked m < x → to (suc k) low high m ≡ to k (m + 1) high ((m + 1 + high) / 2)
      unfolding halves answered
      turn_up l =
          ap (answered names) (chosen (rank_left low high) _ _ (lt-ltb low high h))
          ∙ ap (answered names) (passed (eqb (asked m) x) _ _ (ne_eqb (asked m) x (λ e. absurd_less (asked m) x e l)))
          ∙ ap (answered names) (chosen (ltb (asked m) x) _ _ (lt-ltb _ _ l))

      turn_down : x < asked m → to (suc k) low high m ≡ to k low m ((low + m) / 2)
      unfolding halves answered
      turn_down l =
          ap (answered names) (chosen (rank_left low high) _ _ (lt-ltb low high h))
          ∙ ap (answered names) (passed (eqb (asked m) x) _ _ (ne_eqb (asked m) x (λ e. absurd_less x (asked m) (sym e) l)))
          ∙ ap (answered names) (passed (ltb (asked m) x) _ _ (le-ltb (asked m) x (omega arith)))

    turn_end : (k low high m : ℕ) → high ≤ low → to k low high m ≡ lookup low n
    unfolding halves answered
    turn_end zero low high m h = refl
    turn_end (suc k) low high m h = ap (answered names) (passed (rank_left low high) _ _ (le-ltb low high h))

    -- ---- the loop of the search, in the words of the code: what it comes to from here is what the whole search comes to

    pub record Halving (whole : Lookup) (low high m : ℕ) : Type 0 where
      pub left : ℕ
      pub fits : Fits left low high m
      pub least : low ≤ high
      pub most : high ≤ n
      pub few : n ≤ 256
      pub is : to left low high m ≡ whole

pub halving_start : {names : ℕ → ℕ} {order : List ℕ} {n x first : ℕ} → n ≤ 256 → first ≤ n - 1 →
    Halving names order n x (answered names (look_up order n first x)) 0 n first
unfolding look_up
halving_start {names} {order} {n} {x} {first} h f =
    record { left = most_names; fits = fits_start n first h f; least = omega arith; most = omega arith; few = h; is = refl }

module _ {names : ℕ → ℕ} {order : List ℕ} {n x : ℕ} {whole : Lookup} {low high m : ℕ} (g : Halving names order n x whole low high m) where
  pub halving_end : high ≤ low → lookup low n ≡ whole
  halving_end h = sym (turn_end names order n x g.left low high m h) ∙ g.is

  module _ (h : low < high) where
    pub halving_inside : (low ≤ m) × (m < high) × (high ≤ 256)
    halving_inside = go g.left g.fits
      where
        go : (k : ℕ) → Fits k low high m → (low ≤ m) × (m < high) × (high ≤ 256)
        go zero f = absurd (omega arith)
        go (suc k) f = ((f h).0, (f h).1, omega (arith, g.most, g.few))

    module _ {p : ℕ} (b : p ≡ get_or order m 0) where
      pub halving_found : names p ≡ x → lookup m p ≡ whole
      halving_found e = go g.left g.fits g.is
        where
          go : (k : ℕ) → Fits k low high m → to names order n x k low high m ≡ whole → lookup m p ≡ whole
          go zero f q = absurd (omega arith)
          go (suc k) f q = ap (lookup m) b ∙ sym (turn_found names order n x k low high m h (ap names (sym b) ∙ e)) ∙ q

      pub halving_up : names p < x → {m' : ℕ} → m' ≡ (m + 1 + high) / 2 → Halving names order n x whole (m + 1) high m'
      halving_up l {m'} e = go g.left g.fits g.is
        where
          go : (k : ℕ) → Fits k low high m → to names order n x k low high m ≡ whole → Halving names order n x whole (m + 1) high m'
          go zero f q = absurd (omega arith)
          go (suc k) f q =
              record {
                left = k;
                fits = fits_up k low high m h f e;
                least = omega (arith, (f h).1);
                most = g.most;
                few = g.few;
                is = ap (to names order n x k (m + 1) high) e ∙ sym (turn_up names order n x k low high m h (subst (λ (y : ℕ). names y < x) b l)) ∙ q;
              }

      pub halving_down : x < names p → {m' : ℕ} → m' ≡ (low + m) / 2 → Halving names order n x whole low m m'
      halving_down l {m'} e = go g.left g.fits g.is
        where
          go : (k : ℕ) → Fits k low high m → to names order n x k low high m ≡ whole → Halving names order n x whole low m m'
          go zero f q = absurd (omega arith)
          go (suc k) f q =
              record {
                left = k;
                fits = fits_down k low high m h f e;
                least = (f h).0;
                most = omega (arith, (f h).1, g.most);
                few = g.few;
                is = ap (to names order n x k low m) e ∙ sym (turn_down names order n x k low high m h (subst (λ (y : ℕ). x < names y) b l)) ∙ q;
              }

-- ---- in an order it finds what is there

pub three_ways : (a b : ℕ) → (a < b) ⊎ ((a ≡ b) ⊎ (b < a))
three_ways a b = go (ltb a b) (ltb b a) refl refl
  where
    go : (l g : Bool) → ltb a b ≡ l → ltb b a ≡ g → (a < b) ⊎ ((a ≡ b) ⊎ (b < a))
    go true g e f = inl (ltb-true a b e)
    go false true e f = inr (inr (ltb-true b a f))
    go false false e f = inr (inl (omega (arith, ltb-false a b e, ltb-false b a f)))

module _ {names : ℕ → ℕ} {n : ℕ} {order : List ℕ} (o : InOrder names n order) (x : ℕ) where
  abbrev name : ℕ → ℕ
  name i = names (get_or order i 0)

  -- the names below rank low are lower than x, those from rank high on are higher
  pub record Between (low high : ℕ) : Type 0 where
    pub lower : (i : ℕ) → i < low → name i < x
    pub higher : (i : ℕ) → high ≤ i → i < n → x < name i

  lower_to : (m : ℕ) → m < n → name m < x → (i : ℕ) → i < m + 1 → name i < x
  lower_to m h l i b = go (three_ways i m)
    where
      go : (i < m) ⊎ ((i ≡ m) ⊎ (m < i)) → name i < x
      go (inl q) = omega (arith, o.rising i m q h)
      go (inr (inl q)) = subst (λ (j : ℕ). name j < x) (sym q) l
      go (inr (inr q)) = absurd (omega arith)

  higher_from : (m : ℕ) → x < name m → (i : ℕ) → m ≤ i → i < n → x < name i
  higher_from m l i b h = go (three_ways m i)
    where
      go : (m < i) ⊎ ((m ≡ i) ⊎ (i < m)) → x < name i
      go (inl q) = omega (arith, o.rising m i q h)
      go (inr (inl q)) = subst (λ (j : ℕ). x < name j) q l
      go (inr (inr q)) = absurd (omega arith)

  none_there : (low high : ℕ) → low ≤ high → high ≤ low → high ≤ n → Between low high → LookedUp names n order x (lookup low n)
  none_there low high l h m b =
      record {
        most = omega arith;
        rank_most = omega arith;
        there = λ z. absurd (omega arith);
        below = λ _. b.lower;
        above = λ _ i p. b.higher i (omega arith);
      }

  abbrev found_from : ℕ → ℕ → ℕ → ℕ → Type 0
  found_from k low high m = LookedUp names n order x (answered names (halves k order n x low high m))

  abbrev Finds : ℕ → Type 0
  Finds k = (low high m : ℕ) → low ≤ high → high ≤ n → Fits k low high m → Between low high → found_from k low high m

  one_more : (k : ℕ) → Finds k → Finds (suc k)
  one_more k finds low high m l h f b = go (three_ways low high)
    where
      turn : low < high → (name m < x) ⊎ ((name m ≡ x) ⊎ (x < name m)) → found_from (suc k) low high m
      turn q (inl e) =
          subst (LookedUp names n order x) (sym (turn_up names order n x k low high m q e))
          (finds (m + 1) high ((m + 1 + high) / 2) (omega (arith, (f q).1)) h (fits_up k low high m q f refl)
          (record { lower = lower_to m (omega (arith, (f q).1)) e; higher = b.higher }))
      turn q (inr (inl e)) =
          let in_table : get_or order m 0 < n = o.within m (omega (arith, (f q).1)) in
          subst (LookedUp names n order x) (sym (turn_found names order n x k low high m q e))
          (record {
            most = omega arith;
            rank_most = omega (arith, (f q).1);
            there = λ _. (e, omega (arith, (f q).1));
            below = λ z. absurd (omega arith);
            above = λ z. absurd (omega arith);
          })
      turn q (inr (inr e)) =
          subst (LookedUp names n order x) (sym (turn_down names order n x k low high m q e))
          (finds low m ((low + m) / 2) (f q).0 (omega (arith, (f q).1)) (fits_down k low high m q f refl)
          (record { lower = b.lower; higher = higher_from m e }))

      go : (low < high) ⊎ ((low ≡ high) ⊎ (high < low)) → found_from (suc k) low high m
      go (inl q) = turn q (three_ways (name m) x)
      go (inr (inl q)) =
          subst (LookedUp names n order x) (sym (turn_end names order n x (suc k) low high m (omega arith)))
          (none_there low high l (omega arith) h b)
      go (inr (inr q)) = absurd (omega arith)

  finds : (k : ℕ) → Finds k
  finds zero low high m =
      λ l h f b.
      subst (LookedUp names n order x) (sym (turn_end names order n x 0 low high m f)) (none_there low high l f h b)
  finds (suc k) low high m = one_more k (finds k) low high m

  -- at most 256 names: nine suffice, wherever the lookup begins
  pub looked_up : (first : ℕ) → n ≤ 256 → first ≤ n - 1 → LookedUp names n order x (answered names (look_up order n first x))
  unfolding look_up
  looked_up first h f =
      finds most_names 0 n first (omega arith) (omega arith) (fits_start n first h f)
      (record { lower = λ i z. absurd (omega arith); higher = λ i z q. absurd (omega arith) })

  -- where the lookup tells n, the name is none of the n
  pub looked_nowhere : {r : Lookup} → LookedUp names n order x r → n ≤ r.position → (p : ℕ) → p < n → names p ≢ x
  looked_nowhere {r} u h p q e =
      let i : ℕ = o.rank_of p in
      let at : name i ≡ x = ap names (o.ranked p q).1 ∙ e in
      go (ltb i r.rank) refl at
    where
      go : (b : Bool) → ltb (o.rank_of p) r.rank ≡ b → name (o.rank_of p) ≡ x → ⊥
      go true f at = absurd_less _ _ at (u.below h (o.rank_of p) (ltb-true _ _ f))
      go false f at = absurd_less _ _ (sym at) (u.above h (o.rank_of p) (ltb-false _ _ f) (o.ranked p q).0)

-- the same order is one of other names that agree where it looks
pub in_order_by : {a b : ℕ → ℕ} {n : ℕ} {order : List ℕ} → ((p : ℕ) → p < n → a p ≡ b p) → InOrder a n order → InOrder b n order
in_order_by {a} {b} {n} {order} s o =
    record {
      rank_of = o.rank_of;
      ranked = o.ranked;
      within = o.within;
      rising =
          λ i j l h.
          omega (arith, o.rising i j l h, s (get_or order i 0) (o.within i (omega arith)), s (get_or order j 0) (o.within j h));
    }

-- and so is another list with the same positions
pub in_order_same : {names : ℕ → ℕ} {n : ℕ} {order other : List ℕ} → ((i : ℕ) → i < n → get_or other i 0 ≡ get_or order i 0) →
    InOrder names n order → InOrder names n other
in_order_same {names} {n} {order} {other} s o =
    record {
      rank_of = o.rank_of;
      ranked = λ p h. ((o.ranked p h).0, s (o.rank_of p) (o.ranked p h).0 ∙ (o.ranked p h).1);
      within = λ i h. omega (arith, s i h, o.within i h);
      rising = λ i j l h. omega (arith, ap names (s i (omega arith)), ap names (s j h), o.rising i j l h);
    }

-- no names are in any order
pub in_order_none : (names : ℕ → ℕ) (order : List ℕ) → InOrder names 0 order
in_order_none names order =
    record {
      rank_of = λ p. p;
      ranked = λ p h. absurd (omega arith);
      within = λ i h. absurd (omega arith);
      rising = λ i j l h. absurd (omega arith);
    }
