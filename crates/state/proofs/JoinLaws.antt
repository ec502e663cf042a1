-- Tables of symbols, without cells: where a name stands, and how a symbol joins.
use Prim.Native.Nat.{ℕ, zero, suc, ◌+◌, ◌^◌, ◌≤◌, ◌<◌, max}
use mathlib.Core.Bool.{Bool, true, false, cond, not, ◌&&◌, ◌||◌, or-true}
use mathlib.Core.List.{List, [], ◌∷◌}
use mathlib.Core.Logic.{◌≢◌}
use mathlib.Core.Path.{◌≡◌, refl, sym, ap, ◌∙◌}
use native.Mathlib.Nat.{not-suc-le-zero, le_of_suc-le-suc}
use native.Mathlib.Numerals.{add-one}
use native.Mathlib.Omega.{arith}
use borrow.Author.Tests.{ltb-true, ltb-false, lt-ltb, eqb-true, eqb-false, eq-eqb, ne_eqb, not-true}
use lib.ListN.{length, get_or}
use lib.Dec.{eqb, ltb}
use Rattle.rules.specs.Text.{all, any}
use Rattle.rules.specs.State.{Symbol, symbol, name_is, is_symbol, position_of, different_names, Word, unplaced, plain, refers, sound_word, State}
use Rattle.rules.specs.Placing.{define, mention}
use Rattle.rules.specs.Calls.{with_symbols}
use Rattle.rules.proofs.BoolLaws.{never}
use Rattle.state.specs.Good.{sound_value, Tidy}
use Rattle.state.specs.Table.{no_symbol, Position}
use Rattle.state.proofs.BoolLaws.{both, first, second, neither, not_first, not_second, or_false}
use Rattle.state.proofs.ListLaws.{put, length_put, all_weaken}

-- ---- define and mention put a symbol at its name's position

pub define_put : (x v : ℕ) (t : List Symbol) → define x v t ≡ put (position_of x t) (symbol x v true) t
unfolding define position_of
define_put x v [] = refl
define_put x v (s ∷ t) = go (eqb s.name x) (define_put x v t)
  where
    go : (b : Bool) → define x v t ≡ put (position_of x t) (symbol x v true) t → cond b (symbol x v true ∷ t) (s ∷ define x v t) ≡ put (cond b 0 (position_of x t + 1)) (symbol x v true) (s ∷ t)
    go true e = refl
    go false e = rw (add-one (position_of x t), e)

pub mention_known : (x : ℕ) (t : List Symbol) → position_of x t < length t → mention x t ≡ t
unfolding mention position_of
mention_known x [] h = absurd (not-suc-le-zero h)
mention_known x (s ∷ t) h = go (eqb s.name x) (mention_known x t) h
  where
    go : (b : Bool) → (position_of x t < length t → mention x t ≡ t) → cond b 0 (position_of x t + 1) < suc (length t) → cond b (s ∷ t) (s ∷ mention x t) ≡ s ∷ t
    go true e h = refl
    go false e h = ap (λ (r : List Symbol). s ∷ r) (e (omega arith))

pub mention_new : (x : ℕ) (t : List Symbol) → length t ≤ position_of x t → mention x t ≡ put (position_of x t) (symbol x 0 false) t
unfolding mention position_of
mention_new x [] h = refl
mention_new x (s ∷ t) h = go (eqb s.name x) (mention_new x t) h
  where
    go : (b : Bool) → (length t ≤ position_of x t → mention x t ≡ put (position_of x t) (symbol x 0 false) t) → suc (length t) ≤ cond b 0 (position_of x t + 1) → cond b (s ∷ t) (s ∷ mention x t) ≡ put (cond b 0 (position_of x t + 1)) (symbol x 0 false) (s ∷ t)
    go true e h = absurd (not-suc-le-zero h)
    go false e h = rw (add-one (position_of x t), e (omega arith))

pub position_most : (x : ℕ) (t : List Symbol) → position_of x t ≤ length t
unfolding position_of
position_most x [] = omega arith
position_most x (s ∷ t) = go (eqb s.name x) (position_most x t)
  where
    go : (b : Bool) → position_of x t ≤ length t → cond b 0 (position_of x t + 1) ≤ suc (length t)
    go true e = omega arith
    go false e = omega arith

-- where a name stands, there is its position, since no other symbol has it
pub position_there : (t : List Symbol) (x i : ℕ) → different_names t ≡ true → i < length t → (get_or t i no_symbol).name ≡ x → position_of x t ≡ i
unfolding different_names position_of is_symbol any
position_there [] x i d h e = absurd (not-suc-le-zero h)
position_there (s ∷ t) x zero d h e = rw (eq-eqb s.name x e)
position_there (s ∷ t) x (suc i) d h e =
    go (eqb s.name x) refl (position_there t x i (second (not (any (name_is s.name) t)) (different_names t) d) (le_of_suc-le-suc h) e)
  where
    stands : (r : List Symbol) (k : ℕ) → k < length r → (get_or r k no_symbol).name ≡ x → any (name_is x) r ≡ true
    stands [] k l q = absurd (not-suc-le-zero l)
    stands (u ∷ r) zero l q = rw (eq-eqb u.name x q)
    stands (u ∷ r) (suc k) l q = rw (stands r k (le_of_suc-le-suc l) q) (or-true (eqb u.name x))

    go : (b : Bool) → eqb s.name x ≡ b → position_of x t ≡ i → cond b 0 (position_of x t + 1) ≡ suc i
    go true q rest =
        never
        (first (not (any (name_is s.name) t)) (different_names t) d)
        (ap (λ (y : ℕ). not (any (name_is y) t)) (eqb-true s.name x q) ∙ ap not (stands t i (le_of_suc-le-suc h) e))
    go false q rest = omega (arith, rest)

-- at a name's position stands the name
pub name_at_place : (x : ℕ) (t : List Symbol) → position_of x t < length t → (get_or t (position_of x t) no_symbol).name ≡ x
unfolding position_of
name_at_place x [] h = absurd (not-suc-le-zero h)
name_at_place x (s ∷ t) h = go (eqb s.name x) refl (name_at_place x t) h
  where
    go : (b : Bool) → eqb s.name x ≡ b → (position_of x t < length t → (get_or t (position_of x t) no_symbol).name ≡ x) → cond b 0 (position_of x t + 1) < suc (length t) → (get_or (s ∷ t) (cond b 0 (position_of x t + 1)) no_symbol).name ≡ x
    go true q f l = eqb-true s.name x q
    go false q f l = rw (add-one (position_of x t)) (f (omega arith))

-- ---- what a search of the names has to show

pub position_known : {t : List Symbol} {x i : ℕ} → different_names t ≡ true → i < length t → (get_or t i no_symbol).name ≡ x → Position x t i
position_known {t} {x} {i} d h e = record { most = omega arith; is = sym (position_there t x i d h e) }

pub position_nowhere : {t : List Symbol} {x : ℕ} → ((i : ℕ) → i < length t → (get_or t i no_symbol).name ≢ x) → Position x t (length t)
position_nowhere {t} {x} f = go (ltb (position_of x t) (length t)) refl (position_most x t)
  where
    go : (b : Bool) → ltb (position_of x t) (length t) ≡ b → position_of x t ≤ length t → Position x t (length t)
    go true e m =
        let h : position_of x t < length t = ltb-true (position_of x t) (length t) e in
        absurd (f (position_of x t) h (name_at_place x t h))
    go false e m =
        let h = ltb-false (position_of x t) (length t) e in
        record { most = omega arith; is = omega arith }

-- a table only grows
pub define_length : (x v : ℕ) (t : List Symbol) → length (define x v t) ≡ max (length t) (position_of x t + 1)
define_length x v t =
    ap length (define_put x v t) ∙ length_put (position_of x t) (symbol x v true) t (position_most x t)

pub mention_length : (x : ℕ) (t : List Symbol) → length (mention x t) ≡ max (length t) (position_of x t + 1)
mention_length x t = go (ltb (position_of x t) (length t)) refl
  where
    go : (b : Bool) → ltb (position_of x t) (length t) ≡ b → length (mention x t) ≡ max (length t) (position_of x t + 1)
    go true e =
        let h = ltb-true (position_of x t) (length t) e in
        ap length (mention_known x t h) ∙ omega arith
    go false e =
        ap length (mention_new x t (ltb-false (position_of x t) (length t) e))
        ∙ length_put (position_of x t) (symbol x 0 false) t (position_most x t)

-- ---- a tidy table stays tidy

module _ (x v : ℕ) (d : Bool) where
  abbrev new : Symbol
  new = symbol x v d

  all_put : (p : Symbol → Bool) (i : ℕ) (t : List Symbol) → p new ≡ true → all p t ≡ true → all p (put i new t) ≡ true
  unfolding all
  all_put p zero [] n e = both (p new) true n refl
  all_put p (suc i) [] n e = both (p new) true n refl
  all_put p zero (s ∷ t) n e = both (p new) (all p t) n (second (p s) (all p t) e)
  all_put p (suc i) (s ∷ t) n e = both (p s) (all p (put i new t)) (first (p s) (all p t) e) (all_put p i t n (second (p s) (all p t) e))

  -- no other name comes in
  put_other : (y : ℕ) (t : List Symbol) → x ≢ y → is_symbol y t ≡ false → is_symbol y (put (position_of x t) new t) ≡ false
  unfolding is_symbol any position_of
  put_other y [] n e = rw (ne_eqb x y n)
  put_other y (s ∷ t) n e = go (eqb s.name x) (put_other y t n) e
    where
      go : (b : Bool) → (any (name_is y) t ≡ false → any (name_is y) (put (position_of x t) new t) ≡ false) → name_is y s || any (name_is y) t ≡ false → any (name_is y) (put (cond b 0 (position_of x t + 1)) new (s ∷ t)) ≡ false
      go true f e = neither (eqb x y) (any (name_is y) t) (ne_eqb x y n) (not_second (name_is y s) (any (name_is y) t) e)
      go false f e =
          rw (add-one (position_of x t))
          (neither (name_is y s) (any (name_is y) (put (position_of x t) new t))
          (not_first (name_is y s) (any (name_is y) t) e)
          (f (not_second (name_is y s) (any (name_is y) t) e)))

  put_different : (t : List Symbol) → different_names t ≡ true → different_names (put (position_of x t) new t) ≡ true
  unfolding different_names position_of is_symbol any
  put_different [] e = refl
  put_different (s ∷ t) e = go (eqb s.name x) refl (put_different t (second (not (is_symbol s.name t)) (different_names t) e))
    where
      go : (b : Bool) → eqb s.name x ≡ b → different_names (put (position_of x t) new t) ≡ true → different_names (put (cond b 0 (position_of x t + 1)) new (s ∷ t)) ≡ true
      go true q f = ap (λ (y : ℕ). not (is_symbol y t) && different_names t) (sym (eqb-true s.name x q)) ∙ e
      go false q f =
          rw (add-one (position_of x t))
          (both (not (is_symbol s.name (put (position_of x t) new t))) (different_names (put (position_of x t) new t))
          (ap not
          (put_other s.name t (λ z. eqb-false s.name x q (sym z))
          (not-true (is_symbol s.name t) (first (not (is_symbol s.name t)) (different_names t) e))))
          f)

more_symbols : (n m : ℕ) → n ≤ m → (w : Word) → sound_word n w ≡ true → sound_word m w ≡ true
unfolding sound_word
more_symbols n m h unplaced e = refl
more_symbols n m h (plain x) e = e
more_symbols n m h (refers x i) e =
    let l : i < n = ltb-true i n (second (ltb x (2 ^ 64)) (ltb i n) e) in
    both (ltb x (2 ^ 64)) (ltb i m) (first (ltb x (2 ^ 64)) (ltb i n) e) (lt-ltb i m (omega arith))

-- a symbol at its name's position: the state is as tidy as before
pub put_tidy : (s : State) → Tidy s → (x v : ℕ) (d : Bool) → sound_value (symbol x v d) ≡ true → position_of x s.symbols < 256 → Tidy (with_symbols (put (position_of x s.symbols) (symbol x v d) s.symbols) s)
put_tidy s y x v d e h =
    let t = s.symbols in
    let long : length (put (position_of x t) (symbol x v d) t) ≡ max (length t) (position_of x t + 1) = length_put (position_of x t) (symbol x v d) t (position_most x t) in
    record {
      few = omega (arith, y.few);
      values = all_put x v d sound_value (position_of x t) t e y.values;
      different = put_different x v d t y.different;
      full = y.full;
      words = all_weaken (sound_word (length t)) (sound_word (length (put (position_of x t) (symbol x v d) t))) (more_symbols (length t) (length (put (position_of x t) (symbol x v d) t)) (omega arith)) s.words y.words;
      low = y.low;
    }

-- ---- a name in a table of different names stands once

module _ (x : ℕ) (q : Symbol → Bool) where
  not_there : (t : List Symbol) → is_symbol x t ≡ false → any (λ s. name_is x s && q s) t ≡ false
  unfolding any is_symbol
  not_there [] e = refl
  not_there (s ∷ t) e =
      neither (name_is x s && q s) (any (λ s. name_is x s && q s) t)
      (ap (λ (b : Bool). b && q s) (not_first (name_is x s) (any (name_is x) t) e))
      (not_there t (not_second (name_is x s) (any (name_is x) t) e))

  pub at_place : (t : List Symbol) → different_names t ≡ true → position_of x t < length t → any (λ s. name_is x s && q s) t ≡ q (get_or t (position_of x t) no_symbol)
  unfolding any position_of different_names
  at_place [] e h = absurd (not-suc-le-zero h)
  at_place (s ∷ t) e h = go (eqb s.name x) refl (at_place t (second (not (is_symbol s.name t)) (different_names t) e)) h
    where
      go : (b : Bool) → eqb s.name x ≡ b → (position_of x t < length t → any (λ s. name_is x s && q s) t ≡ q (get_or t (position_of x t) no_symbol)) → cond b 0 (position_of x t + 1) < suc (length t) → (b && q s) || any (λ s. name_is x s && q s) t ≡ q (get_or (s ∷ t) (cond b 0 (position_of x t + 1)) no_symbol)
      go true p f h =
          ap (λ (b : Bool). q s || b)
          (not_there t
          (ap (λ (y : ℕ). is_symbol y t) (sym (eqb-true s.name x p))
          ∙ not-true (is_symbol s.name t) (first (not (is_symbol s.name t)) (different_names t) e)))
          ∙ or_false (q s)
      go false p f h = rw (add-one (position_of x t)) (f (omega arith))

  pub at_no_place : (t : List Symbol) → length t ≤ position_of x t → any (λ s. name_is x s && q s) t ≡ false
  unfolding any position_of
  at_no_place [] h = refl
  at_no_place (s ∷ t) h = go (eqb s.name x) (at_no_place t) h
    where
      go : (b : Bool) → (length t ≤ position_of x t → any (λ s. name_is x s && q s) t ≡ false) → suc (length t) ≤ cond b 0 (position_of x t + 1) → (b && q s) || any (λ s. name_is x s && q s) t ≡ false
      go true f h = absurd (not-suc-le-zero h)
      go false f h = f (omega arith)
