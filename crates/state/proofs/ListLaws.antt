-- Lists that are read and changed at an offset, tables with zeros behind them, and the numbers of a range.
use Prim.Native.Nat.{ℕ, zero, suc, ◌+◌, ◌-◌, ◌≤◌, ◌<◌, max}
use mathlib.Core.Bool.{Bool, true, false, ◌&&◌}
use mathlib.Core.List.{List, [], ◌∷◌, ◌++◌, map}
use mathlib.Core.Path.{◌≡◌, refl, sym, ap, ap₂, ◌∙◌}
use native.Mathlib.Nat.{zero-add, suc-add, sub-zero, suc-sub-suc, not-suc-le-zero, le_of_suc-le-suc}
use native.Mathlib.Omega.{arith}
use lib.ListN.{length, get_or, set, replicate, take, drop, length-append, length-replicate, length-map, replicate-append-replicate}
use lib.Seq.{get_or-append-add, ext_get_or}
use Rattle.std.proofs.lemmas.List.{length-take, length-drop, get_or-take, get_or-drop}
use Rattle.rules.specs.Text.{all}
use Rattle.state.proofs.BoolLaws.{both, first, second}
use Rattle.state.specs.Layout.{zeros, padded, numbers, range}

-- ---- behind a part p of a list

module _ {A : Type 0} where
  set_add : (p q : List A) (i : ℕ) (v : A) → set (p ++ q) (length p + i) v ≡ p ++ set q i v
  set_add [] q i v = ap (λ (k : ℕ). set q k v) (zero-add i)
  set_add (x ∷ p) q i v =
      ap (λ (k : ℕ). set (x ∷ (p ++ q)) k v) (suc-add (length p) i) ∙ ap (λ (l : List A). x ∷ l) (set_add p q i v)

  pub set_behind : (p q : List A) (i k : ℕ) (v : A) → k ≡ length p + i → set (p ++ q) k v ≡ p ++ set q i v
  set_behind p q i k v e = ap (λ (j : ℕ). set (p ++ q) j v) e ∙ set_add p q i v

  pub get_or_behind : (p q : List A) (i k : ℕ) (d : A) → k ≡ length p + i → get_or (p ++ q) k d ≡ get_or q i d
  get_or_behind p q i k d e = ap (λ (j : ℕ). get_or (p ++ q) j d) e ∙ get_or-append-add p q i d

  -- ---- an element put at its position, or at the end of a shorter list

  abbrev pub put : ℕ → A → List A → List A
  put zero a [] = a ∷ []
  put (suc i) a [] = a ∷ []
  put zero a (x ∷ l) = a ∷ l
  put (suc i) a (x ∷ l) = x ∷ put i a l

  pub length_put : (i : ℕ) (a : A) (l : List A) → i ≤ length l → length (put i a l) ≡ max (length l) (i + 1)
  length_put zero a [] h = refl
  length_put (suc i) a [] h = absurd (not-suc-le-zero h)
  length_put zero a (x ∷ l) h = omega arith
  length_put (suc i) a (x ∷ l) h =
      let e : length (put i a l) ≡ max (length l) (i + 1) = length_put i a l (le_of_suc-le-suc h) in
      omega arith

pub map_put : {A B : Type 0} (f : A → B) (i : ℕ) (a : A) (l : List A) → map f (put i a l) ≡ put i (f a) (map f l)
map_put f zero a [] = refl
map_put f (suc i) a [] = refl
map_put f zero a (x ∷ l) = refl
map_put {B = B} f (suc i) a (x ∷ l) = ap (λ (r : List B). f x ∷ r) (map_put f i a l)

pub map_set : {A B : Type 0} (f : A → B) (i : ℕ) (a : A) (l : List A) → map f (set l i a) ≡ set (map f l) i (f a)
map_set f i a [] = refl
map_set f zero a (x ∷ l) = refl
map_set {B = B} f (suc i) a (x ∷ l) = ap (λ (r : List B). f x ∷ r) (map_set f i a l)

pub map_last : {A B : Type 0} (f : A → B) (l : List A) (x : A) → map f (l ++ (x ∷ [])) ≡ map f l ++ (f x ∷ [])
map_last f [] x = refl
map_last {B = B} f (y ∷ l) x = ap (λ (r : List B). f y ∷ r) (map_last f l x)

pub map_replicate : {A B : Type 0} (f : A → B) (n : ℕ) (a : A) → map f (replicate n a) ≡ replicate n (f a)
map_replicate f zero a = refl
map_replicate {B = B} f (suc n) a = ap (λ (r : List B). f a ∷ r) (map_replicate f n a)

-- ---- zeros behind a list

pub length_zeros : (n : ℕ) → length (zeros n) ≡ n
unfolding zeros
length_zeros n = length-replicate n 0

pub zeros_add : (m n : ℕ) → zeros m ++ zeros n ≡ zeros (m + n)
unfolding zeros
zeros_add m n = replicate-append-replicate m n 0

get_or_zeros : (n i : ℕ) → get_or (zeros n) i 0 ≡ 0
unfolding zeros
get_or_zeros zero i = refl
get_or_zeros (suc n) zero = refl
get_or_zeros (suc n) (suc i) = get_or_zeros n i

get_or_append_zeros : (l : List ℕ) (n i : ℕ) → get_or (l ++ zeros n) i 0 ≡ get_or l i 0
get_or_append_zeros [] n i = get_or_zeros n i
get_or_append_zeros (x ∷ l) n zero = refl
get_or_append_zeros (x ∷ l) n (suc i) = get_or_append_zeros l n i

pub get_or_padded : (n : ℕ) (l : List ℕ) (i : ℕ) → get_or (padded n l) i 0 ≡ get_or l i 0
unfolding padded
get_or_padded n l i = get_or_append_zeros l (n - length l) i

pub length_padded : (n : ℕ) (l : List ℕ) → length l ≤ n → length (padded n l) ≡ n
unfolding padded
length_padded n l h = simp (length-append, length_zeros) (omega arith)

put_padded : (n : ℕ) (l : List ℕ) (i a : ℕ) → i ≤ length l → i < n → set (l ++ zeros (n - length l)) i a ≡ put i a l ++ zeros (n - length (put i a l))
unfolding zeros
put_padded zero l i a h b = absurd (not-suc-le-zero b)
put_padded (suc n) [] zero a h b = rw (sub-zero, suc-sub-suc n 0, sub-zero)
put_padded (suc n) [] (suc i) a h b = absurd (not-suc-le-zero h)
put_padded (suc n) (x ∷ l) zero a h b = refl
put_padded (suc n) (x ∷ l) (suc i) a h b =
    rw (suc-sub-suc n (length l), suc-sub-suc n (length (put i a l)))
    (ap (λ (r : List ℕ). x ∷ r) (put_padded n l i a (le_of_suc-le-suc h) (le_of_suc-le-suc b)))

-- a store into a table is one into the list, or at its end
pub set_padded : (n : ℕ) (l : List ℕ) (i a : ℕ) → i ≤ length l → i < n → set (padded n l) i a ≡ padded n (put i a l)
unfolding padded
set_padded n l i a h b = put_padded n l i a h b

-- ---- the numbers of a range

pub range_step : (a b : ℕ) → a < b → range a b ≡ a ∷ range (a + 1) b
unfolding range numbers
range_step a b h =
    let e : b - a ≡ suc (b - (a + 1)) = omega arith in
    ap (numbers a) e

pub range_end : (a b : ℕ) → b ≤ a → range a b ≡ []
unfolding range numbers
range_end a b h =
    let e : b - a ≡ 0 = omega arith in
    ap (numbers a) e

numbers_last : (a n : ℕ) → numbers a (suc n) ≡ numbers a n ++ ((a + n) ∷ [])
unfolding numbers
numbers_last a zero = ap (λ (k : ℕ). k ∷ []) (omega arith)
numbers_last a (suc n) =
    ap (λ (l : List ℕ). a ∷ l) (numbers_last (a + 1) n ∙ ap (λ (k : ℕ). numbers (a + 1) n ++ (k ∷ [])) (omega arith))

pub range_last : (b : ℕ) → range 0 (b + 1) ≡ range 0 b ++ (b ∷ [])
unfolding range
range_last b =
    ap (numbers 0) (omega arith) ∙ numbers_last 0 b ∙ ap₂ (λ (m k : ℕ). numbers 0 m ++ (k ∷ [])) (omega arith) (omega arith)

length_numbers : (a n : ℕ) → length (numbers a n) ≡ n
unfolding numbers
length_numbers a zero = refl
length_numbers a (suc n) = ap suc (length_numbers (a + 1) n)

pub length_range : (a b : ℕ) → length (range a b) ≡ b - a
unfolding range
length_range a b = length_numbers a (b - a)

module _ {A : Type 0} (f : ℕ → A) where
  get_or_numbers : (a n k : ℕ) (d : A) → k < n → get_or (map f (numbers a n)) k d ≡ f (a + k)
  unfolding numbers
  get_or_numbers a zero k d h = absurd (not-suc-le-zero h)
  get_or_numbers a (suc n) zero d h = ap f (omega arith)
  get_or_numbers a (suc n) (suc k) d h = get_or_numbers (a + 1) n k d (le_of_suc-le-suc h) ∙ ap f (omega arith)

  pub length_map_range : (a b : ℕ) → length (map f (range a b)) ≡ b - a
  length_map_range a b = length-map (range a b) f ∙ length_range a b

  pub get_or_map_range : (b k : ℕ) (d : A) → k < b → get_or (map f (range 0 b)) k d ≡ f k
  unfolding range
  get_or_map_range b k d h = get_or_numbers 0 (b - 0) k d (omega arith) ∙ ap f (omega arith)

  -- a list is what f gives at its positions
  pub map_range : (l : List A) (b : ℕ) (d : A) → b ≡ length l → ((k : ℕ) → k < b → f k ≡ get_or l k d) → map f (range 0 b) ≡ l
  map_range l b d e h =
      ext_get_or d (map f (range 0 b)) l (length_map_range 0 b ∙ omega arith)
      (λ k i. let j : k < b = omega (arith, length_map_range 0 b) in get_or_map_range b k d j ∙ h k j)

-- ---- a test at each number of a range

module _ (p : ℕ → Bool) where
  -- a loop stands at a, and what it has still to test comes to r: it fails, passes, or ends
  pub each_stop : (a b : ℕ) (r : Bool) → all p (range a b) ≡ r → a < b → p a ≡ false → false ≡ r
  unfolding all
  each_stop a b r e h t = sym (rw (range_step, t)) ∙ e

  pub each_on : (a b : ℕ) (r : Bool) → all p (range a b) ≡ r → a < b → p a ≡ true → all p (range (a + 1) b) ≡ r
  unfolding all
  each_on a b r e h t = sym (rw (range_step, t)) ∙ e

  pub each_end : (a b : ℕ) (r : Bool) → all p (range a b) ≡ r → b ≤ a → true ≡ r
  unfolding all
  each_end a b r e h = sym (rw range_end) ∙ e

  all_numbers : (a n : ℕ) → all p (numbers a n) ≡ true → (i : ℕ) → i < n → p (a + i) ≡ true
  unfolding all numbers
  all_numbers a zero e i h = absurd (not-suc-le-zero h)
  all_numbers a (suc n) e zero h = ap p (omega arith) ∙ first (p a) (all p (numbers (a + 1) n)) e
  all_numbers a (suc n) e (suc i) h =
      ap p (omega arith)
      ∙ all_numbers (a + 1) n (second (p a) (all p (numbers (a + 1) n)) e) i (le_of_suc-le-suc h)

  numbers_all : (a n : ℕ) → ((i : ℕ) → i < n → p (a + i) ≡ true) → all p (numbers a n) ≡ true
  unfolding all numbers
  numbers_all a zero h = refl
  numbers_all a (suc n) h =
      both (p a) (all p (numbers (a + 1) n)) (ap p (omega arith) ∙ h 0 (omega arith))
      (numbers_all (a + 1) n (λ i b. ap p (omega arith) ∙ h (suc i) (omega arith)))

  pub all_range : (a b : ℕ) → all p (range a b) ≡ true → (i : ℕ) → a ≤ i → i < b → p i ≡ true
  unfolding range
  all_range a b e i l h = ap p (omega arith) ∙ all_numbers a (b - a) e (i - a) (omega arith)

  pub range_all : (a b : ℕ) → ((i : ℕ) → a ≤ i → i < b → p i ≡ true) → all p (range a b) ≡ true
  unfolding range
  range_all a b h = numbers_all a (b - a) (λ i l. h (a + i) (omega arith) (omega arith))

pub all_map : {A B : Type 0} (p : B → Bool) (f : A → B) (l : List A) → all p (map f l) ≡ all (λ x. p (f x)) l
unfolding all
all_map p f [] = refl
all_map p f (x ∷ l) = ap (λ (t : Bool). p (f x) && t) (all_map p f l)

pub all_at : {A : Type 0} (p : A → Bool) (l : List A) (d : A) → all p l ≡ true → (i : ℕ) → i < length l → p (get_or l i d) ≡ true
unfolding all
all_at p [] d e i h = absurd (not-suc-le-zero h)
all_at p (x ∷ l) d e zero h = first (p x) (all p l) e
all_at p (x ∷ l) d e (suc i) h = all_at p l d (second (p x) (all p l) e) i (le_of_suc-le-suc h)

pub at_all : {A : Type 0} (p : A → Bool) (l : List A) (d : A) → ((i : ℕ) → i < length l → p (get_or l i d) ≡ true) → all p l ≡ true
unfolding all
at_all p [] d h = refl
at_all p (x ∷ l) d h = both (p x) (all p l) (h 0 (omega arith)) (at_all p l d (λ i b. h (suc i) (omega arith)))

pub all_weaken : {A : Type 0} (p q : A → Bool) → ((x : A) → p x ≡ true → q x ≡ true) → (l : List A) → all p l ≡ true → all q l ≡ true
unfolding all
all_weaken p q h [] e = refl
all_weaken p q h (x ∷ l) e = both (q x) (all q l) (h x (first (p x) (all p l) e)) (all_weaken p q h l (second (p x) (all p l) e))

pub all_set : {A : Type 0} (p : A → Bool) (l : List A) (i : ℕ) (a : A) → p a ≡ true → all p l ≡ true → all p (set l i a) ≡ true
unfolding all
all_set p [] i a t e = refl
all_set p (x ∷ l) zero a t e = both (p a) (all p l) t (second (p x) (all p l) e)
all_set p (x ∷ l) (suc i) a t e = both (p x) (all p (set l i a)) (first (p x) (all p l) e) (all_set p l i a t (second (p x) (all p l) e))

pub all_replicate : {A : Type 0} (p : A → Bool) (n : ℕ) (a : A) → p a ≡ true → all p (replicate n a) ≡ true
unfolding all
all_replicate p zero a e = refl
all_replicate p (suc n) a e = both (p a) (all p (replicate n a)) e (all_replicate p n a e)

-- the cells from a on that lie below b, by their positions
module _ (cells : List ℕ) (a b : ℕ) where
  pub cell_in : (k : ℕ) → k < b - a → get_or (take (b - a) (drop a cells)) k 0 ≡ get_or cells (a + k) 0
  cell_in k l = get_or-take (b - a) (drop a cells) k 0 l ∙ get_or-drop a cells k 0

  pub region : b ≤ length cells → take (b - a) (drop a cells) ≡ map (λ i. get_or cells (a + i) 0) (range 0 (b - a))
  region h =
      sym
      (map_range (λ i. get_or cells (a + i) 0) (take (b - a) (drop a cells)) (b - a) 0
      (omega (arith, length-take (b - a) (drop a cells), length-drop a cells))
      (λ k l. sym (cell_in k l)))
