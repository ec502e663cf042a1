-- The laws of parts and of scans. A scan's loop keeps `past p i e l ≡ past p at e l`: what is left decides.
-- Assumes nothing.
use Prim.Native.Nat.{ℕ, zero, suc, ◌+◌, ◌-◌, ◌≤◌, ◌<◌, min}
use native.Mathlib.Nat.{add-zero}
use native.Mathlib.Numerals.{add-one}
use native.Mathlib.Omega.{arith}
use mathlib.Core.Bool.{Bool, true, false, cond, ◌&&◌}
use mathlib.Core.List.{List, [], ◌∷◌}
use mathlib.Core.Path.{◌≡◌, refl, sym, ap, ap₂, ◌∙◌}
use lib.ListN.{length, take, drop, get_or, length-take, length-drop}
use lib.Seq.{drop-cons, take-length, take-take, drop-drop, take-nil, get_or-take, get_or-drop}
use lib.Dec.{leb}
use Rattle.std.proofs.lemmas.Bool.{leb-true, leb-false}
use Rattle.std.proofs.lemmas.List.{take_all}
use borrow.Author.Tests.{le-leb, lt-leb}
use Rattle.rules.specs.Text.{between, all}
use Rattle.rules.proofs.TestLaws.{all_first, all_rest, all_at}
use Rattle.text.specs.Scan.{part, run, past, InFile, Found}

-- ---- parts

pub part_nil : (i e : ℕ) (l : List ℕ) → e ≤ i → part i e l ≡ []
unfolding part
part_nil i e l h = let k : e - i ≡ 0 = omega arith in rw k

pub part_cons : (i e : ℕ) (l : List ℕ) → i < e → e ≤ length l → part i e l ≡ get_or l i 0 ∷ part (i + 1) e l
unfolding part
part_cons i e l h g =
    let k : e - i ≡ suc (e - (i + 1)) = omega arith in
    let b : i < length l = omega arith in
    rw (k, drop-cons l i 0, add-one)

pub length_part : (i e : ℕ) (l : List ℕ) → e ≤ length l → length (part i e l) ≡ e - i
unfolding part
length_part i e l h = simp (length-take, length-drop) (omega arith)

-- a byte of a part is one of the text
pub all_part : (p : ℕ → Bool) (i e k : ℕ) (l : List ℕ) → all p (part i e l) ≡ true → i ≤ k → k < e → e ≤ length l → p (get_or l k 0) ≡ true
unfolding part
all_part p i e k l a h g m =
    let n : i + (k - i) ≡ k = omega arith in
    let b : get_or (part i e l) (k - i) 0 ≡ get_or l k 0 = get_or-take (e - i) (drop i l) (k - i) 0 (omega arith) ∙ get_or-drop i l (k - i) 0 ∙ ap (λ (j : ℕ). get_or l j 0) n in
    ap p (sym b) ∙ all_at p (part i e l) (k - i) 0 a (omega (arith, length_part i e l m))

pub part_all : (i : ℕ) (l : List ℕ) → part i (length l) l ≡ drop i l
unfolding part
part_all i l = rw (← (length-drop i l)) (take-length (drop i l))

pub part_front : (i k : ℕ) (l : List ℕ) → part i (i + k) l ≡ take k (drop i l)
unfolding part
part_front i k l = let e : i + k - i ≡ k = omega arith in rw e

pub take_part : (i e n : ℕ) (l : List ℕ) → n ≤ e - i → take n (part i e l) ≡ part i (i + n) l
unfolding part
take_part i e n l h = take-take n (e - i) (drop i l) h ∙ sym (part_front i n l)

drop_take : (n m : ℕ) (l : List ℕ) → drop n (take m l) ≡ take (m - n) (drop n l)
drop_take zero m l = let e : m - 0 ≡ m = omega arith in rw e
drop_take (suc n) zero l = let e : 0 - suc n ≡ 0 = omega arith in rw e
drop_take (suc n) (suc m) [] = sym (take-nil (suc m - suc n))
drop_take (suc n) (suc m) (b ∷ rest) = let e : suc m - suc n ≡ m - n = omega arith in rw e (drop_take n m rest)

pub drop_part : (i e n : ℕ) (l : List ℕ) → drop n (part i e l) ≡ part (i + n) e l
unfolding part
drop_part i e n l =
    let k : e - i - n ≡ e - (i + n) = omega arith in
    drop_take n (e - i) (drop i l) ∙ ap₂ take k (drop-drop n i l)

take_min : (n m : ℕ) (l : List ℕ) → take n (take m l) ≡ take (min n m) l
take_min n m l = go (leb n m) refl
  where
    go : (t : Bool) → leb n m ≡ t → take n (take m l) ≡ take (min n m) l
    go true e =
        let h = leb-true n m e in
        let k : n ≡ min n m = omega arith in
        take-take n m l h ∙ ap (λ (j : ℕ). take j l) k
    go false e =
        let h = leb-false n m e in
        let k : m ≡ min n m = omega arith in
        take_all n (take m l) (omega (arith, length-take m l)) ∙ ap (λ (j : ℕ). take j l) k

-- a part of a part
pub part_part : (f t i e : ℕ) (l : List ℕ) → part f t (part i e l) ≡ part (i + f) (min (i + t) e) l
unfolding part
part_part f t i e l =
    let k : min (t - f) (e - (i + f)) ≡ min (i + t) e - (i + f) = omega arith in
    ap (take (t - f)) (drop_part i e f l) ∙ take_min (t - f) (e - (i + f)) (drop (i + f) l) ∙ ap (λ (j : ℕ). take j (drop (i + f) l)) k

-- ---- scans

module _ (p : ℕ → Bool) where
  module _ (b : ℕ) (rest : List ℕ) where
    pub run_yes : p b ≡ true → run p (b ∷ rest) ≡ suc (run p rest)
    unfolding run
    run_yes e = simp e

    pub run_no : p b ≡ false → run p (b ∷ rest) ≡ 0
    unfolding run
    run_no e = simp e

  pub run_most : (l : List ℕ) → run p l ≤ length l
  unfolding run
  run_most [] = omega arith
  run_most (b ∷ rest) = go (p b) (run_most rest)
    where
      go : (t : Bool) → run p rest ≤ length rest → cond t (suc (run p rest)) 0 ≤ suc (length rest)
      go true h = omega arith
      go false h = omega arith

  -- a scan stops at once where it has stopped before
  run_again : (l : List ℕ) → run p (drop (run p l) l) ≡ 0
  unfolding run
  run_again [] = refl
  run_again (b ∷ rest) = go (p b) refl (run_again rest)
    where
      go :
          (t : Bool) → p b ≡ t → run p (drop (run p rest) rest) ≡ 0
          → run p (drop (run p (b ∷ rest)) (b ∷ rest)) ≡ 0
      go true e ih = rw (run_yes b rest e) ih
      go false e ih = rw (run_no b rest e) (run_no b rest e)

  pub past_again : (i e : ℕ) (l : List ℕ) → run p (part (past p i e l) e l) ≡ 0
  unfolding past
  past_again i e l = rw (← (drop_part i e (run p (part i e l)) l)) (run_again (part i e l))

  -- a scan of the first n bytes
  pub run_take : (n : ℕ) (l : List ℕ) → run p (take n l) ≡ min n (run p l)
  unfolding run
  run_take zero l = omega arith
  run_take (suc n) [] = omega arith
  run_take (suc n) (b ∷ rest) = go (p b) (run_take n rest)
    where
      go :
          (t : Bool) → run p (take n rest) ≡ min n (run p rest)
          → cond t (suc (run p (take n rest))) 0 ≡ min (suc n) (cond t (suc (run p rest)) 0)
      go true ih = omega (arith, ih)
      go false ih = omega arith

  pub past_end : (i e : ℕ) (l : List ℕ) → e ≤ i → past p i e l ≡ i
  unfolding past run
  past_end i e l h = rw part_nil (add-zero i)

  pub past_stop : (i e : ℕ) (l : List ℕ) → i < e → e ≤ length l → p (get_or l i 0) ≡ false → past p i e l ≡ i
  unfolding past run
  past_stop i e l h g b = rw (part_cons, b) (add-zero i)

  pub past_step :
      (i e : ℕ) (l : List ℕ) → i < e → e ≤ length l → p (get_or l i 0) ≡ true
      → past p (i + 1) e l ≡ past p i e l
  unfolding past run
  past_step i e l h g b = rw (part_cons i e l h g, b) (omega arith)

-- a scan that stops before the end stops there too where the end is nearer
pub past_nearer :
    (p : ℕ → Bool) (i far near : ℕ) (l : List ℕ) → near ≤ far → past p i far l < near → past p i near l ≡ past p i far l
unfolding past part
past_nearer p i far near l h g = omega (arith, run_take p (near - i) (drop i l), run_take p (far - i) (drop i l))

-- a scan goes on from where a stricter one stopped
module _ (p q : ℕ → Bool) (h : (b : ℕ) → q b ≡ true → p b ≡ true) where
  run_through : (l : List ℕ) → run p l ≡ run q l + run p (drop (run q l) l)
  unfolding run
  run_through [] = refl
  run_through (b ∷ rest) = go (q b) refl (run_through rest)
    where
      go :
          (t : Bool) → q b ≡ t → run p rest ≡ run q rest + run p (drop (run q rest) rest)
          → run p (b ∷ rest) ≡ run q (b ∷ rest) + run p (drop (run q (b ∷ rest)) (b ∷ rest))
      go true e ih = rw (run_yes p b rest (h b e), run_yes q b rest e) (omega (arith, ih))
      go false e ih = rw (run_no q b rest e) (omega arith)

  pub past_through : (i e : ℕ) (l : List ℕ) → past p (past q i e l) e l ≡ past p i e l
  unfolding past
  past_through i e l =
      let k = run q (part i e l) in
      omega (arith, rw (drop_part i e k l) at (run_through (part i e l)))

  -- and over n bytes that the stricter one would pass
  over : (n i e : ℕ) (l : List ℕ) → i + n ≤ e → e ≤ length l → all q (part i (i + n) l) ≡ true → past p (i + n) e l ≡ past p i e l
  over zero i e l g m a = let z : i + 0 ≡ i = omega arith in rw z
  over (suc n) i e l g m a =
      let k : i + suc n ≡ i + 1 + n = omega arith in
      let b = ap (all q) (sym (part_cons i (i + suc n) l (omega arith) (omega arith))) ∙ a in
      ap (λ (j : ℕ). past p j e l) k
      ∙ over n (i + 1) e l (omega arith) m (ap (λ (j : ℕ). all q (part (i + 1) j l)) (sym k) ∙ all_rest q _ _ b)
      ∙ past_step p i e l (omega arith) m (h _ (all_first q _ _ b))

  pub past_over : (i s e : ℕ) (l : List ℕ) → i ≤ s → s ≤ e → e ≤ length l → all q (part i s l) ≡ true → past p s e l ≡ past p i e l
  past_over i s e l f g m a =
      let k : i + (s - i) ≡ s = omega arith in
      ap (λ (j : ℕ). past p j e l) (sym k)
      ∙ over (s - i) i e l (omega arith) m (ap (λ (j : ℕ). all q (part i j l)) k ∙ a)

-- the first n bytes pass, and the one behind them does not
module _ (p : ℕ → Bool) where
  run_is : (l : List ℕ) (n : ℕ) → n ≤ length l → ((k : ℕ) → k < n → p (get_or l k 0) ≡ true) → (n < length l → p (get_or l n 0) ≡ false) → run p l ≡ n
  unfolding run
  run_is [] n h b s = omega arith
  run_is (x ∷ xs) zero h b s = run_no p x xs (s (omega arith))
  run_is (x ∷ xs) (suc n) h b s = run_yes p x xs (b 0 (omega arith)) ∙ ap suc (run_is xs n (omega arith) (λ k g. b (suc k) (omega arith)) (λ g. s (omega arith)))

  pub past_is :
      (at n : ℕ) (l : List ℕ) → (at ≤ n) × (n ≤ length l) → ((k : ℕ) → at ≤ k → k < n → p (get_or l k 0) ≡ true)
      → (n < length l → p (get_or l n 0) ≡ false) → Found at (length l) (past p at (length l) l) n
  unfolding past
  past_is at n l h b s =
      let e : at + (n - at) ≡ n = omega arith in
      let w : run p (drop at l) ≡ n - at =
      run_is (drop at l) (n - at) (omega (arith, length-drop at l))
      (λ k g. ap p (get_or-drop at l k 0) ∙ b (at + k) (omega arith) (omega arith))
      (λ g. ap p (get_or-drop at l (n - at) 0 ∙ ap (λ (j : ℕ). get_or l j 0) e) ∙ s (omega (arith, length-drop at l))) in
      record {
        is = omega (arith, ap (run p) (part_all at l), w);
        least = h.0;
        most = h.1;
      }

-- a position in a line
pub in_line : (at : ℕ) (l : List ℕ) → at ≤ length l → InFile at (length l) l
in_line at l h = record { order = h; size = omega arith }

-- ---- a test of all bytes

pub all_stop : (p : ℕ → Bool) (i : ℕ) (l : List ℕ) → i < length l → p (get_or l i 0) ≡ false → all p (drop i l) ≡ false
unfolding all
all_stop p i l h b = rw (drop-cons l i 0, b)

-- ---- tests on a byte

pub and_false : (b : Bool) → b && false ≡ false
and_false true = refl
and_false false = refl

module _ (low high b : ℕ) where
  pub between_yes : low ≤ b → b ≤ high → between low high b ≡ true
  between_yes h g = simp (le-leb low b h, le-leb b high g)

  pub between_low : b < low → between low high b ≡ false
  between_low h = simp (lt-leb low b h)

  pub between_high : high < b → between low high b ≡ false
  between_high h = simp (lt-leb b high h) (and_false (leb low b))

-- a text of no byte, and one of more than six, is no number and no name
module _ (l : List ℕ) (rest : Bool) where
  pub too_short : length l ≡ 0 → between 1 6 (length l) && rest ≡ false
  too_short e = simp (between_low 1 6 (length l) (omega arith))

  pub too_long : 6 < length l → between 1 6 (length l) && rest ≡ false
  too_long h = simp (between_high 1 6 (length l) h)
