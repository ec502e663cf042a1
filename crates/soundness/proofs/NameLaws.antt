-- A packed name is legal exactly if its first byte is a letter and each later one goes on.
use Prim.Native.Nat.{ℕ, zero, suc, ◌+◌, ◌*◌, ◌/◌, ◌%◌, ◌^◌, ◌≤◌, ◌<◌}
use mathlib.Core.Bool.{Bool, true, false, cond, ◌&&◌, ◌||◌}
use mathlib.Core.List.{List, [], ◌∷◌}
use mathlib.Core.Logic.{◌≢◌}
use mathlib.Core.Path.{◌≡◌, refl, sym, ap, ap₂, ◌∙◌}
use native.Mathlib.Nat.{mul-pos, one-le-pow}
use native.Mathlib.Omega.{arith}
use borrow.Author.Tests.{leb-true, eqb-true, eqb-false, le-leb, eq-eqb, ne_eqb}
use lib.ListN.{length, get_or, drop}
use lib.Seq.{get_or-drop, drop-drop}
use lib.Dec.{eqb, leb}
use Rattle.text.proofs.NameLaws.{letter}
use Rattle.rules.specs.Text.{all, between, is_letter, is_name_character, is_name, is_name_over, pack_name, up_to_zero, unpack_name, is_packed, is_packed_over}
use Rattle.state.proofs.BoolLaws.{both, first, second, same_test}
use Rattle.soundness.specs.Checks.{goes_on}

-- ---- bytes as a number, the first highest

num : List ℕ → ℕ
num [] = 0
num (b ∷ bs) = b * 256 ^ length bs + num bs

-- the same of m bytes, 0 behind the last of u
front : ℕ → List ℕ → ℕ
front zero u = 0
front (suc m) u = get_or u 0 0 * 256 ^ m + front m (drop 1 u)

go_on : List ℕ → Bool
go_on [] = true
go_on (b ∷ bs) = goes_on (num (b ∷ bs)) b && go_on bs

front_none : (m : ℕ) → front m [] ≡ 0
unfolding front
front_none zero = refl
front_none (suc m) = omega (arith, front_none m)

-- nothing may follow a zero, and nothing is needed
zero_goes : (bs : List ℕ) → num bs ≡ 0 → go_on bs ≡ true
unfolding num go_on
zero_goes [] e = refl
zero_goes (b ∷ bs) e =
    both (goes_on (num (b ∷ bs)) b) (go_on bs) (ap (λ (t : Bool). t || is_name_character b) (eq-eqb (num (b ∷ bs)) 0 e)) (zero_goes bs (omega arith))

and_assoc : (a b c : Bool) → a && (b && c) ≡ (a && b) && c
and_assoc true b c = refl
and_assoc false b c = refl

and_true : (a : Bool) → a && true ≡ a
and_true true = refl
and_true false = refl

eqb_add : (k x y : ℕ) → eqb x y ≡ eqb (k + x) (k + y)
eqb_add k x y =
    same_test (eqb x y) (eqb (k + x) (k + y))
    (λ e. eq-eqb (k + x) (k + y) (ap (λ (j : ℕ). k + j) (eqb-true x y e)))
    (λ e. let d = eqb-true (k + x) (k + y) e in eq-eqb x y (omega arith))

or_first : (a b : Bool) → b ≡ false → a || b ≡ true → a ≡ true
or_first true b e h = refl
or_first false b e h = sym e ∙ h

zero_is_none : is_name_character 0 ≡ false
unfolding is_name_character
zero_is_none = refl

-- the bytes go on exactly if those in front of the first zero are characters of names, and all behind it are zeros
goes_on_lem : (bs : List ℕ) → go_on bs ≡ all is_name_character (up_to_zero bs) && eqb (front (length bs) (up_to_zero bs)) (num bs)
unfolding go_on front num up_to_zero all
goes_on_lem [] = refl
goes_on_lem (b ∷ bs) = go (eqb b 0) refl (goes_on_lem bs)
  where
    u : List ℕ
    u = up_to_zero bs

    N : ℕ
    N = b * 256 ^ length bs + num bs

    go : (z : Bool) → eqb b 0 ≡ z → go_on bs ≡ all is_name_character u && eqb (front (length bs) u) (num bs) → goes_on N b && go_on bs ≡ all is_name_character (cond z [] (b ∷ u)) && eqb (front (suc (length bs)) (cond z [] (b ∷ u))) N
    go true e f =
        let z : b ≡ 0 = eqb-true b 0 e in
        let same : N ≡ num bs = ap (λ (k : ℕ). k * 256 ^ length bs + num bs) z ∙ omega arith in
        let empty : front (length bs) [] ≡ 0 = front_none (length bs) in
        same_test (goes_on N b && go_on bs) (eqb (0 * 256 ^ length bs + front (length bs) []) N)
        (λ h.
        let none : N ≡ 0 = eqb-true N 0 (or_first (eqb N 0) (is_name_character b) (ap is_name_character z ∙ zero_is_none) (first (goes_on N b) (go_on bs) h)) in
        eq-eqb (0 * 256 ^ length bs + front (length bs) []) N (omega arith))
        (λ h.
        let none : 0 * 256 ^ length bs + front (length bs) [] ≡ N = eqb-true (0 * 256 ^ length bs + front (length bs) []) N h in
        both (goes_on N b) (go_on bs)
        (ap (λ (t : Bool). t || is_name_character b) (eq-eqb N 0 (omega arith)))
        (zero_goes bs (omega arith)))
    go false e f =
        let some : b ≢ 0 = eqb-false b 0 e in
        let much : 0 < b * 256 ^ length bs = mul-pos (omega arith) (one-le-pow (length bs) 256 (omega arith)) in
        ap₂ ◌&&◌
        (ap (λ (t : Bool). t || is_name_character b) (ne_eqb N 0 (omega arith)))
        (f ∙ ap (λ (t : Bool). all is_name_character u && t) (eqb_add (b * 256 ^ length bs) (front (length bs) u) (num bs)))
        ∙ and_assoc (is_name_character b) (all is_name_character u) (eqb (b * 256 ^ length bs + front (length bs) u) N)

-- what stands in front of the first zero is no more than all
front_most : (bs : List ℕ) → front (length bs) (up_to_zero bs) ≤ num bs
unfolding front num up_to_zero
front_most [] = omega arith
front_most (b ∷ bs) = go (eqb b 0) (front_most bs)
  where
    go : (z : Bool) → front (length bs) (up_to_zero bs) ≤ num bs → front (suc (length bs)) (cond z [] (b ∷ up_to_zero bs)) ≤ b * 256 ^ length bs + num bs
    go true f = omega (arith, front_none (length bs))
    go false f = omega arith

shorter : (bs : List ℕ) → length (up_to_zero bs) ≤ length bs
unfolding up_to_zero
shorter [] = omega arith
shorter (b ∷ bs) = go (eqb b 0) (shorter bs)
  where
    go : (z : Bool) → length (up_to_zero bs) ≤ length bs → length (cond z [] (b ∷ up_to_zero bs)) ≤ suc (length bs)
    go true f = omega arith
    go false f = omega arith

-- ---- six bytes

pack_front : (b : ℕ) (u : List ℕ) → pack_name (b ∷ u) ≡ b * 256 ^ 5 + front 5 u
unfolding pack_name front
pack_front b u = simp (get_or-drop, drop-drop) (omega arith)

-- the five bytes behind the first
tail : ℕ → List ℕ
tail n = n / 256 ^ 4 % 256 ∷ n / 256 ^ 3 % 256 ∷ n / 256 ^ 2 % 256 ∷ n / 256 % 256 ∷ n % 256 ∷ []

module _ (n : ℕ) where
  num_1 : num (n % 256 ∷ []) ≡ n % 256
  unfolding num
  num_1 = omega arith

  num_2 : num (n / 256 % 256 ∷ n % 256 ∷ []) ≡ n % 65536
  unfolding num
  num_2 = omega arith

  num_3 : num (n / 256 ^ 2 % 256 ∷ n / 256 % 256 ∷ n % 256 ∷ []) ≡ n % 16777216
  unfolding num
  num_3 = omega (arith, num_2)

  num_4 : num (n / 256 ^ 3 % 256 ∷ n / 256 ^ 2 % 256 ∷ n / 256 % 256 ∷ n % 256 ∷ []) ≡ n % 4294967296
  unfolding num
  num_4 = omega (arith, num_3)

  num_5 : num (tail n) ≡ n % 1099511627776
  unfolding num tail
  num_5 = omega (arith, num_4)

  -- the tests of the code
  tail_goes : go_on (tail n) ≡ goes_on (n % 1099511627776) (n / 4294967296 % 256) && (goes_on (n % 4294967296) (n / 16777216 % 256) && (goes_on (n % 16777216) (n / 65536 % 256) && (goes_on (n % 65536) (n / 256 % 256) && goes_on (n % 256) (n % 256))))
  unfolding go_on tail
  tail_goes =
      rw (num_5, num_4, num_3, num_2, num_1, and_true (goes_on (n % 256) (n % 256)))

no_letter : (q : ℕ) → q % 256 ≡ 0 → is_letter q ≡ false
no_letter q e = go (leb 65 q) (leb q 90) refl refl
  where
    go : (l h : Bool) → leb 65 q ≡ l → leb q 90 ≡ h → l && h ≡ false
    go true true a b =
        let c = leb-true 65 q a in
        let d = leb-true q 90 b in
        absurd (omega arith)
    go true false a b = refl
    go false h a b = refl

-- a first byte b in front of the others; q is all that stands in front of these
first_byte : (n b q : ℕ) (bs : List ℕ) → b ≡ q % 256 → n ≡ q * 1099511627776 + num bs → num bs < 1099511627776 → length bs ≡ 5 → is_name (up_to_zero (b ∷ bs)) && eqb (pack_name (up_to_zero (b ∷ bs))) n ≡ is_letter q && go_on bs
unfolding up_to_zero is_name_over all
first_byte n b q bs eb en small five = go (eqb b 0) refl
  where
    u : List ℕ
    u = up_to_zero bs

    A : Bool
    A = all is_name_character u

    F : ℕ
    F = front (length bs) u

    packed : pack_name (b ∷ u) ≡ b * 1099511627776 + F
    packed = pack_front b u ∙ ap (λ (k : ℕ). b * 1099511627776 + front k u) (sym five)

    legal : is_letter b ≡ true → A ≡ true → is_name (b ∷ u) ≡ true
    legal l a =
        both (between 1 6 (suc (length u))) (is_letter b && (is_name_character b && A))
        (both (leb 1 (suc (length u))) (leb (suc (length u)) 6) (le-leb 1 (suc (length u)) (omega arith)) (le-leb (suc (length u)) 6 (omega (arith, shorter bs))))
        (both (is_letter b) (is_name_character b && A) l (both (is_name_character b) A (letter b l) a))

    go : (z : Bool) → eqb b 0 ≡ z → is_name (cond z [] (b ∷ u)) && eqb (pack_name (cond z [] (b ∷ u))) n ≡ is_letter q && go_on bs
    go true e = sym (ap (λ (t : Bool). t && go_on bs) (no_letter q (sym eb ∙ eqb-true b 0 e)))
    go false e =
        same_test (is_name (b ∷ u) && eqb (pack_name (b ∷ u)) n) (is_letter q && go_on bs)
        (λ h.
        let name = second (between 1 6 (suc (length u))) (is_letter b && (is_name_character b && A)) (first (is_name (b ∷ u)) (eqb (pack_name (b ∷ u)) n) h) in
        let same : pack_name (b ∷ u) ≡ n = eqb-true (pack_name (b ∷ u)) n (second (is_name (b ∷ u)) (eqb (pack_name (b ∷ u)) n) h) in
        let most : F ≤ num bs = front_most bs in
        let all_of : q ≡ b = omega (arith, packed) in
        both (is_letter q) (go_on bs)
        (ap is_letter all_of ∙ first (is_letter b) (is_name_character b && A) name)
        (goes_on_lem bs ∙ both A (eqb F (num bs)) (second (is_name_character b) A (second (is_letter b) (is_name_character b && A) name)) (eq-eqb F (num bs) (omega (arith, packed)))))
        (λ h.
        let is_letter_lem = first (is_letter q) (go_on bs) h in
        let rest : A && eqb F (num bs) ≡ true = sym (goes_on_lem bs) ∙ second (is_letter q) (go_on bs) h in
        let low : q ≤ 90 = leb-true q 90 (second (leb 65 q) (leb q 90) is_letter_lem) in
        let all_of : b ≡ q = omega arith in
        let equal : F ≡ num bs = eqb-true F (num bs) (second A (eqb F (num bs)) rest) in
        both (is_name (b ∷ u)) (eqb (pack_name (b ∷ u)) n)
        (legal (ap is_letter all_of ∙ is_letter_lem) (first A (eqb F (num bs)) rest))
        (eq-eqb (pack_name (b ∷ u)) n (omega (arith, packed))))

-- in the words of the code
pub packed_is : (n : ℕ) → is_packed n ≡ is_letter (n / 1099511627776) && (goes_on (n % 1099511627776) (n / 4294967296 % 256) && (goes_on (n % 4294967296) (n / 16777216 % 256) && (goes_on (n % 16777216) (n / 65536 % 256) && (goes_on (n % 65536) (n / 256 % 256) && goes_on (n % 256) (n % 256)))))
unfolding is_packed_over unpack_name tail
packed_is n =
    first_byte n (n / 256 ^ 5 % 256) (n / 1099511627776) (tail n) refl (omega (arith, num_5 n)) (omega (arith, num_5 n)) refl
    ∙ ap (λ (t : Bool). is_letter (n / 1099511627776) && t) (tail_goes n)
