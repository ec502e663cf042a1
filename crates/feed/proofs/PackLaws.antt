-- Bytes in one number, the first lowest: what each of them is, and how large the number is.
use Prim.Native.Nat.{ℕ, zero, suc, ◌+◌, ◌*◌, ◌/◌, ◌%◌, ◌^◌, ◌≤◌, ◌<◌}
use native.Mathlib.Nat.{pow-succ', one-le-pow, not-suc-le-zero, le_of_suc-le-suc}
use native.Mathlib.Omega.{arith}
use mathlib.Core.Bool.{Bool, true, false}
use mathlib.Core.List.{List, [], ◌∷◌, ◌++◌}
use mathlib.Core.Logic.{◌≢◌}
use mathlib.Core.Path.{◌≡◌, refl, sym, ap, ap₂, ◌∙◌}
use borrow.Author.Tests.{ltb-true, ltb-false}
use lib.Dec.{ltb}
use lib.Seq.{get_or_at}
use lib.ListN.{length, get_or, get_or-eq_default, get_or-append, length-append}
use Rattle.feed.specs.Layout.{pack_from, byte_of}

-- ---- a byte of a number

pub byte_small : (c r : ℕ) → byte_of c r ≤ 255
unfolding byte_of
byte_small c zero = omega arith
byte_small c (suc r) = byte_small (c / 256) r

-- behind the last byte of a number there are zeros
pub byte_zero : (c m r : ℕ) → c < 256 ^ m → m ≤ r → byte_of c r ≡ 0
unfolding byte_of
byte_zero c zero zero h l = omega arith
byte_zero c (suc m) zero h l = absurd (not-suc-le-zero l)
byte_zero c zero (suc r) h l = byte_zero (c / 256) zero r (omega arith) (omega arith)
byte_zero c (suc m) (suc r) h l = byte_zero (c / 256) m r (omega (arith, pow-succ' 256 m)) (le_of_suc-le-suc l)

-- ---- a power, as the code shifts to it

pub power_is : (k : ℕ) → k < 8 → 1 * 2 ^ (8 * k) % 18446744073709551616 ≡ 256 ^ k
power_is zero h = refl
power_is (suc zero) h = refl
power_is (suc (suc zero)) h = refl
power_is (suc (suc (suc zero))) h = refl
power_is (suc (suc (suc (suc zero)))) h = refl
power_is (suc (suc (suc (suc (suc zero))))) h = refl
power_is (suc (suc (suc (suc (suc (suc zero)))))) h = refl
power_is (suc (suc (suc (suc (suc (suc (suc zero))))))) h = refl
power_is (suc (suc (suc (suc (suc (suc (suc (suc k)))))))) h = absurd (omega arith)

-- ---- bytes that are packed

module _ (bs : List ℕ) where
  -- a number is that of its bytes
  pub pack_is : (n k c : ℕ) → c < 256 ^ n → ((r : ℕ) → r < n → get_or bs (k + r) 0 ≡ byte_of c r) → pack_from bs k n ≡ c
  unfolding pack_from byte_of
  pack_is zero k c h e = omega arith
  pack_is (suc n) k c h e =
      let low : get_or bs k 0 ≡ byte_of c 0 = ap (λ (j : ℕ). get_or bs j 0) (omega arith) ∙ e 0 (omega arith) in
      let rest : pack_from bs (k + 1) n ≡ c / 256 =
      pack_is n (k + 1) (c / 256) (omega (arith, pow-succ' 256 n))
      (λ r l. ap (λ (j : ℕ). get_or bs j 0) (omega arith) ∙ e (suc r) (omega arith)) in
      omega arith

  module _ (small : (k : ℕ) → get_or bs k 0 ≤ 255) where
    pub pack_byte : (n k r : ℕ) → r < n → byte_of (pack_from bs k n) r ≡ get_or bs (k + r) 0
    unfolding pack_from byte_of
    pack_byte zero k r h = absurd (not-suc-le-zero h)
    pack_byte (suc n) k zero h =
        let one : (get_or bs k 0 + 256 * pack_from bs (k + 1) n) % 256 ≡ get_or bs k 0 = omega (arith, small k) in
        one ∙ ap (λ (j : ℕ). get_or bs j 0) (omega arith)
    pack_byte (suc n) k (suc r) h =
        ap (λ (c : ℕ). byte_of c r) (omega (arith, small k))
        ∙ pack_byte n (k + 1) r (le_of_suc-le-suc h)
        ∙ ap (λ (j : ℕ). get_or bs j 0) (omega arith)

    -- m bytes are left from the k-th on
    pub pack_below : (n k m : ℕ) → length bs ≤ k + m → pack_from bs k n < 256 ^ m
    unfolding pack_from
    pack_below zero k m l = one-le-pow m 256 (omega arith)
    pack_below (suc n) k zero l =
        omega (arith, get_or-eq_default bs 0 {n = k} (omega arith), pack_below n (k + 1) zero (omega arith))
    pack_below (suc n) k (suc m) l = omega (arith, small k, pack_below n (k + 1) m (omega arith), pow-succ' 256 m)

-- the same bytes
pub pack_same : (bs cs : List ℕ) (n k : ℕ) → ((r : ℕ) → r < n → get_or bs (k + r) 0 ≡ get_or cs (k + r) 0) → pack_from bs k n ≡ pack_from cs k n
unfolding pack_from
pack_same bs cs zero k e = refl
pack_same bs cs (suc n) k e =
    let at : (j r : ℕ) → j ≡ k + r → r < suc n → get_or bs j 0 ≡ get_or cs j 0 =
    λ j r s l. ap (λ (i : ℕ). get_or bs i 0) s ∙ e r l ∙ ap (λ (i : ℕ). get_or cs i 0) (sym s) in
    ap₂ (λ (a b : ℕ). a + 256 * b) (at k 0 (omega arith) (omega arith))
    (pack_same bs cs n (k + 1) (λ r l. at (k + 1 + r) (suc r) (omega arith) (omega arith)))

-- ---- a byte more

module _ (bs : List ℕ) (b : ℕ) where
  -- the others stay
  pub more_other : (j : ℕ) → j ≢ length bs → get_or (bs ++ (b ∷ [])) j 0 ≡ get_or bs j 0
  more_other j h = go (ltb j (length bs)) refl
    where
      go : (t : Bool) → ltb j (length bs) ≡ t → get_or (bs ++ (b ∷ [])) j 0 ≡ get_or bs j 0
      go true e = get_or-append bs (b ∷ []) 0 j (ltb-true j (length bs) e)
      go false e =
          let l = ltb-false j (length bs) e in
          get_or-eq_default (bs ++ (b ∷ [])) 0 (omega (arith, length-append bs (b ∷ [])))
          ∙ sym (get_or-eq_default bs 0 l)

  -- numbers that do not hold it
  pub pack_other : (n k : ℕ) → ((r : ℕ) → r < n → k + r ≢ length bs) → pack_from (bs ++ (b ∷ [])) k n ≡ pack_from bs k n
  pack_other n k h = pack_same (bs ++ (b ∷ [])) bs n k (λ r l. more_other (k + r) (h r l))

  -- the number that holds it, at its place
  pub pack_more : (n k j : ℕ) → j < n → length bs ≡ k + j → pack_from (bs ++ (b ∷ [])) k n ≡ pack_from bs k n + b * 256 ^ j
  unfolding pack_from
  pack_more zero k j h l = absurd (not-suc-le-zero h)
  pack_more (suc n) k zero h l =
      omega (
        arith,
        get_or_at bs b [] 0 k (omega arith),
        get_or-eq_default bs 0 {n = k} (omega arith),
        pack_other n (k + 1) (λ r i. omega arith),
      )
  pack_more (suc n) k (suc j) h l =
      omega (
        arith,
        more_other k (omega arith),
        pack_more n (k + 1) j (le_of_suc-le-suc h) (omega arith),
        ap (λ (t : ℕ). b * t) (pow-succ' 256 j),
      )
