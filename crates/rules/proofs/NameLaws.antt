-- Laws of numbers and names (specs/Text.antt): the numbers that a file can hold, and names packed into one number and back.
use Prim.Native.Nat.{ℕ, zero, suc, ◌+◌, ◌*◌, ◌^◌, ◌<◌, ◌≤◌}
use mathlib.Core.Bool.{Bool, true, false, cond}
use mathlib.Core.List.{List, [], ◌∷◌}
use mathlib.Core.Logic.{◌≢◌}
use mathlib.Core.Option.{none, some}
use mathlib.Core.Path.{◌≡◌, refl, sym, ap, ◌∙◌}
use native.Mathlib.Omega.{arith}
use lib.ListN.{length, get_or}
use lib.Dec.{eqb}
use borrow.Author.Tests.{leb-true, eq-eqb, ne_eqb, eqb-true}
use Rattle.rules.specs.Text.{all, between, is_octal, octal, is_number, number_of, is_letter, is_digit, is_name_character, is_name, is_name_over, pack_name, name_of, name_over, up_to_zero, unpack_name, is_packed, is_packed_over}
use Rattle.rules.proofs.BoolLaws.{or_cases}
use Rattle.rules.proofs.TestLaws.{and_intro, and_left, and_right, between_intro, between_low, between_high, between_wider, all_weaken, all_first, all_rest}

-- ---- numbers

-- a choice that gave something passed its test
chosen : (t : Bool) (x y : ℕ) → cond t (some x) none ≡ some y → (t ≡ true) × (x ≡ y)
chosen true x y e = (refl, cc)
chosen false x y e = let z : ◌≡◌ {A = ℕ} 0 1 = cc in absurd (omega arith)

-- a number of a file is at most 65,535
pub number_bound : (ds : List ℕ) (n : ℕ) → number_of ds ≡ some n → n ≤ 65535
unfolding number_of is_number
number_bound ds n e =
    let c = chosen (is_number ds) (octal 0 ds) n e in
    let small = leb-true (octal 0 ds) 65535 (and_right (all is_octal ds) _ (and_right (between 1 6 (length ds)) _ c.0)) in
    rw c.1 at small

-- ---- the bytes of a name

-- a character of a name stands between 36, the dollar, and 90, the last letter
character : (b : ℕ) → is_name_character b ≡ true → between 36 90 b ≡ true
unfolding is_name_character
character b h =
    or_cases (is_letter b) _ h (between_wider 65 90 36 90 b (omega arith) (omega arith))
    (λ h. or_cases (is_digit b) _ h (between_wider 48 57 36 90 b (omega arith) (omega arith))
    (λ h. or_cases (eqb b 36) _ h (one 36 (omega arith) (omega arith)) (one 46 (omega arith) (omega arith))))
  where
    one : (c : ℕ) → 36 ≤ c → c ≤ 90 → eqb b c ≡ true → between 36 90 b ≡ true
    one c l h e = between_intro 36 90 b (omega (arith, eqb-true b c e)) (omega (arith, eqb-true b c e))

-- what a legal name is
pub record NameText (cs : List ℕ) : Type 0 where
  pub some_bytes : 1 ≤ length cs
  pub few_bytes : length cs ≤ 6
  pub first : 65 ≤ get_or cs 0 0
  pub characters : all (between 36 90) cs ≡ true

pub name_text : (cs : List ℕ) → is_name cs ≡ true → NameText cs
unfolding is_name_over
name_text cs h =
    let size = and_left (between 1 6 (length cs)) _ h in
    let rest = and_right (between 1 6 (length cs)) _ h in
    record {
      some_bytes = between_low 1 6 (length cs) size;
      few_bytes = between_high 1 6 (length cs) size;
      first = between_low 65 90 (get_or cs 0 0) (and_left (is_letter (get_or cs 0 0)) (all is_name_character cs) rest);
      characters = all_weaken is_name_character (between 36 90) character cs (and_right (is_letter (get_or cs 0 0)) _ rest);
    }

-- no byte of such a text, nor the 0 behind its end, is above 90
pub byte_bound : (cs : List ℕ) → all (between 36 90) cs ≡ true → (i : ℕ) → get_or cs i 0 ≤ 90
unfolding all
byte_bound [] h i = omega arith
byte_bound (c ∷ cs) h zero = between_high 36 90 c (all_first (between 36 90) c cs h)
byte_bound (c ∷ cs) h (suc i) = byte_bound cs (all_rest (between 36 90) c cs h) i

-- ---- packing and unpacking

-- a text with zeros behind it, n bytes in all
padded : ℕ → List ℕ → List ℕ
padded zero cs = []
padded (suc n) [] = 0 ∷ padded n []
padded (suc n) (c ∷ cs) = c ∷ padded n cs

six_padded : (cs : List ℕ) → get_or cs 0 0 ∷ get_or cs 1 0 ∷ get_or cs 2 0 ∷ get_or cs 3 0 ∷ get_or cs 4 0 ∷ get_or cs 5 0 ∷ [] ≡ padded 6 cs
unfolding padded
six_padded [] = refl
six_padded (a ∷ []) = refl
six_padded (a ∷ b ∷ []) = refl
six_padded (a ∷ b ∷ c ∷ []) = refl
six_padded (a ∷ b ∷ c ∷ d ∷ []) = refl
six_padded (a ∷ b ∷ c ∷ d ∷ e ∷ []) = refl
six_padded (a ∷ b ∷ c ∷ d ∷ e ∷ f ∷ cs) = refl

-- the zeros are dropped again
up_to_padded : (n : ℕ) (cs : List ℕ) → all (between 36 90) cs ≡ true → length cs ≤ n → up_to_zero (padded n cs) ≡ cs
unfolding padded up_to_zero all
up_to_padded zero [] h l = refl
up_to_padded zero (c ∷ cs) h l = absurd (omega arith)
up_to_padded (suc n) [] h l = refl
up_to_padded (suc n) (c ∷ cs) h l =
    let some_byte : c ≢ 0 = omega (arith, between_low 36 90 c (all_first (between 36 90) c cs h)) in
    simp
    (ne_eqb c 0 some_byte)
    (ap (◌∷◌ c) (up_to_padded n cs (all_rest (between 36 90) c cs h) (omega arith)))

same_six : {a b c d e f a' b' c' d' e' f' : ℕ} → a ≡ a' → b ≡ b' → c ≡ c' → d ≡ d' → e ≡ e' → f ≡ f'
    → a ∷ b ∷ c ∷ d ∷ e ∷ f ∷ [] ≡ a' ∷ b' ∷ c' ∷ d' ∷ e' ∷ f' ∷ []
same_six p q r s t u = cc

-- six bytes in base 256, taken apart
digits : (a b c d e f : ℕ) → a ≤ 90 → b ≤ 90 → c ≤ 90 → d ≤ 90 → e ≤ 90 → f ≤ 90
    → unpack_name (((((a * 256 + b) * 256 + c) * 256 + d) * 256 + e) * 256 + f) ≡ up_to_zero (a ∷ b ∷ c ∷ d ∷ e ∷ f ∷ [])
unfolding unpack_name
digits a b c d e f ha hb hc hd he hf =
    ap up_to_zero (same_six (omega arith) (omega arith) (omega arith) (omega arith) (omega arith) (omega arith))

-- what was packed is unpacked
pub unpack_pack : (cs : List ℕ) → is_name cs ≡ true → unpack_name (pack_name cs) ≡ cs
unfolding pack_name
unpack_pack cs h =
    let t = name_text cs h in
    let small = byte_bound cs t.characters in
    digits _ _ _ _ _ _ (small 0) (small 1) (small 2) (small 3) (small 4) (small 5)
    ∙ ap up_to_zero (six_padded cs)
    ∙ up_to_padded 6 cs t.characters t.few_bytes

-- packing is one to one
pub pack_injective : (cs ds : List ℕ) → is_name cs ≡ true → is_name ds ≡ true → pack_name cs ≡ pack_name ds → cs ≡ ds
pack_injective cs ds h k e = sym (unpack_pack cs h) ∙ ap unpack_name e ∙ unpack_pack ds k

pub pack_legal : (cs : List ℕ) → is_name cs ≡ true → is_packed (pack_name cs) ≡ true
unfolding is_packed_over
pack_legal cs h = rw unpack_pack (and_intro h (eq-eqb (pack_name cs) (pack_name cs) refl))

pub name_legal : (cs : List ℕ) (x : ℕ) → name_of cs ≡ some x → is_packed x ≡ true
unfolding name_over
name_legal cs x e = let c = chosen (is_name cs) (pack_name cs) x e in rw c.1 at (pack_legal cs c.0)

-- the number of six bytes, the first a letter
pack_range : (cs : List ℕ) → NameText cs → (pack_name cs < 2 ^ 48) × (pack_name cs ≢ 0)
unfolding pack_name
pack_range cs t =
    let small = byte_bound cs t.characters in
    let f = t.first in
    (omega (arith, small 0, small 1, small 2, small 3, small 4, small 5), omega arith)

-- ---- what a packed name is

pub record Packed (n : ℕ) : Type 0 where
  pub name : is_name (unpack_name n) ≡ true
  pub pack_unpack : pack_name (unpack_name n) ≡ n
  pub below : n < 2 ^ 48
  pub some_name : n ≢ 0

pub packed : (n : ℕ) → is_packed n ≡ true → Packed n
unfolding is_packed_over
packed n h =
    let name = and_left (is_name (unpack_name n)) (eqb (pack_name (unpack_name n)) n) h in
    let again = eqb-true _ n (and_right (is_name (unpack_name n)) (eqb (pack_name (unpack_name n)) n) h) in
    let range = rw again at (pack_range (unpack_name n) (name_text (unpack_name n) name)) in
    record { name = name; pack_unpack = again; below = range.0; some_name = range.1 }
