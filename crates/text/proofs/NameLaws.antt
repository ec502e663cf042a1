-- A name's characters, and its bytes one after the other.
-- Assumes nothing.
use Prim.Native.Nat.{ℕ, zero, suc, ◌+◌, ◌*◌, ◌^◌, ◌≤◌, ◌<◌}
use native.Mathlib.Nat.{pow-le-pow_right}
use native.Mathlib.Numerals.{add-one}
use native.Mathlib.Omega.{arith}
use mathlib.Core.Bool.{Bool, true, false, ◌&&◌}
use mathlib.Core.List.{List, [], ◌∷◌}
use mathlib.Core.Option.{none, some}
use mathlib.Core.Path.{◌≡◌, refl, ap, ap₂, ◌∙◌}
use lib.ListN.{length, get_or}
use Rattle.std.specs.List.{list_all}
use Rattle.rules.specs.Text.{all, is_letter, is_name_character, is_name, is_name_over, pack_name, name_of, name_over}
use Rattle.text.proofs.ScanLaws.{between_yes, and_false, too_short, too_long}

-- ---- which answer

pub letter : (b : ℕ) → is_letter b ≡ true → is_name_character b ≡ true
unfolding is_name_character
letter b e = simp e

all_is : (p : ℕ → Bool) (l : List ℕ) → list_all p l ≡ all p l
unfolding all
all_is p [] = refl
all_is p (x ∷ xs) = ap (λ (t : Bool). p x && t) (all_is p xs)

pub name_none : (f : List ℕ) → length f ≡ 0 → is_name f ≡ false
unfolding is_name_over
name_none f e = too_short f _ e

module _ (x : ℕ) (xs : List ℕ) where
  pub name_long : 6 ≤ length xs → is_name (x ∷ xs) ≡ false
  unfolding is_name_over
  name_long h = too_long (x ∷ xs) _ (omega arith)

  pub name_first : is_letter x ≡ false → is_name (x ∷ xs) ≡ false
  unfolding is_name_over
  name_first e = simp (e, and_false)

  pub name_rest : length xs < 6 → is_letter x ≡ true → is_name (x ∷ xs) ≡ list_all is_name_character xs
  unfolding is_name_over all
  name_rest h e = simp (between_yes 1 6 (suc (length xs)) (omega arith) (omega arith), e, letter x e, all_is)

pub no_name : (f : List ℕ) → is_name f ≡ false → none ≡ name_of f
unfolding name_over
no_name f e = simp e

pub a_name : (f : List ℕ) → is_name f ≡ true → some (pack_name f) ≡ name_of f
unfolding name_over
a_name f e = simp e

-- ---- packed, one byte after the other

-- the first k bytes in base 256
unfoldable pub packed : ℕ → List ℕ → ℕ
packed zero cs = 0
packed (suc k) cs = packed k cs * 256 + get_or cs k 0

pub record Packed (cs : List ℕ) (k name : ℕ) : Type 0 where
  pub is : name ≡ packed k cs
  pub fits : name < 256 ^ k

pub packed_start : (cs : List ℕ) → Packed cs 0 0
unfolding packed
packed_start cs = record { is = refl; fits = omega arith }

module _ {cs : List ℕ} {k name : ℕ} (p : Packed cs k name) where
  pub packed_room : k < 6 → name < 256 ^ 5
  packed_room h =
      let few : k ≤ 5 = omega arith in
      omega (arith, pow-le-pow_right {n = 256} (omega arith) few, p.fits)

  pub packed_step : {b : ℕ} → b ≡ get_or cs k 0 → b < 256 → Packed cs (k + 1) (name * 256 + b)
  unfolding packed
  packed_step {b} e h = rw add-one (record { is = ap₂ (λ (n c : ℕ). n * 256 + c) p.is e; fits = omega (arith, p.fits) })

pub packed_end : {cs : List ℕ} {name : ℕ} → Packed cs 6 name → name ≡ pack_name cs
unfolding packed pack_name
packed_end p = p.is ∙ omega arith
