-- Stretches of bytes, byte by byte; and which of them are numbers and names.
-- Assumes nothing.
use Prim.Native.Nat.{ℕ, suc, ◌+◌, ◌-◌, ◌*◌, ◌^◌, ◌≤◌, ◌<◌}
use native.Mathlib.Nat.{add-zero, mul_assoc, pow-succ', mul-le-mul, mul-le-mul_right, pow-le-pow_right}
use native.Mathlib.Omega.{arith}
use mathlib.Core.Bool.{Bool, true, false}
use mathlib.Core.List.{List, [], ◌∷◌, ◌++◌}
use mathlib.Core.Path.{◌≡◌, refl, sym, ap, subst, ◌∙◌}
use lib.ListN.{length, get_or, take, drop}
use lib.Seq.{take-add, drop-drop}
use lib.Dec.{eqb}
use borrow.Author.Tests.{le-leb, eqb-true, eqb-false}
use Rattle.std.specs.Bool.{then_some}
use Rattle.std.specs.Prelude.{Option, IfSome}
use Rattle.rules.specs.Text.{all, is_octal, octal, is_number, is_letter, is_digit, is_name_character, is_name, is_name_over}
use Rattle.rules.proofs.BoolLaws.{or_cases}
use Rattle.rules.proofs.TestLaws.{and_intro, between_intro, between_low, between_high, all_first, all_rest, all_cons, all_append}
use Rattle.text.specs.Scan.{part}
use Rattle.text.proofs.ScanLaws.{part_nil, part_cons, length_part, all_part}
use Rattle.runs.specs.Runs.{Stretch, IsField}

-- ---- parts

pub part_split : (i m r : ℕ) (l : List ℕ) → i ≤ m → m ≤ r → part i r l ≡ part i m l ++ part m r l
unfolding part
part_split i m r l h g =
    let k : r - i ≡ m - i + (r - m) = omega arith in
    let n : i + (m - i) ≡ m = omega arith in
    ap (λ (j : ℕ). take j (drop i l)) k
    ∙ take-add (m - i) (r - m) (drop i l)
    ∙ ap (λ (t : List ℕ). take (m - i) (drop i l) ++ take (r - m) t) (drop-drop (m - i) i l ∙ ap (λ (j : ℕ). drop j l) n)

pub part_one : (i : ℕ) (l : List ℕ) → i < length l → part i (i + 1) l ≡ get_or l i 0 ∷ []
part_one i l h = part_cons i (i + 1) l (omega arith) (omega arith) ∙ ap (◌∷◌ (get_or l i 0)) (part_nil (i + 1) (i + 1) l (omega arith))

module _ (p : ℕ → Bool) where
  pub all_joined :
      (i m r : ℕ) (l : List ℕ) → i ≤ m → m ≤ r → all p (part i m l) ≡ true → all p (part m r l) ≡ true → all p (part i r l) ≡ true
  all_joined i m r l h g a b =
      ap (all p) (part_split i m r l h g) ∙ all_append p (part i m l) (part m r l) ∙ and_intro a b

  pub all_one : (i : ℕ) (l : List ℕ) → i < length l → p (get_or l i 0) ≡ true → all p (part i (i + 1) l) ≡ true
  unfolding all
  all_one i l h b = ap (all p) (part_one i l h) ∙ all_cons p (get_or l i 0) [] b refl

  -- ---- the loop of a scan

  pub stretch_start : (i : ℕ) (l : List ℕ) → i ≤ length l → Stretch p l i i
  unfolding all
  stretch_start i l h = record { from = omega arith; to = h; are = ap (all p) (part_nil i i l (omega arith)) }

  pub stretch_step : {i e : ℕ} {l : List ℕ} → Stretch p l i e → e < length l → p (get_or l e 0) ≡ true → Stretch p l i (e + 1)
  stretch_step {i} {e} {l} s h b =
      record {
        from = omega (arith, s.from);
        to = omega arith;
        are = all_joined i e (e + 1) l s.from (omega arith) s.are (all_one e l h b);
      }

  -- the same where the bytes are counted
  pub stretch_none : (i : ℕ) (l : List ℕ) → i ≤ length l → Stretch p l i (i + 0)
  stretch_none i l h = subst (Stretch p l i) (sym (add-zero i)) (stretch_start i l h)

  pub stretch_more : (i n : ℕ) (l : List ℕ) → Stretch p l i (i + n) → i + n < length l → p (get_or l (i + n) 0) ≡ true → Stretch p l i (i + (n + 1))
  stretch_more i n l s h b =
      let k : i + n + 1 ≡ i + (n + 1) = omega arith in
      subst (Stretch p l i) k (stretch_step s h b)

-- ---- numbers

octal_below : (v : ℕ) (ds : List ℕ) → all is_octal ds ≡ true → octal v ds < (v + 1) * 8 ^ length ds
unfolding octal
octal_below v [] h = omega arith
octal_below v (d ∷ ds) h =
    let low = between_low 48 55 d (all_first is_octal d ds h) in
    let high = between_high 48 55 d (all_first is_octal d ds h) in
    let one : v * 8 + (d - 48) + 1 ≤ (v + 1) * 8 = omega arith in
    let more : (v + 1) * 8 ^ suc (length ds) ≡ (v + 1) * 8 * 8 ^ length ds =
    ap (◌*◌ (v + 1)) (pow-succ' 8 (length ds)) ∙ sym (mul_assoc (v + 1) 8 (8 ^ length ds)) in
    rw more
    (omega (arith, octal_below (v * 8 + (d - 48)) ds (all_rest is_octal d ds h), mul-le-mul_right (8 ^ length ds) one))

-- at most six digits, and where there are six the first is at most 1
small : (ds : List ℕ) → all is_octal ds ≡ true → length ds ≤ 6 → (length ds ≡ 6 → get_or ds 0 0 ≤ 49) → octal 0 ds ≤ 65535
unfolding octal
small [] h s f = omega arith
small (d ∷ ds) h s f = go (eqb (length ds) 5) refl
  where
    high : d ≤ 55
    high = between_high 48 55 d (all_first is_octal d ds h)

    below : octal (0 + (d - 48)) ds < (0 + (d - 48) + 1) * 8 ^ length ds
    below = octal_below (0 + (d - 48)) ds (all_rest is_octal d ds h)

    go : (t : Bool) → eqb (length ds) 5 ≡ t → octal (0 + (d - 48)) ds ≤ 65535
    go true e =
        let n : length ds ≡ 5 = eqb-true (length ds) 5 e in
        omega (arith, rw n at below, f (omega arith))
    go false e =
        let n : length ds ≤ 4 = omega (arith, eqb-false (length ds) 5 e) in
        omega (arith, below, mul-le-mul {n₁ = 0 + (d - 48) + 1} {n₂ = 8} (omega (arith, high)) (pow-le-pow_right {n = 8} (omega arith) n))

-- ---- fields

-- what a test of the bytes from i to e may use: how many there are, and the first of them
found :
    {sort : ℕ → Bool} {test : List ℕ → Bool} {i e : ℕ} {l : List ℕ} → Stretch sort l i e → i < e
    → (length (part i e l) ≡ e - i → get_or (part i e l) 0 0 ≡ get_or l i 0 → test (part i e l) ≡ true) → IsField test l i e
found {i = i} {e = e} {l = l} s some f =
    record {
      some = some;
      to = s.to;
      is = f (length_part i e l s.to) (ap (λ (t : List ℕ). get_or t 0 0) (part_cons i e l some s.to));
    }

pub number_found :
    {i e : ℕ} {l : List ℕ} → Stretch is_octal l i e → i < e → e - i ≤ 6 → (e - i ≡ 6 → get_or l i 0 ≤ 49) → IsField is_number l i e
unfolding is_number
number_found {i} {e} {l} s some h f =
    found s some
    (λ n first.
    and_intro
    (between_intro 1 6 (length (part i e l)) (omega arith) (omega arith))
    (and_intro s.are (le-leb _ 65535 (small (part i e l) s.are (omega arith) (λ six. omega (arith, f (omega arith)))))))

-- a character from A on is a letter
letter : (b : ℕ) → is_name_character b ≡ true → 65 ≤ b → is_letter b ≡ true
unfolding is_name_character
letter b h low =
    or_cases (is_letter b) _ h (λ e. e)
    (λ h. or_cases (is_digit b) _ h (λ e. absurd (omega (arith, between_high 48 57 b e)))
    (λ h. or_cases (eqb b 36) _ h (λ e. absurd (omega (arith, eqb-true b 36 e))) (λ e. absurd (omega (arith, eqb-true b 46 e)))))

pub name_found :
    {i e : ℕ} {l : List ℕ} → Stretch is_name_character l i e → i < e → e - i ≤ 6 → 65 ≤ get_or l i 0 → IsField is_name l i e
unfolding is_name_over
name_found {i} {e} {l} s some h low =
    found s some
    (λ n first.
    and_intro
    (between_intro 1 6 (length (part i e l)) (omega arith) (omega arith))
    (and_intro
    (ap is_letter first ∙ letter (get_or l i 0) (all_part is_name_character i e i l s.are (omega arith) some s.to) low)
    s.are))

-- what holds of a value where a test lets it through
pub IfSome-from_then_some :
    {A : Type 0} (P : A → Type 0) {r : Option A} (b : Bool) (x : A) → r ≡ then_some b x → (b ≡ true → P x) → IfSome r P
IfSome-from_then_some P true x e h = rw e (h refl)
IfSome-from_then_some P false x e h = rw e tt
