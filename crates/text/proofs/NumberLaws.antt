-- A number's digits, one after the other; and that digits with a field's end behind them are the field.
-- Assumes nothing.
use Prim.Native.Nat.{ℕ, zero, suc, ◌+◌, ◌-◌, ◌*◌, ◌^◌, ◌≤◌, ◌<◌}
use native.Mathlib.Nat.{pow-le-pow_right}
use native.Mathlib.Omega.{arith}
use mathlib.Core.Bool.{Bool, true, false, not, ◌&&◌}
use mathlib.Core.List.{List, [], ◌∷◌}
use mathlib.Core.Option.{none}
use Rattle.std.specs.Prelude.{Option}
use mathlib.Core.Path.{◌≡◌, refl, sym, ap, ap₂, ◌∙◌}
use lib.ListN.{length, drop, get_or}
use lib.Dec.{leb}
use borrow.Author.Tests.{eq-eqb, ne_eqb, leb-true, leb-false}
use Rattle.rules.specs.Text.{space, all, is_octal, octal, is_number, number_of}
use Rattle.text.specs.Scan.{part, past, is_not, InFile}
use Rattle.text.specs.FieldBounds.{is_space, field_start, field_stop}
use Rattle.text.specs.Values.{value_in, small}
use Rattle.text.specs.Digits.{DigitsRead, field_text, FieldRead}
use Rattle.text.specs.declared.numbers.DigitRun.{DigitRun}
use Rattle.text.proofs.ScanLaws.{part_nil, part_cons, part_all, length_part, all_part, past_end, past_stop, past_step, past_over, all_stop, between_yes, and_false, too_short, too_long}

-- ---- the loop

-- the bytes from `at` to i are digits with that value: what is left decides, wherever it ends
pub record Run (at stop : ℕ) (l : List ℕ) (i value : ℕ) : Type 0 where
  pub from : at ≤ i
  pub to : i ≤ stop
  pub size : stop ≤ length l
  pub few : i ≤ at + 6
  pub fits : value < 8 ^ (i - at)
  pub digits : (e : ℕ) → i ≤ e → e ≤ length l → all is_octal (part i e l) ≡ all is_octal (part at e l)
  pub same : (e : ℕ) → i ≤ e → e ≤ length l → octal value (part i e l) ≡ octal 0 (part at e l)
  pub field : past (is_not space) i stop l ≡ past (is_not space) at stop l

pub run_start : (at stop : ℕ) (l : List ℕ) → InFile at stop l → Run at stop l at 0
run_start at stop l h =
    let k : at - at ≡ 0 = omega arith in
    record {
      from = omega arith;
      to = h.order;
      size = h.size;
      few = omega arith;
      fits = rw k (omega arith);
      digits = λ e f g. refl;
      same = λ e f g. refl;
      field = refl;
    }

-- a digit is no space
digit_no_space : (b : ℕ) → 48 ≤ b → is_not space b ≡ true
digit_no_space b h = ap not (ne_eqb b space (λ e. omega arith))

all_cons : (b : ℕ) (l : List ℕ) → is_octal b ≡ true → all is_octal (b ∷ l) ≡ all is_octal l
unfolding all
all_cons b l e = rw e

octal_cons : (v b : ℕ) (l : List ℕ) → octal v (b ∷ l) ≡ octal (v * 8 + (b - 48)) l
unfolding octal
octal_cons v b l = refl

module _ {at stop : ℕ} {l : List ℕ} {i value : ℕ} (r : Run at stop l i value) where
  -- the value fits a u32 with room for one digit more
  pub run_room : value < 8 ^ 6
  run_room =
      let k : i - at ≤ 6 = omega (arith, r.few) in
      omega (arith, pow-le-pow_right {n = 8} (omega arith) k, r.fits)

  pub run_step : i < stop → i < at + 6 → 48 ≤ get_or l i 0 → get_or l i 0 ≤ 55 → Run at stop l (i + 1) (value * 8 + (get_or l i 0 - 48))
  run_step h g low high =
      let k : i + 1 - at ≡ suc (i - at) = omega (arith, r.from) in
      record {
        from = omega (arith, r.from);
        to = omega arith;
        size = r.size;
        few = omega arith;
        fits = rw k (omega (arith, r.fits));
        digits =
            λ e m n.
            sym (all_cons _ _ (between_yes 48 55 _ low high))
            ∙ ap (all is_octal) (sym (part_cons i e l (omega arith) n))
            ∙ r.digits e (omega arith) n;
        same =
            λ e m n.
            sym (octal_cons value _ _)
            ∙ ap (octal value) (sym (part_cons i e l (omega arith) n))
            ∙ r.same e (omega arith) n;
        field = past_step (is_not space) i stop l h r.size (digit_no_space _ low) ∙ r.field;
      }

  pub run_end :
      (i < stop → i < at + 6 → is_octal (get_or l i 0) ≡ false) → DigitsRead at stop l (record { value = value; end = i })
  unfolding all octal
  run_end b =
      let none_left = part_nil i i l (omega arith) in
      let n : i ≤ length l = omega (arith, r.to, r.size) in
      record {
        from = r.from;
        to = r.to;
        few = r.few;
        digits = sym (r.digits i (omega arith) n) ∙ ap (all is_octal) none_left;
        value = sym (ap (octal value) none_left) ∙ r.same i (omega arith) n;
        stops = b;
        field = r.field;
      }

-- ---- which number

no_number : (f : List ℕ) → is_number f ≡ false → none ≡ number_of f
unfolding number_of
no_number f e = simp e

pub number_short : (f : List ℕ) → length f ≡ 0 → none ≡ number_of f
unfolding is_number
number_short f e = no_number f (too_short f _ e)

number_long : (f : List ℕ) → 6 < length f → none ≡ number_of f
unfolding is_number
number_long f h = no_number f (too_long f _ h)

-- a text with a byte that is no digit
all_drop : (i : ℕ) (f : List ℕ) → all is_octal (drop i f) ≡ false → all is_octal f ≡ false
unfolding all
all_drop zero f e = e
all_drop (suc i) [] e = e
all_drop (suc i) (x ∷ xs) e = rw (all_drop i xs e) (and_false (is_octal x))

-- a text of one to six digits
number_is : (t : List ℕ) → 0 < length t → length t ≤ 6 → all is_octal t ≡ true → small (octal 0 t) ≡ number_of t
unfolding is_number number_of
number_is t h g e = simp (between_yes 1 6 (length t) h g, e)

-- a text that is read whole, and one that is not
module _ (f : List ℕ) {r : DigitRun} (d : DigitsRead 0 (length f) f r) where
  pub number_broken : (r.end ≡ length f → ⊥) → none ≡ number_of f
  unfolding is_number
  number_broken n = go (leb (length f) 6) refl
    where
      go : (t : Bool) → leb (length f) 6 ≡ t → none ≡ number_of f
      go true h =
          let few = leb-true (length f) 6 h in
          let e : r.end < length f = omega (arith, d.to) in
          let b = d.stops e (omega arith) in
          no_number f (simp (all_drop r.end f (all_stop is_octal r.end f e b), and_false))
      go false h = number_long f (leb-false (length f) 6 h)

  pub number_whole : (length f ≡ 0 → ⊥) → r.end ≡ length f → small r.value ≡ number_of f
  number_whole h e =
      let t : part 0 r.end f ≡ f = ap (λ (k : ℕ). part 0 k f) e ∙ part_all 0 f in
      ap small (d.value ∙ ap (octal 0) t) ∙ number_is f (omega arith) (omega (arith, d.few)) (ap (all is_octal) (sym t) ∙ d.digits)

-- ---- the field

octal_low : (b : ℕ) → is_octal b ≡ true → 48 ≤ b
octal_low b e = leb-true 48 b (go (leb 48 b) e)
  where
    go : (t : Bool) → t && leb b 55 ≡ true → t ≡ true
    go true h = refl
    go false h = h

octal_no_space : (b : ℕ) → is_octal b ≡ true → is_not space b ≡ true
octal_no_space b e = digit_no_space b (octal_low b e)

-- the same digits of a line that stops earlier, but not before them
pub digits_nearer :
    {at stop nearer : ℕ} {file : List ℕ} {r : DigitRun} → DigitsRead at stop file r → stop ≤ length file → r.end ≤ nearer
    → nearer ≤ stop → DigitsRead at nearer file r
digits_nearer {at} {stop} {nearer} {file} {r} d h f g =
    record {
      from = d.from;
      to = f;
      few = d.few;
      digits = d.digits;
      value = d.value;
      stops = λ a b. d.stops (omega arith) b;
      field = past_over (is_not space) is_octal octal_no_space at r.end nearer file d.from f (omega arith) d.digits;
    }

module _ {at stop : ℕ} {file : List ℕ} {r : DigitRun} (h : InFile at stop file) (d : DigitsRead at stop file r)
    (some_digit : r.end ≡ at → ⊥) where
  more : at < r.end
  more = omega (arith, d.from)

  -- each of its bytes is a digit
  pub digit_low : (k : ℕ) → at ≤ k → k < r.end → 48 ≤ get_or file k 0
  digit_low k f g =
      octal_low _ (all_part is_octal at r.end k file d.digits f g (omega (arith, d.to, h.size)))

  pub starts_here : field_start at stop file ≡ at
  unfolding field_start
  starts_here =
      past_stop is_space at stop file (omega (arith, more, d.to)) h.size
      (ne_eqb (get_or file at 0) space (λ e. omega (arith, digit_low at (omega arith) more)))

  module _ (ends : past (is_not space) r.end stop file ≡ r.end) where
    stops_here : field_stop at stop file ≡ r.end
    unfolding field_stop
    stops_here = ap (λ (k : ℕ). past (is_not space) k stop file) starts_here ∙ sym d.field ∙ ends

    text_is : field_text at stop file ≡ part at r.end file
    text_is = ap₂ (λ (a e : ℕ). part a e file) starts_here stops_here

    width : length (part at r.end file) ≡ r.end - at
    width = length_part at r.end file (omega (arith, d.to, h.size))

    field_read : {n : Option ℕ} → value_in n ≡ small r.value → FieldRead at stop file (record { number = n; end = r.end })
    field_read e =
        record {
          is =
              e
              ∙ ap small d.value
              ∙ number_is (part at r.end file) (omega (arith, width, more)) (omega (arith, width, d.few)) d.digits
              ∙ ap number_of (sym text_is);
          ends = omega (arith, ap length text_is, width, d.from);
        }

  pub line_ends : r.end ≡ stop → {n : Option ℕ} → value_in n ≡ small r.value → FieldRead at stop file (record { number = n; end = r.end })
  line_ends e = field_read (past_end (is_not space) r.end stop file (omega arith))

  pub space_ends :
      (r.end ≡ stop → ⊥) → get_or file r.end 0 ≡ space → {n : Option ℕ} → value_in n ≡ small r.value
      → FieldRead at stop file (record { number = n; end = r.end })
  space_ends f e =
      field_read
      (past_stop (is_not space) r.end stop file (omega (arith, d.to)) h.size (ap not (eq-eqb _ space e)))
