-- The image: its length, and that only the fourth quarter of a word with an external reference differs from its text.
use Prim.Native.Nat.{ℕ, ◌+◌, ◌*◌, ◌/◌, ◌%◌, ◌^◌}
use native.Mathlib.Omega.{arith}
use mathlib.Core.Bool.{cond}
use mathlib.Core.List.{List, [], ◌∷◌, ◌++◌}
use mathlib.Core.Path.{◌≡◌, refl, ap₂}
use lib.ListN.{length, length-append}
use Rattle.rules.specs.State.{Symbol, Word, unplaced, plain, refers, State, is_placed, placed_words}
use Rattle.rules.specs.Image.{value_of, completed, two, quarters, word_record, record_of, records_from, end_record, image_of}

record_length : (t : List Symbol) (a : ℕ) (w : Word) → length (record_of t a w) ≡ 11 * cond (is_placed w) 1 0
unfolding record_of word_record quarters two
record_length t a unplaced = refl
record_length t a (plain x) = refl
record_length t a (refers x i) = refl

records_length : (t : List Symbol) (a : ℕ) (ws : List Word) → length (records_from t a ws) ≡ 11 * placed_words ws
unfolding records_from placed_words
records_length t a [] = refl
records_length t a (w ∷ ws) =
    omega (arith, length-append (record_of t a w) (records_from t (a + 1) ws), record_length t a w, records_length t (a + 1) ws)

-- "The length is 11 times the placed words plus 5."
pub image_length_lem : (s : State) → length (image_of s) ≡ 11 * placed_words s.words + 5
unfolding image_of end_record two
image_length_lem s =
    omega (arith, length-append (records_from s.symbols 0 s.words) (end_record s), records_length s.symbols 0 s.words)

-- sixteen bits are written, whatever stands above them
two_low : (a b : ℕ) → two (a * 65536 + b) ≡ two b
unfolding two
two_low a b = ap₂ {A = ℕ} {B = ℕ} (λ x y. x ∷ y ∷ []) (omega arith) (omega arith)

-- "Only the fourth quarter of a word with an external reference differs from its text; it holds the text plus the symbol's
-- value, or plus 0 if undefined, modulo 65,536."
pub fourth_quarter_lem : (text v : ℕ)
    → quarters (completed text v)
    ≡ two (text / 65536 ^ 3) ++ (two (text / 65536 ^ 2) ++ (two (text / 65536) ++ two ((text % 65536 + v) % 65536)))
unfolding quarters completed
fourth_quarter_lem text v =
    let w : ℕ = text / 65536 * 65536 + (text % 65536 + v) % 65536 in
    let first : w / 65536 ^ 3 ≡ text / 65536 ^ 3 = omega arith in
    let second : w / 65536 ^ 2 ≡ text / 65536 ^ 2 = omega arith in
    let third : w / 65536 ≡ text / 65536 = omega arith in
    rw (first, second, third, two_low)

pub plain_as_written : (t : List Symbol) (a x : ℕ) → record_of t a (plain x) ≡ word_record a x
unfolding record_of
plain_as_written t a x = refl

pub reference_completed : (t : List Symbol) (a x i : ℕ) → record_of t a (refers x i) ≡ word_record a (completed x (value_of t i))
unfolding record_of
reference_completed t a x i = refl
