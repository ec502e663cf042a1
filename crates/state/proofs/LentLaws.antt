-- Sound cells: they are good, they are the encoding of what they decode to, and a sound state's encoding is sound.
use Prim.Native.Nat.{ℕ}
use native.Mathlib.Omega.{arith}
use mathlib.Core.Bool.{Bool, true, false, cond, ◌&&◌, false≢true}
use mathlib.Core.List.{List, [], ◌∷◌}
use mathlib.Core.Logic.{◌≢◌}
use mathlib.Core.Path.{◌≡◌, refl, sym, ap, ap₂, ◌∙◌}
use borrow.Author.Tests.{leb-true, eqb-true, eq-eqb, ne_eqb}
use lib.ListN.{length}
use lib.Dec.{eqb, leb}
use Rattle.rules.specs.Text.{all, is_packed}
use Rattle.rules.specs.Text.{same_text}
use Rattle.rules.specs.State.{State, sound_symbol, sound_symbol_over, different_names, sound_word, sound, sound_over}
use Rattle.rules.specs.Calls.{wrong_length, damaged, holding, now}
use Rattle.state.specs.Layout.{size, encode, decode, sound_cells, sound_cells_over, lent, lent_over, cells_after}
use Rattle.state.specs.Good.{sound_value, Tidy, Good, Holds}
use Rattle.state.proofs.BoolLaws.{both, first, second}
use Rattle.state.proofs.ListLaws.{all_weaken}
use Rattle.state.proofs.LayoutLaws.{decode_encode, encode_long, holds}

-- ---- lists that a test finds alike

pub same_text_lem : (l m : List ℕ) → same_text l m ≡ true → l ≡ m
unfolding same_text
same_text_lem [] [] e = refl
same_text_lem [] (y ∷ m) e = absurd (false≢true e)
same_text_lem (x ∷ l) [] e = absurd (false≢true e)
same_text_lem (x ∷ l) (y ∷ m) e =
    ap₂ {C = List ℕ} (λ a r. a ∷ r) (eqb-true x y (first (eqb x y) (same_text l m) e)) (same_text_lem l m (second (eqb x y) (same_text l m) e))

pub text_same : (l : List ℕ) → same_text l l ≡ true
unfolding same_text
text_same [] = refl
text_same (x ∷ l) = both (eqb x x) (same_text l l) (eq-eqb x x refl) (text_same l)

-- ---- a sound state is tidy

pub sound_tidy : (s : State) → sound s ≡ true → Tidy s
unfolding sound_over sound_symbol_over sound_value
sound_tidy s e =
    let n = length s.symbols in
    let few = leb n 256 in
    let valued = all sound_symbol s.symbols in
    let differ = different_names s.symbols in
    let full = eqb (length s.words) 4096 in
    let worded = all (sound_word n) s.words in
    let low = leb s.next 4096 in
    let e1 = second few (valued && (differ && (full && (worded && low)))) e in
    let e2 = second valued (differ && (full && (worded && low))) e1 in
    let e3 = second differ (full && (worded && low)) e2 in
    let e4 = second full (worded && low) e3 in
    record {
      few = leb-true n 256 (first few (valued && (differ && (full && (worded && low)))) e);
      values =
          all_weaken sound_symbol sound_value (λ y h. second (is_packed y.name) (sound_value y) h) s.symbols
          (first valued (differ && (full && (worded && low))) e1);
      different = first differ (full && (worded && low)) e2;
      full = eqb-true (length s.words) 4096 (first full (worded && low) e3);
      words = first worded low e4;
      low = leb-true s.next 4096 (second worded low e4);
    }

pub sound_symbols : (s : State) → sound s ≡ true → all sound_symbol s.symbols ≡ true
unfolding sound_over
sound_symbols s e =
    let n = length s.symbols in
    let rest = different_names s.symbols && (eqb (length s.words) 4096 && (all (sound_word n) s.words && leb s.next 4096)) in
    first (all sound_symbol s.symbols) rest (second (leb n 256) (all sound_symbol s.symbols && rest) e)

-- ---- sound cells

-- "sound cells are the encoding of what they decode to"
pub sound_cells_lem : (cells : List ℕ) → sound_cells cells ≡ true → cells ≡ encode (decode cells)
unfolding sound_cells_over
sound_cells_lem cells e =
    same_text_lem cells (encode (decode cells)) (first (same_text cells (encode (decode cells))) (sound (decode cells)) e)

pub sound_state : (cells : List ℕ) → sound_cells cells ≡ true → sound (decode cells) ≡ true
unfolding sound_cells_over
sound_state cells e = second (same_text cells (encode (decode cells))) (sound (decode cells)) e

pub sound_good : (cells : List ℕ) → sound_cells cells ≡ true → Good cells
sound_good cells e = (holds cells (decode cells) (sound_tidy (decode cells) (sound_state cells e)) (sound_cells_lem cells e)).good

-- the other way: a test over both
pub cells_sound : (cells : List ℕ) → cells ≡ encode (decode cells) → sound (decode cells) ≡ true → sound_cells cells ≡ true
unfolding sound_cells_over
cells_sound cells e y =
    both (same_text cells (encode (decode cells))) (sound (decode cells))
    (ap (same_text cells) (sym e) ∙ text_same cells)
    y

-- ---- what is lent

pub lent_wrong : (cells : List ℕ) → length cells ≢ size → lent cells ≡ wrong_length
unfolding lent_over
lent_wrong cells h = rw (ne_eqb _ _ h)

pub lent_damaged : (cells : List ℕ) → length cells ≡ size → sound_cells cells ≡ false → lent cells ≡ damaged
unfolding lent_over
lent_damaged cells h e = rw (eq-eqb _ _ h, e)

pub lent_holding : (cells : List ℕ) → length cells ≡ size → sound_cells cells ≡ true → lent cells ≡ holding (decode cells)
unfolding lent_over
lent_holding cells h e = rw (eq-eqb _ _ h, e)

-- a sound state's encoding is sound cells, and holds it
pub encode_sound : (s : State) → sound s ≡ true → sound_cells (encode s) ≡ true
encode_sound s e =
    let y = sound_tidy s e in
    let back : decode (encode s) ≡ s = decode_encode s y.few y.full y.values in
    cells_sound (encode s) (ap encode (sym back)) (ap sound back ∙ e)

pub lent_encode : (s : State) → sound s ≡ true → lent (encode s) ≡ holding s
lent_encode s e =
    let y = sound_tidy s e in
    lent_holding (encode s) (encode_long s y.few y.full) (encode_sound s e)
    ∙ ap holding (decode_encode s y.few y.full y.values)

-- cells that are lent as holding a state are its encoding, and it is sound
lent_held : (cells : List ℕ) (s : State) → lent cells ≡ holding s → (cells ≡ encode s) × (sound s ≡ true)
unfolding lent_over
lent_held cells s h = go (eqb (length cells) size) (sound_cells cells) refl h
  where
    go : (long good : Bool) → sound_cells cells ≡ good → cond long (cond good (holding (decode cells)) damaged) wrong_length ≡ holding s → (cells ≡ encode s) × (sound s ≡ true)
    go true true e h =
        let same : decode cells ≡ s = cc in
        (sound_cells_lem cells e ∙ ap encode same, ap sound (sym same) ∙ sound_state cells e)
    go true false e h = absurd (let z : ◌≡◌ {A = ℕ} 0 1 = cc in omega arith)
    go false good e h = absurd (let z : ◌≡◌ {A = ℕ} 0 1 = cc in omega arith)

module _ (cells : List ℕ) (s : State) (h : lent cells ≡ holding s) where
  pub held_encoded : cells ≡ encode s
  held_encoded = (lent_held cells s h).0

  pub held_sound : sound s ≡ true
  held_sound = (lent_held cells s h).1

-- ---- what is left

-- cells that hold a state are its encoding
pub held_cells : {cells : List ℕ} {s : State} → Holds cells s → cells ≡ encode s
held_cells h = h.good.encoded ∙ ap encode h.is

pub left_cells : (before : List ℕ) {cells : List ℕ} {s : State} → Holds cells s → cells ≡ cells_after before (now s)
unfolding cells_after
left_cells before h = held_cells h
