-- A state and its cells: each cell of an encoding, and that decoding gives the state back.
use Prim.Native.Nat.{ℕ, ◌+◌, ◌-◌, ◌≤◌, ◌<◌}
use mathlib.Core.Bool.{Bool, true, false, cond, not, ◌&&◌, ◌||◌}
use mathlib.Core.List.{List, map}
use mathlib.Core.Path.{◌≡◌, refl, sym, ap, ap₂, subst, ◌∙◌}
use native.Mathlib.Omega.{arith}
use borrow.Author.Tests.{eqb-true, ne_eqb}
use lib.ListN.{length, get_or, length-map, get_or-map, get_or-eq_default}
use lib.Dec.{eqb, leb}
use Rattle.rules.specs.Text.{all}
use Rattle.rules.specs.State.{Symbol, symbol, Word, unplaced, plain, refers, Mark, unmarked, broken, frozen, State, state}
use Rattle.state.specs.Layout.{size, name_cell, value_cell, text_cell, tag_cell, mark_cell, padded, header, names, values, texts, tags, encode, symbol_of, word_of, mark_of, symbol_in, word_in, symbols_from, words_below, decode}
use Rattle.state.specs.Good.{sound_value, Tidy, Good, Holds}
use Rattle.state.specs.Table.{no_symbol}
use Rattle.state.proofs.BoolLaws.{second}
use Rattle.state.proofs.ListLaws.{length_padded, get_or_padded, length_map_range, get_or_map_range, map_range, all_at}
use Rattle.state.proofs.RegionLaws.{length_flat, at_name, at_value, at_text, at_tag}

-- ---- the cells of an encoding

module _ (s : State) (few : length s.symbols ≤ 256) where
  pub table_long : (f : Symbol → ℕ) → length (padded 256 (map f s.symbols)) ≡ 256
  table_long f = length_padded 256 (map f s.symbols) (omega (arith, length-map s.symbols f))

  pub encode_name : (i : ℕ) → i < 256 → get_or (encode s) (4 + i) 0 ≡ get_or (map name_cell s.symbols) i 0
  unfolding encode
  encode_name i h =
      at_name (header s) (names s) (values s) (texts s) (tags s) refl (table_long name_cell) i h
      ∙ get_or_padded 256 (map name_cell s.symbols) i

  pub encode_value : (i : ℕ) → i < 256 → get_or (encode s) (260 + i) 0 ≡ get_or (map value_cell s.symbols) i 0
  unfolding encode
  encode_value i h =
      at_value (header s) (names s) (values s) (texts s) (tags s) refl (table_long name_cell) (table_long value_cell) i h
      ∙ get_or_padded 256 (map value_cell s.symbols) i

  module _ (full : length s.words ≡ 4096) where
    pub encode_text : (a : ℕ) → a < 4096 → get_or (encode s) (516 + a) 0 ≡ text_cell (get_or s.words a unplaced)
    unfolding encode
    encode_text a h =
        at_text (header s) (names s) (values s) (texts s) (tags s) refl (table_long name_cell) (table_long value_cell) (length-map s.words text_cell ∙ full) a h
        ∙ get_or-map text_cell s.words a unplaced

    pub encode_tag : (a : ℕ) → get_or (encode s) (4612 + a) 0 ≡ tag_cell (get_or s.words a unplaced)
    unfolding encode
    encode_tag a =
        at_tag (header s) (names s) (values s) (texts s) (tags s) refl (table_long name_cell) (table_long value_cell) (length-map s.words text_cell ∙ full) a
        ∙ get_or-map tag_cell s.words a unplaced

    pub encode_long : length (encode s) ≡ size
    unfolding encode
    encode_long =
        length_flat (header s) (names s) (values s) (texts s) (tags s) refl
        ∙ omega (arith, table_long name_cell, table_long value_cell, length-map s.words text_cell, length-map s.words tag_cell)

-- ---- decoding an encoding

pub symbol_back : (s : Symbol) → sound_value s ≡ true → symbol_of (name_cell s) (value_cell s) ≡ s
unfolding sound_value
symbol_back s h = go s.name s.value s.defined h
  where
    go : (n v : ℕ) (d : Bool) → leb v 65535 && (d || eqb v 0) ≡ true → symbol_of n (cond d (v + 65536) 0) ≡ symbol n v d
    go n v true h = ap₂ (symbol n) (omega arith) (ap not (ne_eqb (v + 65536) 0 (omega arith)))
    go n v false h = ap (λ (k : ℕ). symbol n k false) (sym (eqb-true v 0 (second (leb v 65535) (eqb v 0) h)))

pub word_back : (w : Word) → word_of (text_cell w) (tag_cell w) ≡ w
unfolding word_of
word_back unplaced = refl
word_back (plain x) = refl
word_back (refers x i) =
    let z : eqb (2 + i) 0 ≡ false = ne_eqb (2 + i) 0 (omega arith) in
    let o : eqb (2 + i) 1 ≡ false = ne_eqb (2 + i) 1 (omega arith) in
    let e : 2 + i - 2 ≡ i = omega arith in
    rw (z, o, e)

pub mark_back : (m : Mark) → mark_of (mark_cell m) ≡ m
unfolding mark_of
mark_back unmarked = refl
mark_back broken = refl
mark_back frozen = refl

state_same : {t t' : List Symbol} {ws ws' : List Word} {n n' : ℕ} {k k' : Mark} → t ≡ t' → ws ≡ ws' → n ≡ n' → k ≡ k' → state t ws n k ≡ state t' ws' n' k'
state_same p q r e = λ i. state (p i) (q i) (r i) (e i)

module _ (s : State) (few : length s.symbols ≤ 256) (full : length s.words ≡ 4096) (valued : all sound_value s.symbols ≡ true) where
  symbols_back : symbols_from (encode s) 0 ≡ s.symbols
  unfolding symbols_from encode
  symbols_back =
      map_range (symbol_in (encode s)) s.symbols (length s.symbols) no_symbol refl
      (λ k h.
      ap₂ symbol_of
      (encode_name s few k (omega arith) ∙ get_or-map name_cell s.symbols k no_symbol)
      (encode_value s few k (omega arith) ∙ get_or-map value_cell s.symbols k no_symbol)
      ∙ symbol_back (get_or s.symbols k no_symbol) (all_at sound_value s.symbols no_symbol valued k h))

  words_back : words_below (encode s) 4096 ≡ s.words
  unfolding words_below
  words_back =
      map_range (word_in (encode s)) s.words 4096 unplaced (sym full)
      (λ k h. ap₂ word_of (encode_text s few full k h) (encode_tag s few full k) ∙ word_back (get_or s.words k unplaced))

  -- decoding gives back what was encoded
  pub decode_encode : decode (encode s) ≡ s
  unfolding decode encode
  decode_encode = state_same symbols_back words_back refl (mark_back s.mark)

-- ---- good cells

pub holds_encode : (s : State) → Tidy s → Holds (encode s) s
unfolding encode
holds_encode s y =
    let back : decode (encode s) ≡ s = decode_encode s y.few y.full y.values in
    record {
      good =
          record {
            long = encode_long s y.few y.full;
            few = y.few;
            low = y.low;
            encoded = ap encode (sym back);
            tidy = subst Tidy (sym back) y;
          };
      is = back;
    }

-- what each function that changes the state shows: its cells are a tidy state's
pub holds : (cells : List ℕ) (s : State) → Tidy s → cells ≡ encode s → Holds cells s
holds cells s y e = subst (λ (l : List ℕ). Holds l s) (sym e) (holds_encode s y)

pub good_holds : {cells : List ℕ} → Good cells → Holds cells (decode cells)
good_holds g = record { good = g; is = refl }

-- two changes, one after the other
pub holds_then : (f : State → State) {cells after : List ℕ} {s : State} → Holds cells s → Holds after (f (decode cells)) → Holds after (f s)
holds_then f h k = record { good = k.good; is = k.is ∙ ap f h.is }

-- ---- what good cells are read by

pub count_is : (cells : List ℕ) → length (decode cells).symbols ≡ get_or cells 0 0
unfolding decode symbols_from
count_is cells = length_map_range (symbol_in cells) 0 (get_or cells 0 0) ∙ omega arith

pub inside : (cells : List ℕ) (i : ℕ) → i < length (decode cells).symbols → i < get_or cells 0 0
inside cells i h = omega (arith, count_is cells)

pub words_long : (cells : List ℕ) → length (decode cells).words ≡ 4096
unfolding decode words_below
words_long cells = length_map_range (word_in cells) 0 4096

pub symbol_is_lem : (cells : List ℕ) (i : ℕ) → i < get_or cells 0 0 → get_or (decode cells).symbols i no_symbol ≡ symbol_in cells i
unfolding decode symbols_from
symbol_is_lem cells i h = get_or_map_range (symbol_in cells) (get_or cells 0 0) i no_symbol h

pub word_is : (cells : List ℕ) (a : ℕ) → a < 4096 → get_or (decode cells).words a unplaced ≡ word_in cells a
unfolding decode words_below
word_is cells a h = get_or_map_range (word_in cells) 4096 a unplaced h

-- a name, 0 behind the last symbol's
pub name_is_lem : {cells : List ℕ} → Good cells → (i : ℕ) → i < 256 → get_or cells (4 + i) 0 ≡ (get_or (decode cells).symbols i no_symbol).name
name_is_lem {cells} g i h =
    ap (λ (l : List ℕ). get_or l (4 + i) 0) g.encoded
    ∙ encode_name (decode cells) g.tidy.few i h
    ∙ get_or-map name_cell (decode cells).symbols i no_symbol

-- the cells behind the last symbol's
module _ {cells : List ℕ} (g : Good cells) (i : ℕ) (b : get_or cells 0 0 ≤ i) (h : i < 256) where
  unused : (f : Symbol → ℕ) → get_or (map f (decode cells).symbols) i 0 ≡ 0
  unused f =
      get_or-eq_default (map f (decode cells).symbols) 0 (omega (arith, length-map (decode cells).symbols f, count_is cells))

  pub unused_name : get_or cells (4 + i) 0 ≡ 0
  unused_name =
      ap (λ (l : List ℕ). get_or l (4 + i) 0) g.encoded ∙ encode_name (decode cells) g.tidy.few i h ∙ unused name_cell

  pub unused_value : get_or cells (260 + i) 0 ≡ 0
  unused_value =
      ap (λ (l : List ℕ). get_or l (260 + i) 0) g.encoded
      ∙ encode_value (decode cells) g.tidy.few i h
      ∙ unused value_cell
