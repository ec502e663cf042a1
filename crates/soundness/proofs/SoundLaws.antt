-- The tests on cells hold together exactly if the cells are the encoding of a sound state.
use Prim.Native.Nat.{ℕ, ◌+◌, ◌-◌, ◌≤◌, ◌<◌}
use mathlib.Core.Bool.{Bool, true, false, ◌&&◌}
use mathlib.Core.List.{List, map}
use mathlib.Core.Logic.{◌≢◌}
use mathlib.Core.Path.{◌≡◌, refl, sym, ap, ◌∙◌}
use native.Mathlib.Omega.{arith}
use borrow.Author.Tests.{leb-true, ltb-true, ltb-false, eqb-true, le-leb, eq-eqb}
use lib.ListN.{length, get_or, get_or-map, get_or-eq_default, length-map}
use lib.Seq.{ext_get_or}
use lib.Dec.{eqb, leb, ltb}
use mir.Syntax.{w64}
use mir.Val.{Fits}
use Rattle.rules.specs.Text.{all, is_packed}
use Rattle.rules.specs.State.{Symbol, Mark, unmarked, broken, frozen, unplaced, State, sound_symbol, sound_symbol_over, different_names, sound_word, sound, sound_over}
use Rattle.state.specs.Layout.{size, name_cell, value_cell, text_cell, tag_cell, mark_cell, encode, range, symbol_in, word_in, symbols_from, words_below, decode, sound_cells}
use Rattle.state.specs.Good.{sound_value, Good}
use Rattle.state.specs.Table.{no_symbol}
use Rattle.state.proofs.BoolLaws.{both, first, second, same_test}
use Rattle.state.proofs.ListLaws.{all_range, range_all, all_map, all_at}
use Rattle.state.proofs.RegionLaws.{each_region, each_of_four}
use Rattle.state.proofs.LayoutLaws.{encode_name, encode_value, encode_text, encode_tag, encode_long, count_is, words_long, symbol_is_lem, word_is, unused_name, unused_value}
use Rattle.state.proofs.HeaderLaws.{mark_cell_lem, mark_is}
use Rattle.state.proofs.SymbolLaws.{value_large, value_small}
use Rattle.state.proofs.WordLaws.{text_is, tag_is, tag_small_lem}
use Rattle.state.proofs.LentLaws.{lent_wrong, lent_damaged, lent_holding, sound_good, sound_state, sound_symbols, cells_sound}
use Rattle.soundness.specs.Checks.{refused_by, Refusal, header_sound, zero_at, zero_between, value_sound, symbol_sound_at, symbols_sound, names_differ, word_sound_at, words_sound}
use Rattle.soundness.proofs.CheckLaws.{value_back, symbol_sound, sound_value_lem, text_back, tag_back, word_sound_lem, sound_word_lem, names_differ_lem}

marks : (k : ℕ) (m : Mark) → k ≡ mark_cell m → k ≤ 2
marks k unmarked e = omega arith
marks k broken e = omega arith
marks k frozen e = omega arith

module _ (cells : List ℕ) where
  abbrev n : ℕ
  n = get_or cells 0 0

  abbrev d : State
  d = decode cells

  -- ---- from the tests to soundness

  header_parts : header_sound cells ≡ true → (n ≤ 256) × (get_or cells 1 0 ≤ 4096) × (get_or cells 2 0 ≤ 2) × (get_or cells 3 0 ≡ 0)
  unfolding header_sound
  header_parts e =
      let c = leb n 256 in
      let l = leb (get_or cells 1 0) 4096 in
      let m = leb (get_or cells 2 0) 2 in
      let z = eqb (get_or cells 3 0) 0 in
      let e1 = second c (l && (m && z)) e in
      let e2 = second l (m && z) e1 in
      (leb-true n 256 (first c (l && (m && z)) e), leb-true (get_or cells 1 0) 4096 (first l (m && z) e1), leb-true (get_or cells 2 0) 2 (first m z e2), eqb-true (get_or cells 3 0) 0 (second m z e2))

  pub header_few : header_sound cells ≡ true → n ≤ 256
  header_few e = (header_parts e).0

  module _ (long : length cells ≡ size) (fits : (i : ℕ) → Fits w64 (get_or cells i 0)) (headed : header_sound cells ≡ true)
      (names : zero_between cells (4 + n) 260 ≡ true) (values : zero_between cells (260 + n) 516 ≡ true)
      (symbols : symbols_sound cells n ≡ true) (differ : names_differ cells n ≡ true) (words : words_sound cells n ≡ true) where
    few : n ≤ 256
    few = header_few headed

    few' : length d.symbols ≤ 256
    few' = omega (arith, count_is cells, few)

    -- a column of the table: a symbol's cell where there is one, else 0
    column : (f : Symbol → ℕ) (i c : ℕ) → f no_symbol ≡ 0 → (i < n → f (symbol_in cells i) ≡ c) → (n ≤ i → 0 ≡ c) → c ≡ get_or (map f d.symbols) i 0
    column f i c z used unused = go (ltb i n) refl
      where
        go : (b : Bool) → ltb i n ≡ b → c ≡ get_or (map f d.symbols) i 0
        go true e =
            let h = ltb-true i n e in
            sym
            (ap (get_or (map f d.symbols) i) (sym z)
            ∙ get_or-map f d.symbols i no_symbol
            ∙ ap f (symbol_is_lem cells i h)
            ∙ used h)
        go false e =
            let h = ltb-false i n e in
            sym
            (get_or-eq_default (map f d.symbols) 0 (omega (arith, length-map d.symbols f, count_is cells))
            ∙ unused h)

    symbol_at_lem : (i : ℕ) → i < n → symbol_sound_at cells i ≡ true
    unfolding symbols_sound
    symbol_at_lem i h = all_range (symbol_sound_at cells) 0 n symbols i (omega arith) h

    legal : (i : ℕ) → i < n → is_packed (get_or cells (4 + i) 0) ≡ true
    legal i h = first (is_packed (get_or cells (4 + i) 0)) (value_sound (get_or cells (260 + i) 0)) (symbol_at_lem i h)

    valued : (i : ℕ) → i < n → value_sound (get_or cells (260 + i) 0) ≡ true
    valued i h = second (is_packed (get_or cells (4 + i) 0)) (value_sound (get_or cells (260 + i) 0)) (symbol_at_lem i h)

    word_at : (a : ℕ) → a < 4096 → word_sound_at cells n a ≡ true
    unfolding words_sound
    word_at a h = all_range (word_sound_at cells n) 0 4096 words a (omega arith) h

    zero_at_lem : (a b k : ℕ) → zero_between cells a b ≡ true → a ≤ k → k < b → 0 ≡ get_or cells k 0
    unfolding zero_between
    zero_at_lem a b k e l h = sym (eqb-true (get_or cells k 0) 0 (all_range (zero_at cells) a b e k l h))

    encoded : cells ≡ encode d
    unfolding encode decode
    encoded =
        ext_get_or 0 cells (encode d) (long ∙ sym (encode_long d few' (words_long cells)))
        (λ k h.
        each_region (λ k. get_or cells k 0 ≡ get_or (encode d) k 0)
        (each_of_four (λ k. get_or cells k 0 ≡ get_or (encode d) k 0) (sym (count_is cells)) refl (mark_cell_lem (get_or cells 2 0) (header_parts headed).2) (header_parts headed).3)
        (λ i b.
        column name_cell i (get_or cells (4 + i) 0) refl (λ l. refl) (λ l. zero_at_lem (4 + n) 260 (4 + i) names (omega arith) (omega arith))
        ∙ sym (encode_name d few' i b))
        (λ i b.
        column value_cell i (get_or cells (260 + i) 0) refl
        (λ l. value_back (get_or cells (4 + i) 0) (get_or cells (260 + i) 0) (valued i l))
        (λ l. zero_at_lem (260 + n) 516 (260 + i) values (omega arith) (omega arith))
        ∙ sym (encode_value d few' i b))
        (λ a b.
        sym
        (encode_text d few' (words_long cells) a b
        ∙ ap text_cell (word_is cells a b)
        ∙ text_back n (get_or cells (516 + a) 0) (get_or cells (4612 + a) 0) (word_at a b)))
        (λ a b.
        sym
        (encode_tag d few' (words_long cells) a
        ∙ ap tag_cell (word_is cells a b)
        ∙ tag_back n (get_or cells (516 + a) 0) (get_or cells (4612 + a) 0) (word_at a b)))
        k (omega arith))

    all_symbols : all sound_symbol d.symbols ≡ true
    unfolding decode symbols_from
    all_symbols =
        all_map sound_symbol (symbol_in cells) (range 0 n)
        ∙ range_all (λ i. sound_symbol (symbol_in cells i)) 0 n
        (λ i l u. symbol_sound (get_or cells (4 + i) 0) (get_or cells (260 + i) 0) (legal i u) (valued i u))

    different : different_names d.symbols ≡ true
    unfolding decode
    different = names_differ_lem cells ∙ differ

    all_words : all (sound_word n) d.words ≡ true
    unfolding decode words_below
    all_words =
        all_map (sound_word n) (word_in cells) (range 0 4096)
        ∙ range_all (λ a. sound_word n (word_in cells a)) 0 4096
        (λ a l u. word_sound_lem n (get_or cells (516 + a) 0) (get_or cells (4612 + a) 0) (word_at a u) (fits (516 + a)).fits)

    low' : leb d.next 4096 ≡ true
    unfolding decode
    low' = le-leb (get_or cells 1 0) 4096 (header_parts headed).1

    sound_now : sound d ≡ true
    unfolding sound_over
    sound_now =
        rw (le-leb (length d.symbols) 256 few', all_symbols, different, eq-eqb (length d.words) 4096 (words_long cells), count_is cells, all_words, low')

    pub sound_from : sound_cells cells ≡ true
    sound_from = cells_sound cells encoded sound_now

  -- ---- from soundness to the tests

  module _ (e : sound_cells cells ≡ true) where
    g : Good cells
    g = sound_good cells e

    pub header_from : header_sound cells ≡ true
    unfolding header_sound encode
    header_from =
        let spare : get_or cells 3 0 ≡ 0 = ap (λ (l : List ℕ). get_or l 3 0) g.encoded in
        rw (le-leb n 256 g.few, le-leb (get_or cells 1 0) 4096 g.low, le-leb (get_or cells 2 0) 2 (marks (get_or cells 2 0) d.mark (mark_is g)), eq-eqb (get_or cells 3 0) 0 spare)

    -- a column of the table behind its last symbol
    zeroes_from : (at : ℕ) → ((i : ℕ) → n ≤ i → i < 256 → get_or cells (at + i) 0 ≡ 0) → zero_between cells (at + n) (at + 256) ≡ true
    unfolding zero_between
    zeroes_from at unused =
        range_all (zero_at cells) (at + n) (at + 256)
        (λ k l u.
        let same : k ≡ at + (k - at) = omega arith in
        eq-eqb (get_or cells k 0) 0
        (ap (λ (j : ℕ). get_or cells j 0) same ∙ unused (k - at) (omega arith) (omega arith)))

    pub names_from_lem : zero_between cells (4 + n) 260 ≡ true
    names_from_lem = zeroes_from 4 (unused_name g)

    pub values_from : zero_between cells (260 + n) 516 ≡ true
    values_from = zeroes_from 260 (unused_value g)

    pub symbols_from_lem : symbols_sound cells n ≡ true
    unfolding symbols_sound sound_symbol_over sound_value
    symbols_from_lem =
        range_all (symbol_sound_at cells) 0 n
        (λ i l u.
        both (is_packed (get_or cells (4 + i) 0)) (value_sound (get_or cells (260 + i) 0))
        (first (is_packed (get_or cells (4 + i) 0)) (sound_value (symbol_in cells i))
        (ap sound_symbol (sym (symbol_is_lem cells i u))
        ∙ all_at sound_symbol d.symbols no_symbol (sound_symbols d (sound_state cells e)) i (omega (arith, count_is cells))))
        (sound_value_lem (get_or cells (260 + i) 0) (value_small g i u) (value_large g i u)))

    pub differ_from : names_differ cells n ≡ true
    unfolding decode
    differ_from = sym (names_differ_lem cells) ∙ g.tidy.different

    pub words_from : words_sound cells n ≡ true
    unfolding words_sound
    words_from =
        range_all (word_sound_at cells n) 0 4096
        (λ a l u.
        sound_word_lem n (get_or cells (516 + a) 0) (get_or cells (4612 + a) 0) (get_or d.words a unplaced) (text_is g a u) (tag_is g a u) (omega (arith, tag_small_lem g a u, count_is cells)))

-- ---- what is lent, as the code tells it

module _ (cells : List ℕ) where
  -- a test that sound cells pass has failed
  pub fails : (t : Bool) → (sound_cells cells ≡ true → t ≡ true) → t ≡ false → false ≡ sound_cells cells
  fails t f e = go (sound_cells cells) refl
    where
      go : (b : Bool) → sound_cells cells ≡ b → false ≡ b
      go true q = sym e ∙ f q
      go false q = refl

  module _ (long : length cells ≡ size) where
    -- all tests but the last have passed
    pub last_decides : ((i : ℕ) → Fits w64 (get_or cells i 0)) → header_sound cells ≡ true → zero_between cells (4 + get_or cells 0 0) 260 ≡ true → zero_between cells (260 + get_or cells 0 0) 516 ≡ true → symbols_sound cells (get_or cells 0 0) ≡ true → names_differ cells (get_or cells 0 0) ≡ true → words_sound cells (get_or cells 0 0) ≡ sound_cells cells
    last_decides fits h ns vs ss ds =
        same_test (words_sound cells (get_or cells 0 0)) (sound_cells cells) (sound_from cells long fits h ns vs ss ds) (words_from cells)

    pub refusal_none : sound_cells cells ≡ true → Refusal cells 0
    unfolding refused_by
    refusal_none good =
        record {
          is = sym (ap refused_by (lent_holding cells long good));
          holds = λ z. lent_holding cells long good;
          good = λ z. sound_good cells good;
        }

    pub refusal_damaged : sound_cells cells ≡ false → Refusal cells 2
    unfolding refused_by
    refusal_damaged bad =
        record {
          is = sym (ap refused_by (lent_damaged cells long bad));
          holds = λ z. absurd (omega arith);
          good = λ z. absurd (omega arith);
        }

  pub refusal_length : length cells ≢ size → Refusal cells 1
  unfolding refused_by
  refusal_length h =
      record {
        is = sym (ap refused_by (lent_wrong cells h));
        holds = λ z. absurd (omega arith);
        good = λ z. absurd (omega arith);
      }
