-- The program words in cells.
use Rattle.std.specs.Prelude.{Some, None}
use Prim.Native.Nat.{ℕ, ◌+◌, ◌-◌, ◌^◌, ◌≤◌, ◌<◌}
use mathlib.Core.Bool.{Bool, true, false, cond, not}
use mathlib.Core.List.{List}
use mathlib.Core.Logic.{◌≢◌}
use mathlib.Core.Path.{◌≡◌, refl, sym, ap, subst, ◌∙◌}
use native.Mathlib.Omega.{arith}
use borrow.Author.Tests.{lt-ltb, ltb-true, eq-eqb, ne_eqb}
use lib.ListN.{length, get_or, set, length-map, length-set, get_or-eq_default}
use lib.Seq.{set_out}
use lib.Dec.{eqb, ltb}
use Rattle.rules.specs.State.{Word, unplaced, plain, refers, is_placed, sound_word, State}
use Rattle.state.specs.Layout.{name_cell, value_cell, text_cell, tag_cell, header, names, values, texts, tags, encode, word_of, word_in, decode}
use Rattle.state.specs.Good.{Good, Holds, with_words}
use Rattle.state.specs.declared.words.Placed.TheVariants.{Plain, Refers}
use Rattle.state.specs.Words.{tag_of, WithinTable, Tagged}
use Rattle.state.proofs.BoolLaws.{both, second}
use Rattle.state.proofs.ListLaws.{map_set, all_at, all_set}
use Rattle.state.proofs.RegionLaws.{flat, set_text, set_tag}
use Rattle.state.proofs.LayoutLaws.{table_long, holds, good_holds, word_is, encode_text, encode_tag}

-- ---- reading

pub placed_is : (text tag : ℕ) → is_placed (word_of text tag) ≡ not (eqb tag 0)
unfolding word_of
placed_is text tag = go (eqb tag 0) (eqb tag 1)
  where
    go : (z o : Bool) → is_placed (cond z unplaced (cond o (plain text) (refers text (tag - 2)))) ≡ not z
    go true o = refl
    go false true = refl
    go false false = refl

module _ {cells : List ℕ} (g : Good cells) (a : ℕ) where
  pub is_placed_at : a < 4096 → is_placed (get_or (decode cells).words a unplaced) ≡ not (eqb (get_or cells (4612 + a) 0) 0)
  is_placed_at h = ap is_placed (word_is cells a h) ∙ placed_is (get_or cells (516 + a) 0) (get_or cells (4612 + a) 0)

  pub is_placed_past : 4096 ≤ a → is_placed (get_or (decode cells).words a unplaced) ≡ false
  is_placed_past h = ap is_placed (get_or-eq_default (decode cells).words unplaced (omega (arith, g.tidy.full)))

  pub text_is : a < 4096 → get_or cells (516 + a) 0 ≡ text_cell (get_or (decode cells).words a unplaced)
  text_is h =
      ap (λ (l : List ℕ). get_or l (516 + a) 0) g.encoded
      ∙ encode_text (decode cells) g.tidy.few g.tidy.full a h

  tag_inside : (w : Word) → sound_word (length (decode cells).symbols) w ≡ true → WithinTable (length (decode cells).symbols) (tag_of w)
  unfolding sound_word
  tag_inside unplaced e = tt
  tag_inside (plain x) e = tt
  tag_inside (refers x i) e =
      ltb-true _ _ (second (ltb x (2 ^ 64)) (ltb i (length (decode cells).symbols)) e)

  tag_below : (w : Word) → WithinTable (length (decode cells).symbols) (tag_of w) → tag_cell w < 2 + length (decode cells).symbols
  tag_below unplaced e = omega arith
  tag_below (plain x) e = omega arith
  tag_below (refers x i) e = omega arith

  module _ (h : a < 4096) where
    abbrev there : Word
    there = get_or (decode cells).words a unplaced

    pub tag_is : get_or cells (4612 + a) 0 ≡ tag_cell there
    tag_is =
        ap (λ (l : List ℕ). get_or l (4612 + a) 0) g.encoded
        ∙ encode_tag (decode cells) g.tidy.few g.tidy.full a

    tag_within : WithinTable (length (decode cells).symbols) (tag_of there)
    tag_within =
        tag_inside there
        (all_at (sound_word (length (decode cells).symbols)) (decode cells).words unplaced g.tidy.words a (omega (arith, g.tidy.full)))

    pub tag_small_lem : get_or cells (4612 + a) 0 < 2 + length (decode cells).symbols
    tag_small_lem = omega (arith, tag_is, tag_below there tag_within)

    -- by its cell
    tagged : Tagged (decode cells) a (tag_of (word_in cells a))
    tagged =
        record {
          is = ap tag_of (sym (word_is cells a h));
          inside = subst (λ (w : Word). WithinTable (length (decode cells).symbols) (tag_of w)) (word_is cells a h) tag_within;
        }

    pub tagged_unplaced : get_or cells (4612 + a) 0 ≡ 0 → Tagged (decode cells) a None
    unfolding word_of
    tagged_unplaced e = rw (eq-eqb _ _ e) at tagged

    pub tagged_plain : get_or cells (4612 + a) 0 ≡ 1 → Tagged (decode cells) a (Some Plain)
    unfolding word_of
    tagged_plain e =
        let n : get_or cells (4612 + a) 0 ≢ 0 = omega arith in
        rw (ne_eqb _ _ n, eq-eqb _ _ e) at tagged

    pub tagged_refers : get_or cells (4612 + a) 0 ≢ 0 → get_or cells (4612 + a) 0 ≢ 1 → Tagged (decode cells) a (Some (Refers (get_or cells (4612 + a) 0 - 2)))
    unfolding word_of
    tagged_refers e d = rw (ne_eqb _ _ e, ne_eqb _ _ d) at tagged

  -- ---- storing

  module _ (w : Word) (y : sound_word (length (decode cells).symbols) w ≡ true) where
    abbrev after : State
    after = with_words (set (decode cells).words a w) (decode cells)

    pub word_past : 4096 ≤ a → Holds cells after
    word_past h =
        rw (set_out (decode cells).words a w (omega (arith, g.tidy.full)))
        (good_holds g)

    stored : (s : State) → length s.symbols ≤ 256 → length s.words ≡ 4096 → a < 4096 → set (set (encode s) (516 + a) (text_cell w)) (4612 + a) (tag_cell w) ≡ encode (with_words (set s.words a w) s)
    unfolding encode
    stored s few full h =
        let now = with_words (set s.words a w) s in
        ap (λ (r : List ℕ). set r (4612 + a) (tag_cell w))
        (set_text (header s) (names s) (values s) (texts s) (tags s) refl (table_long s few name_cell) (table_long s few value_cell) (length-map s.words text_cell ∙ full) a (text_cell w) h
        ∙ ap (λ (r : List ℕ). flat (header s) (names s) (values s) r (tags s)) (sym (map_set text_cell a w s.words)))
        ∙ set_tag (header s) (names s) (values s) (texts now) (tags s) refl (table_long s few name_cell) (table_long s few value_cell) (length-map (set s.words a w) text_cell ∙ length-set s.words a w ∙ full) a (tag_cell w)
        ∙ ap (flat (header s) (names s) (values s) (texts now)) (sym (map_set tag_cell a w s.words))

    pub word_set : a < 4096 → Holds (set (set cells (516 + a) (text_cell w)) (4612 + a) (tag_cell w)) after
    word_set h =
        let t = g.tidy in
        holds (set (set cells (516 + a) (text_cell w)) (4612 + a) (tag_cell w)) after
        (record {
          few = t.few;
          values = t.values;
          different = t.different;
          full = length-set (decode cells).words a w ∙ t.full;
          words = all_set (sound_word (length (decode cells).symbols)) (decode cells).words a w y t.words;
          low = t.low;
        })
        (ap (λ (r : List ℕ). set (set r (516 + a) (text_cell w)) (4612 + a) (tag_cell w)) g.encoded
        ∙ stored (decode cells) t.few t.full h)

pub plain_sound : (n x : ℕ) → x < 2 ^ 64 → sound_word n (plain x) ≡ true
unfolding sound_word
plain_sound n x h = lt-ltb x (2 ^ 64) h

pub refers_sound : (n x i : ℕ) → x < 2 ^ 64 → i < n → sound_word n (refers x i) ≡ true
unfolding sound_word
refers_sound n x i h b = both (ltb x (2 ^ 64)) (ltb i n) (lt-ltb x (2 ^ 64) h) (lt-ltb i n b)
