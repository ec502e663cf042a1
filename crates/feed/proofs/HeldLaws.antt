-- The tests on cells hold together exactly if the cells are those of a sound feed.
use Prim.Native.Nat.{ℕ, zero, suc, ◌+◌, ◌-◌, ◌*◌, ◌/◌, ◌%◌, ◌^◌, ◌≤◌, ◌<◌}
use native.Mathlib.Omega.{arith}
use mathlib.Core.Bool.{Bool, true, false, cond, ◌&&◌}
use mathlib.Core.List.{List, [], map}
use mathlib.Core.Logic.{◌≢◌}
use mathlib.Core.Path.{◌≡◌, refl, sym, ap, ap₂, ◌∙◌}
use borrow.Author.Tests.{ltb-true, ltb-false, lt-ltb, le-ltb, eqb-true, eqb-false, eq-eqb, ne_eqb}
use lib.ListN.{length, get_or, get_or-eq_default}
use lib.Seq.{ext_get_or}
use lib.Dec.{eqb, ltb}
use mir.Syntax.{w64}
use mir.Val.{Fits}
use Rattle.rules.specs.Text.{all}
use Rattle.rules.specs.Feed.{Feed, shut, fed, too_many, is_byte, sound_feed}
use Rattle.state.proofs.BoolLaws.{both, first, second, same_test}
use Rattle.state.proofs.ListLaws.{range_end, all_range, range_all, get_or_map_range}
use Rattle.soundness.specs.Checks.{refused_by, zero_at, zero_between}
use Rattle.feed.specs.Layout.{feed_size, cell_of, cells_with, encode_feed, byte_of, byte_in, bytes_in, decode_feed, sound_feed_cells}
use Rattle.feed.specs.Held.{standing, clean_behind, FeedRefusal}
use Rattle.feed.proofs.PackLaws.{byte_zero, pack_is, pack_below}
use Rattle.rules.proofs.FeedLaws.{many_long, kept_few}
use Rattle.feed.proofs.FeedLaws.{cells_long, cell_is, mark_is, zeros_are, cells_many, at_small, bytes_long, bytes_small, sound_shut, sound_fed, sound_many, fed_small, fed_few, fed_many, sound_cells_lem, sound_decoded, encode_sound, lent_wrong, lent_damaged, lent_holding}

-- ---- how many bytes stand

pub standing_none : (m : ℕ) → m ≡ 0 → 0 ≡ standing m
unfolding standing
standing_none m h = rw (eq-eqb m 0 h)

pub standing_some : (m : ℕ) → m ≢ 0 → m ≤ 65537 → m - 1 ≡ standing m
unfolding standing
standing_some m h l = rw (ne_eqb m 0 h, le-ltb 65537 m l)

pub standing_many : (m : ℕ) → 65537 < m → 0 ≡ standing m
unfolding standing
standing_many m h = rw (ne_eqb m 0 (omega arith), lt-ltb 65537 m h)

pub standing_most : (m : ℕ) → standing m ≤ 65536
standing_most m = go (eqb m 0) refl (ltb 65537 m) refl
  where
    go : (none : Bool) → eqb m 0 ≡ none → (many : Bool) → ltb 65537 m ≡ many → standing m ≤ 65536
    go true e many f = omega (arith, standing_none m (eqb-true m 0 e))
    go false e true f = omega (arith, standing_many m (ltb-true 65537 m f))
    go false e false f =
        let l = ltb-false 65537 m f in
        omega (arith, standing_some m (eqb-false m 0 e) l)

-- ---- the test of what stands behind, as the code makes it

module _ (cells : List ℕ) (n : ℕ) where
  -- the last cell is full
  pub clean_even : n % 8 ≡ 0 → (r : Bool) → r ≡ zero_between cells (1 + n / 8) feed_size → r ≡ clean_behind cells n
  unfolding clean_behind
  clean_even h r e = rw (eq-eqb (n % 8) 0 h) e

  module _ (h : n % 8 ≢ 0) (p : ℕ) (power : p ≡ 256 ^ (n % 8)) where
    pub clean_over : p ≤ get_or cells (1 + n / 8) 0 → false ≡ clean_behind cells n
    unfolding clean_behind
    clean_over l = rw (ne_eqb (n % 8) 0 h, le-ltb (get_or cells (1 + n / 8) 0) (256 ^ (n % 8)) (omega arith))

    pub clean_odd : get_or cells (1 + n / 8) 0 < p → (r : Bool) → r ≡ zero_between cells (1 + n / 8 + 1) feed_size → r ≡ clean_behind cells n
    unfolding clean_behind
    clean_odd l r e =
        let next : 1 + n / 8 + 1 ≡ 2 + n / 8 = omega arith in
        rw (ne_eqb (n % 8) 0 h, lt-ltb (get_or cells (1 + n / 8) 0) (256 ^ (n % 8)) (omega arith))
        (e ∙ ap (λ (a : ℕ). zero_between cells a feed_size) next)

-- ---- from a sound feed to the tests

-- the bytes in the cells of a sound feed: of too many none
record Stands (f : Feed) : Type 0 where
  mark : ℕ
  bytes : List ℕ
  is : encode_feed f ≡ cells_with mark bytes
  small : all is_byte bytes ≡ true
  count : length bytes ≡ standing mark
  most : mark ≤ 65538

feed_stands : (f : Feed) → sound_feed f ≡ true → Stands f
unfolding encode_feed all
feed_stands shut e =
    record { mark = 0; bytes = []; is = zeros_are; small = refl; count = standing_none 0 refl; most = omega arith }
feed_stands (fed bs) e = go (eqb (length bs) 65537) refl
  where
    go : (t : Bool) → eqb (length bs) 65537 ≡ t → Stands (fed bs)
    go true q =
        let many : length bs ≡ 65537 = eqb-true (length bs) 65537 q in
        record {
          mark = length bs + 1;
          bytes = [];
          is = ap (cells_with (length bs + 1)) (fed_many bs e many) ∙ cells_many (length bs + 1);
          small = refl;
          count = standing_many (length bs + 1) (omega arith);
          most = omega arith;
        }
    go false q =
        let few : length bs ≤ 65536 = fed_few bs e (eqb-false (length bs) 65537 q) in
        let back : length bs + 1 - 1 ≡ length bs = omega arith in
        record {
          mark = length bs + 1;
          bytes = bs;
          is = refl;
          small = fed_small bs e;
          count = sym back ∙ standing_some (length bs + 1) (omega arith) (omega arith);
          most = omega arith;
        }

module _ (m : ℕ) (bs : List ℕ) (small : all is_byte bs ≡ true) (n : ℕ) (inside : length bs ≤ n) (few : n ≤ 65536) where
  cell_below : (i j : ℕ) → i < 8192 → n ≤ 8 * i + j → get_or (cells_with m bs) (1 + i) 0 < 256 ^ j
  cell_below i j h l =
      omega (arith, cell_is m bs i h, pack_below bs (at_small bs small) 8 (8 * i) j (omega arith))

  -- the cells behind the last byte
  zero_cells : (a : ℕ) → n + 8 ≤ 8 * a → zero_between (cells_with m bs) a feed_size ≡ true
  unfolding zero_between
  zero_cells a h =
      range_all (zero_at (cells_with m bs)) a feed_size
      (λ k l u.
      let same : k ≡ 1 + (k - 1) = omega arith in
      eq-eqb (get_or (cells_with m bs) k 0) 0
      (ap (λ (j : ℕ). get_or (cells_with m bs) j 0) same ∙ omega (arith, cell_below (k - 1) 0 (omega arith) (omega arith))))

  clean_with : clean_behind (cells_with m bs) n ≡ true
  unfolding clean_behind
  clean_with = go (eqb (n % 8) 0) refl
    where
      go : (t : Bool) → eqb (n % 8) 0 ≡ t → clean_behind (cells_with m bs) n ≡ true
      go true e =
          let z : n % 8 ≡ 0 = eqb-true (n % 8) 0 e in
          rw e (zero_cells (1 + n / 8) (omega arith))
      go false e =
          let z : n % 8 ≢ 0 = eqb-false (n % 8) 0 e in
          let last : get_or (cells_with m bs) (1 + n / 8) 0 < 256 ^ (n % 8) = cell_below (n / 8) (n % 8) (omega arith) (omega arith) in
          rw e (both _ _ (lt-ltb _ _ last) (zero_cells (2 + n / 8) (omega arith)))

module _ (cells : List ℕ) (e : sound_feed_cells cells ≡ true) where
  here : Stands (decode_feed cells)
  here = feed_stands (decode_feed cells) (sound_decoded cells e)

  cells_here : cells ≡ cells_with here.mark here.bytes
  cells_here = sound_cells_lem cells e ∙ here.is

  mark_here : get_or cells 0 0 ≡ here.mark
  mark_here = ap (λ (l : List ℕ). get_or l 0 0) cells_here ∙ mark_is here.mark here.bytes

  pub most_from : get_or cells 0 0 ≤ 65538
  most_from = omega (arith, mark_here, here.most)

  pub clean_from : clean_behind cells (standing (get_or cells 0 0)) ≡ true
  clean_from =
      let n : ℕ = standing here.mark in
      ap₂ clean_behind cells_here (ap standing mark_here)
      ∙ clean_with here.mark here.bytes here.small n (omega (arith, here.count)) (standing_most here.mark)

-- ---- from the tests to a sound feed

module _ (cells : List ℕ) where
  zero_byte : (a k : ℕ) → zero_between cells a feed_size ≡ true → a ≤ 1 + k / 8 → k < 65536 → byte_in cells k ≡ 0
  unfolding zero_between
  zero_byte a k z l h =
      ap (λ (c : ℕ). byte_of c (k % 8)) (eqb-true (get_or cells (1 + k / 8) 0) 0 (all_range (zero_at cells) a feed_size z (1 + k / 8) l (omega arith)))
      ∙ byte_zero 0 0 (k % 8) (omega arith) (omega arith)

  -- the bytes behind the n-th
  clean_bytes : (n : ℕ) → clean_behind cells n ≡ true → (k : ℕ) → n ≤ k → k < 65536 → byte_in cells k ≡ 0
  unfolding clean_behind
  clean_bytes n clean k l h = go (eqb (n % 8) 0) refl clean
    where
      go : (t : Bool) → eqb (n % 8) 0 ≡ t → cond t (zero_between cells (1 + n / 8) feed_size) (ltb (get_or cells (1 + n / 8) 0) (256 ^ (n % 8)) && zero_between cells (2 + n / 8) feed_size) ≡ true → byte_in cells k ≡ 0
      go true e c = zero_byte (1 + n / 8) k c (omega arith) h
      go false e c = last (eqb (k / 8) (n / 8)) refl
        where
          below : Bool
          below = ltb (get_or cells (1 + n / 8) 0) (256 ^ (n % 8))

          last : (t : Bool) → eqb (k / 8) (n / 8) ≡ t → byte_in cells k ≡ 0
          last true q =
              let same : k / 8 ≡ n / 8 = eqb-true (k / 8) (n / 8) q in
              ap (λ (i : ℕ). byte_of (get_or cells (1 + i) 0) (k % 8)) same
              ∙ byte_zero (get_or cells (1 + n / 8) 0) (n % 8) (k % 8) (ltb-true _ _ (first below _ c)) (omega arith)
          last false q = zero_byte (2 + n / 8) k (second below _ c) (omega (arith, eqb-false (k / 8) (n / 8) q)) h

  module _ (long : length cells ≡ feed_size) (fits : (i : ℕ) → Fits w64 (get_or cells i 0)) where
    -- cells are those of their bytes
    cells_are : (bs : List ℕ) → ((k : ℕ) → k < 65536 → get_or bs k 0 ≡ byte_in cells k) → cells ≡ cells_with (get_or cells 0 0) bs
    cells_are bs e =
        ext_get_or 0 cells (cells_with (get_or cells 0 0) bs) (long ∙ sym (cells_long (get_or cells 0 0) bs)) at
      where
        cell : (i : ℕ) → i < 8192 → cell_of bs i ≡ get_or cells (1 + i) 0
        cell i h =
            pack_is bs 8 (8 * i) (get_or cells (1 + i) 0) (omega (arith, (fits (1 + i)).fits))
            (λ r l.
            e (8 * i + r) (omega arith) ∙ ap₂ (λ (j q : ℕ). byte_of (get_or cells (1 + j) 0) q) (omega arith) (omega arith))

        at : (j : ℕ) → j < length cells → get_or cells j 0 ≡ get_or (cells_with (get_or cells 0 0) bs) j 0
        at zero h = sym (mark_is (get_or cells 0 0) bs)
        at (suc i) h =
            let one : suc i ≡ 1 + i = omega arith in
            ap (λ (j : ℕ). get_or cells j 0) one
            ∙ sym (cell i (omega arith))
            ∙ sym (cell_is (get_or cells 0 0) bs i (omega arith))
            ∙ ap (λ (j : ℕ). get_or (cells_with (get_or cells 0 0) bs) j 0) (sym one)

    module _ (most : get_or cells 0 0 ≤ 65538) (clean : clean_behind cells (standing (get_or cells 0 0)) ≡ true) where
      abbrev m : ℕ
      m = get_or cells 0 0

      stand : cells ≡ cells_with m (bytes_in cells (standing m))
      unfolding bytes_in
      stand = cells_are (bytes_in cells (standing m)) (λ k h. go k h (ltb k (standing m)) refl)
        where
          go : (k : ℕ) → k < 65536 → (t : Bool) → ltb k (standing m) ≡ t → get_or (bytes_in cells (standing m)) k 0 ≡ byte_in cells k
          go k h true e = get_or_map_range (byte_in cells) (standing m) k 0 (ltb-true k (standing m) e)
          go k h false e =
              let l = ltb-false k (standing m) e in
              get_or-eq_default (bytes_in cells (standing m)) 0 (omega (arith, bytes_long cells (standing m)))
              ∙ sym (clean_bytes (standing m) clean k l h)

      stand_none : 0 ≡ standing m → cells ≡ cells_with m []
      unfolding bytes_in
      stand_none h =
          stand
          ∙ ap (λ (n : ℕ). cells_with m (bytes_in cells n)) (sym h)
          ∙ ap (λ (l : List ℕ). cells_with m (map (byte_in cells) l)) (range_end 0 0 (omega arith))

      found : (f : Feed) × (cells ≡ encode_feed f) × (sound_feed f ≡ true)
      unfolding encode_feed
      found = go (eqb m 0) refl (ltb 65537 m) refl
        where
          go : (none : Bool) → eqb m 0 ≡ none → (many : Bool) → ltb 65537 m ≡ many → (f : Feed) × (cells ≡ encode_feed f) × (sound_feed f ≡ true)
          go true e many q =
              let z : m ≡ 0 = eqb-true m 0 e in
              (shut, stand_none (standing_none m z) ∙ ap (λ (k : ℕ). cells_with k []) z ∙ sym zeros_are, sound_shut)
          go false e true q =
              let over : 65537 < m = ltb-true 65537 m q in (
                fed too_many,
                stand_none (standing_many m over)
                    ∙ sym (cells_many m)
                    ∙ ap (λ (k : ℕ). cells_with k too_many) (omega (arith, many_long)),
                sound_many,
              )
          go false e false q =
              let some : m ≢ 0 = eqb-false m 0 e in
              let low : m ≤ 65537 = ltb-false 65537 m q in
              let bs : List ℕ = bytes_in cells (standing m) in (
                fed bs,
                stand ∙ ap (λ (k : ℕ). cells_with k bs) (omega (arith, bytes_long cells (standing m), standing_some m some low)),
                sound_fed bs (bytes_small cells (standing m)) (kept_few bs (omega (arith, bytes_long cells (standing m), standing_most m))),
              )

      pub sound_from : sound_feed_cells cells ≡ true
      sound_from = ap sound_feed_cells found.1 ∙ encode_sound found.0 found.2

-- ---- what is lent, as the code tells it

module _ (cells : List ℕ) where
  -- no mark is so large
  pub mark_fails : 65538 < get_or cells 0 0 → false ≡ sound_feed_cells cells
  mark_fails h = go (sound_feed_cells cells) refl
    where
      go : (b : Bool) → sound_feed_cells cells ≡ b → false ≡ b
      go true e = absurd (omega (arith, most_from cells e))
      go false e = refl

  pub refusal_length : length cells ≢ feed_size → FeedRefusal cells 1
  unfolding refused_by
  refusal_length h = record { is = sym (ap refused_by (lent_wrong cells h)); good = λ z. absurd (omega arith) }

  module _ (long : length cells ≡ feed_size) where
    -- the mark has passed
    pub clean_decides : ((i : ℕ) → Fits w64 (get_or cells i 0)) → get_or cells 0 0 ≤ 65538 → clean_behind cells (standing (get_or cells 0 0)) ≡ sound_feed_cells cells
    clean_decides fits most =
        same_test (clean_behind cells (standing (get_or cells 0 0))) (sound_feed_cells cells) (sound_from cells long fits most) (clean_from cells)

    pub refusal_none : sound_feed_cells cells ≡ true → FeedRefusal cells 0
    unfolding refused_by
    refusal_none e =
        record {
          is = sym (ap refused_by (lent_holding cells long e));
          good = λ z. record {
            long = long;
            most = most_from cells e;
            holds = lent_holding cells long e;
            encoded = sound_cells_lem cells e;
            sound = sound_decoded cells e;
          };
        }

    pub refusal_damaged : sound_feed_cells cells ≡ false → FeedRefusal cells 2
    unfolding refused_by
    refusal_damaged e = record { is = sym (ap refused_by (lent_damaged cells long e)); good = λ z. absurd (omega arith) }
