-- A feed and its cells: the bytes that stand in them, and that a sound feed's cells decode to it.
use Prim.Native.Nat.{ℕ, zero, suc, ◌+◌, ◌-◌, ◌*◌, ◌/◌, ◌%◌, ◌≤◌, ◌<◌}
use native.Mathlib.Nat.{sub-zero}
use native.Mathlib.Omega.{arith}
use mathlib.Core.Bool.{Bool, true, false, cond}
use mathlib.Core.List.{List, [], ◌∷◌, ◌++◌, map}
use mathlib.Core.Logic.{◌≢◌}
use mathlib.Core.Path.{◌≡◌, refl, sym, ap, ap₂, ◌∙◌}
use borrow.Author.Tests.{ltb-true, ltb-false, leb-true, leb-false, le-leb, eqb-true, eqb-false, eq-eqb, ne_eqb}
use lib.ListN.{length, get_or, set, take, replicate, get_or-eq_default, length-append}
use lib.Seq.{get_or-take, length-take-le, take-length, take_all, take-append_seam}
use lib.Dec.{eqb, leb, ltb}
use mir.Syntax.{w8}
use mir.Val.{Fits}
use Rattle.rules.specs.Text.{all, same_text}
use Rattle.rules.specs.Calls.{wrong_length, damaged, holding}
use Rattle.rules.proofs.FeedLaws.{many_long, kept_few, kept_long}
use Rattle.rules.specs.Feed.{Feed, shut, fed, too_many, kept, is_byte, sound_feed}
use Rattle.rules.proofs.TestLaws.{all_append}
use Rattle.state.specs.Layout.{zeros, padded, range}
use Rattle.state.proofs.BoolLaws.{both, first, second}
use Rattle.state.proofs.LentLaws.{same_text_lem, text_same}
use Rattle.state.proofs.ListLaws.{get_or_behind, get_or_padded, length_zeros, length_map_range, get_or_map_range, map_range, all_at, at_all, all_map, all_replicate, range_all}
use Rattle.feed.specs.Layout.{feed_size, pack_from, cell_of, cells_with, encode_feed, byte_of, byte_in, bytes_in, decode_feed, sound_feed_cells, lent_feed}
use Rattle.feed.proofs.PackLaws.{byte_small, byte_zero, pack_byte}

-- ---- the cells of an encoding

pub cells_long : (mark : ℕ) (bs : List ℕ) → length (cells_with mark bs) ≡ feed_size
unfolding cells_with
cells_long mark bs = ap suc (length_map_range (cell_of bs) 0 8192)

pub with_long : (mark : ℕ) (bs feed : List ℕ) → feed ≡ cells_with mark bs → length feed ≡ feed_size
with_long mark bs feed e = ap length e ∙ cells_long mark bs

pub cell_is : (mark : ℕ) (bs : List ℕ) (i : ℕ) → i < 8192 → get_or (cells_with mark bs) (1 + i) 0 ≡ cell_of bs i
unfolding cells_with
cell_is mark bs i h =
    get_or_behind (mark ∷ []) (map (cell_of bs) (range 0 8192)) i (1 + i) 0 refl ∙ get_or_map_range (cell_of bs) 8192 i 0 h

pub mark_is : (mark : ℕ) (bs : List ℕ) → get_or (cells_with mark bs) 0 0 ≡ mark
unfolding cells_with
mark_is mark bs = refl

pub set_mark_lem : (m m' : ℕ) (bs : List ℕ) → set (cells_with m bs) 0 m' ≡ cells_with m' bs
unfolding cells_with
set_mark_lem m m' bs = refl

-- ---- zeros

pub get_or_zeros : (n i : ℕ) → get_or (zeros n) i 0 ≡ 0
unfolding padded
get_or_zeros n i = ap (λ (m : ℕ). get_or (zeros m) i 0) (sym (sub-zero n)) ∙ get_or_padded n [] i

-- bytes that are zero are in cells that are zero
pack_zeros : (n k m : ℕ) → pack_from (zeros n) k m ≡ 0
unfolding pack_from
pack_zeros n k zero = refl
pack_zeros n k (suc m) = omega (arith, get_or_zeros n k, pack_zeros n (k + 1) m)

pub cells_zeros : (mark n : ℕ) → cells_with mark (zeros n) ≡ mark ∷ zeros 8192
unfolding cells_with
cells_zeros mark n =
    ap (λ (l : List ℕ). mark ∷ l)
    (map_range (cell_of (zeros n)) (zeros 8192) 8192 0 (sym (length_zeros 8192)) (λ k h. pack_zeros n (8 * k) 8 ∙ sym (get_or_zeros 8192 k)))

zeros_suc : (n : ℕ) → zeros (suc n) ≡ 0 ∷ zeros n
unfolding zeros
zeros_suc n = refl

replicate_zeros : (n : ℕ) → replicate n 0 ≡ zeros n
unfolding zeros
replicate_zeros n = refl

zeros_none : zeros 0 ≡ []
unfolding zeros
zeros_none = refl

pub cells_none : (mark : ℕ) → cells_with mark [] ≡ mark ∷ zeros 8192
cells_none mark = ap (cells_with mark) (sym zeros_none) ∙ cells_zeros mark 0

-- feed memory that is zero has the cells of no bytes
pub zeros_are : zeros feed_size ≡ cells_with 0 []
zeros_are = zeros_suc 8192 ∙ sym (cells_none 0)

pub many_zeros : too_many ≡ zeros 65537
unfolding too_many
many_zeros = replicate_zeros 65537

-- of too many bytes none is kept
pub cells_many : (mark : ℕ) → cells_with mark too_many ≡ cells_with mark []
cells_many mark = ap (cells_with mark) many_zeros ∙ cells_zeros mark 65537 ∙ sym (cells_none mark)

pub set_open : set (zeros feed_size) 0 1 ≡ encode_feed (fed [])
unfolding encode_feed
set_open = ap (λ (l : List ℕ). set l 0 1) zeros_are ∙ set_mark_lem 0 1 []

pub set_many : set (zeros feed_size) 0 65538 ≡ encode_feed (fed too_many)
unfolding encode_feed
set_many =
    ap (λ (l : List ℕ). set l 0 65538) zeros_are
    ∙ set_mark_lem 0 65538 []
    ∙ sym (cells_many 65538)
    ∙ ap (λ (n : ℕ). cells_with n too_many) (omega (arith, many_long))

-- ---- the bytes in cells

pub bytes_long : (cells : List ℕ) (n : ℕ) → length (bytes_in cells n) ≡ n
unfolding bytes_in
bytes_long cells n = length_map_range (byte_in cells) 0 n ∙ sub-zero n

-- past the last cell there are zeros
pub byte_past : (cells : List ℕ) (k : ℕ) → length cells ≡ feed_size → 65536 ≤ k → byte_in cells k ≡ 0
byte_past cells k long h =
    ap (λ (c : ℕ). byte_of c (k % 8)) (get_or-eq_default cells 0 (omega arith)) ∙ byte_zero 0 0 (k % 8) (omega arith) (omega arith)

pub bytes_small : (cells : List ℕ) (n : ℕ) → all is_byte (bytes_in cells n) ≡ true
unfolding bytes_in
bytes_small cells n =
    all_map is_byte (byte_in cells) (range 0 n)
    ∙ range_all (λ k. is_byte (byte_in cells k)) 0 n
    (λ k l u. le-leb (byte_in cells k) 255 (byte_small (get_or cells (1 + k / 8) 0) (k % 8)))

pub at_small : (bs : List ℕ) → all is_byte bs ≡ true → (k : ℕ) → get_or bs k 0 ≤ 255
at_small bs small k = go (ltb k (length bs)) refl
  where
    go : (t : Bool) → ltb k (length bs) ≡ t → get_or bs k 0 ≤ 255
    go true e = leb-true (get_or bs k 0) 255 (all_at is_byte bs 0 small k (ltb-true k (length bs) e))
    go false e = omega (arith, get_or-eq_default bs 0 (ltb-false k (length bs) e))

-- the bytes of a lent piece
pub piece_small : (piece : List ℕ) → ((k : ℕ) → Fits w8 (get_or piece k 0)) → all is_byte piece ≡ true
piece_small piece fits = at_all is_byte piece 0 (λ k h. le-leb (get_or piece k 0) 255 (omega (arith, (fits k).fits)))

pub small_take : (i : ℕ) (bs : List ℕ) → all is_byte bs ≡ true → all is_byte (take i bs) ≡ true
unfolding all
small_take zero bs e = refl
small_take (suc i) [] e = refl
small_take (suc i) (b ∷ bs) e =
    both (is_byte b) (all is_byte (take i bs)) (first (is_byte b) (all is_byte bs) e)
    (small_take i bs (second (is_byte b) (all is_byte bs) e))

pub small_append : (bs piece : List ℕ) → all is_byte bs ≡ true → all is_byte piece ≡ true → all is_byte (bs ++ piece) ≡ true
small_append bs piece small more =
    all_append is_byte bs piece ∙ both (all is_byte bs) (all is_byte piece) small more

module _ (mark : ℕ) (bs : List ℕ) (small : all is_byte bs ≡ true) where
  pub byte_is : (k : ℕ) → k < 65536 → byte_in (cells_with mark bs) k ≡ get_or bs k 0
  byte_is k h =
      ap (λ (c : ℕ). byte_of c (k % 8)) (cell_is mark bs (k / 8) (omega arith))
      ∙ pack_byte bs (at_small bs small) 8 (8 * (k / 8)) (k % 8) (omega arith)
      ∙ ap (λ (j : ℕ). get_or bs j 0) (omega arith)

  -- the first of them, if no byte but a zero stands behind the last cell
  pub bytes_front : (n : ℕ) → n ≤ length bs → ((k : ℕ) → 65536 ≤ k → get_or bs k 0 ≡ 0) → bytes_in (cells_with mark bs) n ≡ take n bs
  unfolding bytes_in
  bytes_front n h past =
      map_range (byte_in (cells_with mark bs)) (take n bs) n 0 (sym (length-take-le n bs h))
      (λ k l. go k (ltb k 65536) refl ∙ sym (get_or-take n bs k 0 l))
    where
      go : (k : ℕ) (t : Bool) → ltb k 65536 ≡ t → byte_in (cells_with mark bs) k ≡ get_or bs k 0
      go k true e = byte_is k (ltb-true k 65536 e)
      go k false e =
          let l = ltb-false k 65536 e in
          byte_past (cells_with mark bs) k (cells_long mark bs) l ∙ sym (past k l)

-- ---- a sound feed

pub kept_many : kept too_many ≡ too_many
kept_many = kept_long too_many (omega (arith, many_long))

pub sound_shut : sound_feed shut ≡ true
unfolding sound_feed
sound_shut = refl

pub sound_fed : (bs : List ℕ) → all is_byte bs ≡ true → kept bs ≡ bs → sound_feed (fed bs) ≡ true
unfolding sound_feed
sound_fed bs small e = both (all is_byte bs) (same_text bs (kept bs)) small (ap (same_text bs) e ∙ text_same bs)

pub sound_many : sound_feed (fed too_many) ≡ true
unfolding too_many
sound_many = sound_fed too_many (all_replicate is_byte 65537 0 refl) kept_many

pub sound_kept : (bs : List ℕ) → all is_byte bs ≡ true → sound_feed (fed (kept bs)) ≡ true
sound_kept bs small = go (leb (length bs) 65536) refl
  where
    go : (t : Bool) → leb (length bs) 65536 ≡ t → sound_feed (fed (kept bs)) ≡ true
    go true e =
        let same : kept bs ≡ bs = kept_few bs (leb-true (length bs) 65536 e) in
        ap (λ (l : List ℕ). sound_feed (fed l)) same ∙ sound_fed bs small same
    go false e = ap (λ (l : List ℕ). sound_feed (fed l)) (kept_long bs (leb-false (length bs) 65536 e)) ∙ sound_many

module _ (bs : List ℕ) (e : sound_feed (fed bs) ≡ true) where
  pub fed_small : all is_byte bs ≡ true
  unfolding sound_feed
  fed_small = first (all is_byte bs) (same_text bs (kept bs)) e

  pub fed_kept : bs ≡ kept bs
  unfolding sound_feed
  fed_kept = same_text_lem bs (kept bs) (second (all is_byte bs) (same_text bs (kept bs)) e)

  -- the bytes fit, or are too many
  pub fed_few : length bs ≢ 65537 → length bs ≤ 65536
  fed_few h = go (leb (length bs) 65536) refl
    where
      go : (t : Bool) → leb (length bs) 65536 ≡ t → length bs ≤ 65536
      go true q = leb-true (length bs) 65536 q
      go false q = absurd (h (ap length (fed_kept ∙ kept_long bs (leb-false (length bs) 65536 q)) ∙ many_long))

  pub fed_many : length bs ≡ 65537 → bs ≡ too_many
  fed_many h = fed_kept ∙ kept_long bs (omega arith)

  pub fed_most : length bs ≤ 65537
  fed_most = go (eqb (length bs) 65537) refl
    where
      go : (t : Bool) → eqb (length bs) 65537 ≡ t → length bs ≤ 65537
      go true q = omega (arith, eqb-true (length bs) 65537 q)
      go false q = omega (arith, fed_few (eqb-false (length bs) 65537 q))

  fed_past : (k : ℕ) → 65536 ≤ k → get_or bs k 0 ≡ 0
  fed_past k l = go (eqb (length bs) 65537) refl
    where
      go : (t : Bool) → eqb (length bs) 65537 ≡ t → get_or bs k 0 ≡ 0
      go true q =
          ap (λ (m : List ℕ). get_or m k 0) (fed_many (eqb-true (length bs) 65537 q) ∙ many_zeros) ∙ get_or_zeros 65537 k
      go false q = get_or-eq_default bs 0 (omega (arith, fed_few (eqb-false (length bs) 65537 q)))

-- ---- decoding an encoding

pub encode_long : (f : Feed) → length (encode_feed f) ≡ feed_size
unfolding encode_feed
encode_long shut = length_zeros 8193
encode_long (fed bs) = cells_long (length bs + 1) bs

pub encode_mark : (bs : List ℕ) → get_or (encode_feed (fed bs)) 0 0 ≡ length bs + 1
unfolding encode_feed
encode_mark bs = mark_is (length bs + 1) bs

pub bytes_fed : (bs : List ℕ) → sound_feed (fed bs) ≡ true → bytes_in (encode_feed (fed bs)) (length bs) ≡ bs
unfolding encode_feed
bytes_fed bs e =
    bytes_front (length bs + 1) bs (fed_small bs e) (length bs) (omega arith) (fed_past bs e) ∙ take-length bs

-- what the code asks of cells before it puts bytes behind theirs
pub fed_cells : (cells bs : List ℕ) → cells ≡ encode_feed (fed bs) → sound_feed (fed bs) ≡ true → (n : ℕ) → n ≡ length bs → cells ≡ cells_with (get_or cells 0 0) (bytes_in cells n)
unfolding encode_feed
fed_cells cells bs e sound n count =
    let mark : get_or cells 0 0 ≡ length bs + 1 = ap (λ (l : List ℕ). get_or l 0 0) e ∙ encode_mark bs in
    let bytes : bytes_in cells n ≡ bs = ap₂ bytes_in e count ∙ bytes_fed bs sound in
    e ∙ sym (ap₂ cells_with mark bytes)

pub decode_encode : (f : Feed) → sound_feed f ≡ true → decode_feed (encode_feed f) ≡ f
unfolding decode_feed encode_feed
decode_encode shut e = rw (eq-eqb _ 0 (get_or_zeros 8193 0))
decode_encode (fed bs) e =
    let m : ℕ = length bs + 1 in
    let count : length bs + 1 - 1 ≡ length bs = omega arith in
    rw (mark_is m bs, ne_eqb m 0 (omega arith), count) (ap fed (bytes_fed bs e))

-- ---- sound cells

pub sound_cells_lem : (cells : List ℕ) → sound_feed_cells cells ≡ true → cells ≡ encode_feed (decode_feed cells)
unfolding sound_feed_cells
sound_cells_lem cells e =
    same_text_lem cells (encode_feed (decode_feed cells))
    (first (same_text cells (encode_feed (decode_feed cells))) (sound_feed (decode_feed cells)) e)

pub sound_decoded : (cells : List ℕ) → sound_feed_cells cells ≡ true → sound_feed (decode_feed cells) ≡ true
unfolding sound_feed_cells
sound_decoded cells e = second (same_text cells (encode_feed (decode_feed cells))) (sound_feed (decode_feed cells)) e

pub encode_sound : (f : Feed) → sound_feed f ≡ true → sound_feed_cells (encode_feed f) ≡ true
unfolding sound_feed_cells
encode_sound f e =
    let back : decode_feed (encode_feed f) ≡ f = decode_encode f e in
    both (same_text (encode_feed f) (encode_feed (decode_feed (encode_feed f)))) (sound_feed (decode_feed (encode_feed f)))
    (ap (λ (g : Feed). same_text (encode_feed f) (encode_feed g)) back ∙ text_same (encode_feed f))
    (ap sound_feed back ∙ e)

-- ---- what is lent

pub lent_wrong : (cells : List ℕ) → length cells ≢ feed_size → lent_feed cells ≡ wrong_length
unfolding lent_feed
lent_wrong cells h = rw (ne_eqb _ _ h)

pub lent_damaged : (cells : List ℕ) → length cells ≡ feed_size → sound_feed_cells cells ≡ false → lent_feed cells ≡ damaged
unfolding lent_feed
lent_damaged cells h e = rw (eq-eqb _ _ h, e)

pub lent_holding : (cells : List ℕ) → length cells ≡ feed_size → sound_feed_cells cells ≡ true → lent_feed cells ≡ holding (decode_feed cells)
unfolding lent_feed
lent_holding cells h e = rw (eq-eqb _ _ h, e)

-- a sound feed's cells hold it
pub lent_encode_feed : (f : Feed) → sound_feed f ≡ true → lent_feed (encode_feed f) ≡ holding f
lent_encode_feed f e =
    lent_holding (encode_feed f) (encode_long f) (encode_sound f e) ∙ ap holding (decode_encode f e)

-- cells that are lent as holding a feed are its encoding, and it is sound
pub held_feed : (cells : List ℕ) (f : Feed) → lent_feed cells ≡ holding f → (cells ≡ encode_feed f) × (sound_feed f ≡ true)
unfolding lent_feed
held_feed cells f h = go (eqb (length cells) feed_size) (sound_feed_cells cells) refl h
  where
    go : (long good : Bool) → sound_feed_cells cells ≡ good → cond long (cond good (holding (decode_feed cells)) damaged) wrong_length ≡ holding f → (cells ≡ encode_feed f) × (sound_feed f ≡ true)
    go true true e h =
        let same : decode_feed cells ≡ f = cc in
        (sound_cells_lem cells e ∙ ap encode_feed same, ap sound_feed (sym same) ∙ sound_decoded cells e)
    go true false e h = absurd (let z : ◌≡◌ {A = ℕ} 0 1 = cc in omega arith)
    go false good e h = absurd (let z : ◌≡◌ {A = ℕ} 0 1 = cc in omega arith)

-- ---- bytes that were put behind others

module _ (mark : ℕ) (bs piece : List ℕ) (room : length bs + length piece ≤ 65536) (small : all is_byte bs ≡ true) (more : all is_byte piece ≡ true) where
  put_front : (n : ℕ) → n ≤ length bs + length piece → bytes_in (cells_with mark (bs ++ piece)) n ≡ take n (bs ++ piece)
  put_front n h =
      bytes_front mark (bs ++ piece) (small_append bs piece small more) n (omega (arith, length-append bs piece))
      (λ k l. get_or-eq_default (bs ++ piece) 0 (omega (arith, length-append bs piece)))

  pub bytes_put : bytes_in (cells_with mark (bs ++ piece)) (length bs + length piece) ≡ bs ++ piece
  bytes_put = put_front (length bs + length piece) (omega arith) ∙ take_all (length bs + length piece) (bs ++ piece) (omega (arith, length-append bs piece))

  pub bytes_before : bytes_in (cells_with mark (bs ++ piece)) (length bs) ≡ bs
  bytes_before = put_front (length bs) (omega arith) ∙ take-append_seam bs piece
