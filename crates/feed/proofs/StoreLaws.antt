-- The loops over the bytes: one put into the cells, and eight taken out of a cell.
use Prim.Native.Nat.{ℕ, zero, suc, ◌+◌, ◌-◌, ◌*◌, ◌/◌, ◌%◌, ◌^◌, ◌≤◌, ◌<◌}
use native.Mathlib.Nat.{pow-le-pow_right, mul-le-mul_right}
use native.Mathlib.Omega.{arith}
use mathlib.Core.Bool.{Bool, true, false, cond}
use mathlib.Core.List.{List, [], ◌∷◌, ◌++◌, append_assoc, append-nil}
use mathlib.Core.Logic.{◌≢◌}
use mathlib.Core.Path.{◌≡◌, refl, sym, ap, ap₂, ◌∙◌}
use borrow.Author.Tests.{ltb-true, ltb-false, lt-ltb, le-ltb, eqb-true, eqb-false}
use lib.ListN.{length, get_or, set, take, length-set, length-append}
use lib.Seq.{get_or-set_same, get_or-set_other, get_or-take, length-take-le, take-suc, take_all, ext_get_or}
use lib.Dec.{eqb, ltb}
use mir.Syntax.{w8, w64}
use mir.Val.{Fits}
use Rattle.rules.specs.Text.{all}
use Rattle.rules.specs.Feed.{is_byte}
use Rattle.state.specs.Layout.{zeros}
use Rattle.state.proofs.BoolLaws.{same_test}
use Rattle.state.proofs.ListLaws.{length_zeros, length_map_range, get_or_map_range, map_range}
use Rattle.feed.specs.Layout.{feed_size, cell_of, cells_with, byte_of, byte_in, bytes_in}
use Rattle.std.specs.Int.{to_le_bytes}
use Rattle.std.proofs.Common.{w64}
use Rattle.std.proofs.lemmas.List.Edits.{paste_more, paste_none}
use Rattle.std.proofs.lemmas.Slice.{put_mid-paste}
use borrow.Rule.Slice.PartMut.{put_mid}
use lib.Seq.{paste}
use Rattle.feed.specs.Held.{file_room, unpacked, spread_at}
use Rattle.feed.proofs.PackLaws.{pack_below, pack_other, pack_more}
use Rattle.feed.proofs.FeedLaws.{cells_long, cell_is, mark_is, get_or_zeros, byte_past, at_small, small_take, small_append, piece_small, bytes_long, bytes_small}

-- ---- a file that the bytes are taken out to

module _ (cells : List ℕ) where
  unpacked_long : (n : ℕ) → length (unpacked cells n) ≡ file_room
  unfolding unpacked
  unpacked_long n = length_map_range (λ k. cond (ltb k n) (byte_in cells k) 0) 0 file_room

  unpacked_at : (n k : ℕ) → k < file_room → get_or (unpacked cells n) k 0 ≡ cond (ltb k n) (byte_in cells k) 0
  unfolding unpacked
  unpacked_at n k h = get_or_map_range (λ k. cond (ltb k n) (byte_in cells k) 0) file_room k 0 h

  -- the bytes in front, if those that were not taken out are zero
  take_unpacked : (n total : ℕ) → total ≤ file_room → ((k : ℕ) → k < total → n ≤ k → byte_in cells k ≡ 0) → take total (unpacked cells n) ≡ bytes_in cells total
  unfolding bytes_in
  take_unpacked n total h none =
      sym
      (map_range (byte_in cells) (take total (unpacked cells n)) total 0 (sym (length-take-le total (unpacked cells n) (omega (arith, unpacked_long n))))
      (λ k l. sym (get_or-take total (unpacked cells n) k 0 l ∙ unpacked_at n k (omega arith) ∙ go k l (ltb k n) refl)))
    where
      go : (k : ℕ) → k < total → (t : Bool) → ltb k n ≡ t → cond (ltb k n) (byte_in cells k) 0 ≡ byte_in cells k
      go k l true e = rw e
      go k l false e = rw e (sym (none k l (ltb-false k n e)))

  pub unpacked_bytes : (n total : ℕ) → total ≤ n → n ≤ 65536 → take total (unpacked cells n) ≡ bytes_in cells total
  unpacked_bytes n total h few = take_unpacked n total (omega arith) (λ k l u. absurd (omega arith))

  pub unpacked_all : (total : ℕ) → length cells ≡ feed_size → total ≤ file_room → take total (unpacked cells 65536) ≡ bytes_in cells total
  unpacked_all total long h = take_unpacked 65536 total h (λ k l u. byte_past cells k long u)

  pub unpacked_none : zeros file_room ≡ unpacked cells 0
  unfolding unpacked
  unpacked_none =
      sym
      (map_range (λ k. cond (ltb k 0) (byte_in cells k) 0) (zeros file_room) file_room 0 (sym (length_zeros file_room))
      (λ k h. rw (le-ltb k 0 (omega arith)) (sym (get_or_zeros file_room k))))

  -- one more
  unpacked_more : (n : ℕ) → n < file_room → set (unpacked cells n) n (byte_in cells n) ≡ unpacked cells (n + 1)
  unpacked_more n h =
      ext_get_or 0 after (unpacked cells (n + 1)) (long ∙ sym (unpacked_long (n + 1)))
      (λ k l. go k (omega (arith, long)) (eqb k n) refl)
    where
      after : List ℕ
      after = set (unpacked cells n) n (byte_in cells n)

      long : length after ≡ file_room
      long = length-set (unpacked cells n) n (byte_in cells n) ∙ unpacked_long n

      go : (k : ℕ) → k < file_room → (t : Bool) → eqb k n ≡ t → get_or after k 0 ≡ get_or (unpacked cells (n + 1)) k 0
      go k l true e =
          let same : k ≡ n = eqb-true k n e in
          ap (λ (j : ℕ). get_or after j 0) same
          ∙ get_or-set_same (unpacked cells n) n (byte_in cells n) 0 (omega (arith, unpacked_long n))
          ∙ ap (byte_in cells) (sym same)
          ∙ sym (unpacked_at (n + 1) k l ∙ rw (lt-ltb k (n + 1) (omega arith)))
      go k l false e =
          let other : k ≢ n = eqb-false k n e in
          let alike : ltb k n ≡ ltb k (n + 1) =
          same_test (ltb k n) (ltb k (n + 1))
          (λ q. lt-ltb k (n + 1) (omega (arith, ltb-true k n q)))
          (λ q. lt-ltb k n (omega (arith, ltb-true k (n + 1) q))) in
          get_or-set_other (unpacked cells n) n k (byte_in cells n) 0 other
          ∙ unpacked_at n k l
          ∙ ap (λ (t : Bool). cond t (byte_in cells k) 0) alike
          ∙ sym (unpacked_at (n + 1) k l)

  cell_out : (i : ℕ) → i < 8192 → spread_at (get_or cells (1 + i) 0) (8 * i) (unpacked cells (8 * i)) ≡ unpacked cells (8 * (i + 1))
  cell_out i h =
      rw (start, one 1 (omega arith), one 2 (omega arith), one 3 (omega arith), one 4 (omega arith), one 5 (omega arith), one 6 (omega arith), one 7 (omega arith))
      (ap (unpacked cells) (omega arith))
    where
      c : ℕ
      c = get_or cells (1 + i) 0

      one : (r : ℕ) → r < 8 → set (unpacked cells (8 * i + r)) (8 * i + r) (byte_of c r) ≡ unpacked cells (8 * i + (r + 1))
      one r l =
          ap (λ (v : ℕ). set (unpacked cells (8 * i + r)) (8 * i + r) v)
          (ap₂ (λ (j q : ℕ). byte_of (get_or cells (1 + j) 0) q) (omega arith) (omega arith))
          ∙ unpacked_more (8 * i + r) (omega arith)
          ∙ ap (unpacked cells) (omega arith)

      start : set (unpacked cells (8 * i)) (8 * i) (byte_of c 0) ≡ unpacked cells (8 * i + 1)
      start = ap (λ (a : ℕ). set (unpacked cells a) a (byte_of c 0)) (omega arith) ∙ one 0 (omega arith)

  -- the loop over the cells, in the words of the code
  pub unpacked_step : (file after : List ℕ) (i : ℕ) → file ≡ unpacked cells (8 * i) → i < 8192 → after ≡ spread_at (get_or cells (1 + i) 0) (8 * i) file → after ≡ unpacked cells (8 * (i + 1))
  unpacked_step file after i e h s = s ∙ ap (spread_at (get_or cells (1 + i) 0) (8 * i)) e ∙ cell_out i h

  pub unpacked_end : (file : List ℕ) (i n : ℕ) → file ≡ unpacked cells (8 * i) → i ≤ n → n ≤ i → file ≡ unpacked cells (8 * n)
  unpacked_end file i n e l h = e ∙ ap (unpacked cells) (omega arith)

  pub unpacked_length : (file : List ℕ) (n : ℕ) → file ≡ unpacked cells n → length file ≡ file_room
  unpacked_length file n e = ap length e ∙ unpacked_long n

-- ---- the eight bytes of a cell, written at once

module _ (c a : ℕ) (file : List ℕ) (h : a + 8 ≤ length file) where
  abbrev bytes : List ℕ
  bytes = to_le_bytes w64 c

  one_byte : (i : ℕ) → i < 8 → byte_of c i ≡ get_or bytes i 0 → set (paste file a bytes i) (a + i) (byte_of c i) ≡ paste file a bytes (i + 1)
  one_byte i l e = ap (set (paste file a bytes i) (a + i)) e ∙ paste_more file a bytes i 0 (omega arith) l

  first_byte : set file a (byte_of c 0) ≡ paste file a bytes 1
  unfolding byte_of
  first_byte = ap₂ (λ (l : List ℕ) (k : ℕ). set l k (byte_of c 0)) (paste_none file a bytes) (omega arith) ∙ one_byte 0 (omega arith) refl

  spread_paste : spread_at c a file ≡ paste file a bytes 8
  unfolding byte_of
  spread_paste =
      rw (first_byte, one_byte 1 (omega arith) (omega arith), one_byte 2 (omega arith) (omega arith), one_byte 3 (omega arith) (omega arith), one_byte 4 (omega arith) (omega arith), one_byte 5 (omega arith) (omega arith), one_byte 6 (omega arith) (omega arith), one_byte 7 (omega arith) (omega arith)) refl

  pub spread_written : (ys : List ℕ) → ys ≡ bytes → put_mid a (a + 8 - a) file ys ≡ spread_at c a file
  spread_written ys e = put_mid-paste a (a + 8 - a) file ys bytes 8 e (omega arith) refl ∙ sym spread_paste

-- ---- a byte that is put into the cells

module _ (m : ℕ) (bs : List ℕ) (b k : ℕ) (count : length bs ≡ k) (few : k < 65536) where
  put_byte : set (cells_with m bs) (1 + k / 8) (get_or (cells_with m bs) (1 + k / 8) 0 + b * 256 ^ (k % 8)) ≡ cells_with m (bs ++ (b ∷ []))
  put_byte = ext_get_or 0 after then (long ∙ sym (cells_long m (bs ++ (b ∷ [])))) (λ j l. at j (omega (arith, long)))
    where
      v : ℕ
      v = get_or (cells_with m bs) (1 + k / 8) 0 + b * 256 ^ (k % 8)

      after : List ℕ
      after = set (cells_with m bs) (1 + k / 8) v

      then : List ℕ
      then = cells_with m (bs ++ (b ∷ []))

      long : length after ≡ feed_size
      long = length-set (cells_with m bs) (1 + k / 8) v ∙ cells_long m bs

      other : (j : ℕ) → j ≢ 1 + k / 8 → get_or after j 0 ≡ get_or (cells_with m bs) j 0
      other j h = get_or-set_other (cells_with m bs) (1 + k / 8) j v 0 h

      cell : (i : ℕ) → i < 8192 → (t : Bool) → eqb i (k / 8) ≡ t → get_or after (1 + i) 0 ≡ get_or then (1 + i) 0
      cell i l true e =
          let same : i ≡ k / 8 = eqb-true i (k / 8) e in
          ap (λ (j : ℕ). get_or after (1 + j) 0) same
          ∙ get_or-set_same (cells_with m bs) (1 + k / 8) v 0 (omega (arith, cells_long m bs))
          ∙ ap (λ (c : ℕ). c + b * 256 ^ (k % 8)) (cell_is m bs (k / 8) (omega arith))
          ∙ sym (pack_more bs b 8 (8 * (k / 8)) (k % 8) (omega arith) (omega arith))
          ∙ ap (cell_of (bs ++ (b ∷ []))) (sym same)
          ∙ sym (cell_is m (bs ++ (b ∷ [])) i l)
      cell i l false e =
          let away : i ≢ k / 8 = eqb-false i (k / 8) e in
          other (1 + i) (omega arith)
          ∙ cell_is m bs i l
          ∙ sym (pack_other bs b 8 (8 * i) (λ r u. omega arith))
          ∙ sym (cell_is m (bs ++ (b ∷ [])) i l)

      at : (j : ℕ) → j < feed_size → get_or after j 0 ≡ get_or then j 0
      at zero h = other 0 (omega arith) ∙ mark_is m bs ∙ sym (mark_is m (bs ++ (b ∷ [])))
      at (suc i) h =
          let one : suc i ≡ 1 + i = omega arith in
          ap (λ (j : ℕ). get_or after j 0) one
          ∙ cell i (omega arith) (eqb i (k / 8)) refl
          ∙ ap (λ (j : ℕ). get_or then j 0) (sym one)

-- ---- the loop over a piece: what was in the cells, and the first i bytes of the piece behind it

pub put_start : (m : ℕ) (bs feed : List ℕ) → feed ≡ cells_with m bs → feed ≡ cells_with m (bs ++ [])
put_start m bs feed e = e ∙ ap (cells_with m) (sym (append-nil bs))

pub put_end_lem : (m : ℕ) (bs piece feed : List ℕ) (i : ℕ) → feed ≡ cells_with m (bs ++ take i piece) → length piece ≤ i → feed ≡ cells_with m (bs ++ piece)
put_end_lem m bs piece feed i e h = e ∙ ap (λ (l : List ℕ). cells_with m (bs ++ l)) (take_all i piece h)

module _ (before : List ℕ) (n : ℕ) (piece feed : List ℕ) (i : ℕ) (bytes : (k : ℕ) → Fits w8 (get_or piece k 0))
    (room : n + length piece ≤ 65536) (h : i < length piece)
    (stands : feed ≡ cells_with (get_or before 0 0) (bytes_in before n ++ take i piece)) where
  abbrev m : ℕ
  m = get_or before 0 0

  abbrev bs : List ℕ
  bs = bytes_in before n ++ take i piece

  so_long : length bs ≡ n + i
  so_long =
      length-append (bytes_in before n) (take i piece)
      ∙ ap₂ ◌+◌ (bytes_long before n) (length-take-le i piece (omega arith))

  so_small : all is_byte bs ≡ true
  so_small =
      small_append (bytes_in before n) (take i piece) (bytes_small before n) (small_take i piece (piece_small piece bytes))

  pub put_inside : 1 + (n + i) / 8 < length feed
  put_inside = omega (arith, ap length stands, cells_long m bs)

  -- what stands in the next byte's cell lies below it
  cell_below : get_or feed (1 + (n + i) / 8) 0 < 256 ^ ((n + i) % 8)
  cell_below =
      let k : ℕ = (n + i) / 8 in
      let is : get_or feed (1 + k) 0 ≡ cell_of bs k = ap (λ (l : List ℕ). get_or l (1 + k) 0) stands ∙ cell_is m bs k (omega arith) in
      omega (arith, pack_below bs (at_small bs so_small) 8 (8 * k) ((n + i) % 8) (omega (arith, so_long)))

  module _ (p : ℕ) (power : p ≡ 256 ^ ((n + i) % 8)) where
    pub put_fits : Fits w64 (get_or feed (1 + (n + i) / 8) 0 + get_or piece i 0 * p)
    put_fits =
        let low : 256 ^ ((n + i) % 8) ≤ 256 ^ 7 = pow-le-pow_right (omega arith) {i = (n + i) % 8} {j = 7} (omega arith) in
        let byte : get_or piece i 0 ≤ 255 = omega (arith, (bytes i).fits) in
        omega (arith, mul-le-mul_right p byte, cell_below)

    pub put_step : set feed (1 + (n + i) / 8) (get_or feed (1 + (n + i) / 8) 0 + get_or piece i 0 * p) ≡ cells_with m (bytes_in before n ++ take (i + 1) piece)
    put_step =
        let cell : ℕ = 1 + (n + i) / 8 in
        let more : i + 1 ≡ suc i = omega arith in
        ap₂ (λ (l : List ℕ) (q : ℕ). set l cell (get_or l cell 0 + get_or piece i 0 * q)) stands power
        ∙ put_byte m bs (get_or piece i 0) (n + i) so_long (omega arith)
        ∙ ap (cells_with m) (append_assoc (bytes_in before n) (take i piece) (get_or piece i 0 ∷ []))
        ∙ ap (λ (l : List ℕ). cells_with m (bytes_in before n ++ l)) (sym (ap (λ (k : ℕ). take k piece) more ∙ take-suc piece i 0 h))
