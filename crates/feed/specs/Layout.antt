-- Feed memory: a lent slice of 64-bit cells, the feed that it holds, and what a call finds and leaves there.
use Rattle.std.specs.Prelude.{ℕ, zero, suc, ◌+◌, ◌-◌, ◌*◌, ◌/◌, ◌%◌, Bool, cond, ◌&&◌, List, ◌∷◌, map, length, get_or, eqb}
use Rattle.rules.specs.Text.{same_text}
use Rattle.rules.specs.Calls.{LentOf, wrong_length, damaged, holding, LeftOf, as_before, now}
use Rattle.rules.specs.Feed.{Feed, shut, fed, sound_feed}
use Rattle.state.specs.Layout.{zeros, range}

-- ---- the cells: in the first 0 where no load is open, else the total and 1; then the bytes

abbrev pub bytes_at : ℕ
bytes_at = 1

-- eight bytes to a cell, for 65,536 of them
abbrev pub byte_cells : ℕ
byte_cells = 8192

-- the fixed length of feed memory
abbrev pub feed_size : ℕ
feed_size = 8193

-- ---- from a feed to its cells

-- n bytes from the k-th on in one number, the first lowest, 0 past the last
unfoldable pub pack_from : List ℕ → ℕ → ℕ → ℕ
pack_from bytes k zero = 0
pack_from bytes k (suc n) = get_or bytes k 0 + 256 * pack_from bytes (k + 1) n

abbrev pub cell_of : List ℕ → ℕ → ℕ
cell_of bytes i = pack_from bytes (8 * i) 8

-- the first cell, and the bytes in the others
unfoldable pub cells_with : ℕ → List ℕ → List ℕ
cells_with mark bytes = mark ∷ map (cell_of bytes) (range 0 byte_cells)

unfoldable pub encode_feed : Feed → List ℕ
encode_feed shut = zeros feed_size
encode_feed (fed bytes) = cells_with (length bytes + 1) bytes

-- ---- from cells to a feed, 0 past their end

-- byte r of a cell
unfoldable pub byte_of : ℕ → ℕ → ℕ
byte_of c zero = c % 256
byte_of c (suc r) = byte_of (c / 256) r

abbrev pub byte_in : List ℕ → ℕ → ℕ
byte_in cells k = byte_of (get_or cells (bytes_at + k / 8) 0) (k % 8)

-- the first n bytes
unfoldable pub bytes_in : List ℕ → ℕ → List ℕ
bytes_in cells n = map (byte_in cells) (range 0 n)

unfoldable pub decode_feed : List ℕ → Feed
decode_feed cells = cond (eqb (get_or cells 0 0) 0) shut (fed (bytes_in cells (get_or cells 0 0 - 1)))

-- ---- what a call is lent, and what it leaves

-- the cells are those of the feed that they decode to, and that feed is sound
unfoldable pub sound_feed_cells : List ℕ → Bool
sound_feed_cells cells = same_text cells (encode_feed (decode_feed cells)) && sound_feed (decode_feed cells)

unfoldable pub lent_feed : List ℕ → LentOf Feed
lent_feed cells =
    cond (eqb (length cells) feed_size) (cond (sound_feed_cells cells) (holding (decode_feed cells)) damaged) wrong_length

unfoldable pub feed_cells_after : List ℕ → LeftOf Feed → List ℕ
feed_cells_after cells as_before = cells
feed_cells_after cells (now f) = encode_feed f
