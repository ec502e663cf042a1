-- What the functions on feed memory find there and do to it.
use Rattle.std.specs.Prelude.{ℕ, ◌+◌, ◌-◌, ◌/◌, ◌%◌, ◌^◌, ◌≤◌, Bool, true, cond, ◌&&◌, ◌||◌, List, map, ◌≡◌, length, get_or, set, eqb, ltb}
use Rattle.rules.specs.Calls.{holding}
use Rattle.rules.specs.Feed.{sound_feed}
use Rattle.state.specs.Layout.{range}
use Rattle.soundness.specs.Checks.{zero_between, refused_by}
use Rattle.feed.specs.Layout.{feed_size, encode_feed, byte_of, byte_in, decode_feed, lent_feed}

-- how many bytes stand in the cells, by the first cell: none where no load is open, none of too many
unfoldable pub standing : ℕ → ℕ
standing mark = cond (eqb mark 0 || ltb 65537 mark) 0 (mark - 1)

-- no byte stands behind the n-th: cell n / 8 has n % 8 bytes, those behind it none
unfoldable pub clean_behind : List ℕ → ℕ → Bool
clean_behind cells n =
    cond (eqb (n % 8) 0)
    (zero_between cells (1 + n / 8) feed_size)
    (ltb (get_or cells (1 + n / 8) 0) (256 ^ (n % 8)) && zero_between cells (2 + n / 8) feed_size)

-- room for the longest file and a byte more
abbrev pub file_room : ℕ
file_room = 65537

-- the first n bytes of the cells, in a file of zeros
unfoldable pub unpacked : List ℕ → ℕ → List ℕ
unpacked cells n = map (λ k. cond (ltb k n) (byte_in cells k) 0) (range 0 file_room)

-- the eight bytes of a cell, from a position of a file on
abbrev pub spread_at : ℕ → ℕ → List ℕ → List ℕ
spread_at c a file =
    set (set (set (set (set (set (set (set file
    a (byte_of c 0)) (a + 1) (byte_of c 1)) (a + 2) (byte_of c 2)) (a + 3) (byte_of c 3))
    (a + 4) (byte_of c 4)) (a + 5) (byte_of c 5)) (a + 6) (byte_of c 6)) (a + 7) (byte_of c 7)

-- sound memory: it holds what it decodes to, and has its cells
pub record Sound (cells : List ℕ) : Type 0 where
  pub long : length cells ≡ feed_size
  pub most : get_or cells 0 0 ≤ 65538
  pub holds : lent_feed cells ≡ holding (decode_feed cells)
  pub encoded : cells ≡ encode_feed (decode_feed cells)
  pub sound : sound_feed (decode_feed cells) ≡ true

-- the answer that refuses feed memory, 0 where it is sound
pub record FeedRefusal (cells : List ℕ) (r : ℕ) : Type 0 where
  pub is : r ≡ refused_by (lent_feed cells)
  pub good : r ≡ 0 → Sound cells
