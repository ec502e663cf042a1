-- A part's two cells decode to that part.
use Prim.Native.Nat.{ℕ, ◌+◌, ◌*◌, ◌/◌, ◌%◌, ◌<◌, ◌≤◌}
use native.Mathlib.Omega.{arith}
use mathlib.Core.Bool.{Bool, true, false, cond}
use mathlib.Core.Path.{◌≡◌, refl}
use Rattle.rules.specs.Line.{code_word}
use Rattle.rules.specs.declared.line.Entry.{Entry}
use Rattle.rules.specs.declared.line.Relocation.TheVariants.{Plain, External, Unread}
use Rattle.rules.specs.declared.reading.Part.{Part}
use Rattle.rules.specs.declared.reading.Part.TheVariants.{EntryPart, ExternalPart, BlockPart, WordPart}
use Rattle.tables.specs.Tables.{head_of, part_head, part_body, part_of}

-- a kind and its numbers, taken apart
kind_back : (k n : ℕ) → k < 8 → (k + 8 * n) % 8 ≡ k
kind_back k n h = omega arith

numbers_back : (k n : ℕ) → k < 8 → (k + 8 * n) / 8 ≡ n
numbers_back k n h = omega arith

-- two numbers of sixteen bits in one, and an address below one of them
low_back : (a b : ℕ) → a ≤ 65535 → (a + 65536 * b) % 65536 ≡ a
low_back a b h = omega arith

high_back : (a b : ℕ) → a ≤ 65535 → b ≤ 65535 → (a + 65536 * b) / 65536 % 65536 ≡ b
high_back a b h k = omega arith

address_back : (a b : ℕ) → a < 131072 → (a + 131072 * b) % 131072 ≡ a
address_back a b h = omega arith

number_back : (a b : ℕ) → a < 131072 → b ≤ 65535 → (a + 131072 * b) / 131072 % 65536 ≡ b
number_back a b h k = omega arith

-- ---- what fits into two cells

pub data Fits : Part → Type 0 where
  entry_fits : (e : Entry) → e.value ≤ 65535 → e.parameters ≤ 65535 → Fits (EntryPart e)
  external_fits : (x : ℕ) → Fits (ExternalPart x)
  block_fits : (o c : ℕ) → o ≤ 65535 → c ≤ 65535 → Fits (BlockPart o c)
  plain_fits : (a t : ℕ) → a < 131072 → Fits (WordPart a (code_word t Plain))
  reference_fits : (a t k : ℕ) → a < 131072 → k ≤ 65535 → Fits (WordPart a (code_word t (External k)))
  unread_fits : (a t k : ℕ) → a < 131072 → k ≤ 65535 → Fits (WordPart a (code_word t (Unread k)))

pub part_back : (p : Part) → Fits p → part_of (part_head p) (part_body p) ≡ p
unfolding part_of part_head part_body
part_back _ (entry_fits e v p) = go e.relocated refl
  where
    n : ℕ
    n = e.value + 65536 * e.parameters

    go : (r : Bool) → e.relocated ≡ r → part_of (head_of (cond r 2 1) n) e.name ≡ EntryPart e
    go true q =
        rw (kind_back 2 n (omega arith), numbers_back 2 n (omega arith), low_back e.value e.parameters v, high_back e.value e.parameters v p, ← q)
    go false q =
        rw (kind_back 1 n (omega arith), numbers_back 1 n (omega arith), low_back e.value e.parameters v, high_back e.value e.parameters v p, ← q)
part_back _ (external_fits x) = refl
part_back _ (block_fits o c h k) =
    let n : ℕ = o + 65536 * c in
    rw (kind_back 4 n (omega arith), numbers_back 4 n (omega arith), low_back o c h, high_back o c h k)
part_back _ (plain_fits a t h) =
    let small : a % 131072 ≡ a = omega arith in
    rw (kind_back 5 a (omega arith), numbers_back 5 a (omega arith), small)
part_back _ (reference_fits a t k h j) =
    let n : ℕ = a + 131072 * k in
    rw (kind_back 6 n (omega arith), numbers_back 6 n (omega arith), address_back a k h, number_back a k h j)
part_back _ (unread_fits a t k h j) =
    let n : ℕ = a + 131072 * k in
    rw (kind_back 7 n (omega arith), numbers_back 7 n (omega arith), address_back a k h, number_back a k h j)
