-- A legal part fits its two cells.
use Prim.Native.Nat.{ℕ, ◌^◌, ◌<◌}
use native.Mathlib.Omega.{arith}
use mathlib.Core.Bool.{true, ◌&&◌}
use mathlib.Core.Path.{◌≡◌}
use lib.Dec.{leb, ltb}
use borrow.Author.Tests.{leb-true}
use Rattle.rules.specs.Text.{is_packed}
use Rattle.rules.specs.Line.{code_word}
use Rattle.rules.specs.declared.line.Relocation.{Relocation}
use Rattle.rules.specs.declared.line.Relocation.TheVariants.{Plain, External, Unread}
use Rattle.rules.specs.declared.reading.Part.{Part}
use Rattle.rules.specs.declared.reading.Part.TheVariants.{EntryPart, ExternalPart, BlockPart, WordPart}
use Rattle.rules.proofs.TestLaws.{and_left, and_right, between_high}
use Rattle.rules.proofs.LineLaws.{legal_entry, legal_word, legal_relocation}
use Rattle.rules.proofs.PartLaws.{legal_part}
use Rattle.tables.proofs.TablesLaws.{Fits, entry_fits, external_fits, block_fits, plain_fits, reference_fits, unread_fits}

-- a word's address, 0 for any other part
abbrev pub address_in : Part → ℕ
address_in (EntryPart e) = 0
address_in (ExternalPart x) = 0
address_in (BlockPart o c) = 0
address_in (WordPart a w) = a

word_fits : (a t : ℕ) (r : Relocation) → legal_relocation r ≡ true → a < 131072 → Fits (WordPart a (code_word t r))
unfolding legal_relocation
word_fits a t Plain l h = plain_fits a t h
word_fits a t (External k) l h = reference_fits a t k h (leb-true k 65535 l)
word_fits a t (Unread k) l h = unread_fits a t k h (omega (arith, between_high 1 4 k l))

pub legal_fits : (p : Part) → legal_part p ≡ true → address_in p < 131072 → Fits p
unfolding legal_part legal_entry legal_word
legal_fits (EntryPart e) l h =
    let numbers = and_right (is_packed e.name) (leb e.value 65535 && leb e.parameters 65535) l in
    entry_fits e
    (leb-true e.value 65535 (and_left (leb e.value 65535) (leb e.parameters 65535) numbers))
    (leb-true e.parameters 65535 (and_right (leb e.value 65535) (leb e.parameters 65535) numbers))
legal_fits (ExternalPart x) l h = external_fits x
legal_fits (BlockPart o c) l h =
    block_fits o c
    (leb-true o 65535 (and_left (leb o 65535) (leb c 65535) l))
    (leb-true c 65535 (and_right (leb o 65535) (leb c 65535) l))
legal_fits (WordPart a w) l h =
    word_fits a w.text w.relocation (and_right (ltb w.text (2 ^ 64)) (legal_relocation w.relocation) l) h
