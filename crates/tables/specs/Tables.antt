-- What a file holds, as two tables of 64-bit cells, two cells an element. The reading fills them, and the walk goes over them.
-- Parts: the parts of all modules, one after the other. Rows: a row for each module and each section, written when it closes:
-- a module with its range of parts, a section with its range of rows. Every cell decodes to something.
use Rattle.std.specs.Prelude.{ℕ, zero, suc, ◌+◌, ◌-◌, ◌*◌, ◌/◌, ◌%◌, ◌≤◌, true, false, cond, List, [], ◌∷◌, get_or, take, drop, eqb, ◌≡◌, Option, None, Some}
use Rattle.rules.specs.Line.{entry, code_word}
use Rattle.rules.specs.Reading.{Module, module_at, Item, free, section}
use Rattle.tables.specs.declared.parts.PartKind.{PartKind}
use Rattle.tables.specs.declared.parts.PartKind.TheVariants.{NoPart, AbsoluteEntry, RelocatedEntry, External as TheExternal, Block, PlainWord, Reference, UnreadWord}
use Rattle.tables.specs.declared.rows.RowKind.{RowKind}
use Rattle.tables.specs.declared.rows.RowKind.TheVariants.{Free, Member, Section as TheSection}
use Rattle.tables.specs.declared.rows.Section.{Section}
use Rattle.rules.specs.declared.line.Relocation.{Relocation}
use Rattle.rules.specs.declared.line.Relocation.TheVariants.{Plain, External, Unread}
use Rattle.rules.specs.declared.reading.Part.{Part}
use Rattle.rules.specs.declared.reading.Part.TheVariants.{EntryPart, ExternalPart, BlockPart, WordPart}

-- more than the cells of a table, and so than its elements, in any file: no index to them overflows
abbrev pub most_cells : ℕ
most_cells = 131072

-- ---- parts: kind and numbers in the first cell, name or text in the second

-- the kinds; 0 is none
abbrev pub absolute_entry : ℕ
absolute_entry = 1

abbrev pub relocated_entry : ℕ
relocated_entry = 2

abbrev pub external : ℕ
external = 3

-- a CODE header
abbrev pub block : ℕ
block = 4

abbrev pub plain_word : ℕ
plain_word = 5

-- a word that refers to an external
abbrev pub reference : ℕ
reference = 6

abbrev pub unread_word : ℕ
unread_word = 7

-- the number of a kind
abbrev pub part_number : PartKind → ℕ
part_number NoPart = 0
part_number AbsoluteEntry = absolute_entry
part_number RelocatedEntry = relocated_entry
part_number TheExternal = external
part_number Block = block
part_number PlainWord = plain_word
part_number Reference = reference
part_number UnreadWord = unread_word

abbrev pub head_of : ℕ → ℕ → ℕ
head_of kind numbers = kind + 8 * numbers

abbrev pub kind_of : ℕ → ℕ
kind_of head = head % 8

abbrev pub numbers_of : ℕ → ℕ
numbers_of head = head / 8

-- two numbers of sixteen bits in one
abbrev pub pair : ℕ → ℕ → ℕ
pair a b = a + 65536 * b

abbrev pub low16 : ℕ → ℕ
low16 n = n % 65536

-- an address from a module's base, below 131,072, and a number
abbrev pub addressed : ℕ → ℕ → ℕ
addressed a k = a + 131072 * k

abbrev pub address : ℕ → ℕ
address n = n % 131072

abbrev pub above_address : ℕ → ℕ
above_address n = n / 131072

abbrev pub word_head : ℕ → Relocation → ℕ
word_head a Plain = head_of plain_word a
word_head a (External k) = head_of reference (addressed a k)
word_head a (Unread type) = head_of unread_word (addressed a type)

unfoldable pub part_head : Part → ℕ
part_head (EntryPart e) = head_of (cond e.relocated relocated_entry absolute_entry) (pair e.value e.parameters)
part_head (ExternalPart x) = external
part_head (BlockPart offset count) = head_of block (pair offset count)
part_head (WordPart a w) = word_head a w.relocation

unfoldable pub part_body : Part → ℕ
part_body (EntryPart e) = e.name
part_body (ExternalPart x) = x
part_body (BlockPart offset count) = 0
part_body (WordPart a w) = w.text

-- a block without words, which has no effect
abbrev pub no_part : Part
no_part = BlockPart 0 0

unfoldable pub part_of : ℕ → ℕ → Part
part_of head body =
    let kind = kind_of head in
    let n = numbers_of head in
    cond (eqb kind absolute_entry) (EntryPart (entry body (low16 n) false (low16 (n / 65536))))
    (cond (eqb kind relocated_entry) (EntryPart (entry body (low16 n) true (low16 (n / 65536))))
    (cond (eqb kind external) (ExternalPart body)
    (cond (eqb kind block) (BlockPart (low16 n) (low16 (n / 65536)))
    (cond (eqb kind plain_word) (WordPart (address n) (code_word body Plain))
    (cond (eqb kind reference) (WordPart (address n) (code_word body (External (low16 (above_address n)))))
    (cond (eqb kind unread_word) (WordPart (address n) (code_word body (Unread (low16 (above_address n))))) no_part))))))

-- ---- rows: kind and line in the first cell, start and end of a range in the second

abbrev pub row_head : ℕ → ℕ → ℕ
row_head kind line = kind + 4 * line

abbrev pub row_body : ℕ → ℕ → ℕ
row_body start end = start + 65536 * end

abbrev pub free_row : ℕ
free_row = 1

abbrev pub member_row : ℕ
member_row = 2

abbrev pub section_row : ℕ
section_row = 3

-- the number of a kind
abbrev pub kind_number : RowKind → ℕ
kind_number Free = free_row
kind_number Member = member_row
kind_number TheSection = section_row

-- the number that a row has: 0 where it has no kind
abbrev pub kind_told : Option RowKind → ℕ
kind_told None = 0
kind_told (Some k) = kind_number k

-- ---- room for the parts and the rows of any file of 65,536 bytes: how many, and their cells

abbrev pub most_parts : ℕ
most_parts = 32768

abbrev pub part_room : ℕ
part_room = 2 * most_parts

abbrev pub most_rows : ℕ
most_rows = 7281

abbrev pub row_room : ℕ
row_room = 2 * most_rows

-- ---- element i of a table

abbrev pub head_in : List ℕ → ℕ → ℕ
head_in cells i = get_or cells (2 * i) 0

abbrev pub body_in : List ℕ → ℕ → ℕ
body_in cells i = get_or cells (2 * i + 1) 0

abbrev pub kind_in : List ℕ → ℕ → ℕ
kind_in rows i = head_in rows i % 4

abbrev pub line_in : List ℕ → ℕ → ℕ
line_in rows i = head_in rows i / 4

abbrev pub start_in : List ℕ → ℕ → ℕ
start_in rows i = body_in rows i % 65536

abbrev pub end_in : List ℕ → ℕ → ℕ
end_in rows i = body_in rows i / 65536

-- the rows of the section of row i: so many, from the first on
pub record RowsOf (rows : List ℕ) (i : ℕ) (r : Section) : Type 0 where
  pub first : r.first ≡ start_in rows i
  pub count : r.count ≡ end_in rows i - start_in rows i
  pub low : r.first ≤ 65535

-- ---- from the tables to what the file holds

-- the parts that stand in cells, two cells a part
unfoldable pub parts_of : List ℕ → List Part
parts_of [] = []
parts_of (head ∷ []) = []
parts_of (head ∷ body ∷ cells) = part_of head body ∷ parts_of cells

-- the cells of the elements from i to the one before e
abbrev pub cells_in : List ℕ → ℕ → ℕ → List ℕ
cells_in cells i e = take (2 * e - 2 * i) (drop (2 * i) cells)

-- the module of row i
unfoldable pub module_in : List ℕ → List ℕ → ℕ → Module
module_in parts rows i = module_at (line_in rows i) (parts_of (cells_in parts (start_in rows i) (end_in rows i)))

-- the modules of n rows from row i on
unfoldable pub modules_in : List ℕ → List ℕ → ℕ → ℕ → List Module
modules_in parts rows i zero = []
modules_in parts rows i (suc n) = module_in parts rows i ∷ modules_in parts rows (i + 1) n

unfoldable pub section_in : List ℕ → List ℕ → ℕ → Item
section_in parts rows i =
    section (line_in rows i) (modules_in parts rows (start_in rows i) (end_in rows i - start_in rows i))

-- the items of n rows from row i on: a member counts with its section
unfoldable pub items_from_row : List ℕ → List ℕ → ℕ → ℕ → List Item
items_from_row parts rows i zero = []
items_from_row parts rows i (suc n) =
    let rest = items_from_row parts rows (i + 1) n in
    cond (eqb (kind_in rows i) free_row) (free (module_in parts rows i) ∷ rest)
    (cond (eqb (kind_in rows i) section_row) (section_in parts rows i ∷ rest) rest)

-- what the first n rows hold
unfoldable pub items_in : List ℕ → List ℕ → ℕ → List Item
items_in parts rows n = items_from_row parts rows 0 n
