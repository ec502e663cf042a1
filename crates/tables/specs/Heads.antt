-- What the first cell of a part says by itself, so that a pass skips the kinds that it does not care for without making the part.
use Rattle.std.specs.Prelude.{ℕ, ◌+◌, ◌/◌, Bool, cond, ◌||◌, List, map, drop, eqb, ltb}
use Rattle.rules.specs.Line.{entry, code_word}
use Rattle.rules.specs.Placing.{Code, entries_in, entry_name}
use Rattle.rules.specs.declared.line.Entry.{Entry}
use Rattle.rules.specs.declared.line.Relocation.{Relocation}
use Rattle.rules.specs.declared.line.Relocation.TheVariants.{Plain, External, Unread}
use Rattle.rules.specs.declared.reading.Part.{Part}
use Rattle.tables.specs.Tables.{absolute_entry, relocated_entry, external, block, plain_word, reference, kind_of, numbers_of, low16, address, above_address, parts_of}

-- the parts that stand in cells from cell i on
abbrev pub parts_from : List ℕ → ℕ → List Part
parts_from cells i = parts_of (drop i cells)

-- the names of the entries among parts
abbrev pub names_in : List Part → List ℕ
names_in ps = map entry_name (entries_in ps)

-- ---- entries

abbrev pub is_relocated : ℕ → Bool
is_relocated head = eqb (kind_of head) relocated_entry

abbrev pub is_entry : ℕ → Bool
is_entry head = eqb (kind_of head) absolute_entry || is_relocated head

unfoldable pub entry_of : ℕ → ℕ → Entry
entry_of head body = entry body (low16 (numbers_of head)) (is_relocated head) (low16 (numbers_of head / 65536))

-- its value at a base
unfoldable pub value_of : ℕ → ℕ → ℕ
value_of base head = cond (is_relocated head) (low16 (numbers_of head) + base) (low16 (numbers_of head))

-- ---- externals

abbrev pub is_external : ℕ → Bool
is_external head = eqb (kind_of head) external

-- ---- CODE blocks

-- the end of a block's words from the module's base, 0 where it has none and for any other part
unfoldable pub block_end : ℕ → ℕ
block_end head =
    let count = low16 (numbers_of head / 65536) in
    cond (eqb (kind_of head) block) (cond (eqb count 0) 0 (low16 (numbers_of head) + count)) 0

-- ---- code words

abbrev pub is_word : ℕ → Bool
is_word head = ltb block (kind_of head)

abbrev pub address_of : ℕ → ℕ
address_of head = address (numbers_of head)

-- the number of the external that a word refers to
abbrev pub argument_of : ℕ → ℕ
argument_of head = low16 (above_address (numbers_of head))

abbrev pub is_reference : ℕ → Bool
is_reference head = eqb (kind_of head) reference

unfoldable pub relocation_of : ℕ → Relocation
relocation_of head =
    cond (is_reference head) (External (argument_of head)) (cond (eqb (kind_of head) plain_word) Plain (Unread (argument_of head)))

unfoldable pub code_of : ℕ → ℕ → Code
code_of head body = record { address = address_of head; word = code_word body (relocation_of head) }
