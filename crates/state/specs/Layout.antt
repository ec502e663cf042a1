-- State memory: a lent slice of 64-bit cells, the state that it holds, and what a call finds and leaves there.
use Rattle.std.specs.Prelude.{ℕ, zero, suc, ◌+◌, ◌-◌, Bool, cond, not, ◌&&◌, List, [], ◌∷◌, ◌++◌, map, length, get_or, replicate, eqb}
use Rattle.rules.specs.Text.{same_text, Alphabet, is_name_character}
use Rattle.rules.specs.State.{Symbol, symbol, Word, unplaced, plain, refers, Mark, unmarked, broken, frozen, State, state, sound_over}
use Rattle.rules.specs.Calls.{Lent, wrong_length, damaged, holding, Left, as_before, now}
use Rattle.state.specs.declared.layout.Mark.{Mark as TheMark}
use Rattle.state.specs.declared.layout.Mark.TheVariants.{Unmarked, Broken, Frozen}

-- ---- the regions: four cells of header (count of symbols, next address, mark, a spare one), then four tables

abbrev pub names_at : ℕ
names_at = 4

abbrev pub values_at : ℕ
values_at = 260

abbrev pub texts_at : ℕ
texts_at = 516

abbrev pub tags_at : ℕ
tags_at = 4612

-- the fixed length of state memory
abbrev pub size : ℕ
size = 8708

-- ---- from a state to its cells

abbrev pub name_cell : Symbol → ℕ
name_cell s = s.name

-- 0 for an undefined symbol, else its value and 65,536
abbrev pub value_cell : Symbol → ℕ
value_cell s = cond s.defined (s.value + 65536) 0

abbrev pub text_cell : Word → ℕ
text_cell unplaced = 0
text_cell (plain x) = x
text_cell (refers x i) = x

-- 0 for an unplaced word, 1 for a plain one, 2 + i for one that refers to symbol i
abbrev pub tag_cell : Word → ℕ
tag_cell unplaced = 0
tag_cell (plain x) = 1
tag_cell (refers x i) = 2 + i

abbrev pub mark_cell : Mark → ℕ
mark_cell unmarked = 0
mark_cell broken = 1
mark_cell frozen = 2

-- the mark that the code's Mark is
abbrev pub mark_meant : TheMark → Mark
mark_meant Unmarked = unmarked
mark_meant Broken = broken
mark_meant Frozen = frozen

unfoldable pub zeros : ℕ → List ℕ
zeros n = replicate n 0

-- a table of n cells: these, and zeros behind them
unfoldable pub padded : ℕ → List ℕ → List ℕ
padded n l = l ++ zeros (n - length l)

abbrev pub header : State → List ℕ
header s = length s.symbols ∷ s.next ∷ mark_cell s.mark ∷ 0 ∷ []

abbrev pub names : State → List ℕ
names s = padded 256 (map name_cell s.symbols)

abbrev pub values : State → List ℕ
values s = padded 256 (map value_cell s.symbols)

abbrev pub texts : State → List ℕ
texts s = map text_cell s.words

abbrev pub tags : State → List ℕ
tags s = map tag_cell s.words

unfoldable pub encode : State → List ℕ
encode s = header s ++ (names s ++ (values s ++ (texts s ++ tags s)))

-- ---- from cells to a state, 0 past their end

-- a, a + 1, .., n numbers
unfoldable pub numbers : ℕ → ℕ → List ℕ
numbers a zero = []
numbers a (suc n) = a ∷ numbers (a + 1) n

-- the numbers from a on that are below b
unfoldable pub range : ℕ → ℕ → List ℕ
range a b = numbers a (b - a)

abbrev pub symbol_of : ℕ → ℕ → Symbol
symbol_of name value = symbol name (value - 65536) (not (eqb value 0))

unfoldable pub word_of : ℕ → ℕ → Word
word_of text tag = cond (eqb tag 0) unplaced (cond (eqb tag 1) (plain text) (refers text (tag - 2)))

unfoldable pub mark_of : ℕ → Mark
mark_of k = cond (eqb k 0) unmarked (cond (eqb k 1) broken frozen)

abbrev pub symbol_in : List ℕ → ℕ → Symbol
symbol_in cells i = symbol_of (get_or cells (names_at + i) 0) (get_or cells (values_at + i) 0)

abbrev pub word_in : List ℕ → ℕ → Word
word_in cells a = word_of (get_or cells (texts_at + a) 0) (get_or cells (tags_at + a) 0)

-- the symbols from the i-th on
unfoldable pub symbols_from : List ℕ → ℕ → List Symbol
symbols_from cells i = map (symbol_in cells) (range i (get_or cells 0 0))

-- the words below address a
unfoldable pub words_below : List ℕ → ℕ → List Word
words_below cells a = map (word_in cells) (range 0 a)

unfoldable pub decode : List ℕ → State
decode cells = state (symbols_from cells 0) (words_below cells 4096) (get_or cells 1 0) (mark_of (get_or cells 2 0))

-- ---- what a call is lent, and what it leaves

module _ (alphabet : Alphabet) where
  -- the cells are those of the state that they decode to, and that state is sound
  unfoldable pub sound_cells_over : List ℕ → Bool
  sound_cells_over cells = same_text cells (encode (decode cells)) && sound_over alphabet (decode cells)

  unfoldable pub lent_over : List ℕ → Lent
  lent_over cells = cond (eqb (length cells) size) (cond (sound_cells_over cells) (holding (decode cells)) damaged) wrong_length

-- by the rules' own alphabet
abbrev pub sound_cells : List ℕ → Bool
sound_cells = sound_cells_over is_name_character

abbrev pub lent : List ℕ → Lent
lent = lent_over is_name_character

unfoldable pub cells_after : List ℕ → Left → List ℕ
cells_after cells as_before = cells
cells_after cells (now s) = encode s
