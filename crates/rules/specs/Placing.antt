-- Document 01, "Placing a module", with the answers 9 to 14.
use Rattle.std.specs.Prelude.{ℕ, ◌+◌, ◌-◌, max, Bool, true, false, cond, ◌&&◌, ◌||◌, List, [], ◌∷◌, map, length, get_or, set, eqb, ltb}
use Rattle.rules.specs.Limits.{program_words, most_symbols, largest_number}
use Rattle.rules.specs.Text.{any}
use Rattle.rules.specs.Answers.{DONE, ROOM, OVERLAP, ARG, RANGE, DUPLICATE, TABLE}
use Rattle.rules.specs.Reading.{Module}
use Rattle.rules.specs.State.{Symbol, symbol, name_is, is_defined, position_of, Word, unplaced, plain, refers, is_placed, State, state}
use Rattle.rules.specs.declared.line.Entry.{Entry}
use Rattle.rules.specs.declared.line.CodeWord.{CodeWord}
use Rattle.rules.specs.declared.line.Relocation.{Relocation}
use Rattle.rules.specs.declared.line.Relocation.TheVariants.{Plain, External, Unread}
use Rattle.rules.specs.declared.reading.Part.{Part}
use Rattle.rules.specs.declared.reading.Part.TheVariants.{EntryPart, ExternalPart, BlockPart, WordPart}

-- ---- what a module has: its parts, by kind, in file order

unfoldable pub entries_in : List Part → List Entry
entries_in [] = []
entries_in (EntryPart e ∷ ps) = e ∷ entries_in ps
entries_in (ExternalPart x ∷ ps) = entries_in ps
entries_in (BlockPart o c ∷ ps) = entries_in ps
entries_in (WordPart a w ∷ ps) = entries_in ps

-- "counts the module's externals from 1 in file order, wherever its EXT blocks stand, a repeated name counting again"
unfoldable pub externals_in : List Part → List ℕ
externals_in [] = []
externals_in (EntryPart e ∷ ps) = externals_in ps
externals_in (ExternalPart x ∷ ps) = x ∷ externals_in ps
externals_in (BlockPart o c ∷ ps) = externals_in ps
externals_in (WordPart a w ∷ ps) = externals_in ps

-- a code word and its address from the module's base
pub record Code : Type 0 where
  pub address : ℕ
  pub word : CodeWord

unfoldable pub code_in : List Part → List Code
code_in [] = []
code_in (EntryPart e ∷ ps) = code_in ps
code_in (ExternalPart x ∷ ps) = code_in ps
code_in (BlockPart o c ∷ ps) = code_in ps
code_in (WordPart a w ∷ ps) = record { address = a; word = w } ∷ code_in ps

-- "Its length is the largest offset plus count over its CODE blocks with at least one word, else 0."
unfoldable pub length_in : List Part → ℕ
length_in [] = 0
length_in (EntryPart e ∷ ps) = length_in ps
length_in (ExternalPart x ∷ ps) = length_in ps
length_in (BlockPart o c ∷ ps) = max (cond (eqb c 0) 0 (o + c)) (length_in ps)
length_in (WordPart a w ∷ ps) = length_in ps

-- the sum of its CODE counts
unfoldable pub count_in : List Part → ℕ
count_in [] = 0
count_in (EntryPart e ∷ ps) = count_in ps
count_in (ExternalPart x ∷ ps) = count_in ps
count_in (BlockPart o c ∷ ps) = c + count_in ps
count_in (WordPart a w ∷ ps) = count_in ps

abbrev pub entries : Module → List Entry
entries m = entries_in m.parts

abbrev pub externals : Module → List ℕ
externals m = externals_in m.parts

abbrev pub code : Module → List Code
code m = code_in m.parts

abbrev pub module_length : Module → ℕ
module_length m = length_in m.parts

abbrev pub code_count : Module → ℕ
code_count m = count_in m.parts

abbrev pub entry_name : Entry → ℕ
entry_name e = e.name

-- ---- symbols

-- "An entry of type 0 has its value; of type 1, value plus base"
unfoldable pub value_at : ℕ → Entry → ℕ
value_at base e = cond e.relocated (e.value + base) e.value

-- an entry defines its symbol, which joins the table at its end if it is new
unfoldable pub define : ℕ → ℕ → List Symbol → List Symbol
define x v [] = symbol x v true ∷ []
define x v (s ∷ t) = cond (name_is x s) (symbol x v true ∷ t) (s ∷ define x v t)

-- an external joins the table undefined, if it is new
unfoldable pub mention : ℕ → List Symbol → List Symbol
mention x [] = symbol x 0 false ∷ []
mention x (s ∷ t) = cond (name_is x s) (s ∷ t) (s ∷ mention x t)

unfoldable pub define_all : ℕ → List Entry → List Symbol → List Symbol
define_all base [] t = t
define_all base (e ∷ es) t = define_all base es (define e.name (value_at base e) t)

unfoldable pub mention_all : List ℕ → List Symbol → List Symbol
mention_all [] t = t
mention_all (x ∷ xs) t = mention_all xs (mention x t)

-- "Symbols join the table in order of first mention: the module's entries, then its externals."
unfoldable pub joined : ℕ → Module → List Symbol → List Symbol
joined base m t = mention_all (externals m) (define_all base (entries m) t)

-- ---- words

-- external number k of a module, from 1
abbrev pub external_name : List ℕ → ℕ → ℕ
external_name xs k = get_or xs (k - 1) 0

-- how a code word stands in memory: only an external's refers to a symbol
unfoldable pub linked : List ℕ → List Symbol → ℕ → Relocation → Word
linked xs t text Plain = plain text
linked xs t text (External k) = refers text (position_of (external_name xs k) t)
linked xs t text (Unread type) = plain text

-- "Each code word goes to base plus offset plus its place."
abbrev pub address_at : ℕ → Code → ℕ
address_at base c = base + c.address

unfoldable pub put_all : ℕ → List ℕ → List Symbol → List Code → List Word → List Word
put_all base xs t [] ws = ws
put_all base xs t (c ∷ cs) ws =
    put_all base xs t cs (set ws (address_at base c) (linked xs t c.word.text c.word.relocation))

-- ---- the tests, in order

-- 9 ROOM: "base plus length over 4,096"
unfoldable pub no_room : State → Module → Bool
no_room s m = ltb program_words (s.next + module_length m)

-- does a number stand twice: an address, or a name
unfoldable pub twice : List ℕ → Bool
twice [] = false
twice (x ∷ xs) = any (eqb x) xs || twice xs

-- 10 OVERLAP: "a word would be placed twice"
unfoldable pub overlaps : State → Module → Bool
overlaps s m =
    let addresses = map (address_at s.next) (code m) in
    twice addresses || any (λ a. is_placed (get_or s.words a unplaced)) addresses

unfoldable pub bad_argument : ℕ → Relocation → Bool
bad_argument n Plain = false
bad_argument n (External k) = eqb k 0 || ltb n k
bad_argument n (Unread type) = false

-- 11 ARG: "external number 0 or beyond the module's externals"
unfoldable pub bad_arguments : Module → Bool
bad_arguments m = any (λ c. bad_argument (length (externals m)) c.word.relocation) (code m)

-- 12 RANGE: "relocated entry over 65,535"
unfoldable pub out_of_range : State → Module → Bool
out_of_range s m = any (λ e. e.relocated && ltb largest_number (e.value + s.next)) (entries m)

-- 13 DUPLICATE: "a second entry of one name"
unfoldable pub duplicates : State → Module → Bool
duplicates s m =
    let names = map entry_name (entries m) in
    twice names || any (λ x. is_defined x s.symbols) names

-- 14 TABLE: "over 256 symbols"
unfoldable pub table_full : State → Module → Bool
table_full s m = ltb most_symbols (length (joined s.next m s.symbols))

-- "per placed module 9 to 14 as numbered", 0 where none applies
unfoldable pub placing_fault : State → Module → ℕ
placing_fault s m =
    cond (no_room s m) ROOM
    (cond (overlaps s m) OVERLAP
    (cond (bad_arguments m) ARG
    (cond (out_of_range s m) RANGE (cond (duplicates s m) DUPLICATE (cond (table_full s m) TABLE DONE)))))

-- "Its base is the next address. [..] The next address grows by the length"
unfoldable pub placed : State → Module → State
placed s m =
    let t = joined s.next m s.symbols in
    state t (put_all s.next (externals m) t (code m) s.words) (s.next + module_length m) s.mark
