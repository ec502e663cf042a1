-- Document 01, "Runs to check, whole": the runs marked P, all rows of one table, under one claim that antt computes.
use Prim.Native.Nat.{ℕ, ◌+◌, ◌-◌, ◌*◌, ◌<◌}
use native.Mathlib.Omega.{arith}
use Prim.Native.String.{String}
use mathlib.Core.Bool.{Bool, true, false, cond, not, ◌&&◌, false≢true}
use mathlib.Core.List.{List, [], ◌∷◌, ◌++◌}
use mathlib.Core.Option.{Option, none, some}
use mathlib.Core.Path.{◌≡◌, refl, sym, ap, ◌∙◌}
use lib.ListN.{length, replicate}
use lib.Dec.{eqb, ltb}
use Rattle.rules.specs.Text as Text
use Rattle.rules.specs.Line as Line
use Rattle.rules.specs.Faults as Faults
use Rattle.rules.specs.Reading as Reading
use Rattle.rules.specs.State as State
use Rattle.rules.specs.Placing as Placing
use Rattle.rules.specs.Search as Search
use Rattle.rules.specs.Load as Load
use Rattle.rules.specs.Image as Image
use Rattle.rules.specs.Calls as Calls
use Rattle.rules.specs.Text.{bytes, same_text, number_of, pack_name}
use Rattle.rules.specs.State.{Symbol, Word, unplaced, plain, refers, Mark, unmarked, broken, frozen, fresh, undefined_only}
use Rattle.rules.specs.Reading.{Module, Item, free, section, items_of}
use Rattle.rules.specs.Search.{ModuleSet, no_modules, Sweep, round}
use Rattle.rules.specs.Demand.{Sufficient, Contains, SameSet, LeastSufficient, all_modules, is_entry, is_external, some_from}
use Rattle.rules.specs.Load.{Walk, takes, place, searched, walk_from}
use Rattle.rules.specs.declared.line.Relocation.{Relocation}
use Rattle.rules.specs.declared.line.Relocation.TheVariants.{Plain, External}
use Rattle.rules.specs.declared.reading.Part.{Part}
use Rattle.rules.specs.declared.reading.Part.TheVariants.{EntryPart, ExternalPart, BlockPart, WordPart}
use Rattle.rules.specs.declared.answer.LoadAnswer.{LoadAnswer}
use Rattle.rules.proofs.SoundCalls.{fresh_is_sound}
use Rattle.rules.proofs.Demand3.{section_taken}
use Rattle.rules.specs.Calls.{Outcome, Left, as_before, now, holding, load, base, end}

-- ---- the files

main : List ℕ
main =
    bytes
    "3 ***TITLE\nMAIN\n4 1 ***ENTRY\nMAIN 0 1 0\n5 1 ***EXT\nSQ\n0 2 0 ***CODE\n1 2 3 4\n* 0 0 0 177777 0 5 1\n1 ***END\nMAIN\n"

low : List ℕ
low = bytes "3 ***TITLE\nLOW\n4 1 ***ENTRY\nLOW 0 1 0\n0 1 0 ***CODE\n7 7 7 7\n1 ***END\nLOW\n"

sq : List ℕ
sq =
    bytes
    "3 ***TITLE\nSQ\n4 1 ***ENTRY\nSQ 1 1 0\n5 1 ***EXT\nLOW\n0 2 0 ***CODE\n0 0 0 10\n* 0 0 0 2 0 5 1\n1 ***END\nSQ\n"

cube : List ℕ
cube = bytes "3 ***TITLE\nCUBE\n4 1 ***ENTRY\nCUBE 5 0\n1 ***END\nCUBE\n"

library : List ℕ
library = bytes "6 ***LSB\n" ++ low ++ sq ++ cube ++ bytes "7 ***LEB\n"

-- ---- what is compared

-- an image as document 01 prints it: hexadecimal digits, in capitals, spaces free
digit : ℕ → ℕ
digit c = cond (ltb c 58) (c - 48) (c - 55)

spaceless : List ℕ → List ℕ
spaceless [] = []
spaceless (c ∷ cs) = let r = spaceless cs in cond (eqb c 32) r (c ∷ r)

pairs : List ℕ → List ℕ
pairs [] = []
pairs (a ∷ []) = []
pairs (a ∷ b ∷ cs) = (digit a * 16 + digit b) ∷ pairs cs

hex : String → List ℕ
hex s = pairs (spaceless (bytes s))

-- a table of symbols as numbers
table_numbers : List Symbol → List ℕ
table_numbers [] = []
table_numbers (s ∷ t) = s.name ∷ s.value ∷ cond s.defined 1 0 ∷ table_numbers t

named : String → ℕ
named s = pack_name (bytes s)

word_numbers : Word → List ℕ
word_numbers unplaced = 0 ∷ []
word_numbers (plain x) = 1 ∷ x ∷ []
word_numbers (refers x i) = 2 ∷ x ∷ i ∷ []

all_words : List Word → List ℕ
all_words [] = []
all_words (w ∷ ws) = word_numbers w ++ all_words ws

mark_number : Mark → ℕ
mark_number unmarked = 0
mark_number broken = 1
mark_number frozen = 2

same_state : State.State → State.State → Bool
same_state a b =
    same_text (table_numbers a.symbols) (table_numbers b.symbols)
    && (same_text (all_words a.words) (all_words b.words)
    && (eqb a.next b.next && eqb (mark_number a.mark) (mark_number b.mark)))

-- a load from a state, and the state that it leaves
load_in : State.State → List ℕ → Outcome LoadAnswer
load_in s file = load (holding s) true file

after : State.State → Left → State.State
after s as_before = s
after s (now t) = t

then : State.State → List ℕ → State.State
then s file = after s (load_in s file).left

-- what it answers: number, line, column and rounds
answers : Outcome LoadAnswer → ℕ → ℕ → ℕ → ℕ → Bool
answers o k n c r =
    eqb o.answer.number k
    && (eqb o.answer.line n && (eqb o.answer.column c && eqb o.answer.rounds r))

base_at : ℕ → State.State → State.State
base_at n s = after s (base (holding s) n).left

linked : State.State
linked = then fresh (main ++ library)

-- a module without entries or externals, and its code
coded : String → List ℕ
coded code = bytes "3 ***TITLE\nM\n" ++ bytes code ++ bytes "1 ***END\nM\n"

-- a module of one word, whose first quarter is given
one_word : String → List ℕ
one_word n = bytes "3 ***TITLE\nM\n0 1 0 ***CODE\n" ++ bytes n ++ bytes " 0 0 0\n1 ***END\nM\n"

-- MAIN's words under another title and entry
again : List ℕ
again =
    bytes
    "3 ***TITLE\nAGAIN\n4 1 ***ENTRY\nAGAIN 0 1 0\n5 1 ***EXT\nSQ\n0 2 0 ***CODE\n1 2 3 4\n* 0 0 0 177777 0 5 1\n1 ***END\nAGAIN\n"

-- ---- the rows

-- the program words of P1: MAIN at 0, SQ at 2, LOW at 4, and nothing else
words_linked : List Word
words_linked =
    plain 0x0001_0002_0003_0004
    ∷ refers 0xFFFF 1
    ∷ plain 8
    ∷ refers 2 2
    ∷ plain 0x0007_0007_0007_0007
    ∷ replicate 4091 unplaced

-- the modules of the library, in order LOW, SQ, CUBE
members : List Item → List Module
members [] = []
members (free m ∷ is) = members is
members (section line ms ∷ is) = ms

-- which of the three are in a set
three : ModuleSet → List Bool
three set = set 0 ∷ set 1 ∷ set 2 ∷ []

same_flags : List Bool → List Bool → Bool
same_flags [] [] = true
same_flags [] (b ∷ bs) = false
same_flags (a ∷ fs) [] = false
same_flags (a ∷ fs) (b ∷ bs) = cond a b (not b) && same_flags fs bs

-- a round over the library: the modules taken so far, how many in this round, and the next address behind it
round_gives : Sweep Walk → List Bool → ℕ → ℕ → Bool
round_gives r flags took next = same_flags (three r.taken) flags && (eqb r.took took && eqb r.now.state.next next)

-- SQ is taken at 2 in the first round, LOW at 4 in the second, nothing in the third, and CUBE never
taken : Bool
taken =
    let ms = members (items_of library) in
    let w = (walk_from fresh (items_of main)).walk in
    let first = round takes place ms no_modules w in
    let second = round takes place ms first.taken first.now in
    let third = round takes place ms second.taken second.now in
    let found = searched ms w in
    eqb w.state.next 2
    && (round_gives first (false ∷ true ∷ false ∷ []) 1 4
    && (round_gives second (true ∷ true ∷ false ∷ []) 1 5
    && (round_gives third (true ∷ true ∷ false ∷ []) 0 5
    && (same_flags (three found.taken) (true ∷ true ∷ false ∷ []) && eqb found.rounds 3))))

pub p1 : Bool
p1 =
    answers (load_in fresh (main ++ library)) 0 0 0 3
    && (taken
    && (same_text (all_words linked.words) (all_words words_linked)
    && (eqb linked.next 5 && not (State.is_symbol (named "CUBE") linked.symbols))))

pub p2 : Bool
p2 =
    same_text
    (table_numbers linked.symbols)
    (named "MAIN" ∷ 0 ∷ 1 ∷ named "SQ" ∷ 3 ∷ 1 ∷ named "LOW" ∷ 4 ∷ 1 ∷ [])

-- the image, 60 bytes, ahead of what stood past it
pub p3 : Bool
p3 =
    let e = end (holding linked) (replicate 63 1) in
    eqb e.call.answer.number 0
    && (eqb e.call.answer.length 60
    && same_text
    e.output
    (hex
    "57 0000 0001 0002 0003 0004 57 0001 0000 0000 0000 0002 57 0002 0000 0000 0000 0008 57 0003 0000 0000 0000 0006 57 0004 0007 0007 0007 0007 45 0004 0000 01 01 01"))

pub p4 : Bool
p4 =
    let s = then fresh main in
    answers (load_in fresh main) 0 0 0 0
    && (eqb (length (undefined_only s.symbols)) 1
    && same_text (Image.image_of s) (hex "57 0000 0001 0002 0003 0004 57 0001 0000 0000 0000 FFFF 45 0001 0001"))

pub p5 : Bool
p5 = answers (load_in linked []) 0 0 0 0 && same_state (then linked []) linked

is_number : Option ℕ → ℕ → Bool
is_number none n = false
is_number (some m) n = eqb m n

-- 02, 3/14: "P6 and P10 read 18"; the first quarter stands at column 1 of line 4
pub p6 : Bool
p6 =
    is_number (number_of (bytes "177777")) 65535
    && (answers (load_in fresh (one_word "177777")) 0 0 0 0
    && (answers (load_in fresh (one_word "200000")) 18 4 1 0 && answers (load_in fresh (one_word "8")) 18 4 1 0))

-- BASE 4,095: one word fits and stands there, two are 9; at next address 4,096 a module without code loads
pub p7 : Bool
p7 =
    let s = base_at 4095 fresh in
    let t = then s (one_word "1") in
    answers (load_in s (one_word "1")) 0 0 0 0
    && (same_text (all_words t.words) (all_words (replicate 4095 unplaced ++ (plain 0x0001_0000_0000_0000 ∷ [])))
    && (answers (load_in s (coded "0 2 0 ***CODE\n0 0 0 0\n0 0 0 0\n")) 9 1 0 0
    && (eqb t.next 4096 && answers (load_in t (coded "")) 0 0 0 0)))

-- BASE 0 after P1, then MAIN's words under another title and entry: 10, then any LOAD, whatever its file is, 3; nothing but the mark
-- has changed
pub p8 : List ℕ → Bool
p8 file =
    let s = base_at 0 linked in
    let t = then s again in
    answers (load_in s again) 10 1 0 0
    && (same_state t (State.marked broken s) && (answers (load_in t file) 3 0 0 0 && same_state (then t file) t))

-- LOW twice in one library: 13, though nobody needs it
pub p9 : Bool
p9 = answers (load_in fresh (bytes "6 ***LSB\n" ++ low ++ low ++ bytes "7 ***LEB\n")) 13 1 0 0

-- an FPB record of size 3 with two sub-records: the next header, at line 7, is read as the third, whose second number is the marker
pub p10 : Bool
p10 =
    answers (load_in fresh (coded "12 1 ***FPB\n0 0 3\n0 0\n0 0\n")) 18 7 3 0
    && answers (load_in fresh (coded "12 1 ***FPB\n0 0 2\n0 0\n0 0\n")) 0 0 0 0

-- the table, with P8's row to be filled in
rows : Bool → Bool
rows eighth = p1 && (p2 && (p3 && (p4 && (p5 && (p6 && (p7 && (eighth && (p9 && p10))))))))

-- P8's row, whatever the file is; the others have no variable, and compute faster by themselves
row_8 : (file : List ℕ) → p8 file ≡ true
unfolding members three same_flags round_gives taken main low sq cube library digit spaceless pairs hex table_numbers named word_numbers all_words mark_number same_state load_in after then answers base_at linked coded one_word again words_linked is_number p1 p2 p3 p4 p5 p6 p7 p8 p9 p10 Text.bytes Text.all Text.any Text.widen_line Text.cut_lines Text.without_end Text.lines_of Text.legal_front Text.starts_field Text.widen_field Text.add_to_fields Text.fields_from Text.fields_of Text.octal Text.is_number Text.number_of Text.is_name_character Text.is_name_over Text.pack_name Text.name_over Text.up_to_zero Text.unpack_name Text.is_packed_over Line.headers Line.row_in Line.row_of Line.marker_in Text.same_text Line.held Line.in_bounds Line.read_field_over Line.in_front Line.fit_over Line.said Line.read_as_over Line.record_shape Line.row_at Line.first_text Line.header_shape_in Line.code_shape Line.is_one Line.text_at Line.entry_shape Line.shape_for Line.say_fields_over Line.line_over Line.fault_in Line.within Line.test_bytes Line.line_answer_over Faults.fault_number Reading.at_start Reading.expect Reading.expect_records Reading.record_done Reading.expect_subs Reading.title_header Reading.enter_module Reading.leave_module Reading.enter_section Reading.leave_section Reading.count_entry Reading.count_external Reading.title_step Reading.library_step Reading.library_end_step Reading.header_step Reading.closing_step Reading.entry_step Reading.external_step Reading.parameter_step Reading.sub_step Reading.step_of Reading.unread Reading.module_done Reading.stepped Reading.if_complete Reading.read_line_over Reading.read_lines_over Reading.is_header Reading.at_end Reading.reading_over Reading.items_over State.no_words State.fresh State.is_symbol State.is_defined State.is_undefined State.position_of State.undefined_only State.placed_words State.highest_from State.highest_where State.sound_symbol_over State.different_names State.sound_word State.sound_over Placing.entries_in Placing.externals_in Placing.code_in Placing.length_in Placing.count_in Placing.value_at Placing.define Placing.mention Placing.define_all Placing.mention_all Placing.joined Placing.linked Placing.put_all Placing.no_room Placing.overlaps Placing.bad_argument Placing.bad_arguments Placing.out_of_range Placing.twice Placing.duplicates Placing.table_full Placing.placing_fault Placing.placed Search.no_modules Search.with_module Search.visit Search.sweep Search.round Search.rounds Search.search Load.try_place Load.place Load.entry_names Load.is_needed Load.takes Load.searched Load.section_names Load.test_section Load.walk_item Load.walk_items Load.walked Load.load_read_over Load.load_file_over Image.value_of Image.completed Image.two Image.quarters Image.word_record Image.record_of Image.records_from Image.end_record Image.image_of Calls.work_after Calls.shut_by Calls.load_state_over Calls.load_lent_over Calls.load_over Calls.force_state_over Calls.force_over Calls.base_state Calls.base Calls.reset Calls.memory Calls.symbol_at Calls.symbols Calls.undefined_at Calls.undefined Calls.is_broken Calls.end_state Calls.end
row_8 file = refl

other_rows : rows true ≡ true
unfolding rows members three same_flags round_gives taken main low sq cube library digit spaceless pairs hex table_numbers named word_numbers all_words mark_number same_state load_in after then answers base_at linked coded one_word again words_linked is_number p1 p2 p3 p4 p5 p6 p7 p8 p9 p10 Text.bytes Text.all Text.any Text.widen_line Text.cut_lines Text.without_end Text.lines_of Text.legal_front Text.starts_field Text.widen_field Text.add_to_fields Text.fields_from Text.fields_of Text.octal Text.is_number Text.number_of Text.is_name_character Text.is_name_over Text.pack_name Text.name_over Text.up_to_zero Text.unpack_name Text.is_packed_over Line.headers Line.row_in Line.row_of Line.marker_in Text.same_text Line.held Line.in_bounds Line.read_field_over Line.in_front Line.fit_over Line.said Line.read_as_over Line.record_shape Line.row_at Line.first_text Line.header_shape_in Line.code_shape Line.is_one Line.text_at Line.entry_shape Line.shape_for Line.say_fields_over Line.line_over Line.fault_in Line.within Line.test_bytes Line.line_answer_over Faults.fault_number Reading.at_start Reading.expect Reading.expect_records Reading.record_done Reading.expect_subs Reading.title_header Reading.enter_module Reading.leave_module Reading.enter_section Reading.leave_section Reading.count_entry Reading.count_external Reading.title_step Reading.library_step Reading.library_end_step Reading.header_step Reading.closing_step Reading.entry_step Reading.external_step Reading.parameter_step Reading.sub_step Reading.step_of Reading.unread Reading.module_done Reading.stepped Reading.if_complete Reading.read_line_over Reading.read_lines_over Reading.is_header Reading.at_end Reading.reading_over Reading.items_over State.no_words State.fresh State.is_symbol State.is_defined State.is_undefined State.position_of State.undefined_only State.placed_words State.highest_from State.highest_where State.sound_symbol_over State.different_names State.sound_word State.sound_over Placing.entries_in Placing.externals_in Placing.code_in Placing.length_in Placing.count_in Placing.value_at Placing.define Placing.mention Placing.define_all Placing.mention_all Placing.joined Placing.linked Placing.put_all Placing.no_room Placing.overlaps Placing.bad_argument Placing.bad_arguments Placing.out_of_range Placing.twice Placing.duplicates Placing.table_full Placing.placing_fault Placing.placed Search.no_modules Search.with_module Search.visit Search.sweep Search.round Search.rounds Search.search Load.try_place Load.place Load.entry_names Load.is_needed Load.takes Load.searched Load.section_names Load.test_section Load.walk_item Load.walk_items Load.walked Load.load_read_over Load.load_file_over Image.value_of Image.completed Image.two Image.quarters Image.word_record Image.record_of Image.records_from Image.end_record Image.image_of Calls.work_after Calls.shut_by Calls.load_state_over Calls.load_lent_over Calls.load_over Calls.force_state_over Calls.force_over Calls.base_state Calls.base Calls.reset Calls.memory Calls.symbol_at Calls.symbols Calls.undefined_at Calls.undefined Calls.is_broken Calls.end_state Calls.end
other_rows = refl

-- all rows under one claim
pub p_table : (file : List ℕ) → (p1 && (p2 && (p3 && (p4 && (p5 && (p6 && (p7 && (p8 file && (p9 && p10))))))))) ≡ true
unfolding rows
p_table file = ap rows (row_8 file) ∙ other_rows

-- ---- "What the promises have to shut out", on P2's library

-- a module by its line and parts, and the parts of a code word and an entry
abbrev module_of : ℕ → List Part → Module
module_of n ps = record { line = n; parts = ps }

abbrev word : ℕ → ℕ → Relocation → Part
word a t r = WordPart a (record { text = t; relocation = r })

abbrev enters : String → ℕ → Bool → Part
enters x v r = EntryPart (record { name = named x; value = v; relocated = r; parameters = 0 })

-- what the file of P1 holds: MAIN, then LOW, SQ and CUBE in a section
main_module : Module
main_module =
    module_of 1
    (enters "MAIN" 0 true
    ∷ ExternalPart (named "SQ")
    ∷ BlockPart 0 2
    ∷ word 0 0x0001_0002_0003_0004 Plain
    ∷ word 1 0xFFFF (External 1)
    ∷ [])

pub library_modules : List Module
library_modules =
    module_of 13 (enters "LOW" 0 true ∷ BlockPart 0 1 ∷ word 0 0x0007_0007_0007_0007 Plain ∷ [])
    ∷ module_of 21
    (enters "SQ" 1 true ∷ ExternalPart (named "LOW") ∷ BlockPart 0 2 ∷ word 0 8 Plain ∷ word 1 2 (External 1) ∷ [])
    ∷ module_of 32 (enters "CUBE" 5 false ∷ [])
    ∷ []

holds : items_of (main ++ library) ≡ free main_module ∷ section 12 library_modules ∷ []
unfolding main_module library_modules members three same_flags round_gives taken main low sq cube library digit spaceless pairs hex table_numbers named word_numbers all_words mark_number same_state load_in after then answers base_at linked coded one_word again words_linked is_number p1 p2 p3 p4 p5 p6 p7 p8 p9 p10 Text.bytes Text.all Text.any Text.widen_line Text.cut_lines Text.without_end Text.lines_of Text.legal_front Text.starts_field Text.widen_field Text.add_to_fields Text.fields_from Text.fields_of Text.octal Text.is_number Text.number_of Text.is_name_character Text.is_name_over Text.pack_name Text.name_over Text.up_to_zero Text.unpack_name Text.is_packed_over Line.headers Line.row_in Line.row_of Line.marker_in Text.same_text Line.held Line.in_bounds Line.read_field_over Line.in_front Line.fit_over Line.said Line.read_as_over Line.record_shape Line.row_at Line.first_text Line.header_shape_in Line.code_shape Line.is_one Line.text_at Line.entry_shape Line.shape_for Line.say_fields_over Line.line_over Line.fault_in Line.within Line.test_bytes Line.line_answer_over Faults.fault_number Reading.at_start Reading.expect Reading.expect_records Reading.record_done Reading.expect_subs Reading.title_header Reading.enter_module Reading.leave_module Reading.enter_section Reading.leave_section Reading.count_entry Reading.count_external Reading.title_step Reading.library_step Reading.library_end_step Reading.header_step Reading.closing_step Reading.entry_step Reading.external_step Reading.parameter_step Reading.sub_step Reading.step_of Reading.unread Reading.module_done Reading.stepped Reading.if_complete Reading.read_line_over Reading.read_lines_over Reading.is_header Reading.at_end Reading.reading_over Reading.items_over State.no_words State.fresh State.is_symbol State.is_defined State.is_undefined State.position_of State.undefined_only State.placed_words State.highest_from State.highest_where State.sound_symbol_over State.different_names State.sound_word State.sound_over Placing.entries_in Placing.externals_in Placing.code_in Placing.length_in Placing.count_in Placing.value_at Placing.define Placing.mention Placing.define_all Placing.mention_all Placing.joined Placing.linked Placing.put_all Placing.no_room Placing.overlaps Placing.bad_argument Placing.bad_arguments Placing.out_of_range Placing.twice Placing.duplicates Placing.table_full Placing.placing_fault Placing.placed Search.no_modules Search.with_module Search.visit Search.sweep Search.round Search.rounds Search.search Load.try_place Load.place Load.entry_names Load.is_needed Load.takes Load.searched Load.section_names Load.test_section Load.walk_item Load.walk_items Load.walked Load.load_read_over Load.load_file_over Image.value_of Image.completed Image.two Image.quarters Image.word_record Image.record_of Image.records_from Image.end_record Image.image_of Calls.work_after Calls.shut_by Calls.load_state_over Calls.load_lent_over Calls.load_over Calls.force_state_over Calls.force_over Calls.base_state Calls.base Calls.reset Calls.memory Calls.symbol_at Calls.symbols Calls.undefined_at Calls.undefined Calls.is_broken Calls.end_state Calls.end
holds = refl

-- the walk at the library, its table, and what the search takes there
at_library : Walk
at_library = (walk_from fresh (free main_module ∷ [])).walk

pub table_there : List Symbol
table_there = at_library.state.symbols

pub taken_there : ModuleSet
taken_there = (searched library_modules at_library).taken

-- "taking none breaks sufficiency": SQ stays undefined
pub none_insufficient : ¬ Sufficient table_there library_modules no_modules
unfolding main_module library_modules at_library table_there Sufficient all_modules is_entry is_external some_from members three same_flags round_gives taken main low sq cube library digit spaceless pairs hex table_numbers named word_numbers all_words mark_number same_state load_in after then answers base_at linked coded one_word again words_linked is_number p1 p2 p3 p4 p5 p6 p7 p8 p9 p10 Text.bytes Text.all Text.any Text.widen_line Text.cut_lines Text.without_end Text.lines_of Text.legal_front Text.starts_field Text.widen_field Text.add_to_fields Text.fields_from Text.fields_of Text.octal Text.is_number Text.number_of Text.is_name_character Text.is_name_over Text.pack_name Text.name_over Text.up_to_zero Text.unpack_name Text.is_packed_over Line.headers Line.row_in Line.row_of Line.marker_in Text.same_text Line.held Line.in_bounds Line.read_field_over Line.in_front Line.fit_over Line.said Line.read_as_over Line.record_shape Line.row_at Line.first_text Line.header_shape_in Line.code_shape Line.is_one Line.text_at Line.entry_shape Line.shape_for Line.say_fields_over Line.line_over Line.fault_in Line.within Line.test_bytes Line.line_answer_over Faults.fault_number Reading.at_start Reading.expect Reading.expect_records Reading.record_done Reading.expect_subs Reading.title_header Reading.enter_module Reading.leave_module Reading.enter_section Reading.leave_section Reading.count_entry Reading.count_external Reading.title_step Reading.library_step Reading.library_end_step Reading.header_step Reading.closing_step Reading.entry_step Reading.external_step Reading.parameter_step Reading.sub_step Reading.step_of Reading.unread Reading.module_done Reading.stepped Reading.if_complete Reading.read_line_over Reading.read_lines_over Reading.is_header Reading.at_end Reading.reading_over Reading.items_over State.no_words State.fresh State.is_symbol State.is_defined State.is_undefined State.position_of State.undefined_only State.placed_words State.highest_from State.highest_where State.sound_symbol_over State.different_names State.sound_word State.sound_over Placing.entries_in Placing.externals_in Placing.code_in Placing.length_in Placing.count_in Placing.value_at Placing.define Placing.mention Placing.define_all Placing.mention_all Placing.joined Placing.linked Placing.put_all Placing.no_room Placing.overlaps Placing.bad_argument Placing.bad_arguments Placing.out_of_range Placing.twice Placing.duplicates Placing.table_full Placing.placing_fault Placing.placed Search.no_modules Search.with_module Search.visit Search.sweep Search.round Search.rounds Search.search Load.try_place Load.place Load.entry_names Load.is_needed Load.takes Load.searched Load.section_names Load.test_section Load.walk_item Load.walk_items Load.walked Load.load_read_over Load.load_file_over Image.value_of Image.completed Image.two Image.quarters Image.word_record Image.record_of Image.records_from Image.end_record Image.image_of Calls.work_after Calls.shut_by Calls.load_state_over Calls.load_lent_over Calls.load_over Calls.force_state_over Calls.force_over Calls.base_state Calls.base Calls.reset Calls.memory Calls.symbol_at Calls.symbols Calls.undefined_at Calls.undefined Calls.is_broken Calls.end_state Calls.end
none_insufficient enough = false≢true (enough (named "SQ") refl)

-- "One that searches in round one and idles later": it takes SQ, and LOW stays undefined
pub only_sq : ModuleSet
only_sq i = eqb i 1

pub one_round_insufficient : ¬ Sufficient table_there library_modules only_sq
unfolding only_sq main_module library_modules at_library table_there Sufficient all_modules is_entry is_external some_from members three same_flags round_gives taken main low sq cube library digit spaceless pairs hex table_numbers named word_numbers all_words mark_number same_state load_in after then answers base_at linked coded one_word again words_linked is_number p1 p2 p3 p4 p5 p6 p7 p8 p9 p10 Text.bytes Text.all Text.any Text.widen_line Text.cut_lines Text.without_end Text.lines_of Text.legal_front Text.starts_field Text.widen_field Text.add_to_fields Text.fields_from Text.fields_of Text.octal Text.is_number Text.number_of Text.is_name_character Text.is_name_over Text.pack_name Text.name_over Text.up_to_zero Text.unpack_name Text.is_packed_over Line.headers Line.row_in Line.row_of Line.marker_in Text.same_text Line.held Line.in_bounds Line.read_field_over Line.in_front Line.fit_over Line.said Line.read_as_over Line.record_shape Line.row_at Line.first_text Line.header_shape_in Line.code_shape Line.is_one Line.text_at Line.entry_shape Line.shape_for Line.say_fields_over Line.line_over Line.fault_in Line.within Line.test_bytes Line.line_answer_over Faults.fault_number Reading.at_start Reading.expect Reading.expect_records Reading.record_done Reading.expect_subs Reading.title_header Reading.enter_module Reading.leave_module Reading.enter_section Reading.leave_section Reading.count_entry Reading.count_external Reading.title_step Reading.library_step Reading.library_end_step Reading.header_step Reading.closing_step Reading.entry_step Reading.external_step Reading.parameter_step Reading.sub_step Reading.step_of Reading.unread Reading.module_done Reading.stepped Reading.if_complete Reading.read_line_over Reading.read_lines_over Reading.is_header Reading.at_end Reading.reading_over Reading.items_over State.no_words State.fresh State.is_symbol State.is_defined State.is_undefined State.position_of State.undefined_only State.placed_words State.highest_from State.highest_where State.sound_symbol_over State.different_names State.sound_word State.sound_over Placing.entries_in Placing.externals_in Placing.code_in Placing.length_in Placing.count_in Placing.value_at Placing.define Placing.mention Placing.define_all Placing.mention_all Placing.joined Placing.linked Placing.put_all Placing.no_room Placing.overlaps Placing.bad_argument Placing.bad_arguments Placing.out_of_range Placing.twice Placing.duplicates Placing.table_full Placing.placing_fault Placing.placed Search.no_modules Search.with_module Search.visit Search.sweep Search.round Search.rounds Search.search Load.try_place Load.place Load.entry_names Load.is_needed Load.takes Load.searched Load.section_names Load.test_section Load.walk_item Load.walk_items Load.walked Load.load_read_over Load.load_file_over Image.value_of Image.completed Image.two Image.quarters Image.word_record Image.record_of Image.records_from Image.end_record Image.image_of Calls.work_after Calls.shut_by Calls.load_state_over Calls.load_lent_over Calls.load_over Calls.force_state_over Calls.force_over Calls.base_state Calls.base Calls.reset Calls.memory Calls.symbol_at Calls.symbols Calls.undefined_at Calls.undefined Calls.is_broken Calls.end_state Calls.end
one_round_insufficient enough = false≢true (enough (named "LOW") refl)

-- "taking all breaks containment": what the search takes is sufficient, and CUBE is not among it
accepted_there : (load (holding fresh) true (main ++ library)).answer.number ≡ 0
unfolding members three same_flags round_gives taken main low sq cube library digit spaceless pairs hex table_numbers named word_numbers all_words mark_number same_state load_in after then answers base_at linked coded one_word again words_linked is_number p1 p2 p3 p4 p5 p6 p7 p8 p9 p10 Text.bytes Text.all Text.any Text.widen_line Text.cut_lines Text.without_end Text.lines_of Text.legal_front Text.starts_field Text.widen_field Text.add_to_fields Text.fields_from Text.fields_of Text.octal Text.is_number Text.number_of Text.is_name_character Text.is_name_over Text.pack_name Text.name_over Text.up_to_zero Text.unpack_name Text.is_packed_over Line.headers Line.row_in Line.row_of Line.marker_in Text.same_text Line.held Line.in_bounds Line.read_field_over Line.in_front Line.fit_over Line.said Line.read_as_over Line.record_shape Line.row_at Line.first_text Line.header_shape_in Line.code_shape Line.is_one Line.text_at Line.entry_shape Line.shape_for Line.say_fields_over Line.line_over Line.fault_in Line.within Line.test_bytes Line.line_answer_over Faults.fault_number Reading.at_start Reading.expect Reading.expect_records Reading.record_done Reading.expect_subs Reading.title_header Reading.enter_module Reading.leave_module Reading.enter_section Reading.leave_section Reading.count_entry Reading.count_external Reading.title_step Reading.library_step Reading.library_end_step Reading.header_step Reading.closing_step Reading.entry_step Reading.external_step Reading.parameter_step Reading.sub_step Reading.step_of Reading.unread Reading.module_done Reading.stepped Reading.if_complete Reading.read_line_over Reading.read_lines_over Reading.is_header Reading.at_end Reading.reading_over Reading.items_over State.no_words State.fresh State.is_symbol State.is_defined State.is_undefined State.position_of State.undefined_only State.placed_words State.highest_from State.highest_where State.sound_symbol_over State.different_names State.sound_word State.sound_over Placing.entries_in Placing.externals_in Placing.code_in Placing.length_in Placing.count_in Placing.value_at Placing.define Placing.mention Placing.define_all Placing.mention_all Placing.joined Placing.linked Placing.put_all Placing.no_room Placing.overlaps Placing.bad_argument Placing.bad_arguments Placing.out_of_range Placing.twice Placing.duplicates Placing.table_full Placing.placing_fault Placing.placed Search.no_modules Search.with_module Search.visit Search.sweep Search.round Search.rounds Search.search Load.try_place Load.place Load.entry_names Load.is_needed Load.takes Load.searched Load.section_names Load.test_section Load.walk_item Load.walk_items Load.walked Load.load_read_over Load.load_file_over Image.value_of Image.completed Image.two Image.quarters Image.word_record Image.record_of Image.records_from Image.end_record Image.image_of Calls.work_after Calls.shut_by Calls.load_state_over Calls.load_lent_over Calls.load_over Calls.force_state_over Calls.force_over Calls.base_state Calls.base Calls.reset Calls.memory Calls.symbol_at Calls.symbols Calls.undefined_at Calls.undefined Calls.is_broken Calls.end_state Calls.end
accepted_there = refl

search_least : LeastSufficient table_there library_modules taken_there
unfolding table_there taken_there at_library
search_least = (section_taken fresh (main ++ library) fresh_is_sound accepted_there (free main_module ∷ []) [] 12 library_modules holds).least

no_cube : taken_there 2 ≡ false
unfolding main_module library_modules at_library taken_there members three same_flags round_gives taken main low sq cube library digit spaceless pairs hex table_numbers named word_numbers all_words mark_number same_state load_in after then answers base_at linked coded one_word again words_linked is_number p1 p2 p3 p4 p5 p6 p7 p8 p9 p10 Text.bytes Text.all Text.any Text.widen_line Text.cut_lines Text.without_end Text.lines_of Text.legal_front Text.starts_field Text.widen_field Text.add_to_fields Text.fields_from Text.fields_of Text.octal Text.is_number Text.number_of Text.is_name_character Text.is_name_over Text.pack_name Text.name_over Text.up_to_zero Text.unpack_name Text.is_packed_over Line.headers Line.row_in Line.row_of Line.marker_in Text.same_text Line.held Line.in_bounds Line.read_field_over Line.in_front Line.fit_over Line.said Line.read_as_over Line.record_shape Line.row_at Line.first_text Line.header_shape_in Line.code_shape Line.is_one Line.text_at Line.entry_shape Line.shape_for Line.say_fields_over Line.line_over Line.fault_in Line.within Line.test_bytes Line.line_answer_over Faults.fault_number Reading.at_start Reading.expect Reading.expect_records Reading.record_done Reading.expect_subs Reading.title_header Reading.enter_module Reading.leave_module Reading.enter_section Reading.leave_section Reading.count_entry Reading.count_external Reading.title_step Reading.library_step Reading.library_end_step Reading.header_step Reading.closing_step Reading.entry_step Reading.external_step Reading.parameter_step Reading.sub_step Reading.step_of Reading.unread Reading.module_done Reading.stepped Reading.if_complete Reading.read_line_over Reading.read_lines_over Reading.is_header Reading.at_end Reading.reading_over Reading.items_over State.no_words State.fresh State.is_symbol State.is_defined State.is_undefined State.position_of State.undefined_only State.placed_words State.highest_from State.highest_where State.sound_symbol_over State.different_names State.sound_word State.sound_over Placing.entries_in Placing.externals_in Placing.code_in Placing.length_in Placing.count_in Placing.value_at Placing.define Placing.mention Placing.define_all Placing.mention_all Placing.joined Placing.linked Placing.put_all Placing.no_room Placing.overlaps Placing.bad_argument Placing.bad_arguments Placing.out_of_range Placing.twice Placing.duplicates Placing.table_full Placing.placing_fault Placing.placed Search.no_modules Search.with_module Search.visit Search.sweep Search.round Search.rounds Search.search Load.try_place Load.place Load.entry_names Load.is_needed Load.takes Load.searched Load.section_names Load.test_section Load.walk_item Load.walk_items Load.walked Load.load_read_over Load.load_file_over Image.value_of Image.completed Image.two Image.quarters Image.word_record Image.record_of Image.records_from Image.end_record Image.image_of Calls.work_after Calls.shut_by Calls.load_state_over Calls.load_lent_over Calls.load_over Calls.force_state_over Calls.force_over Calls.base_state Calls.base Calls.reset Calls.memory Calls.symbol_at Calls.symbols Calls.undefined_at Calls.undefined Calls.is_broken Calls.end_state Calls.end
no_cube = refl

three_modules : length library_modules ≡ 3
unfolding library_modules
three_modules = refl

pub all_not_least : ¬ LeastSufficient table_there library_modules all_modules
unfolding Contains SameSet all_modules
all_not_least all =
    let inside : 2 < length library_modules = omega (arith, three_modules) in
    let differ : ¬ SameSet library_modules taken_there all_modules = λ same. false≢true (sym no_cube ∙ same 2 inside) in
    false≢true (sym no_cube ∙ (all.least taken_there search_least.sufficient differ).0 2 inside refl)
