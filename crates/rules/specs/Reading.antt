-- Document 01, "The lines": the blocks of a file, in order; answers 6 to 8 and 17 to 21; and what a file holds.
use Rattle.std.specs.Prelude.{ℕ, ◌+◌, ◌-◌, Bool, true, false, cond, not, ◌&&◌, ◌||◌, List, [], ◌∷◌, ◌++◌, eqb, leb, ltb, Result, Ok, Err}
use Rattle.rules.specs.Limits.{most_entries, most_externals, most_modules}
use Rattle.rules.specs.Text.{lines_of, Alphabet, is_name_character}
use Rattle.rules.specs.Answers.{PLACE, LIST}
use Rattle.rules.specs.Line.{line_answer_over}
use Rattle.rules.specs.Faults.{fault_number}
use Rattle.rules.specs.declared.line.CodeWord.{CodeWord}
use Rattle.rules.specs.declared.line.Entry.{Entry}
use Rattle.rules.specs.declared.line.Header.{Header}
use Rattle.rules.specs.declared.line.Header.TheVariants.{CodeBlock, EndBlock, TitleBlock, EntryBlock, ExternalBlock, LibraryStart, LibraryEnd, DataBlock, InitBlock, ParameterBlock}
use Rattle.rules.specs.declared.line.Expected.{Expected}
use Rattle.rules.specs.declared.line.Expected.TheVariants.{AnyHeader, OpeningTitle, ClosingTitle, CodeRecord, EntryRecord, ExternalRecord, DataRecord, InitRecord, ParameterRecord, SubRecord}
use Rattle.rules.specs.declared.line.LineAnswer.{LineAnswer}
use Rattle.rules.specs.declared.line.LineAnswer.TheVariants.{Bad, Blank, Head, Opening, Closing, Code, Entered, Mentioned, Ignored, Parameter, Sub}
use Rattle.rules.specs.declared.reading.OpenBlock.{OpenBlock}
use Rattle.rules.specs.declared.reading.OpenModule.{OpenModule}
use Rattle.rules.specs.declared.reading.OpenSection.{OpenSection}
use Rattle.rules.specs.declared.reading.Mode.{Mode}
use Rattle.rules.specs.declared.reading.Part.{Part}
use Rattle.rules.specs.declared.reading.Part.TheVariants.{EntryPart, ExternalPart, BlockPart, WordPart}
use Rattle.rules.specs.declared.reading.Step.{Step}
use Rattle.rules.specs.declared.reading.Step.TheVariants.{Stop, Next, Add, CloseModule, CloseSection}
use Rattle.rules.specs.declared.reading.Stop.{Stop as TheStop}

-- ---- where the reading stands

abbrev pub mode : Expected → OpenBlock → OpenModule → OpenSection → Mode
mode w b o s = record { expected = w; block = b; object = o; section = s }

abbrev pub open_block : ℕ → ℕ → ℕ → ℕ → OpenBlock
open_block o c r s = record { offset = o; count = c; remaining = r; subs = s }

abbrev pub open_module : Bool → ℕ → ℕ → ℕ → ℕ → OpenModule
open_module i t l n x = record { inside = i; title = t; line = l; entries = n; externals = x }

abbrev pub open_section : Bool → ℕ → ℕ → OpenSection
open_section i l n = record { inside = i; line = l; modules = n }

-- before the first line
unfoldable pub at_start : Mode
at_start = mode AnyHeader (open_block 0 0 0 0) (open_module false 0 0 0 0) (open_section false 0 0)

-- the next line has to be w
unfoldable pub expect : Expected → Mode → Mode
expect w m = mode w m.block m.object m.section

-- a block's records follow, if it has any
unfoldable pub expect_records : Expected → ℕ → ℕ → Mode → Mode
expect_records w offset count m =
    mode (cond (eqb count 0) AnyHeader w) (open_block offset count count 0) m.object m.section

-- a record of kind w is read: the block's next one follows, or a header
unfoldable pub record_done : Expected → Mode → Mode
record_done w m =
    mode
    (cond (leb m.block.remaining 1) AnyHeader w)
    (open_block m.block.offset m.block.count (m.block.remaining - 1) 0)
    m.object
    m.section

-- sub-records of the open parameter record follow
unfoldable pub expect_subs : ℕ → Mode → Mode
expect_subs size m =
    mode SubRecord (open_block m.block.offset m.block.count m.block.remaining size) m.object m.section

-- a TITLE header at line n: in a section it counts one more module
unfoldable pub title_header : ℕ → Mode → Mode
title_header n m =
    mode
    OpeningTitle
    m.block
    (open_module false 0 n 0 0)
    (open_section
    m.section.inside
    m.section.line
    (cond m.section.inside (m.section.modules + 1) m.section.modules))

-- the module's title
unfoldable pub enter_module : ℕ → Mode → Mode
enter_module t m = mode AnyHeader m.block (open_module true t m.object.line 0 0) m.section

-- the title after END: no block and no module are open
unfoldable pub leave_module : Mode → Mode
leave_module m = mode AnyHeader (open_block 0 0 0 0) (open_module false 0 0 0 0) m.section

-- an LSB header at line n, and an LEB header
unfoldable pub enter_section : ℕ → Mode → Mode
enter_section n m = mode AnyHeader m.block m.object (open_section true n 0)

unfoldable pub leave_section : Mode → Mode
leave_section m = mode AnyHeader m.block m.object (open_section false 0 0)

-- one entry more, one external more
unfoldable pub count_entry : Mode → Mode
count_entry m =
    let o = m.object in
    mode m.expected m.block (open_module o.inside o.title o.line (o.entries + 1) o.externals) m.section

unfoldable pub count_external : Mode → Mode
count_external m =
    let o = m.object in
    mode m.expected m.block (open_module o.inside o.title o.line o.entries (o.externals + 1)) m.section

-- ---- what a line does

-- "7 and 8 come after all, at column 0"
abbrev pub misplaced : Step
misplaced = Stop PLACE 0

abbrev pub list_full : Step
list_full = Stop LIST 0

-- "Block 3 opens a module [..] neither 3, 6 nor 7 stands inside"; a 257th module of a section is told here
unfoldable pub title_step : ℕ → Mode → Step
title_step n m =
    cond
    m.object.inside
    misplaced
    (cond (m.section.inside && leb most_modules m.section.modules) list_full (Next (title_header n m)))

-- "Libraries don't nest, and 7 stands only in one."
unfoldable pub library_step : ℕ → Mode → Step
library_step n m = cond (m.object.inside || m.section.inside) misplaced (Next (enter_section n m))

unfoldable pub library_end_step : Mode → Step
library_end_step m = cond (m.object.inside || not m.section.inside) misplaced (CloseSection (leave_section m) m.section.line)

-- "Outside a module only 3, 6 and 7 may start."
abbrev pub inside_module : Mode → Step → Step
inside_module m s = cond m.object.inside s misplaced

unfoldable pub header_step : ℕ → Mode → Header → Step
header_step n m (CodeBlock count offset) = inside_module m (Add (expect_records CodeRecord offset count m) (BlockPart offset count))
header_step n m EndBlock = inside_module m (Next (expect ClosingTitle m))
header_step n m TitleBlock = title_step n m
header_step n m (EntryBlock count) = inside_module m (Next (expect_records EntryRecord 0 count m))
header_step n m (ExternalBlock count) = inside_module m (Next (expect_records ExternalRecord 0 count m))
header_step n m LibraryStart = library_step n m
header_step n m LibraryEnd = library_end_step m
header_step n m (DataBlock count) = inside_module m (Next (expect_records DataRecord 0 count m))
header_step n m (InitBlock count) = inside_module m (Next (expect_records InitRecord 0 count m))
header_step n m (ParameterBlock count) = inside_module m (Next (expect_records ParameterRecord 0 count m))

-- "block 1 closes it with the same title"
unfoldable pub closing_step : Mode → ℕ → Step
closing_step m t = cond (eqb t m.object.title) (CloseModule (leave_module m) m.object.line) misplaced

-- "entries per module 64 (blocks 4 and 13 together)"
unfoldable pub entry_step : Mode → Entry → Step
entry_step m e = cond (ltb m.object.entries most_entries) (Add (record_done EntryRecord (count_entry m)) (EntryPart e)) list_full

-- "externals per module 64"
unfoldable pub external_step : Mode → ℕ → Step
external_step m x =
    cond (ltb m.object.externals most_externals) (Add (record_done ExternalRecord (count_external m)) (ExternalPart x)) list_full

-- a code word's index in its block is the number of records before it
abbrev pub word_part : Mode → CodeWord → Part
word_part m w = WordPart (m.block.offset + (m.block.count - m.block.remaining)) w

-- "then size sub-records"
unfoldable pub parameter_step : Mode → ℕ → Step
parameter_step m size = Next (cond (eqb size 0) (record_done ParameterRecord m) (expect_subs size m))

unfoldable pub sub_step : Mode → Step
sub_step m =
    Next (cond (leb m.block.subs 1) (record_done ParameterRecord m) (expect_subs (m.block.subs - 1) m))

-- line n, and what it says, where the reading stands at m
unfoldable pub step_of : ℕ → Mode → LineAnswer → Step
step_of n m (Bad f) = Stop (fault_number f.kind) f.column
step_of n m Blank = Next m
step_of n m (Head h) = header_step n m h
step_of n m (Opening t) = Next (enter_module t m)
step_of n m (Closing t) = closing_step m t
step_of n m (Code w) = Add (record_done CodeRecord m) (word_part m w)
step_of n m (Entered e) = entry_step m e
step_of n m (Mentioned x) = external_step m x
step_of n m Ignored = Next (record_done m.expected m)
step_of n m (Parameter size) = parameter_step m size
step_of n m Sub = sub_step m

-- ---- what a file holds

-- a module: the line of its TITLE header and its parts, in file order
pub record Module : Type 0 where
  pub line : ℕ
  pub parts : List Part

-- a free module, or a library section with the line of its LSB header
pub data Item : Type 0 where
  free : Module → Item
  section : ℕ → List Module → Item

abbrev pub module_at : ℕ → List Part → Module
module_at n ps = record { line = n; parts = ps }

-- ---- the whole file

-- what reading a whole file comes to: nothing is wrong with it; or it stops, by a number, at a line, with a column
abbrev pub Reading : Type 0
Reading = Result (Unit {0}) TheStop

pattern abbrev pub Complete : Reading
Complete = Ok tt

abbrev pub stop : ℕ → ℕ → ℕ → TheStop
stop k n c = record { number = k; line = n; column = c }

abbrev pub Stopped : ℕ → ℕ → ℕ → Reading
Stopped k n c = Err (stop k n c)

-- how far the reading has come: the number of the line that comes next, where it stands, the parts of the open module, the modules
-- of the open section, the items that are complete; and its fault, Complete while there is none
pub record ReadSoFar : Type 0 where
  pub line : ℕ
  pub mode : Mode
  pub parts : List Part
  pub modules : List Module
  pub items : List Item
  pub fault : Reading

abbrev pub read_so_far : ℕ → Mode → List Part → List Module → List Item → Reading → ReadSoFar
read_so_far n m ps ms is f = record { line = n; mode = m; parts = ps; modules = ms; items = is; fault = f }

-- "Lines count from 1"
unfoldable pub unread : ReadSoFar
unread = read_so_far 1 at_start [] [] [] Complete

-- on to the next line
abbrev pub onward : ReadSoFar → Mode → List Part → List Module → List Item → ReadSoFar
onward r m ps ms is = read_so_far (r.line + 1) m ps ms is Complete

-- a module is complete: one more of the open section, or a free one
unfoldable pub module_done : ReadSoFar → Bool → Mode → Module → ReadSoFar
module_done r true m md = onward r m [] (r.modules ++ (md ∷ [])) r.items
module_done r false m md = onward r m [] r.modules (r.items ++ (free md ∷ []))

-- what a line's step does
unfoldable pub stepped : ReadSoFar → Step → ReadSoFar
stepped r (Stop k c) = read_so_far r.line r.mode r.parts r.modules r.items (Stopped k r.line c)
stepped r (Next m) = onward r m r.parts r.modules r.items
stepped r (Add m p) = onward r m (r.parts ++ (p ∷ [])) r.modules r.items
stepped r (CloseModule m line) = module_done r m.section.inside m (module_at line r.parts)
stepped r (CloseSection m line) = onward r m [] [] (r.items ++ (section line r.modules ∷ []))

unfoldable pub if_complete : {A : Type 0} → Reading → A → A → A
if_complete Complete x y = x
if_complete (Err s) x y = y

unfoldable pub is_header : Expected → Bool
is_header AnyHeader = true
is_header OpeningTitle = false
is_header ClosingTitle = false
is_header CodeRecord = false
is_header EntryRecord = false
is_header ExternalRecord = false
is_header DataRecord = false
is_header InitRecord = false
is_header ParameterRecord = false
is_header SubRecord = false

-- "file ends inside something": 7, "at the last line number plus one"
unfoldable pub at_end : ℕ → Mode → Reading
at_end n m =
    cond (is_header m.expected && not (m.object.inside || m.section.inside)) Complete (Stopped PLACE n 0)

abbrev pub ended : ReadSoFar → Reading
ended r = if_complete r.fault (at_end r.line r.mode) r.fault

module _ (alphabet : Alphabet) where
  abbrev pub step_over : ℕ → Mode → List ℕ → Step
  step_over n m line = step_of n m (line_answer_over alphabet m.expected line)

  -- after a fault nothing more is read
  unfoldable pub read_line_over : ReadSoFar → List ℕ → ReadSoFar
  read_line_over r l = if_complete r.fault (stepped r (step_over r.line r.mode l)) r

  unfoldable pub read_lines_over : ReadSoFar → List (List ℕ) → ReadSoFar
  read_lines_over r [] = r
  read_lines_over r (l ∷ ls) = read_lines_over (read_line_over r l) ls

  -- "the whole file is read, and the earliest line with 6, 7 or 8 decides", or with one of the numbers that are split from 6
  unfoldable pub reading_over : List ℕ → Reading
  reading_over file = ended (read_lines_over unread (lines_of file))

  -- what a file holds, or holds up to the line of its fault
  unfoldable pub items_over : List ℕ → List Item
  items_over file = (read_lines_over unread (lines_of file)).items

-- ---- by the rules' own alphabet

abbrev pub step_at : ℕ → Mode → List ℕ → Step
step_at = step_over is_name_character

abbrev pub read_line : ReadSoFar → List ℕ → ReadSoFar
read_line = read_line_over is_name_character

abbrev pub read_lines : ReadSoFar → List (List ℕ) → ReadSoFar
read_lines = read_lines_over is_name_character

abbrev pub reading_of : List ℕ → Reading
reading_of = reading_over is_name_character

abbrev pub items_of : List ℕ → List Item
items_of = items_over is_name_character
