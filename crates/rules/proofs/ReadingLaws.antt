-- Laws of the reading (specs/Reading.antt): what holds between two lines, and so of all that a file holds.
use Prim.Native.Nat.{ℕ, ◌+◌, ◌-◌, ◌<◌, ◌≤◌}
use mathlib.Core.Bool.{Bool, true, false, cond, not, ◌||◌, false≢true, and-false}
use mathlib.Core.List.{List, [], ◌∷◌, ◌++◌}
use mathlib.Core.Option.{Option, none, some}
use mathlib.Core.Path.{◌≡◌, refl, ap, subst}
use native.Mathlib.Nat.{add-zero}
use native.Mathlib.Omega.{arith}
use lib.ListN.{length, length-append}
use lib.Dec.{eqb, leb, ltb}
use borrow.Author.Tests.{leb-true, leb-false, eqb-true, eqb-false, ltb-true}
use Rattle.rules.specs.Text.{all, lines_of, is_packed}
use Rattle.rules.specs.Reading.{mode, open_block, open_module, open_section, at_start, expect, expect_records, record_done, expect_subs, title_header, enter_module, leave_module, enter_section, leave_section, count_entry, count_external, title_step, library_step, library_end_step, header_step, closing_step, entry_step, external_step, parameter_step, sub_step, step_of, step_at, is_header, at_end, Module, Item, free, section, module_at, items_of, Reading, Complete, Stopped}
use Rattle.rules.specs.Placing.{entries_in, externals_in, length_in, count_in, code_count}
use Rattle.rules.specs.declared.line.Entry.{Entry}
use Rattle.rules.specs.declared.line.CodeWord.{CodeWord}
use Rattle.rules.specs.declared.line.Header.{Header}
use Rattle.rules.specs.declared.line.Header.TheVariants.{CodeBlock, EndBlock, TitleBlock, EntryBlock, ExternalBlock, LibraryStart, LibraryEnd, DataBlock, InitBlock, ParameterBlock}
use Rattle.rules.specs.declared.line.Expected.{Expected}
use Rattle.rules.specs.declared.line.Expected.TheVariants.{AnyHeader, OpeningTitle, CodeRecord, EntryRecord, ExternalRecord, DataRecord, InitRecord, ParameterRecord}
use Rattle.rules.specs.declared.line.LineAnswer.{LineAnswer}
use Rattle.rules.specs.declared.reading.OpenBlock.{OpenBlock}
use Rattle.rules.specs.declared.reading.OpenSection.{OpenSection}
use Rattle.rules.specs.declared.reading.Mode.{Mode}
use Rattle.rules.specs.declared.reading.Part.{Part}
use Rattle.rules.specs.declared.reading.Part.TheVariants.{EntryPart, ExternalPart, BlockPart, WordPart}
use Rattle.rules.specs.declared.reading.Step.{Step}
use Rattle.rules.specs.declared.reading.Step.TheVariants.{Stop, Next, Add, CloseModule, CloseSection}
use Rattle.rules.proofs.TestLaws.{Every, every_add, every_all, and_intro, and_left, and_right}
use Rattle.rules.proofs.LineLaws.{legal_header, legal_entry, legal_word, is_expected, expected_number, CanSay, bad, blank, head, opening, closing, coded, entered, mentioned, data_read, init_read, parameter, sub, line_can_say}
use Rattle.rules.proofs.FoldLaws.{on_step, read_from, closed, gather, items_from, items_lines}
use Rattle.rules.proofs.PartLaws.{legal_part, entries_append, externals_append, length_in_append, count_append, PartsSound, no_parts, add_entry, add_external, add_block, add_word}

-- ---- sound modules and items

-- a module with sound parts, as many code words as its CODE counts say
abbrev pub ModuleSound : Module → Type 0
ModuleSound m = PartsSound m.parts (code_count m)

-- "modules per library section 256"
abbrev pub ItemSound : Item → Type 0
ItemSound (free m) = ModuleSound m
ItemSound (section n ms) = Every ModuleSound ms × (length ms ≤ 256)

-- ---- what holds between two lines

-- the modules of the open section so far, and k more that is being read
pub record Room (ms : List Module) (k count : ℕ) : Type 0 where
  pub sound : Every ModuleSound ms
  pub fits : length ms + k ≤ count
  pub limit : count ≤ 256

pub data InSection : ℕ → OpenSection → List Module → Type 0 where
  outside : {k : ℕ} → InSection k (open_section false 0 0) []
  inside : {k line count : ℕ} {ms : List Module} → Room ms k count → InSection k (open_section true line count) ms

-- the open module: its parts so far, with n entries, x externals and c code words
pub record Within (ps : List Part) (n x c : ℕ) : Type 0 where
  pub sound : PartsSound ps c
  pub entries : length (entries_in ps) ≡ n
  pub externals : length (externals_in ps) ≡ x

-- the open CODE block: its words to come are counted and stand inside the module
pub record Ahead (ps : List Part) (offset count remaining c : ℕ) : Type 0 where
  pub counted : c + remaining ≡ count_in ps
  pub some_left : 1 ≤ remaining
  pub not_more : remaining ≤ count
  pub fits : offset + count ≤ length_in ps

-- a line of a module other than its title and its code records
unfoldable pub idle : Expected → Bool
idle w = not (is_expected OpeningTitle w || is_expected CodeRecord w)

-- in no module
abbrev pub rest_in : OpenSection → Mode
rest_in s = mode AnyHeader (open_block 0 0 0 0) (open_module false 0 0 0 0) s

-- Where the reading can stand, after the parts of the open module and the modules of the open section: in no module,
-- before a title, before a code record, or before any other line of a module.
pub data Stands : Mode → List Part → List Module → Type 0 where
  at_rest :
      {s : OpenSection} {ms : List Module} → InSection 0 s ms
      → Stands (rest_in s) [] ms
  before_title :
      {b : OpenBlock} {line : ℕ} {s : OpenSection} {ms : List Module} → InSection 1 s ms
      → Stands (mode OpeningTitle b (open_module false 0 line 0 0) s) [] ms
  before_code :
      {offset count remaining subs title line n x c : ℕ} {s : OpenSection} {ps : List Part} {ms : List Module}
      → InSection 1 s ms → Within ps n x c → Ahead ps offset count remaining c
      → Stands (mode CodeRecord (open_block offset count remaining subs) (open_module true title line n x) s) ps ms
  before_other :
      {w : Expected} {b : OpenBlock} {title line n x c : ℕ} {s : OpenSection} {ps : List Part} {ms : List Module}
      → InSection 1 s ms → Within ps n x c → c ≡ count_in ps → idle w ≡ true
      → Stands (mode w b (open_module true title line n x) s) ps ms

-- what holds after a step
abbrev pub After : List Part → List Module → Step → Type 0
After ps ms (Stop k c) = Unit {0}
After ps ms (Next m) = Stands m ps ms
After ps ms (Add m p) = Stands m (ps ++ (p ∷ [])) ms
After ps ms (CloseModule m line) =
    ModuleSound (module_at line ps) × Stands m [] (cond m.section.inside (ms ++ (module_at line ps ∷ [])) ms)
After ps ms (CloseSection m line) = ItemSound (section line ms) × Stands m [] []

-- ---- one part more

within_add :
    {ps : List Part} {n x c k : ℕ} → Within ps n x c → (p : Part) → PartsSound (ps ++ (p ∷ [])) k
    → Within (ps ++ (p ∷ [])) (n + length (entries_in (p ∷ []))) (x + length (externals_in (p ∷ []))) k
within_add {ps} h p s =
    record {
      sound = s;
      entries = simp (entries_append, length-append, h.entries);
      externals = simp (externals_append, length-append, h.externals);
    }

module _ {ps : List Part} {n x c : ℕ} (h : Within ps n x c) where
  within_entry : (e : Entry) → legal_entry e ≡ true → n < 64 → Within (ps ++ (EntryPart e ∷ [])) (n + 1) x c
  unfolding entries_in externals_in
  within_entry e l b = simp add-zero at (within_add h (EntryPart e) (add_entry h.sound e l (omega arith)))

  within_external : (y : ℕ) → is_packed y ≡ true → x < 64 → Within (ps ++ (ExternalPart y ∷ [])) n (x + 1) c
  unfolding entries_in externals_in
  within_external y l b = simp add-zero at (within_add h (ExternalPart y) (add_external h.sound y l (omega arith)))

  within_block : (o k : ℕ) → legal_part (BlockPart o k) ≡ true → Within (ps ++ (BlockPart o k ∷ [])) n x c
  unfolding entries_in externals_in
  within_block o k l = simp add-zero at (within_add h (BlockPart o k) (add_block h.sound o k l))

  within_word : (a : ℕ) (w : CodeWord) → legal_word w ≡ true → a < length_in ps → Within (ps ++ (WordPart a w ∷ [])) n x (c + 1)
  unfolding entries_in externals_in
  within_word a w l b = simp add-zero at (within_add h (WordPart a w) (add_word h.sound a w l b))

no_parts_within : Within [] 0 0 0
unfolding entries_in externals_in
no_parts_within = record { sound = no_parts; entries = refl; externals = refl }

-- ---- outside a module

-- TITLE, LSB and LEB may stand here, and no other header
rest_title :
    (n : ℕ) {s : OpenSection} {ms : List Module} → InSection 0 s ms
    → After [] ms (title_step n (rest_in s))
unfolding title_step title_header
rest_title n outside = before_title outside
rest_title n (inside {line} {count} {ms} r) = go (leb 256 count) refl
  where
    go :
        (t : Bool) → leb 256 count ≡ t
        → After [] ms (cond t (Stop 8 0) (Next (mode OpeningTitle (open_block 0 0 0 0) (open_module false 0 n 0 0) (open_section true line (count + 1)))))
    go true e = tt
    go false e =
        let free = leb-false 256 count e in
        let next : Room ms 1 (count + 1) = record { sound = r.sound; fits = omega arith; limit = omega arith } in
        before_title (inside next)

rest_library :
    (n : ℕ) {s : OpenSection} {ms : List Module} → InSection 0 s ms
    → After [] ms (library_step n (rest_in s))
unfolding library_step enter_section
rest_library n outside =
    let next : Room [] 0 0 = record { sound = tt; fits = omega arith; limit = omega arith } in
    at_rest (inside next)
rest_library n (inside r) = tt

rest_library_end : {s : OpenSection} {ms : List Module} → InSection 0 s ms → After [] ms (library_end_step (rest_in s))
unfolding library_end_step leave_section
rest_library_end outside = tt
rest_library_end (inside r) = ((r.sound, omega arith), at_rest outside)

rest_header :
    (n : ℕ) {s : OpenSection} {ms : List Module} → InSection 0 s ms → (h : Header)
    → After [] ms (header_step n (rest_in s) h)
unfolding header_step
rest_header n s (CodeBlock count offset) = tt
rest_header n s EndBlock = tt
rest_header n s TitleBlock = rest_title n s
rest_header n s (EntryBlock count) = tt
rest_header n s (ExternalBlock count) = tt
rest_header n s LibraryStart = rest_library n s
rest_header n s LibraryEnd = rest_library_end s
rest_header n s (DataBlock count) = tt
rest_header n s (InitBlock count) = tt
rest_header n s (ParameterBlock count) = tt

rest_step :
    (n : ℕ) {s : OpenSection} {ms : List Module} → InSection 0 s ms → {a : LineAnswer} → CanSay AnyHeader a
    → After [] ms (step_of n (rest_in s) a)
unfolding step_of
rest_step n s bad = tt
rest_step n s blank = at_rest s
rest_step n s (head {h} l) = rest_header n s h

-- ---- inside a module

title_step_lem :
    (n : ℕ) (b : OpenBlock) (line : ℕ) {s : OpenSection} {ms : List Module} → InSection 1 s ms → {a : LineAnswer} → CanSay OpeningTitle a
    → After [] ms (step_of n (mode OpeningTitle b (open_module false 0 line 0 0) s) a)
unfolding step_of enter_module count_in idle is_expected expected_number
title_step_lem n b line s bad = tt
title_step_lem n b line s blank = before_title s
title_step_lem n b line s (opening h) = before_other s no_parts_within refl refl

-- the next record of a block, or a header
records_follow :
    {n x c : ℕ} {s : OpenSection} {ps : List Part} {ms : List Module} → InSection 1 s ms → Within ps n x c → c ≡ count_in ps
    → (w : Expected) {b : OpenBlock} {title line : ℕ} → idle w ≡ true → (t : Bool)
    → Stands (mode (cond t AnyHeader w) b (open_module true title line n x) s) ps ms
unfolding idle is_expected expected_number
records_follow i h known w l true = before_other i h known refl
records_follow i h known w l false = before_other i h known l

-- a step that stops unless a test is passed
passed :
    (ps : List Part) (ms : List Module) (t : Bool) (a : Step) (k c : ℕ) → (t ≡ true → After ps ms a)
    → After ps ms (cond t a (Stop k c))
passed ps ms true a k c f = f refl
passed ps ms false a k c f = tt

-- a module is complete
complete :
    {s : OpenSection} {ms : List Module} → InSection 1 s ms → (md : Module) → ModuleSound md
    → Stands (rest_in s) [] (cond s.inside (ms ++ (md ∷ [])) ms)
complete outside md g = at_rest outside
complete (inside {count} {ms} r) md g =
    let next : Room (ms ++ (md ∷ [])) 0 count =
    record {
      sound = every_add ModuleSound ms md r.sound g;
      fits = simp length-append (omega arith);
      limit = r.limit;
    } in
    at_rest (inside next)

module _ (title line : ℕ) {n x c : ℕ} {s : OpenSection} {ps : List Part} {ms : List Module} (i : InSection 1 s ms) (h : Within ps n x c) where
  word_step :
      (offset count remaining : ℕ) → Ahead ps offset count remaining c → (w : CodeWord) → legal_word w ≡ true → (t : Bool) → leb remaining 1 ≡ t
      → Stands
      (mode (cond t AnyHeader CodeRecord) (open_block offset count (remaining - 1) 0) (open_module true title line n x) s)
      (ps ++ (WordPart (offset + (count - remaining)) w ∷ []))
      ms
  unfolding count_in length_in idle is_expected expected_number
  word_step offset count remaining g w l true e =
      let last = leb-true remaining 1 e in
      before_other i (within_word h (offset + (count - remaining)) w l (omega arith)) (simp count_append (omega arith)) refl
  word_step offset count remaining g w l false e =
      let more = leb-false remaining 1 e in
      let ahead : Ahead (ps ++ (WordPart (offset + (count - remaining)) w ∷ [])) offset count (remaining - 1) (c + 1) =
      record {
        counted = simp count_append (omega arith);
        some_left = omega arith;
        not_more = omega arith;
        fits = simp length_in_append (omega arith);
      } in
      before_code i (within_word h (offset + (count - remaining)) w l (omega arith)) ahead

  code_step :
      (k offset count remaining subs : ℕ) → Ahead ps offset count remaining c → {a : LineAnswer} → CanSay CodeRecord a
      → After ps ms (step_of k (mode CodeRecord (open_block offset count remaining subs) (open_module true title line n x) s) a)
  unfolding step_of record_done
  code_step k offset count remaining subs g bad = tt
  code_step k offset count remaining subs g blank = before_code i h g
  code_step k offset count remaining subs g (coded {c = w} l) = word_step offset count remaining g w l (leb remaining 1) refl

  -- the other lines of a module, where all words that its CODE headers count have come
  module _ (known : c ≡ count_in ps) where
    block_step :
        (offset count : ℕ) → legal_part (BlockPart offset count) ≡ true → (t : Bool) → eqb count 0 ≡ t
        → Stands
        (mode (cond t AnyHeader CodeRecord) (open_block offset count count 0) (open_module true title line n x) s)
        (ps ++ (BlockPart offset count ∷ []))
        ms
    unfolding count_in length_in idle is_expected expected_number
    block_step offset count l true e =
        let none_left = eqb-true count 0 e in
        before_other i (within_block h offset count l) (simp count_append (omega arith)) refl
    block_step offset count l false e =
        let some_left = eqb-false count 0 e in
        let ahead : Ahead (ps ++ (BlockPart offset count ∷ [])) offset count count c =
        record {
          counted = simp count_append (omega arith);
          some_left = omega arith;
          not_more = omega arith;
          fits = simp (length_in_append, e) (omega arith);
        } in
        before_code i (within_block h offset count l) ahead

    header_step_lem :
        (k : ℕ) (b : OpenBlock) (a : Header) → legal_header a ≡ true
        → After ps ms (header_step k (mode AnyHeader b (open_module true title line n x) s) a)
    unfolding header_step expect_records expect title_step library_step library_end_step idle is_expected expected_number legal_header legal_part
    header_step_lem k b (CodeBlock count offset) l =
        block_step
        offset
        count
        (and_intro (and_right (leb count 65535) _ l) (and_left (leb count 65535) (leb offset 65535) l))
        (eqb count 0)
        refl
    header_step_lem k b EndBlock l = before_other i h known refl
    header_step_lem k b TitleBlock l = tt
    header_step_lem k b (EntryBlock count) l = records_follow i h known EntryRecord refl (eqb count 0)
    header_step_lem k b (ExternalBlock count) l = records_follow i h known ExternalRecord refl (eqb count 0)
    header_step_lem k b LibraryStart l = tt
    header_step_lem k b LibraryEnd l = tt
    header_step_lem k b (DataBlock count) l = records_follow i h known DataRecord refl (eqb count 0)
    header_step_lem k b (InitBlock count) l = records_follow i h known InitRecord refl (eqb count 0)
    header_step_lem k b (ParameterBlock count) l = records_follow i h known ParameterRecord refl (eqb count 0)

    closing_step_lem :
        (w : Expected) (b : OpenBlock) (t : ℕ) → After ps ms (closing_step (mode w b (open_module true title line n x) s) t)
    unfolding closing_step leave_module
    closing_step_lem w b t =
        let done : ModuleSound (module_at line ps) = subst (PartsSound ps) known h.sound in
        passed ps ms (eqb t title) _ 7 0 (λ e. (done, complete i (module_at line ps) done))

    entry_step_lem :
        (w : Expected) (b : OpenBlock) (e : Entry) → legal_entry e ≡ true → After ps ms (entry_step (mode w b (open_module true title line n x) s) e)
    unfolding entry_step count_entry record_done count_in idle is_expected expected_number
    entry_step_lem w b e l =
        passed ps ms (ltb n 64) _ 8 0
        (λ t.
        records_follow i (within_entry h e l (ltb-true n 64 t)) (simp count_append (omega arith)) EntryRecord refl (leb b.remaining 1))

    external_step_lem :
        (w : Expected) (b : OpenBlock) (y : ℕ) → is_packed y ≡ true → After ps ms (external_step (mode w b (open_module true title line n x) s) y)
    unfolding external_step count_external record_done count_in idle is_expected expected_number
    external_step_lem w b y l =
        passed ps ms (ltb x 64) _ 8 0
        (λ t.
        records_follow i (within_external h y l (ltb-true x 64 t)) (simp count_append (omega arith)) ExternalRecord refl (leb b.remaining 1))

    -- after a parameter record: its sub-records, or the block's next record, or a header
    subs_follow :
        (w : Expected) (b : OpenBlock) (size : ℕ) (t : Bool)
        → Stands
        (cond
        t
        (record_done ParameterRecord (mode w b (open_module true title line n x) s))
        (expect_subs size (mode w b (open_module true title line n x) s)))
        ps
        ms
    unfolding record_done expect_subs idle is_expected expected_number
    subs_follow w b size true = records_follow i h known ParameterRecord refl (leb b.remaining 1)
    subs_follow w b size false = before_other i h known refl

    other_step :
        (k : ℕ) (w : Expected) (b : OpenBlock) → idle w ≡ true → {a : LineAnswer} → CanSay w a
        → After ps ms (step_of k (mode w b (open_module true title line n x) s) a)
    unfolding step_of record_done parameter_step sub_step idle is_expected expected_number
    other_step k w b l bad = tt
    other_step k w b l blank = before_other i h known l
    other_step k w b l (head {h = a} g) = header_step_lem k b a g
    other_step k w b l (opening g) = absurd (false≢true l)
    other_step k w b l (closing {t} g) = closing_step_lem w b t
    other_step k w b l (coded g) = absurd (false≢true l)
    other_step k w b l (entered {e} g) = entry_step_lem w b e g
    other_step k w b l (mentioned {x = y} g) = external_step_lem w b y g
    other_step k w b l data_read = records_follow i h known DataRecord refl (leb b.remaining 1)
    other_step k w b l init_read = records_follow i h known InitRecord refl (leb b.remaining 1)
    other_step k w b l (parameter {size} g) = subs_follow w b size (eqb size 0)
    other_step k w b l sub = subs_follow w b (b.subs - 1) (leb b.subs 1)

-- ---- every line

pub step_stands :
    (n : ℕ) {m : Mode} {ps : List Part} {ms : List Module} → Stands m ps ms → {a : LineAnswer} → CanSay m.expected a
    → After ps ms (step_of n m a)
step_stands n (at_rest i) t = rest_step n i t
step_stands n (before_title {b} {line} i) t = title_step_lem n b line i t
step_stands n (before_code {offset} {count} {remaining} {subs} {title} {line} i h g) t = code_step title line i h n offset count remaining subs g t
step_stands n (before_other {w} {b} {title} {line} i h known l) t = other_step title line i h known n w b l t

pub start_stands : Stands at_start [] []
unfolding at_start
start_stands = at_rest outside

-- from any mode where the reading can stand, any line leads to another, or stops the reading
pub line_stands :
    (n : ℕ) {m : Mode} {ps : List Part} {ms : List Module} → Stands m ps ms → (l : List ℕ) → After ps ms (step_at n m l)
line_stands n {m} i l = step_stands n i (line_can_say m.expected l)

-- ---- what a file holds is sound

module _ (go : Mode → List Part → List Module → List Item)
    (rest : (m : Mode) (ps : List Part) (ms : List Module) → Stands m ps ms → Every ItemSound (go m ps ms)) where
  module_done_lem :
      (t : Bool) (md : Module) (m : Mode) (ms : List Module) → ModuleSound md → Stands m [] (cond t (ms ++ (md ∷ [])) ms)
      → Every ItemSound (closed t md m ms go)
  unfolding closed
  module_done_lem true md m ms g i = rest m [] (ms ++ (md ∷ [])) i
  module_done_lem false md m ms g i = (g, rest m [] ms i)

  gather_sound : (a : Step) (ps : List Part) (ms : List Module) → After ps ms a → Every ItemSound (gather a ps ms go)
  unfolding gather
  gather_sound (Stop k c) ps ms i = tt
  gather_sound (Next m) ps ms i = rest m ps ms i
  gather_sound (Add m p) ps ms i = rest m (ps ++ (p ∷ [])) ms i
  gather_sound (CloseModule m line) ps ms i = module_done_lem m.section.inside (module_at line ps) m ms i.0 i.1
  gather_sound (CloseSection m line) ps ms i = (i.0, rest m [] [] i.1)

items_from_sound :
    (ls : List (List ℕ)) (n : ℕ) (m : Mode) (ps : List Part) (ms : List Module) → Stands m ps ms
    → Every ItemSound (items_from n m ps ms ls)
unfolding items_from
items_from_sound [] n m ps ms i = tt
items_from_sound (l ∷ ls) n m ps ms i =
    gather_sound
    (λ m' ps' ms'. items_from (n + 1) m' ps' ms' ls)
    (items_from_sound ls (n + 1))
    (step_at n m l)
    ps
    ms
    (line_stands n i l)

-- every module of every file has legal parts, at most 64 entries and 64 externals, as many code words as its CODE
-- headers count, all inside its length; and a section has at most 256 modules
pub items_sound : (file : List ℕ) → Every ItemSound (items_of file)
items_sound file = rw items_lines (items_from_sound (lines_of file) 1 at_start [] [] start_stands)

-- the legality of all parts as a test
unfoldable pub legal_module : Module → Bool
legal_module m = all legal_part m.parts

unfoldable pub legal_item : Item → Bool
legal_item (free m) = legal_module m
legal_item (section n ms) = all legal_module ms

module_legal : (m : Module) → ModuleSound m → legal_module m ≡ true
unfolding legal_module
module_legal m s = s.legal

item_legal : (i : Item) → ItemSound i → legal_item i ≡ true
unfolding legal_item
item_legal (free m) s = module_legal m s
item_legal (section n ms) s = every_all ModuleSound legal_module module_legal ms s.0

pub items_legal : (file : List ℕ) → all legal_item (items_of file) ≡ true
items_legal file = every_all ItemSound legal_item item_legal (items_of file) (items_sound file)

-- ---- a complete reading ends at rest

-- the mode after the lines, none where the reading has stopped
unfoldable pub after_step : Step → (Mode → Option Mode) → Option Mode
after_step (Stop k c) go = none
after_step (Next m) go = go m
after_step (Add m p) go = go m
after_step (CloseModule m line) go = go m
after_step (CloseSection m line) go = go m

unfoldable pub mode_after : ℕ → Mode → List (List ℕ) → Option Mode
mode_after n m [] = some m
mode_after n m (l ∷ ls) = after_step (step_at n m l) (λ m'. mode_after (n + 1) m' ls)

pub stopped : {k n c : ℕ} → Stopped k n c ≡ Complete → ⊥
stopped e = let z : ◌≡◌ {A = ℕ} 0 1 = cc in omega arith

-- no module and no section is open at the end: then nothing is left of the last one either
pub at_end_lem :
    (n : ℕ) {m : Mode} {ps : List Part} {ms : List Module} → Stands m ps ms → at_end n m ≡ Complete
    → (m ≡ at_start) × (ps ≡ []) × (ms ≡ [])
unfolding at_end at_start is_header
at_end_lem n (at_rest outside) e = (refl, refl, refl)
at_end_lem n (at_rest (inside r)) e = absurd (stopped e)
at_end_lem n (before_title i) e = absurd (stopped e)
at_end_lem n (before_code i h g) e = absurd (stopped e)
at_end_lem n (before_other {w} i h known l) e =
    absurd (stopped (subst (λ (t : Bool). cond t Complete (Stopped 7 n 0) ≡ Complete) (and-false (is_header w)) e))

step_rest :
    (n : ℕ) (go : Mode → Reading) (end : Mode → Option Mode)
    → ((m : Mode) (ps : List Part) (ms : List Module) → Stands m ps ms → go m ≡ Complete → end m ≡ some at_start)
    → (a : Step) (ps : List Part) (ms : List Module) → After ps ms a → on_step n a go ≡ Complete → after_step a end ≡ some at_start
unfolding on_step after_step
step_rest n go end f (Stop k c) ps ms i e = absurd (stopped e)
step_rest n go end f (Next m) ps ms i e = f m ps ms i e
step_rest n go end f (Add m p) ps ms i e = f m (ps ++ (p ∷ [])) ms i e
step_rest n go end f (CloseModule m line) ps ms i e = f m [] _ i.1 e
step_rest n go end f (CloseSection m line) ps ms i e = f m [] [] i.1 e

rest_from :
    (ls : List (List ℕ)) (n : ℕ) (m : Mode) (ps : List Part) (ms : List Module) → Stands m ps ms → read_from n m ls ≡ Complete
    → mode_after n m ls ≡ some at_start
unfolding read_from mode_after
rest_from [] n m ps ms i e = ap some (at_end_lem n i e).0
rest_from (l ∷ ls) n m ps ms i e =
    step_rest
    n
    (λ m'. read_from (n + 1) m' ls)
    (λ m'. mode_after (n + 1) m' ls)
    (rest_from ls (n + 1))
    (step_at n m l)
    ps
    ms
    (line_stands n i l)
    e

-- a complete reading ends where it began
pub complete_rest : (n : ℕ) (ls : List (List ℕ)) → read_from n at_start ls ≡ Complete → mode_after n at_start ls ≡ some at_start
complete_rest n ls e = rest_from ls n at_start [] [] start_stands e
