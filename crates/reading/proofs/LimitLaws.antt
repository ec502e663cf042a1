-- How much a file can add to the tables: a line that adds something has a byte and an end of its own, so a part costs two bytes. A
-- header has six bytes and its end; a module's row costs the END header and the title behind it, and a section's row the LSB and the
-- LEB header: nine bytes at least.
use Prim.Native.Nat.{ℕ, suc, ◌+◌, ◌*◌, ◌≤◌}
use native.Mathlib.Omega.{arith}
use mathlib.Core.Bool.{Bool, true, false, cond, not, ◌&&◌, ◌||◌, or-true}
use mathlib.Core.List.{List, [], ◌∷◌}
use mathlib.Core.Path.{◌≡◌, refl, sym, ap, subst}
use lib.ListN.{length}
use lib.Dec.{eqb, leb, ltb}
use Rattle.rules.specs.Text.{LF, CR, lines_of, widen_line, fields_of, fields_from, legal_front}
use Rattle.rules.proofs.LineEndLaws.{starts_lf, add_to_lines, lines_nil, lines_cons}
use Rattle.rules.specs.Line.{line_answer, line_answer_over, test_bytes, say_fields_over, line_over}
use Rattle.rules.specs.Reading.{mode, at_start, expect, expect_records, record_done, expect_subs, title_header, enter_module, leave_module, enter_section, leave_section, count_entry, count_external, title_step, library_step, library_end_step, header_step, closing_step, entry_step, external_step, parameter_step, sub_step, step_of, step_at}
use Rattle.rules.specs.declared.line.Header.{Header}
use Rattle.rules.specs.declared.line.Header.TheVariants.{CodeBlock, EndBlock, TitleBlock, EntryBlock, ExternalBlock, LibraryStart, LibraryEnd, DataBlock, InitBlock, ParameterBlock}
use Rattle.rules.specs.declared.line.LineAnswer.{LineAnswer}
use Rattle.rules.specs.declared.line.Expected.{Expected}
use Rattle.rules.specs.declared.line.Expected.TheVariants.{AnyHeader, OpeningTitle, ClosingTitle, CodeRecord, EntryRecord, ExternalRecord, DataRecord, InitRecord, ParameterRecord, SubRecord}
use Rattle.rules.specs.declared.reading.OpenBlock.{OpenBlock}
use Rattle.rules.specs.declared.reading.OpenModule.{OpenModule}
use Rattle.rules.specs.declared.reading.OpenSection.{OpenSection}
use Rattle.rules.specs.declared.reading.Mode.{Mode}
use Rattle.rules.specs.declared.reading.Step.{Step}
use Rattle.rules.specs.declared.reading.Step.TheVariants.{Stop, Next, Add, CloseModule, CloseSection}
use Rattle.rules.proofs.LineLaws.{CanSay, bad, blank, head, opening, closing, coded, entered, mentioned, data_read, init_read, parameter, sub, line_can_say}
use Rattle.reading.specs.TwoTables.{Tables}
use Rattle.reading.proofs.MarkerLaws.{Long, header_long}

-- ---- the bytes of lines, with an end for each

unfoldable pub weight : List (List ℕ) → ℕ
weight [] = 0
weight (l ∷ ls) = length l + 1 + weight ls

widen_weight : (b : ℕ) (ls : List (List ℕ)) (k : ℕ) → weight ls ≤ k + 1 → weight (widen_line b ls) ≤ k + 2
unfolding weight widen_line
widen_weight b [] k h = omega arith
widen_weight b (l ∷ ls) k h = omega arith

add_weight : (b : ℕ) (lf : Bool) (ls : List (List ℕ)) (k : ℕ) → weight ls ≤ k + 1 → weight (add_to_lines b lf ls) ≤ k + 2
unfolding add_to_lines weight
add_weight b lf ls k h =
    elim (eqb b LF) as (λ t. weight (cond t ([] ∷ ls) (cond (eqb b CR && lf) ls (widen_line b ls))) ≤ k + 2) [
      | true ↦ omega arith
      | false ↦
          elim (eqb b CR && lf) as (λ t. weight (cond t ls (widen_line b ls)) ≤ k + 2)
          [ true ↦ omega arith | false ↦ widen_weight b ls k h ]
    ]

-- only the last line may lack its end
pub lines_weight : (text : List ℕ) → weight (lines_of text) ≤ length text + 1
unfolding weight
lines_weight [] = rw lines_nil (omega arith)
lines_weight (b ∷ rest) =
    omega (arith, ap weight (lines_cons b rest), add_weight b (starts_lf rest) (lines_of rest) (length rest) (lines_weight rest))

length_weight : (ls : List (List ℕ)) → length ls ≤ weight ls
unfolding weight
length_weight [] = omega arith
length_weight (l ∷ ls) = omega (arith, length_weight ls)

pub lines_count : (text : List ℕ) → length (lines_of text) ≤ length text + 1
lines_count text = omega (arith, lines_weight text, length_weight (lines_of text))

-- ---- what the reading has paid for in advance

-- an END header before its title, an LSB header before its LEB: seven bytes, six and the end of the line
unfoldable pub awaited : Expected → ℕ
awaited AnyHeader = 0
awaited OpeningTitle = 0
awaited ClosingTitle = 7
awaited CodeRecord = 0
awaited EntryRecord = 0
awaited ExternalRecord = 0
awaited DataRecord = 0
awaited InitRecord = 0
awaited ParameterRecord = 0
awaited SubRecord = 0

unfoldable pub pending : Mode → ℕ
pending m = awaited m.expected + cond m.section.inside 7 0

-- what is paid for after a step, with what it adds
unfoldable pub spent : Step → ℕ
spent (Stop k c) = 0
spent (Next m) = pending m
spent (Add m p) = 2 + pending m
spent (CloseModule m line) = 9 + pending m
spent (CloseSection m line) = 9 + pending m

-- what the tables hold
unfoldable pub used : Tables → ℕ
used t = 2 * length t.parts + 9 * length t.rows

choose_step : (t : Bool) (x y : Step) (k : ℕ) → spent x ≤ k → spent y ≤ k → spent (cond t x y) ≤ k
choose_step true x y k p q = p
choose_step false x y k p q = q

choose_mode : (t : Bool) (x y : Mode) (k : ℕ) → pending x ≤ k → pending y ≤ k → pending (cond t x y) ≤ k
choose_mode true x y k p q = p
choose_mode false x y k p q = q

-- records of a block follow, or a header
none_awaited : (t : Bool) (w : Expected) → awaited w ≡ 0 → awaited (cond t AnyHeader w) ≡ 0
unfolding awaited
none_awaited true w e = refl
none_awaited false w e = e

-- a step that stops unless a test is passed
unless : (t : Bool) (x : Step) (j c k : ℕ) → spent x ≤ k → spent (cond t x (Stop j c)) ≤ k
unfolding spent
unless t x j c k h = choose_step t x (Stop j c) k h (omega arith)

module _ (n : ℕ) (b : OpenBlock) (o : OpenModule) (s : OpenSection) where
  -- a header
  records_spend :
      (w : Expected) (count : ℕ) → awaited w ≡ 0
      → spent (cond o.inside (Next (expect_records w 0 count (mode AnyHeader b o s))) (Stop 7 0))
      ≤ pending (mode AnyHeader b o s) + 7
  unfolding spent pending expect_records
  records_spend w count e = unless o.inside _ 7 0 _ (omega (arith, none_awaited (eqb count 0) w e))

  library_end_spends : spent (library_end_step (mode AnyHeader b o s)) ≤ pending (mode AnyHeader b o s) + 7
  unfolding spent pending awaited library_end_step leave_section
  library_end_spends =
      let close = CloseSection (leave_section (mode AnyHeader b o s)) s.line in
      elim s.inside as (λ t. spent (cond (o.inside || not t) (Stop 7 0) close) ≤ 0 + cond t 7 0 + 7) [
        | true ↦ choose_step (o.inside || false) _ _ 14 (omega arith) (omega arith)
        | false ↦ rw (or-true o.inside) (omega arith)
      ]

  header_spends : (h : Header) → spent (header_step n (mode AnyHeader b o s) h) ≤ pending (mode AnyHeader b o s) + 7
  unfolding spent pending awaited header_step expect expect_records title_step title_header library_step enter_section
  header_spends (CodeBlock count offset) = unless o.inside _ 7 0 _ (omega (arith, none_awaited (eqb count 0) CodeRecord refl))
  header_spends EndBlock = unless o.inside _ 7 0 _ (omega arith)
  header_spends TitleBlock =
      choose_step o.inside _ _ _ (omega arith)
      (choose_step (s.inside && leb 256 s.modules) _ _ _ (omega arith) (omega arith))
  header_spends (EntryBlock count) = records_spend EntryRecord count refl
  header_spends (ExternalBlock count) = records_spend ExternalRecord count refl
  header_spends LibraryStart = choose_step (o.inside || s.inside) _ _ _ (omega arith) (omega arith)
  header_spends LibraryEnd = library_end_spends
  header_spends (DataBlock count) = records_spend DataRecord count refl
  header_spends (InitBlock count) = records_spend InitRecord count refl
  header_spends (ParameterBlock count) = records_spend ParameterRecord count refl

  -- a record of kind w is done
  done_spends : (v w : Expected) → awaited w ≡ 0 → pending (record_done w (mode v b o s)) ≤ pending (mode v b o s)
  unfolding pending record_done
  done_spends v w e = omega (arith, none_awaited (leb b.remaining 1) w e)

  -- what a line can say where w is expected
  answer_spends :
      (w : Expected) {a : LineAnswer} → CanSay w a → (k : ℕ) → 1 ≤ k → (w ≡ AnyHeader → Long k a)
      → spent (step_of n (mode w b o s) a) ≤ pending (mode w b o s) + (k + 1)
  unfolding spent pending awaited step_of enter_module closing_step leave_module entry_step count_entry external_step count_external record_done parameter_step sub_step expect_subs
  answer_spends w bad k l long = omega arith
  answer_spends w blank k l long = omega arith
  answer_spends w (head {h} _) k l long = omega (arith, long refl, header_spends h)
  answer_spends w (opening _) k l long = omega arith
  answer_spends w (closing {t} _) k l long = unless (eqb t o.title) _ 7 0 _ (omega arith)
  answer_spends w (coded _) k l long = omega (arith, done_spends CodeRecord CodeRecord refl)
  answer_spends w (entered _) k l long = unless (ltb o.entries 64) _ 8 0 _ (omega (arith, done_spends EntryRecord EntryRecord refl))
  answer_spends w (mentioned _) k l long =
      unless (ltb o.externals 64) _ 8 0 _ (omega (arith, done_spends ExternalRecord ExternalRecord refl))
  answer_spends w data_read k l long = omega (arith, done_spends DataRecord DataRecord refl)
  answer_spends w init_read k l long = omega (arith, done_spends InitRecord InitRecord refl)
  answer_spends w (parameter {size} _) k l long =
      choose_mode (eqb size 0) _ _ _ (omega (arith, done_spends ParameterRecord ParameterRecord refl)) (omega arith)
  answer_spends w sub k l long =
      choose_mode (leb b.subs 1) _ _ _ (omega (arith, done_spends SubRecord ParameterRecord refl)) (omega arith)

-- an empty line is skipped
pub empty_line : (n : ℕ) (m : Mode) → step_at n m [] ≡ Next m
unfolding step_of line_answer_over test_bytes line_over say_fields_over fields_of fields_from legal_front
empty_line n m = refl

pub line_spends : (n : ℕ) (m : Mode) (l : List ℕ) → spent (step_at n m l) ≤ pending m + (length l + 1)
unfolding spent
line_spends n m [] = rw empty_line (omega arith)
line_spends n m (x ∷ l) =
    answer_spends n m.block m.object m.section m.expected (line_can_say m.expected (x ∷ l)) (suc (length l)) (omega arith)
    (λ e. subst (λ (w : Expected). Long (suc (length l)) (line_answer w (x ∷ l))) (sym e) (header_long (x ∷ l)))

pub start_pending : pending at_start ≡ 0
unfolding pending awaited at_start
start_pending = refl
