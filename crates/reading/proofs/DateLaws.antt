-- The lines of the headers that the reading remembers: none is behind the last line.
use Prim.Native.Nat.{ℕ, ◌-◌, ◌≤◌}
use native.Mathlib.Omega.{arith}
use mathlib.Core.Bool.{Bool, true, false, cond, not, ◌&&◌, ◌||◌}
use mathlib.Core.List.{List}
use mathlib.Core.Path.{◌≡◌, refl}
use lib.Dec.{eqb, leb, ltb}
use Rattle.rules.specs.Line.{line_answer}
use Rattle.rules.specs.Reading.{at_start, expect, expect_records, record_done, expect_subs, title_header, enter_module, leave_module, enter_section, leave_section, count_entry, count_external, title_step, library_step, library_end_step, header_step, closing_step, entry_step, external_step, parameter_step, sub_step, step_of, step_at}
use Rattle.rules.specs.declared.line.Header.{Header}
use Rattle.rules.specs.declared.line.Header.TheVariants.{CodeBlock, EndBlock, TitleBlock, EntryBlock, ExternalBlock, LibraryStart, LibraryEnd, DataBlock, InitBlock, ParameterBlock}
use Rattle.rules.specs.declared.line.LineAnswer.{LineAnswer}
use Rattle.rules.specs.declared.line.LineAnswer.TheVariants.{Bad, Blank, Head, Opening, Closing, Code, Entered, Mentioned, Ignored, Parameter, Sub}
use Rattle.rules.specs.declared.line.Expected.{Expected}
use Rattle.rules.specs.declared.line.Expected.TheVariants.{EntryRecord, ExternalRecord, DataRecord, InitRecord, ParameterRecord}
use Rattle.rules.specs.declared.reading.Mode.{Mode}
use Rattle.rules.specs.declared.reading.Step.{Step}
use Rattle.rules.specs.declared.reading.Step.TheVariants.{Stop, Next, Add, CloseModule, CloseSection}

-- no header of what is open stands behind the line last
pub record Dated (last : ℕ) (m : Mode) : Type 0 where
  pub object : m.object.line ≤ last
  pub section : m.section.line ≤ last

abbrev pub DatedStep : ℕ → Step → Type 0
DatedStep last (Stop k c) = Unit {0}
DatedStep last (Next m) = Dated last m
DatedStep last (Add m p) = Dated last m
DatedStep last (CloseModule m line) = (line ≤ last) × Dated last m
DatedStep last (CloseSection m line) = (line ≤ last) × Dated last m

pub start_dated : (last : ℕ) → Dated last at_start
unfolding at_start
start_dated last = record { object = omega arith; section = omega arith }

module _ (last : ℕ) where
  either : (t : Bool) (x y : Step) → DatedStep last x → DatedStep last y → DatedStep last (cond t x y)
  either true x y p q = p
  either false x y p q = q

  either_mode : (t : Bool) (x y : Mode) → Dated last x → Dated last y → Dated last (cond t x y)
  either_mode true x y p q = p
  either_mode false x y p q = q

  -- a step that stops unless a test is passed
  unless : (t : Bool) (x : Step) (k c : ℕ) → DatedStep last x → DatedStep last (cond t x (Stop k c))
  unless t x k c h = either t x (Stop k c) h tt

  module _ (n : ℕ) (in_time : n ≤ last) (m : Mode) (d : Dated last m) where
    -- the same module and section, under another mode
    same : (x : Mode) → x.object.line ≡ m.object.line → x.section.line ≡ m.section.line → Dated last x
    same x p q = record { object = omega (arith, d.object); section = omega (arith, d.section) }

    records_dated : (w : Expected) (count : ℕ) → DatedStep last (cond m.object.inside (Next (expect_records w 0 count m)) (Stop 7 0))
    unfolding expect_records
    records_dated w count = unless m.object.inside _ 7 0 (same _ refl refl)

    done_dated : (w : Expected) → Dated last (record_done w m)
    unfolding record_done
    done_dated w = same _ refl refl

    subs_dated : (size : ℕ) → Dated last (expect_subs size m)
    unfolding expect_subs
    subs_dated size = same _ refl refl

    header_dated : (h : Header) → DatedStep last (header_step n m h)
    unfolding header_step expect expect_records title_step title_header library_step enter_section library_end_step leave_section
    header_dated (CodeBlock count offset) = unless m.object.inside _ 7 0 (same _ refl refl)
    header_dated EndBlock = unless m.object.inside _ 7 0 (same _ refl refl)
    header_dated TitleBlock =
        either m.object.inside _ _ tt
        (either (m.section.inside && leb 256 m.section.modules) _ _ tt (record { object = in_time; section = d.section }))
    header_dated (EntryBlock count) = records_dated EntryRecord count
    header_dated (ExternalBlock count) = records_dated ExternalRecord count
    header_dated LibraryStart =
        either (m.object.inside || m.section.inside) _ _ tt (record { object = d.object; section = in_time })
    header_dated LibraryEnd =
        either (m.object.inside || not m.section.inside) _ _ tt
        (d.section, record { object = d.object; section = omega arith })
    header_dated (DataBlock count) = records_dated DataRecord count
    header_dated (InitBlock count) = records_dated InitRecord count
    header_dated (ParameterBlock count) = records_dated ParameterRecord count

    answer_dated : (a : LineAnswer) → DatedStep last (step_of n m a)
    unfolding step_of enter_module closing_step leave_module entry_step count_entry external_step count_external record_done parameter_step sub_step
    answer_dated (Bad f) = tt
    answer_dated Blank = d
    answer_dated (Head h) = header_dated h
    answer_dated (Opening t) = same _ refl refl
    answer_dated (Closing t) =
        unless (eqb t m.object.title) _ 7 0 (d.object, record { object = omega arith; section = d.section })
    answer_dated (Code w) = same _ refl refl
    answer_dated (Entered e) = unless (ltb m.object.entries 64) _ 8 0 (same _ refl refl)
    answer_dated (Mentioned x) = unless (ltb m.object.externals 64) _ 8 0 (same _ refl refl)
    answer_dated Ignored = same _ refl refl
    answer_dated (Parameter size) = either_mode (eqb size 0) _ _ (done_dated ParameterRecord) (subs_dated size)
    answer_dated Sub = either_mode (leb m.block.subs 1) _ _ (done_dated ParameterRecord) (subs_dated (m.block.subs - 1))

    pub line_dated : (l : List ℕ) → DatedStep last (step_at n m l)
    line_dated l = answer_dated (line_answer m.expected l)
