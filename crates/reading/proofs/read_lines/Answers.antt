-- `reading::read_lines` meets its contract: each way that a line can take is one law of LoopLaws.
-- Assumes nothing.
use native.Mathlib.Omega.{arith}
use mathlib.Core.Path.{◌≡◌, refl, sym, ◌∙◌}
use Rattle.rules.specs.Reading.{record_done}
use Rattle.rules.specs.declared.line.Expected.TheVariants.{CodeRecord}
use Rattle.rules.specs.declared.reading.Mode.{Mode}
use Rattle.rules.specs.declared.reading.Step.{Step}
use Rattle.rules.specs.declared.reading.Step.TheVariants.{Add}
use Rattle.runs.proofs.ModeLaws.{room_most}
use Rattle.reading.proofs.LoopLaws.{Turn, start, said_turn, word_turn, empty_turn, faulty, skipped, run_on, part_room_is, added, module_room, module_closed, section_room, section_closed, whole}
use Rattle.reading.proofs.read_lines.Goals as goal
use Rattle.reading.proofs.read_lines.Goals.{After-step_of-step, After-word_part}

-- the line is a code word in its usual form
worded : (c : After-word_part) {k : Mode} → k ≡ record_done CodeRecord c.renewed-here.result
    → Turn c.args.file.now c.args.from c.args.keep c.args.parts.now c.args.rows.now
    c.loop-at.mode c.loop-at.line c.loop-at.at c.in-Some.word.next (Add k c.word_part.result)
worded c e =
    word_turn _ _ _ _ _ _ _ _ c.renewed-here.ensures c.in-Some.ensures
    c.plain.ensures e c.word_part.ensures

-- the line's step is s
stepped : (c : After-step_of-step) {s : Step} → c.step_of-step.result ≡ s
    → Turn c.args.file.now c.args.from c.args.keep c.args.parts.now c.args.rows.now
    c.loop-at.mode c.loop-at.line c.loop-at.at c.said_at-said.result.next s
stepped c e = said_turn _ _ _ _ _ _ _ _ c.renewed-here.ensures c.said_at-said.ensures (sym e ∙ c.step_of-step.ensures)

pub loop-at-init : goal.loop-at-init
loop-at-init c = start _ _ _ _ _ c.requires c.nothing-filled.ensures

pub overflow_add-line : goal.overflow_add-line
overflow_add-line c = omega (arith, c.loop-at.invariant.numbered, c.loop-at.invariant.short)

pub loop-at-preserved-then-file-at-eq-LF : goal.loop-at-preserved-then-file-at-eq-LF
loop-at-preserved-then-file-at-eq-LF c = skipped _ _ _ _ _ c.loop-at.invariant (empty_turn _ _ _ _ _ _ _ _ c.loop-at-test.true c.if-file-at-eq-LF.true)

pub overflow_cast-run : goal.overflow_cast-run
overflow_cast-run c = omega (arith, c.run_from-run.ensures.reads.few, room_most c.renewed-here.result)

pub records_done-mode-requires : goal.records_done-mode-requires
records_done-mode-requires c = omega (arith, c.run_from-run.ensures.reads.few, c.if-run-gt0.true)

pub overflow_cast-line : goal.overflow_cast-line
overflow_cast-line c = omega (arith, c.run_from-run.ensures.reads.few, room_most c.renewed-here.result)

pub overflow_add-line-then-run-gt0 : goal.overflow_add-line-then-run-gt0
overflow_add-line-then-run-gt0 c = omega (arith, c.loop-at.invariant.numbered, c.loop-at.invariant.short, c.run_from-run.ensures.reads.moves, c.run_from-run.ensures.reads.ends)

pub loop-at-smaller-then-run-gt0 : goal.loop-at-smaller-then-run-gt0
loop-at-smaller-then-run-gt0 c = omega (arith, c.run_from-run.ensures.reads.moves, c.run_from-run.ensures.reads.ends, c.if-run-gt0.true)

pub loop-at-preserved-then-run-gt0 : goal.loop-at-preserved-then-run-gt0
loop-at-preserved-then-run-gt0 c = run_on _ _ _ _ _ c.loop-at.invariant c.renewed-here.ensures c.run_from-run.ensures c.if-run-gt0.true c.records_done-mode.ensures

pub keep_part-filled-requires : goal.keep_part-filled-requires
keep_part-filled-requires c = part_room_is _ _ _ _ _ c.loop-at.invariant (worded (goal.at.keep_part-filled-requires c).After-word_part refl)

pub loop-at-smaller-in-Some : goal.loop-at-smaller-in-Some
loop-at-smaller-in-Some c =
    let w = c.in-Some.ensures in
    omega (arith, w.line.moves, w.line.ends, w.follows)

pub loop-at-preserved-in-Some : goal.loop-at-preserved-in-Some
loop-at-preserved-in-Some c = added _ _ _ _ _ c.loop-at.invariant (worded (goal.at.loop-at-preserved-in-Some c).After-word_part c.record_done-mode.ensures) c.keep_part-filled.ensures c.keep_part-filled.auto.parts

pub shape_of-parts-in-Stop : goal.shape_of-parts-in-Stop
shape_of-parts-in-Stop c = c.loop-at.invariant.part_length

pub shape_of-rows-in-Stop : goal.shape_of-rows-in-Stop
shape_of-rows-in-Stop c = c.loop-at.invariant.row_length

pub returns-in-Stop : goal.returns-in-Stop
returns-in-Stop c = faulty _ _ _ _ _ c.loop-at.invariant (stepped (goal.at.returns-in-Stop c).After-step_of-step c.in-Stop.is) refl

pub loop-at-preserved-in-Next : goal.loop-at-preserved-in-Next
loop-at-preserved-in-Next c = skipped _ _ _ _ _ c.loop-at.invariant (stepped (goal.at.loop-at-preserved-in-Next c).After-step_of-step c.in-Next.is)

pub keep_part-filled-requires-in-Add : goal.keep_part-filled-requires-in-Add
keep_part-filled-requires-in-Add c = part_room_is _ _ _ _ _ c.loop-at.invariant (stepped (goal.at.keep_part-filled-requires-in-Add c).After-step_of-step c.in-Add.is)

pub loop-at-preserved-in-Add : goal.loop-at-preserved-in-Add
loop-at-preserved-in-Add c = added _ _ _ _ _ c.loop-at.invariant (stepped (goal.at.loop-at-preserved-in-Add c).After-step_of-step c.in-Add.is) c.keep_part-filled-in-Add.ensures c.keep_part-filled-in-Add.auto.parts

pub keep_module-filled-requires : goal.keep_module-filled-requires
keep_module-filled-requires c = module_room _ _ _ _ _ c.loop-at.invariant (stepped (goal.at.keep_module-filled-requires c).After-step_of-step c.in-CloseModule.is)

pub loop-at-preserved-in-CloseModule : goal.loop-at-preserved-in-CloseModule
loop-at-preserved-in-CloseModule c = module_closed _ _ _ _ _ c.loop-at.invariant c.keep_module-filled.auto.rows (stepped (goal.at.loop-at-preserved-in-CloseModule c).After-step_of-step c.in-CloseModule.is) c.keep_module-filled.ensures

pub keep_section-filled-requires : goal.keep_section-filled-requires
keep_section-filled-requires c = section_room _ _ _ _ _ c.loop-at.invariant (stepped (goal.at.keep_section-filled-requires c).After-step_of-step c.in-CloseSection.is)

pub loop-at-preserved : goal.loop-at-preserved
loop-at-preserved c = section_closed _ _ _ _ _ c.loop-at.invariant c.keep_section-filled.auto.rows (stepped (goal.at.loop-at-preserved c).After-step_of-step c.in-CloseSection.is) c.keep_section-filled.ensures

pub shape_of-parts : goal.shape_of-parts
shape_of-parts c = c.loop-at.invariant.part_length

pub shape_of-rows : goal.shape_of-rows
shape_of-rows c = c.loop-at.invariant.row_length

pub returns : goal.returns
returns c = rw c.renewed-mode.ensures (whole _ _ _ _ _ c.loop-at.invariant c.loop-at-test.false)
