use native.Mathlib.Omega.{arith}
use mathlib.Core.Path.{ap}
use mir.Val.{bool_byte}
use Rattle.tables.specs.Heads.{is_external}
use Rattle.tables.specs.Iter.{pairs_of}
use Rattle.tables.proofs.HeadLaws.{block_end_most}
use Rattle.tables.proofs.PairLaws.{pairs_few}
use Rattle.placing.proofs.PassLaws.{lengths_turn, count_turn, count_few, lengths_end, count_end, bit_is}
use Rattle.placing.proofs.tests.survey.Goals as goal

pub overflow_add-externals : goal.overflow_add-externals
overflow_add-externals c =
    let cells = c.args.parts.cells.now in
    omega (arith, c.loop-part.invariant.4, count_turn c.in-Some.ensures.steps, c.from-externals.ensures, ap bool_byte c.is_external.ensures, bit_is (is_external c.in-Some.part.head), count_few (pairs_of cells), pairs_few cells, c.ranges.parts)

pub loop-part-preserved : goal.loop-part-preserved
loop-part-preserved c =
    let l = c.loop-part in (
      tt,
      tt,
      omega (arith, l.invariant.2, block_end_most c.in-Some.part.head, c.max-length.ensures, c.block_end.ensures),
      omega (arith, l.invariant.3, lengths_turn c.in-Some.ensures.steps, c.max-length.ensures, c.block_end.ensures),
      omega (arith, l.invariant.4, count_turn c.in-Some.ensures.steps, c.from-externals.ensures, ap bool_byte c.is_external.ensures, bit_is (is_external c.in-Some.part.head)),
    )

pub returns : goal.returns
returns c =
    let l = c.loop-part in
    record { length_is = omega (arith, lengths_end c.in-None.ensures.steps.0, l.invariant.3); few = l.invariant.2; externals_is = omega (arith, count_end c.in-None.ensures.steps.0, l.invariant.4) }
