use Rattle.state.specs.Layout.{decode}
use Rattle.placing.proofs.PassLaws.{repeats_turn, repeats_end}
use Rattle.placing.proofs.names.duplicates.Goals as goal

pub returns-then-is_repeated : goal.returns-then-is_repeated
returns-then-is_repeated c =
    repeats_turn c.in-Some.ensures.steps (decode c.args.state.now).symbols c.loop-part.invariant.2 c.is_repeated.ensures c.if-is_repeated.true

pub loop-part-preserved : goal.loop-part-preserved
loop-part-preserved c =
    (tt, tt, repeats_turn c.in-Some.ensures.steps (decode c.args.state.now).symbols c.loop-part.invariant.2 c.is_repeated.ensures c.if-is_repeated.false)

pub returns : goal.returns
returns c = repeats_end c.in_default.ensures.steps.0 (decode c.args.state.now).symbols c.loop-part.invariant.2
