use Rattle.std.proofs.Common.{arith}
use Rattle.walking.proofs.WalkingLaws.{row_sound, rest_sound, all_sound, stands_start, stands_next, stands_end}
use Rattle.walking.proofs.walk.Goals as goal

pub loop-row-init : goal.loop-row-init
loop-row-init c =
    let t = c.args.tables in
    ((c.requires.good, c.make.ensures), omega arith, all_sound t.parts.now t.rows.now c.args.n c.requires.every, λ q g. stands_start t.parts.now t.rows.now c.args.n q _ g)

pub walk_row-far-requires-clause-row_sound : goal.walk_row-far-requires-clause-row_sound
walk_row-far-requires-clause-row_sound c =
    let t = c.args.tables in
    row_sound t.parts.now t.rows.now c.loop-row.row c.args.n c.loop-row-test.true c.loop-row.invariant.2

pub loop-row-preserved : goal.loop-row-preserved
loop-row-preserved c =
    let t = c.args.tables in
    let l = c.loop-row in
    let b = c.loop-row-test.true in
    let w = c.walk_row-far.ensures in (
      (w.advances.good, w.ordered),
      omega (arith, w.advances.most, l.invariant.1),
      rest_sound t.parts.now t.rows.now l.row c.args.n b l.invariant.2,
      λ p g. stands_next t.parts.now t.rows.now l.row c.args.n b p _ l.far _ _ c.walk_row-far.result (l.invariant.3 p g) w.advances,
    )

pub returns : goal.returns
returns c =
    let t = c.args.tables in
    let l = c.loop-row in
    record {
      good = l.invariant.0.0;
      most = omega (arith, c.requires.n_le_most_rows.0, l.invariant.1);
      does = λ q g. stands_end t.parts.now t.rows.now c.args.n l.row q _ l.far _ c.loop-row-test.false (l.invariant.3 q g);
    }
