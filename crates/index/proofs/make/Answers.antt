use native.Mathlib.Omega.{arith}
use mathlib.Core.Path.{◌≡◌}
use Rattle.index.proofs.FillLaws.{filled_start, tested_once}
use Rattle.index.proofs.make.Goals as goal

pub loop-m-init : goal.loop-m-init
loop-m-init c =
    let t = c.args.tables in
    let s = c.args.section in
    filled_start t.parts.now t.rows.now s.first s.count c.clear.ensures

pub returns-clause-tested : goal.returns-clause-tested
returns-clause-tested c =
    let t = c.args.tables in
    let s = c.args.section in
    let all : c.loop-m.m ≡ s.count = omega (arith, c.loop-m-test.false, c.loop-m.auto.m-end) in
    tested_once t.parts.now t.rows.now s.first s.count all c.loop-m.invariant
