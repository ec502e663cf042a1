use Prim.Native.Nat.{◌+◌}
use mathlib.Core.Path.{refl}
use Rattle.tables.specs.Tables.{start_in, end_in, cells_in}
use Rattle.index.proofs.FillLaws.{Adding}
use Rattle.index.proofs.add_module.Given as goal

abbrev pub invariant-loop-q : goal.invariant-loop-q
invariant-loop-q l =
    let t = l.tables in
    let s = l.fn.section in
    Adding t.parts.now t.rows.now s.first s.count l.m {cells = cells_in t.parts.now (start_in t.rows.now (s.first + l.m)) (end_in t.rows.now (s.first + l.m))} refl l.q l.index
