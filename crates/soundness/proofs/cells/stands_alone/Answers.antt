use native.Mathlib.Omega.{arith}
use mathlib.Core.Path.{◌∙◌}
use Prim.Native.Nat.{◌+◌}
use Rattle.soundness.proofs.EachLaws.{unlike_each}
use Rattle.soundness.proofs.MetLaws.{alone_new, alone_met}
use Rattle.soundness.proofs.cells.stands_alone.Goals as goal

pub returns-then-met-h-eq0 : goal.returns-then-met-h-eq0
returns-then-met-h-eq0 c = alone_new c.args.state.now c.args.n c.args.i c.requires.i_lt_n.0 c.args.met.now c.requires.has_met c.if-met-h-eq0.true

pub returns : goal.returns
returns c =
    let a = c.args in
    alone_met a.state.now a.n a.i c.requires.i_lt_n.0 a.met.now c.requires.has_met c.unlike_from.result c.if-met-h-eq0.false
    (c.unlike_from.ensures ∙ unlike_each a.state.now _ (a.i + 1) a.n (omega arith))
