use Rattle.state.proofs.SymbolLaws.{position_of_first, position_of_later, position_past_defined, position_of_none}
use Rattle.state.proofs.ListLaws.{cell_in}
use Rattle.state.proofs.LayoutLaws.{count_is}
use Rattle.state.specs.Layout.{decode}
use lib.ListN.{get_or}
use Prim.Native.Nat.{◌+◌}
use native.Mathlib.Omega.{arith}
use mathlib.Core.Path.{refl, sym, ◌∙◌}
use Rattle.state.proofs.table.undefined_position.Goals as goal
use Rattle.state.proofs.table.undefined_position.Goals.{then-value-eq0+else-more-eq0, else-value-eq0}

pub loop-i-init : goal.loop-i-init
unfolding decode
loop-i-init c = (refl, omega arith)

pub returns-then-more-eq0 : goal.returns-then-more-eq0
returns-then-more-eq0 c =
    let cell = cell_in c.args.state.now 260 (260 + get_or c.args.state.now 0 0) c.loop-i.i (omega arith) in
    omega (arith, count_is c.args.state.now, position_of_first c.args.state.now _ _ (omega arith) (sym cell ∙ c.if-value-eq0.true) c.if-more-eq0.true)

pub loop-i-preserved : goal.loop-i-preserved
loop-i-preserved c =
    let cell = cell_in c.args.state.now 260 (260 + get_or c.args.state.now 0 0) c.loop-i.i (omega arith) in
    elim c.if-value-eq0.branch [
      | then-value-eq0+else-more-eq0 w ↦ (refl, rw w.more-is (omega (arith, position_of_later c.args.state.now _ _ (omega arith) (sym cell ∙ w.if-value-eq0.true) w.if-more-eq0.false)))
      | else-value-eq0 w ↦ (refl, rw w.more-is (omega (arith, position_past_defined c.args.state.now _ c.loop-i.more (omega arith) (λ e. w.if-value-eq0.false (cell ∙ e)))))
    ]

pub returns : goal.returns
returns c = omega (arith, count_is c.args.state.now, position_of_none c.args.state.now c.loop-i.i c.loop-i.more (omega arith))
