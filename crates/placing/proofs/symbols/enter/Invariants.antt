use mathlib.Core.Bool.{false}
use mathlib.Core.Path.{◌≡◌}
use Rattle.rules.specs.Text.{any}
use Rattle.rules.specs.Placing.{entries_in}
use Rattle.state.specs.Layout.{decode}
use Rattle.state.specs.Good.{Good}
use Rattle.order.specs.Order.{Ordered}
use Rattle.tables.specs.Iter.{parts_in}
use Rattle.placing.specs.Passes.{over_range}
use Rattle.placing.specs.Effects.{Entering}
use Rattle.placing.proofs.symbols.enter.Given as goal

abbrev pub invariant-loop-part : goal.invariant-loop-part
invariant-loop-part l =
    (goal.iterator-loop-part).can_next l.parts
    × (goal.iterator-loop-part).is_finite l.parts
    × Good l.state
    × Ordered l.state l.order
    × (any (over_range l.base) (entries_in (parts_in l.parts)) ≡ false)
    × Entering l.base (entries_in (parts_in l.fn.parts)) (decode l.initial.state) (entries_in (parts_in l.parts)) (decode l.state)
