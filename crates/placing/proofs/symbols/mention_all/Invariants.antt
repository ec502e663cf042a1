use Rattle.rules.specs.Placing.{externals_in}
use Rattle.state.specs.Layout.{decode}
use Rattle.state.specs.Good.{Good}
use Rattle.order.specs.Order.{Ordered}
use Rattle.tables.specs.Iter.{parts_in}
use Rattle.placing.specs.Effects.{Mentioning}
use Rattle.placing.proofs.symbols.mention_all.Given as goal

abbrev pub invariant-loop-part : goal.invariant-loop-part
invariant-loop-part l =
    (goal.iterator-loop-part).can_next l.part-iterator
    × (goal.iterator-loop-part).is_finite l.part-iterator
    × Good l.state
    × Ordered l.state l.order
    × Mentioning (externals_in (parts_in l.fn.parts)) (decode l.initial.state) l.count l.at (externals_in (parts_in l.part-iterator)) (decode l.state)
