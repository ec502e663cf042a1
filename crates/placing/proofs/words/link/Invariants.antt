use lib.ListN.{length}
use Rattle.rules.specs.Placing.{externals_in, code_in}
use Rattle.state.specs.Layout.{decode}
use Rattle.state.specs.Good.{Good}
use Rattle.tables.specs.Iter.{parts_in}
use Rattle.placing.specs.Effects.{Linking}
use Rattle.placing.proofs.words.link.Given as goal

abbrev pub invariant-loop-part : goal.invariant-loop-part
invariant-loop-part l =
    (goal.iterator-loop-part).can_next l.part-iterator
    × (goal.iterator-loop-part).is_finite l.part-iterator
    × Good l.state
    × Linking l.base (length (externals_in (parts_in l.fn.parts))) l.at (code_in (parts_in l.fn.parts)) (decode l.initial.state) (code_in (parts_in l.part-iterator)) (decode l.state)
