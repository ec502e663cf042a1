use mathlib.Core.Path.{◌≡◌}
use Rattle.state.specs.Layout.{decode}
use Rattle.tables.specs.Heads.{names_in}
use Rattle.tables.specs.Iter.{parts_in}
use Rattle.placing.specs.Passes.{repeated}
use Rattle.placing.proofs.names.duplicates.Given as goal

abbrev pub invariant-loop-part : goal.invariant-loop-part
invariant-loop-part l =
    (goal.iterator-loop-part).can_next l.parts
    × (goal.iterator-loop-part).is_finite l.parts
    × (repeated (decode l.state).symbols (names_in (parts_in l.parts)) ≡ repeated (decode l.state).symbols (names_in (parts_in l.fn.parts)))
