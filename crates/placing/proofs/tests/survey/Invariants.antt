use Prim.Native.Nat.{◌+◌, ◌≤◌, max}
use mathlib.Core.Path.{◌≡◌}
use lib.ListN.{length}
use Rattle.rules.specs.Placing.{externals_in, length_in}
use Rattle.tables.specs.Iter.{parts_in}
use Rattle.placing.proofs.tests.survey.Given as goal

abbrev pub invariant-loop-part : goal.invariant-loop-part
invariant-loop-part l =
    (goal.iterator-loop-part).can_next l.part-iterator
    × (goal.iterator-loop-part).is_finite l.part-iterator
    × (l.length ≤ 131070)
    × (max l.length (length_in (parts_in l.part-iterator)) ≡ length_in (parts_in l.fn.parts))
    × (l.externals + length (externals_in (parts_in l.part-iterator)) ≡ length (externals_in (parts_in l.fn.parts)))
