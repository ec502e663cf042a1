use Rattle.std.proofs.Common.{◌+◌, ◌-◌, ◌≤◌, min}
use Rattle.rules.specs.Load.{Walk, searched}
use Rattle.rules.specs.Search.{count}
use Rattle.state.specs.Good.{Good}
use Rattle.order.specs.Order.{Ordered}
use Rattle.placing.specs.Walks.{Agrees}
use Rattle.search.specs.Libraries.{modules_of}
use Rattle.search.specs.Searching.{set_of, Seeking}
use Rattle.search.specs.Flags.{Candidates}
use Rattle.search.proofs.rounds.search.Given as goal

abbrev pub invariant-loop-took : goal.invariant-loop-took
invariant-loop-took l =
    (Good l.state × Ordered l.state l.order)
    × (l.rounds + min 1 l.took ≤ count (set_of l.taken) l.library.section.count + 1)
    × ((w : Walk)
    → Agrees w l.fn.refusal l.initial.state
    → Seeking (searched (modules_of l.library) w) (modules_of l.library) l.rounds l.took l.taken l.told l.state)
    × Candidates l.library l.told l.state l.candidates

abbrev pub decreases-loop-took : goal.decreases-loop-took
decreases-loop-took l = l.library.section.count - count (set_of l.taken) l.library.section.count + min 1 l.took
