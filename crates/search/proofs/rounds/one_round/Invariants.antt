use Rattle.std.proofs.Common.{◌≤◌}
use Rattle.rules.specs.Search.{round}
use Rattle.rules.specs.Load.{Walk, takes, place}
use Rattle.state.specs.Good.{Good}
use Rattle.order.specs.Order.{Ordered}
use Rattle.placing.specs.Walks.{Agrees}
use Rattle.search.specs.Libraries.{modules_of}
use Rattle.search.specs.Searching.{set_of, Swept}
use Rattle.search.specs.Flags.{Candidates}
use Rattle.search.proofs.SweepLaws.{from}
use Rattle.search.proofs.rounds.one_round.Given as goal

abbrev pub invariant-loop-i : goal.invariant-loop-i
invariant-loop-i l =
    (Good l.state × Ordered l.state l.order)
    × (l.round.took ≤ l.i)
    × ((w : Walk)
    → Agrees w l.fn.refusal l.initial.state
    → Swept
    (round takes place (modules_of l.library) (set_of l.initial.taken) w)
    l.i
    l.round.took
    (from l.library l.i)
    l.taken
    l.round.refusal
    l.state)
    × Candidates l.library l.round.refusal l.state l.candidates
