use Rattle.std.proofs.Common.{◌-◌, ◌*◌, ◌≤◌}
use Rattle.rules.specs.Load.{Progress}
use Rattle.rules.proofs.TestLaws.{Every}
use Rattle.rules.proofs.ReadingLaws.{ItemSound}
use Rattle.tables.specs.Tables.{items_from_row, items_in}
use Rattle.state.specs.Good.{Good}
use Rattle.order.specs.Order.{Ordered}
use Rattle.walking.specs.Walking.{section_rounds, unwalked, Tracks, Stands}
use Rattle.walking.proofs.walk.Given as goal

abbrev pub invariant-loop-row : goal.invariant-loop-row
invariant-loop-row l =
    let parts = l.tables.parts.now in
    let rows = l.tables.rows.now in
    (Good l.state × Ordered l.state l.order)
    × (l.far.rounds ≤ section_rounds * l.row)
    × Every ItemSound (items_from_row parts rows l.row (l.n - l.row))
    × ((p : Progress) → Tracks p unwalked l.initial.state → Stands p (items_in parts rows l.n) (items_from_row parts rows l.row (l.n - l.row)) l.far l.state)
