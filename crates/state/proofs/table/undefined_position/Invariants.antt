use Rattle.state.specs.Table.{undefined_position}
use Rattle.state.specs.Layout.{symbols_from, decode}
use lib.ListN.{get_or}
use mathlib.Core.Path.{◌≡◌}
use Prim.Native.Nat.{◌+◌}
use Rattle.state.proofs.table.undefined_position.Given as goal

abbrev pub invariant-loop-i : goal.invariant-loop-i
invariant-loop-i l =
    (l.n ≡ get_or l.state 0 0)
    × (l.i + undefined_position l.more (symbols_from l.state l.i) ≡ undefined_position l.k (decode l.state).symbols)
