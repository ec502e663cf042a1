use Prim.Native.Nat.{◌≤◌}
use mathlib.Core.List.{◌++◌}
use mathlib.Core.Path.{◌≡◌}
use lib.ListN.{length, get_or, take}
use Rattle.feed.specs.Layout.{cells_with, bytes_in}
use Rattle.feed.proofs.bytes.put_bytes.Given as goal

abbrev pub invariant-loop-i : goal.invariant-loop-i
invariant-loop-i l = (l.i ≤ length l.piece) × (l.feed ≡ cells_with (get_or l.initial.feed 0 0) (bytes_in l.initial.feed l.n ++ take l.i l.piece))
