use Prim.Native.Nat.{◌*◌, ◌≤◌}
use mathlib.Core.Path.{◌≡◌}
use Rattle.feed.specs.Held.{unpacked}
use Rattle.feed.proofs.bytes.unpack.Given as goal

abbrev pub invariant-loop-i : goal.invariant-loop-i
invariant-loop-i l = (l.i ≤ l.n) × (l.file ≡ unpacked l.feed (8 * l.i))
