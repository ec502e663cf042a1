use Rattle.std.proofs.Common.{◌≤◌, length}
use Rattle.test_script.proofs.read_script.Given as goal

abbrev pub invariant-loop : goal.invariant-loop
invariant-loop g l = l.size ≤ length l.text
