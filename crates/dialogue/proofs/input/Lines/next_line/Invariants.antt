use Rattle.std.proofs.Common.{◌≤◌}
use Rattle.dialogue.proofs.input.Lines.next_line.Given as goal

abbrev pub invariant-loop : goal.invariant-loop
invariant-loop g l = l.length ≤ 4096
