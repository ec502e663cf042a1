use Rattle.std.proofs.Common.{length}
use Rattle.text.proofs.NumberLaws.{Run}
use Rattle.text.proofs.numbers.digits.Given as goal

abbrev pub invariant-loop-i : goal.invariant-loop-i
invariant-loop-i l = Run l.at (length l.line) l.line l.i l.value
