use Rattle.line.proofs.RecordLaws.{Quarters}
use Rattle.line.proofs.records.plain_line.Given as goal
use lib.ListN.{length}

abbrev pub invariant-loop : goal.invariant-loop
invariant-loop l = Quarters 0 (length l.line) l.line l.text l.i l.counter
