-- `runs::read_records` meets its contract: one line more in each turn.
use borrow.Author.Rules.{rules}
use Rattle.runs.proofs.LineReadLaws.{read_more}
use Rattle.runs.proofs.read_records.Goals as goal

pub loop-run-preserved : goal.loop-run-preserved
loop-run-preserved c = read_more c.loop-run.invariant c.in-Some.ensures (search rules)
