use Rattle.runs.specs.Runs.{Numbers}
use Rattle.runs.proofs.fields.numbers_end.Given as goal

abbrev pub invariant-loop : goal.invariant-loop
invariant-loop l = Numbers l.file l.i l.end l.counter
