use Rattle.index.specs.Index.{Filled}
use Rattle.index.proofs.make.Given as goal

abbrev pub invariant-loop-m : goal.invariant-loop-m
invariant-loop-m l = Filled l.tables.parts.now l.tables.rows.now l.section.first l.section.count l.m l.index
