-- `line::records::plain_line` meets its contract: four quarters and no more.
-- Assumes nothing.
use native.Mathlib.Omega.{arith}
use borrow.Author.Rules.{rules}
use Rattle.line.proofs.RecordLaws.{quarters_room, plain_start, plain_wrong, plain_more, plain_many, plain_end}
use Rattle.line.proofs.records.plain_line.Goals as goal

pub loop-init : goal.loop-init
loop-init c = plain_start _

pub number_at-requires : goal.number_at-requires
number_at-requires c = c.loop.invariant.fitting.to

pub returns-in_err-quarter : goal.returns-in_err-quarter
returns-in_err-quarter c =
    search (rules, plain_wrong c.loop.invariant c.loop-test.true c.in_err-quarter.ensures c.requires)

pub overflow_mul-text : goal.overflow_mul-text
overflow_mul-text c = omega (arith, quarters_room c.loop.invariant c.loop-test.true)

pub overflow_add-text : goal.overflow_add-text
overflow_add-text c = omega (arith, quarters_room c.loop.invariant c.loop-test.true)

pub loop-preserved : goal.loop-preserved
loop-preserved c = plain_more c.loop.invariant c.loop-test.true c.in_ok-quarter.ensures (search rules)

pub no_more-requires : goal.no_more-requires
no_more-requires c = c.loop.invariant.fitting.to

pub returns-in_err-no_more : goal.returns-in_err-no_more
returns-in_err-no_more c =
    search (rules, plain_many c.loop.invariant c.loop-test.false c.in_err-no_more.ensures c.requires)

pub returns : goal.returns
returns c = plain_end c.loop.invariant c.loop-test.false c.in_ok-no_more.ensures c.requires
