-- `advising::early_fault` meets its contract: the old lines first, then those behind them.
-- Assumes nothing.
use native.Mathlib.Omega.{arith}
use lib.Seq.{length-take-le}
use Rattle.advising.proofs.PartLaws.{next_line_lem, told_by_map, known, new}
use Rattle.advising.proofs.early_fault.Goals as goal

pub returns-in_default : goal.returns-in_default
returns-in_default c = known c.requires.0 c.lines_end-done.ensures c.at_start.ensures c.read_on.ensures c.in_default.is

pub read_on-requires-2 : goal.read_on-requires-2
read_on-requires-2 c =
    let f = c.args.file.now in
    let done = c.lines_end-done in
    let long = length-take-le c.args.end f (omega arith) in
    let few = next_line_lem c.read_on.ensures c.in-Ok.is in
    (omega (arith, long, done.ensures.most), omega (arith, few, length-take-le done.result f (omega (arith, done.ensures.most))), omega (arith, long))

pub returns : goal.returns
returns c =
    new c.requires.0 c.lines_end-done.ensures c.at_start.ensures c.read_on.ensures c.in-Ok.is c.read_on-2.ensures
    (told_by_map _ _ _ c.map.ensures.cases)
