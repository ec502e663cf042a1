-- `advising::lines_end` meets its contract: the bytes behind the last LF are in no whole line.
-- Assumes nothing.
use Rattle.advising.proofs.EndLaws.{last_ends, none_ends}
use Rattle.advising.proofs.lines_end.Goals as goal

pub returns-in-Some : goal.returns-in-Some
returns-in-Some c = last_ends _ _ c.requires _ c.in-Some.ensures

pub returns-in-None : goal.returns-in-None
returns-in-None c = none_ends _ _ c.requires c.in-None.ensures
