-- `text::lines::legal_end` meets its contract: the bytes in front are legal.
-- Assumes nothing.
use Rattle.std.proofs.Common.{rules}
use Rattle.text.specs.LineEnds.{is_legal, legal_end}
use Rattle.text.proofs.ScanLaws.{past_is}
use Rattle.text.proofs.lines.legal_end.Goals as goal

pub returns : goal.returns
unfolding legal_end
returns c =
    past_is is_legal _ _ _ c.past.ensures.within
    (λ k g h. let e = c.past.ensures.before k g h in search rules)
    (λ h. let e = c.past.ensures.stops h in search rules)
