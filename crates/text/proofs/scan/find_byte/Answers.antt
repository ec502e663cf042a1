-- `text::scan::find_byte` meets its contract: the bytes in front are others.
-- Assumes nothing.
use Rattle.std.proofs.Common.{rules}
use Rattle.text.specs.Scan.{is_not}
use Rattle.text.proofs.ScanLaws.{past_is}
use Rattle.text.proofs.scan.find_byte.Goals as goal

pub returns : goal.returns
returns c =
    past_is (is_not c.args.byte) _ _ _ c.past.ensures.within
    (λ k g h. let e = c.past.ensures.before k g h in search rules)
    (λ h. let e = c.past.ensures.stops h in search rules)
