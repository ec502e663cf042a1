-- `text::lines::next_line` meets its contract: the law on a line that is put together so.
-- Assumes nothing.
use Rattle.std.proofs.Common.{rules}
use Rattle.text.proofs.LineLaws.{line_is}
use Rattle.text.proofs.lines.next_line.Goals as goal

pub returns : goal.returns
returns c =
    line_is c.requires c.legal_end-illegal.ensures c.find_byte-lf.ensures c.line_stop-stop.ensures
    (search rules) (search rules)
