-- `reading::read_file` meets its contract: what all lines come to, at the file's end.
-- Assumes nothing.
use Rattle.std.proofs.Common.{rules}
use Rattle.reading.proofs.LoopLaws.{begins_file, file_read_lem, ended_by}
use Rattle.reading.proofs.read_file.Goals as goal

pub read_lines-read-requires : goal.read_lines-read-requires
read_lines-read-requires c = begins_file c.at_start.ensures c.requires

pub returns : goal.returns
returns c = file_read_lem c.at_start.ensures c.read_lines-read.ensures (ended_by _ _ _ c.and_then.ensures (λ k h. search rules))
