-- `runs::lines::line_stop` meets its contract: an LF, or a CR and an LF.
use Rattle.runs.proofs.LineReadLaws.{stops_LF, stops_CRLF}
use Rattle.runs.proofs.lines.line_stop.Goals as goal

pub returns-then-has_byte : goal.returns-then-has_byte
returns-then-has_byte c = stops_LF c.requires c.if-stop-at-gt-LONGEST_LINE.false (c.has_byte.ensures c.if-has_byte.true)

pub returns-then-has_byte-3 : goal.returns-then-has_byte-3
returns-then-has_byte-3 c =
    stops_CRLF c.requires c.if-stop-at-gt-LONGEST_LINE.false (c.has_byte-2.ensures c.if-has_byte-2.true) (c.has_byte-then-has_byte-2.ensures c.if-has_byte-3.true)
