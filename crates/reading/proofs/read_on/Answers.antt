use Rattle.reading.proofs.LoopLaws.{begins_on}
use Rattle.reading.proofs.read_on.Goals as goal

pub read_lines-read-requires : goal.read_lines-read-requires
read_lines-read-requires c =
    let h = c.requires in
    begins_on h.0 h.1 h.2
