use Rattle.reading.proofs.FillLaws.{fills_part}
use Rattle.reading.proofs.fill.add_part.Goals as goal

pub returns : goal.returns
returns c = fills_part _ c.part_head.ensures c.part_body.ensures c.put.ensures
