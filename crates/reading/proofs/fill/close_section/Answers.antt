use Rattle.reading.proofs.FillLaws.{fills_section}
use Rattle.reading.proofs.fill.close_section.Goals as goal

pub returns : goal.returns
returns c = fills_section c.put.ensures _ c.row_head.ensures c.row_body-body.ensures
