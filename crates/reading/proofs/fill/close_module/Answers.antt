use Rattle.reading.proofs.FillLaws.{fills_member, fills_free}
use Rattle.reading.proofs.fill.close_module.Goals as goal

pub returns-then-member : goal.returns-then-member
returns-then-member c = fills_member c.put.ensures _ _ c.if-member.true c.row_head.ensures c.row_body-body.ensures

pub returns : goal.returns
returns c = fills_free c.put-2.ensures _ _ c.if-member.false c.row_head-2.ensures c.row_body-body.ensures
