use Rattle.reading.proofs.FillLaws.{put_two}
use Rattle.reading.proofs.fill.put.Goals as goal

pub returns : goal.returns
returns c = put_two _ _ _ _ c.requires
