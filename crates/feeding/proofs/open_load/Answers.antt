use Rattle.feeding.proofs.FeedingLaws.{opens}
use Rattle.feeding.proofs.open_load.Goals as goal

pub returns : goal.returns
returns c = rw c.ok_or.ensures.value (opens c.in_ok-check.ensures _ c.bytes_fed.ensures)
