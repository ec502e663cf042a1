use Rattle.feed.proofs.PackLaws.{power_is}
use Rattle.feed.proofs.memory.power.Goals as goal

pub returns : goal.returns
returns c = power_is _ c.requires
