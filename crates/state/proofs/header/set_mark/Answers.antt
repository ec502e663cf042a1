use Rattle.state.proofs.HeaderLaws.{mark_set}
use Rattle.state.proofs.header.set_mark.Goals as goal

pub returns : goal.returns
returns c = mark_set c.requires _
