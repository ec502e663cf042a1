use Rattle.std.proofs.Common.{rules}
use Rattle.state.proofs.FreshLaws.{cleared}
use Rattle.state.proofs.memory.reset.Goals as goal

pub returns : goal.returns
returns c = cleared _ _ c.requires (search rules)
