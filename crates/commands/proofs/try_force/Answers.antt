use Rattle.commands.proofs.CommandLaws.{force_joined}
use Rattle.commands.proofs.try_force.Goals as goal

pub returns : goal.returns
returns c = force_joined _ _ c.in_ok-check.ensures c.in_ok-shut_by.ensures c.in-Some.ensures _ c.mention.ensures
