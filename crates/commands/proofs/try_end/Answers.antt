use Rattle.std.proofs.Common.{rules}
use Rattle.commands.proofs.CommandLaws.{end_written}
use Rattle.commands.proofs.try_end.Goals as goal

pub returns : goal.returns
returns c =
    end_written _ c.in_ok-check.ensures (search rules) _ c.image_length-n.ensures c.if-out-n.false c.write_image.ensures c.set_mark.ensures
