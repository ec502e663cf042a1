use Rattle.image.proofs.OutputLaws.{puts_append}
use Rattle.rules.specs.Image.{two}
use Rattle.image.proofs.Output.put_end.Goals as goal

pub returns : goal.returns
unfolding two
returns c =
    rw (c.to_be_bytes.ensures, c.to_be_bytes-2.ensures) at (puts_append (puts_append c.put.ensures c.put-2.ensures) c.put-3.ensures)
