use Rattle.image.proofs.OutputLaws.{puts_append, quarter_bytes}
use Rattle.rules.specs.Image.{two, word_record}
use Rattle.image.proofs.Output.put_word.Goals as goal

pub returns : goal.returns
unfolding two word_record
returns c =
    rw (c.to_be_bytes.ensures, c.to_be_bytes-2.ensures, quarter_bytes c.args.word) at (puts_append (puts_append c.put.ensures c.put-2.ensures) c.put-3.ensures)
