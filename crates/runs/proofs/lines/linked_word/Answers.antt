-- `runs::lines::linked_word` meets its contract: each field follows the one before it.
use Rattle.std.proofs.lemmas.Option.{IfSome_then}
use Rattle.runs.proofs.LineReadLaws.{linked_read}
use Rattle.runs.proofs.lines.linked_word.Goals as goal

pub returns : goal.returns
returns c =
    IfSome_then _ c.line_end.ensures
    (λ _ d.
    linked_read d c.requires (c.has_byte.ensures c.if-not-has_byte.false) c.in_ok-quarters.ensures c.in_ok-zeroed.ensures c.in_ok-typed.ensures
    c.in_ok-stop.ensures)
