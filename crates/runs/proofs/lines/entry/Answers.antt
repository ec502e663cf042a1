-- `runs::lines::entry` meets its contract: each field follows the one before it.
use Rattle.std.proofs.lemmas.Option.{IfSome_then}
use Rattle.runs.proofs.LineReadLaws.{absolute_read, relocated_read}
use Rattle.runs.proofs.lines.entry.Goals as goal

pub returns-in-Some : goal.returns-in-Some
returns-in-Some c =
    IfSome_then _ c.line_end.ensures (λ _ d. absolute_read d c.spaces_end.ensures c.in_ok-named.ensures c.in_ok-end.ensures c.in-Some.ensures)

pub returns : goal.returns
returns c =
    IfSome_then _ c.line_end-2.ensures
    (λ _ d. relocated_read d c.spaces_end.ensures c.in_ok-named.ensures c.in_ok-end.ensures c.in_ok-relocated.ensures c.in_ok-stop.ensures)
