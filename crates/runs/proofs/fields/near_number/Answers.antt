-- `runs::fields::near_number` meets its contract: a number behind one space.
use borrow.Author.Rules.{rules}
use Rattle.std.proofs.lemmas.Option.{IfSome_then}
use Rattle.runs.proofs.SpelledLaws.{one_space, number_spaced}
use Rattle.runs.proofs.fields.near_number.Goals as goal

pub returns-clause-field : goal.returns-clause-field
returns-clause-field c =
    IfSome_then _ c.number_at.ensures.field (λ _ n. number_spaced (one_space (record { inside = search rules; is = c.if-file-i-ne-SPACE.false })) n)
