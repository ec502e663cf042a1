-- `text::numbers::read_number` meets its contract: the field is read whole, or there is a law for what breaks it.
-- Assumes nothing.
use mathlib.Core.Logic.{⊎_elim}
use mathlib.Core.Path.{◌∙◌}
use Rattle.text.proofs.NumberLaws.{number_short, number_broken, number_whole}
use Rattle.text.proofs.numbers.read_number.Goals as goal

pub returns-then-n-eq0 : goal.returns-then-n-eq0
returns-then-n-eq0 c =
    ⊎_elim (λ none. number_short _ none) (λ broken. number_broken c.args.field.now c.digits-run.ensures broken.1)
    c.then-n-eq0.either

pub returns : goal.returns
returns c =
    c.as_number.ensures ∙ number_whole c.args.field.now c.digits-run.ensures c.if-n-eq0.false c.if-run-n.false
