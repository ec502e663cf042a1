-- `text::names::read_name` meets its contract: by whether the field is a name.
-- Assumes nothing.
use mathlib.Core.Path.{sym, ap, ◌∙◌}
use mathlib.Core.Option.{some}
use Rattle.text.proofs.NameLaws.{no_name, a_name}
use Rattle.text.proofs.names.read_name.Goals as goal

pub returns-then-not-is_name : goal.returns-then-not-is_name
returns-then-not-is_name c = no_name _ (sym c.is_name.ensures ∙ c.if-not-is_name.true)

pub returns : goal.returns
returns c =
    ap some c.pack_name.ensures
    ∙ a_name _ (sym c.is_name.ensures ∙ c.if-not-is_name.false)
