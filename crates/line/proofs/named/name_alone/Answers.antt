-- `line::named::name_alone` meets its contract: a name and no more.
-- Assumes nothing.
use borrow.Author.Rules.{rules}
use mathlib.Core.List.{[], ◌∷◌}
use Rattle.rules.specs.declared.line.Kind.TheVariants.{Name}
use Rattle.line.proofs.FitLaws.{line_start, line_more, line_wrong, line_many, line_end}
use Rattle.line.proofs.named.name_alone.Goals as goal

pub returns-in_err-name : goal.returns-in_err-name
returns-in_err-name c = search (rules, line_wrong (line_start (Name ∷ []) _) c.in_err-name.ensures)

pub returns-in_err-no_more : goal.returns-in_err-no_more
returns-in_err-no_more c =
    search (rules, line_many (line_more (line_start (Name ∷ []) _) c.in_ok-name.ensures) c.in_err-no_more.ensures)

pub returns : goal.returns
returns c = line_end (line_more (line_start (Name ∷ []) _) c.in_ok-name.ensures) c.in_ok-no_more.ensures
