use Rattle.std.proofs.Common.{rules, tests}
use mathlib.Core.Bool.{◌&&◌}
use mathlib.Core.Path.{◌∙◌}
use lib.Dec.{eqb}
use Rattle.tables.specs.Heads.{is_entry}
use Rattle.tables.specs.Iter.{parts_left}
use Rattle.tables.proofs.PairLaws.{any_part}
use Rattle.placing.proofs.PassLaws.{named_pass}
use Rattle.placing.proofs.names.enters.Goals as goal

pub returns : goal.returns
returns c =
    any_part (λ p. is_entry p.head && eqb c.args.name p.body) c.args.parts c.any.new.self c.any.ensures.ran (λ x b q k. search (rules, tests))
    ∙ named_pass (parts_left c.args.parts) c.args.name
