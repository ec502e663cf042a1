use Rattle.std.proofs.Common.{rules, tests}
use mathlib.Core.Path.{◌∙◌}
use Rattle.tables.specs.Iter.{parts_left}
use Rattle.tables.proofs.PairLaws.{any_part}
use Rattle.placing.specs.Passes.{is_over}
use Rattle.placing.proofs.PassLaws.{over_pass}
use Rattle.placing.proofs.tests.out_of_range.Goals as goal

pub returns : goal.returns
returns c =
    any_part (λ p. is_over c.args.base p.head) c.args.parts c.any.new.self c.any.ensures.ran (λ x b q k. search (rules, tests))
    ∙ over_pass (parts_left c.args.parts) c.args.base
