use Rattle.std.proofs.Common.{rules, tests}
use mathlib.Core.Path.{◌∙◌}
use Rattle.tables.specs.Iter.{parts_left}
use Rattle.tables.proofs.PairLaws.{any_part}
use Rattle.placing.specs.Passes.{is_bad}
use Rattle.placing.proofs.PassLaws.{bad_pass}
use Rattle.placing.proofs.tests.bad_arguments.Goals as goal

pub returns : goal.returns
returns c =
    any_part (λ p. is_bad c.args.externals p.head) c.args.parts c.any.new.self c.any.ensures.ran (λ x b q k. search (rules, tests))
    ∙ bad_pass (parts_left c.args.parts) c.args.externals
