use Rattle.std.proofs.Common.{◌∙◌, rules, ◌+◌}
use Rattle.std.specs.Prelude.{◌==◌}
use Rattle.rules.specs.State.{refers_to}
use Rattle.state.proofs.HighestLaws.{refers_is, all_tags, highest_found}
use Rattle.state.proofs.words.highest.Goals as goal

pub returns : goal.returns
returns c =
    let cells = c.args.state.now in
    let long = c.requires.good.long in
    c.unwrap_or.ensures
    ∙ highest_found (refers_to c.args.symbol) (λ tag. tag == 2 + c.args.symbol) (refers_is c.args.symbol) cells long _ _ c.last_reference.ensures (search (rules, all_tags cells long))
