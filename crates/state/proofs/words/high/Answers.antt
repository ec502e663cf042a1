use Rattle.std.proofs.Common.{◌∙◌, rules}
use Rattle.std.specs.Prelude.{◌==◌, not}
use Rattle.rules.specs.State.{is_placed}
use Rattle.state.proofs.WordLaws.{placed_is}
use Rattle.state.proofs.HighestLaws.{all_tags, highest_found}
use Rattle.state.proofs.words.high.Goals as goal

pub returns : goal.returns
returns c =
    let cells = c.args.state.now in
    let long = c.requires.long in
    c.unwrap_or.ensures
    ∙ highest_found is_placed (λ tag. not (tag == 0)) placed_is cells long _ _ c.last_placed.ensures (search (rules, all_tags cells long))
