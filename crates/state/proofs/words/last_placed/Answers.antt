use Rattle.std.specs.Prelude.{◌==◌, not}
use mathlib.Core.Path.{refl}
use Rattle.state.proofs.EightLaws.{last_below}
use Rattle.state.proofs.words.last_placed.Goals as goal

pub returns : goal.returns
returns c = last_below c.args.tags.now (λ tag. not (tag == 0)) refl _ c.unplaced_from.ensures _ c.last_tag.ensures
