use mathlib.Core.Path.{◌∙◌}
use Rattle.soundness.proofs.EachLaws.{zero_each, cut_each}
use Rattle.soundness.proofs.cells.zero_between.Goals as goal

pub returns : goal.returns
returns c =
    let a = c.args in
    c.all_zero.ensures
    ∙ cut_each a.state.now a.from a.to _ c.min.ensures
    ∙ zero_each a.state.now a.from a.to c.requires
