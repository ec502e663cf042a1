use Rattle.std.specs.Prelude.{◌==◌}
use mathlib.Core.Path.{sym, ◌∙◌}
use Rattle.state.proofs.EightLaws.{eights_pass, eights_fail}
use Rattle.soundness.proofs.cells.all_zero.Goals as goal

pub returns-then-eights_zero : goal.returns-then-eights_zero
returns-then-eights_zero c =
    let e = c.as_chunks.ensures in
    c.each_zero.ensures
    ∙ eights_pass (λ cell. cell == 0) c.args.cells.now _ e.front _ e.back (sym c.eights_zero.ensures ∙ c.if-eights_zero.true)

pub returns-else-eights_zero : goal.returns-else-eights_zero
returns-else-eights_zero c =
    let e = c.as_chunks.ensures in
    c.if-eights_zero.false
    ∙ eights_fail (λ cell. cell == 0) c.args.cells.now _ e.front _ e.back (sym c.eights_zero.ensures ∙ c.if-eights_zero.false)
