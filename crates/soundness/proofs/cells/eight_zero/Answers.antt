use Rattle.std.specs.Prelude.{◌==◌}
use mathlib.Core.Path.{ap, ◌∙◌}
use Rattle.state.proofs.UnionLaws.{union_is}
use Rattle.soundness.proofs.cells.eight_zero.Goals as goal

pub returns : goal.returns
returns c = ap (λ n. n == 0) c.union_of.ensures ∙ union_is c.args.cells.now
