use native.Mathlib.Omega.{arith}
use mathlib.Core.Path.{◌∙◌}
use Rattle.soundness.proofs.EachLaws.{symbols_each}
use Rattle.soundness.proofs.cells.symbols_sound.Goals as goal

pub returns : goal.returns
returns c = c.each_symbol_sound.ensures ∙ symbols_each c.args.state.now c.args.n (omega arith)
