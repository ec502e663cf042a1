use Rattle.std.proofs.Common.{arith}
use Rattle.std.proofs.lemmas.Grind.{common_steps}
use Rattle.soundness.specs.Checks.{header_sound}
use Rattle.soundness.proofs.cells.header_sound.Goals as goal

pub returns-then-state-3 : goal.returns-then-state-3
unfolding header_sound
returns-then-state-3 c = grind (arith, common_steps)
