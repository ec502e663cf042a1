use Rattle.std.proofs.Common.{arith}
use Rattle.std.proofs.lemmas.Grind.{common_steps}
use Rattle.soundness.specs.Checks.{value_sound}
use Rattle.soundness.proofs.cells.value_sound.Goals as goal

pub returns-then-v-ge-DEFINED : goal.returns-then-v-ge-DEFINED
unfolding value_sound
returns-then-v-ge-DEFINED c = grind (arith, common_steps)
