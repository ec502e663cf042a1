use Rattle.std.proofs.Common.{arith}
use Rattle.std.proofs.lemmas.Grind.{common_steps}
use Rattle.soundness.specs.Checks.{word_sound}
use Rattle.soundness.proofs.cells.word_sound.Goals as goal

pub returns-then-tag-eq-UNPLACED : goal.returns-then-tag-eq-UNPLACED
unfolding word_sound
returns-then-tag-eq-UNPLACED c = grind (arith, common_steps)

pub returns : goal.returns
unfolding word_sound
returns c = grind (arith, common_steps)
