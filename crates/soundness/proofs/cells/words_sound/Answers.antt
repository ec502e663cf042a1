use native.Mathlib.Omega.{arith}
use mathlib.Core.Path.{◌∙◌}
use Rattle.soundness.proofs.EachLaws.{words_each}
use Rattle.soundness.proofs.cells.words_sound.Goals as goal

pub returns : goal.returns
returns c = c.each_word_sound.ensures ∙ words_each c.args.state.now c.args.n (omega arith)
