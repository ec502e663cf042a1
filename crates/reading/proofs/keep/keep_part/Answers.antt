use Rattle.rules.proofs.BoolLaws.{never}
use Rattle.reading.proofs.keep.keep_part.Goals as goal

pub returns-then-not-keep : goal.returns-then-not-keep
returns-then-not-keep c = λ e. never e c.if-not-keep.true

pub add_part-requires : goal.add_part-requires
add_part-requires c = c.requires c.if-not-keep.false
