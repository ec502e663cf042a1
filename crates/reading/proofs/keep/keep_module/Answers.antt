use Rattle.rules.proofs.BoolLaws.{never}
use Rattle.reading.proofs.keep.keep_module.Goals as goal

pub returns-then-not-keep : goal.returns-then-not-keep
returns-then-not-keep c = λ e. never e c.if-not-keep.true

pub close_module-requires : goal.close_module-requires
close_module-requires c = c.requires c.if-not-keep.false
