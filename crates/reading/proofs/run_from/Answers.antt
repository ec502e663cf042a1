use Rattle.reading.proofs.GoLaws.{no_run, a_run}
use Rattle.reading.proofs.run_from.Goals as goal

pub returns-then-keep : goal.returns-then-keep
returns-then-keep c = no_run _ _ _ _ c.requires

pub returns : goal.returns
returns c = a_run c.args.here c.if-keep.false c.room.ensures c.read_records.ensures
