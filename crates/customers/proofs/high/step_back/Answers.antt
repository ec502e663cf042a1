use Rattle.customers.proofs.StepLaws.{stepped_back}
use Rattle.customers.proofs.high.step_back.Goals as goal

pub returns : goal.returns
returns c = stepped_back c.args.state.now c.lnk100_base.new.state c.lnk100_memory-first.result c.lnk100_memory-second.result c.lnk100_memory-first.ensures c.lnk100_base.result c.args.address c.args.work.now c.args.file.now c.lnk100_load.result c.lnk100_load.new.state c.lnk100_load.new.work c.lnk100_base.ensures c.lnk100_load.ensures c.lnk100_memory-second.ensures
