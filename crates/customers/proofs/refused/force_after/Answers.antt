use Rattle.customers.proofs.RefusedLaws.{refused_breaks, force_shut}
use Rattle.customers.proofs.refused.force_after.Goals as goal

pub returns : goal.returns
returns c = λ six. force_shut c.lnk100_load-load.new.state (refused_breaks c.args.state.now c.args.work.now c.args.file.now c.lnk100_load-load.result c.lnk100_load-load.new.state c.lnk100_load-load.ensures.call six) c.args.name.now c.lnk100_force-call.result c.lnk100_force-call.new.state c.lnk100_force-call.ensures
