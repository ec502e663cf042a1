use Rattle.customers.proofs.RefusedLaws.{refused_breaks, base_shut}
use Rattle.customers.proofs.refused.base_after.Goals as goal

pub returns : goal.returns
returns c = λ six. base_shut c.lnk100_load-load.new.state (refused_breaks c.args.state.now c.args.work.now c.args.file.now c.lnk100_load-load.result c.lnk100_load-load.new.state c.lnk100_load-load.ensures.call six) c.args.address c.lnk100_base-call.result c.lnk100_base-call.new.state c.lnk100_base-call.ensures
