use Rattle.customers.proofs.RefusedLaws.{refused_breaks, end_shut}
use Rattle.customers.proofs.refused.end_after.Goals as goal

pub returns : goal.returns
returns c = λ six. end_shut c.lnk100_load-load.new.state (refused_breaks c.args.state.now c.args.work.now c.args.file.now c.lnk100_load-load.result c.lnk100_load-load.new.state c.lnk100_load-load.ensures.call six) c.args.out.now c.lnk100_end-end.result c.lnk100_end-end.new.state c.lnk100_end-end.new.out c.lnk100_end-end.ensures
