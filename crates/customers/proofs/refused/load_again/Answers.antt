use Rattle.customers.proofs.RefusedLaws.{refused_breaks, refused_fits, again_fits, load_shut}
use Rattle.customers.proofs.refused.load_again.Goals as goal

pub returns : goal.returns
returns c = λ six. load_shut c.lnk100_load-first.new.state (refused_breaks c.args.state.now c.args.work.now c.args.file.now c.lnk100_load-first.result c.lnk100_load-first.new.state c.lnk100_load-first.ensures.call six) c.lnk100_load-first.new.work c.args.other.now c.lnk100_load-second.result c.lnk100_load-second.new.state (again_fits c.args.work.now c.lnk100_load-first.new.work c.lnk100_load-first.ensures.work_left (refused_fits c.args.state.now c.args.work.now c.args.file.now c.lnk100_load-first.result c.lnk100_load-first.new.state c.lnk100_load-first.ensures.call six)) c.lnk100_load-second.ensures.call
