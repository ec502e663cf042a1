use Rattle.customers.proofs.RefusedLaws.{fits, load_shut_out}
use Rattle.customers.proofs.ImageLaws.{end_is_done}
use Rattle.customers.proofs.refused.load_after_end.Goals as goal

pub returns : goal.returns
returns c = λ done long. let d = end_is_done c.args.state.now c.args.out.now c.lnk100_end-end.result c.lnk100_end-end.new.state c.lnk100_end-end.new.out c.lnk100_end-end.ensures done in load_shut_out c.lnk100_end-end.new.state c.args.work.now c.args.file.now d.state c.lnk100_load-load.result c.lnk100_load-load.new.state d.frozen_now (fits c.args.work.now long) c.lnk100_load-load.ensures.call
