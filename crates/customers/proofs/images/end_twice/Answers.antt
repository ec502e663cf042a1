use Rattle.customers.proofs.ImageLaws.{same_ends}
use Rattle.customers.proofs.images.end_twice.Goals as goal

pub returns : goal.returns
returns c = same_ends c.args.state.now c.args.out.now c.lnk100_end-first.result c.lnk100_end-first.new.state c.lnk100_end-first.new.out c.lnk100_end-first.ensures c.args.again.now c.lnk100_end-second.result c.lnk100_end-second.new.state c.lnk100_end-second.new.out c.lnk100_end-second.ensures
