use Rattle.customers.proofs.ImageLaws.{end_kept}
use Rattle.customers.proofs.images.end.Goals as goal

pub returns : goal.returns
returns c = end_kept c.args.state.now c.args.out.now c.lnk100_end.result c.lnk100_end.new.state c.lnk100_end.new.out c.lnk100_end.ensures
