use Rattle.customers.proofs.LoadLaws.{load_kept}
use Rattle.customers.proofs.loads.load.Goals as goal

pub returns : goal.returns
returns c = load_kept c.args.state.now c.args.work.now c.args.file.now c.lnk100_load.result c.lnk100_load.new.state c.lnk100_load.new.work c.lnk100_load.ensures
