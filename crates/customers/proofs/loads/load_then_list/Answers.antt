use Rattle.customers.proofs.LoadLaws.{listed}
use Rattle.customers.proofs.loads.load_then_list.Goals as goal

pub returns : goal.returns
returns c = listed c.args.state.now c.args.work.now c.args.file.now c.lnk100_load-load.result c.lnk100_load-load.new.state c.lnk100_load-load.new.work c.lnk100_load-load.ensures c.args.index c.lnk100_symbols-symbol.result c.lnk100_symbols-symbol.ensures
