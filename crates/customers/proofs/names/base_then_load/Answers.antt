use Rattle.customers.proofs.NameLaws.{moved_as_told}
use Rattle.customers.proofs.names.base_then_load.Goals as goal

pub returns : goal.returns
returns c = moved_as_told c.args.state.now c.lnk100_reset.new.state c.lnk100_reset.result c.lnk100_reset.ensures c.lnk100_base-base.result c.lnk100_base-base.new.state c.args.address c.args.work.now c.args.file.now c.args.index c.lnk100_load-load.result c.lnk100_load-load.new.state c.lnk100_load-load.new.work c.lnk100_symbols-listed.result c.lnk100_base-base.ensures c.lnk100_load-load.ensures c.lnk100_symbols-listed.ensures
