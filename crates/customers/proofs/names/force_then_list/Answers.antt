use Rattle.customers.proofs.NameLaws.{forced_as_told}
use Rattle.customers.proofs.names.force_then_list.Goals as goal

pub returns : goal.returns
returns c = forced_as_told c.args.state.now c.lnk100_reset.new.state c.lnk100_reset.result c.lnk100_reset.ensures c.lnk100_force-force.result c.lnk100_force-force.new.state c.args.name.now c.lnk100_undefined-listed.result c.lnk100_force-force.ensures c.lnk100_undefined-listed.ensures
