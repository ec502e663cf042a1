use Rattle.state.proofs.SymbolLaws.{listing_is}
use Rattle.state.proofs.table.symbol_at.Goals as goal

pub returns : goal.returns
returns c = listing_is c.requires.good c.args.i c.requires.i_in_bounds c.checked_sub.ensures
