use Rattle.std.proofs.Common.{rules}
use Rattle.std.proofs.iter.runs.Made.{chains}
use Rattle.state.proofs.SymbolLaws.{undefined_counted}
use Rattle.state.proofs.table.undefined_count.Goals as goal

pub returns : goal.returns
returns c = undefined_counted c.requires (search (rules, chains))
