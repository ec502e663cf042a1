use Rattle.std.proofs.Common.{rules}
use Rattle.feed.proofs.StoreLaws.{spread_written}
use Rattle.feed.proofs.bytes.spread.Goals as goal

pub returns : goal.returns
returns c = spread_written _ _ _ c.requires _ (search rules)
