use Rattle.listings.proofs.ListingLaws.{undefined_at_lem}
use Rattle.listings.proofs.try_undefined.Goals as goal

pub returns : goal.returns
returns c = undefined_at_lem _ _ _ _ c.in_ok-check.ensures c.in-Some.ensures.0 c.in-Some.ensures.1 c.symbol_at.ensures c.highest.ensures
