use native.Mathlib.Omega.{arith}
use mathlib.Core.Path.{ap, ◌∙◌}
use lib.ListN.{get_or}
use Rattle.feed.specs.Held.{clean_behind}
use Rattle.feed.proofs.HeldLaws.{standing_most, mark_fails, clean_decides}
use Rattle.feed.proofs.memory.holds_feed.Goals as goal

pub returns-then-mark : goal.returns-then-mark
returns-then-mark c = mark_fails _ (omega arith)

pub clean_behind-requires : goal.clean_behind-requires
clean_behind-requires c = record { feed_len = c.requires; n_le_longest_file = omega (arith, standing_most (get_or c.args.feed.now 0 0), c.standing.ensures) }

pub returns : goal.returns
returns c = c.clean_behind.ensures ∙ ap (clean_behind _) c.standing.ensures ∙ clean_decides _ c.requires c.shared_slice_known-1.given (omega arith)
