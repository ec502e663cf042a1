-- `framing::count_at` meets its contract: a number, spaces behind it, and its value.
use borrow.Author.Rules.{rules}
use Rattle.text.specs.Scan.{part}
use Rattle.framing.proofs.FramingLaws.{value_read, count_found}
use Rattle.framing.proofs.count_at.Goals as goal

pub returns : goal.returns
unfolding part
returns c = count_found c.in_ok-end.ensures c.in_ok-behind.ensures (value_read _ c.read_number.ensures c.in_ok-value.was (search rules))
