-- `framing::title` meets its contract: a name and the line's end behind it.
use mathlib.Core.Bool.{true, false}
use Rattle.text.specs.Scan.{part}
use Rattle.framing.proofs.FramingLaws.{name_read, title_said}
use Rattle.framing.proofs.title.Goals as goal

pub returns-then-opens : goal.returns-then-opens
unfolding part
returns-then-opens c =
    rw c.if-opens.true (title_said true c.spaces_end-start.ensures c.in_ok-end.ensures c.in_ok-behind.ensures (name_read _ c.read_name.ensures c.in_ok-name.was))

pub returns-else-opens : goal.returns-else-opens
unfolding part
returns-else-opens c =
    rw c.if-opens.false (title_said false c.spaces_end-start.ensures c.in_ok-end.ensures c.in_ok-behind.ensures (name_read _ c.read_name.ensures c.in_ok-name.was))
