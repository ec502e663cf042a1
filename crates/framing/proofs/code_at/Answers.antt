-- `framing::code_at` meets its contract: a byte behind the spaces in front, and spaces behind it.
use native.Mathlib.Omega.{arith}
use Rattle.framing.proofs.FramingLaws.{begins}
use Rattle.framing.proofs.code_at.Goals as goal

pub returns : goal.returns
returns c = begins c.spaces_end-start.ensures c.in_ok-digit.ensures.lookup.0 (c.in_ok-digit.ensures.lookup.4 (omega arith) 0) c.in_ok-behind.ensures
