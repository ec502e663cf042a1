-- A refusal is not DONE.
use native.Mathlib.Omega.{arith}
use mathlib.Core.Logic.{◌≢◌}
use Rattle.rules.specs.Answers.{reason_number}
use Rattle.rules.specs.declared.answer.Reason.{Reason}
use Rattle.rules.specs.declared.answer.Reason.TheVariants.{Buffer, Damaged, Reset, Frozen, TooLong, Line, Place, List as TheList, Room, Overlap, Arg, Range, Duplicate, Table, Name, Out, Fields, Number, Symbol, Marker, «Type», Feed}

pub refuses : (e : Reason) → reason_number e ≢ 0
refuses Buffer z = omega (arith, z)
refuses Damaged z = omega (arith, z)
refuses Reset z = omega (arith, z)
refuses Frozen z = omega (arith, z)
refuses TooLong z = omega (arith, z)
refuses Line z = omega (arith, z)
refuses Place z = omega (arith, z)
refuses TheList z = omega (arith, z)
refuses Room z = omega (arith, z)
refuses Overlap z = omega (arith, z)
refuses Arg z = omega (arith, z)
refuses Range z = omega (arith, z)
refuses Duplicate z = omega (arith, z)
refuses Table z = omega (arith, z)
refuses Name z = omega (arith, z)
refuses Out z = omega (arith, z)
refuses Fields z = omega (arith, z)
refuses Number z = omega (arith, z)
refuses Symbol z = omega (arith, z)
refuses Marker z = omega (arith, z)
refuses «Type» z = omega (arith, z)
refuses Feed z = omega (arith, z)
