use native.Mathlib.Omega.{arith}
use Rattle.runs.proofs.ModeLaws.{room_most, done}
use Rattle.runs.proofs.modes.records_done.Goals as goal

pub overflow_sub-result : goal.overflow_sub-result
overflow_sub-result c = omega (arith, c.requires, room_most c.args.m)

pub returns : goal.returns
returns c = rw (c.then_object.ensures, c.then_expected.ensures) (done c.args.m c.args.k c.requires.0 c.requires.1)
