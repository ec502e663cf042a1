use native.Mathlib.Omega.{arith}
use Rattle.state.proofs.EightLaws.{unplaced_from_some, unplaced_from_none}
use Rattle.state.proofs.words.unplaced_from.Goals as goal

pub returns-in-Some : goal.returns-in-Some
returns-in-Some c =
    let e = c.as_rchunks.ensures in
    unplaced_from_some c.args.tags.now _ e.back e.back_len _ _ c.in-Some.ensures (omega (arith, e.front_len))

pub returns-in-None : goal.returns-in-None
returns-in-None c =
    let e = c.as_rchunks.ensures in
    unplaced_from_none c.args.tags.now _ e.back e.back_len _ c.in-None.ensures (omega (arith, e.front_len))
