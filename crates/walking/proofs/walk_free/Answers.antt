use Rattle.walking.proofs.WalkingLaws.{free_walked}
use Rattle.walking.proofs.walk_free.Goals as goal

pub returns-clause-advances : goal.returns-clause-advances
returns-clause-advances c =
    let t = c.args.tables in
    free_walked t.parts.now t.rows.now c.args.row c.args.far c.place_row.result _ _ c.place_row.ensures.0
