use mathlib.Core.List.{map}
use mathlib.Core.Path.{◌≡◌, sym, ap, ◌∙◌}
use Rattle.tables.specs.Tables.{start_in, end_in, cells_in, parts_of}
use Rattle.tables.specs.Iter.{part_at, parts_in}
use Rattle.tables.proofs.PairLaws.{pairs_are}
use Rattle.placing.proofs.PlacedLaws.{sound_lent, tried_row, line_row, place_refused, place_done, place_not}
use Rattle.placing.proofs.place_row.Goals as goal
use Rattle.placing.proofs.place_row.Goals.{After-of}

-- the parts of the row's module
lent : (c : After-of) →
    let t = c.args.tables in
    let i = c.args.row in
    parts_in c.of.result ≡ parts_of (cells_in t.parts.now (start_in t.rows.now i) (end_in t.rows.now i))
lent c = ap (map part_at) c.of.ensures ∙ pairs_are c.module_cells.result.now ∙ ap parts_of c.module_cells.ensures

pub returns-then-refusal-ne-DONE : goal.returns-then-refusal-ne-DONE
returns-then-refusal-ne-DONE c = (place_refused c.requires.good.0 c.if-refusal-ne-DONE.true, c.requires.good.1)

pub place-requires-clause-module_sound : goal.place-requires-clause-module_sound
place-requires-clause-module_sound c =
    let t = c.args.tables in
    sound_lent t.parts.now t.rows.now c.args.row (lent (goal.at.place-requires-clause-module_sound c).After-of) c.requires.module_sound

pub returns-in-Ok : goal.returns-in-Ok
returns-in-Ok c =
    let t = c.args.tables in
    (place_done c.if-refusal-ne-DONE.false (tried_row t.parts.now t.rows.now c.args.row (lent (goal.at.returns-in-Ok c).After-of) c.in-Ok.ensures.0), c.in-Ok.ensures.1)

pub returns-in-Err : goal.returns-in-Err
returns-in-Err c =
    let t = c.args.tables in (
      place_not c.if-refusal-ne-DONE.false c.in-Err.reason
          (tried_row t.parts.now t.rows.now c.args.row (lent (goal.at.returns-in-Err c).After-of) c.in-Err.ensures.0)
          c.number.ensures
          (c.line.ensures ∙ sym (line_row t.parts.now t.rows.now c.args.row)),
      c.in-Err.ensures.1,
    )
