use mathlib.Core.Path.{◌∙◌}
use Rattle.tables.specs.Tables.{items_in}
use Rattle.loading.proofs.LoadingLaws.{walk_accepted, walk_refused}
use Rattle.loading.proofs.walk_file.Goals as goal

pub returns-then-far-eq-DONE : goal.returns-then-far-eq-DONE
returns-then-far-eq-DONE c = walk_accepted (items_in c.args.tables.parts.now c.args.tables.rows.now c.args.n) c.walk-far.ensures c.if-far-eq-DONE.true

pub returns : goal.returns
returns c =
    rw c.into.ensures
    (walk_refused (items_in c.args.tables.parts.now c.args.tables.rows.now c.args.n) c.walk-far.ensures
    (c.copy_from_slice.ensures.after ∙ c.copy.ensures) c.if-far-eq-DONE.false c.set_mark.ensures)
