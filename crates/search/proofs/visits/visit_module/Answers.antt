use mathlib.Core.Path.{sym, ◌∙◌}
use Prim.Native.Nat.{◌+◌}
use Rattle.state.specs.Layout.{decode}
use Rattle.search.specs.Libraries.{module_of}
use Rattle.search.proofs.VisitLaws.{needed_row, visit_left, visit_again, visit_placed}
use Rattle.search.proofs.CandidateLaws.{candidates_next}
use Rattle.search.proofs.visits.visit_module.Goals as goal

pub returns-then-taken-clause-visited : goal.returns-then-taken-clause-visited
returns-then-taken-clause-visited c = visit_again (module_of c.args.library c.args.i) c.requires.good.0 c.if-taken.true

pub returns-then-refusal-ne-DONE-clause-visited : goal.returns-then-refusal-ne-DONE-clause-visited
returns-then-refusal-ne-DONE-clause-visited c =
    visit_left (module_of c.args.library c.args.i) c.args.taken c.requires.good.0 (λ z. absurd (c.if-refusal-ne-DONE.true z))

pub returns-then-not-is_needed-clause-visited : goal.returns-then-not-is_needed-clause-visited
returns-then-not-is_needed-clause-visited c =
    let l = c.args.library in
    let needed = needed_row l.tables.parts.now l.tables.rows.now (l.section.first + c.args.i) c.module_cells.ensures (decode c.args.state.now) c.is_needed.ensures in
    visit_left (module_of l c.args.i) c.args.taken c.requires.good.0 (λ z. sym needed ∙ c.if-not-is_needed.true)

pub returns-clause-visited : goal.returns-clause-visited
returns-clause-visited c =
    let l = c.args.library in
    let needed = needed_row l.tables.parts.now l.tables.rows.now (l.section.first + c.args.i) c.module_cells.ensures (decode c.args.state.now) c.is_needed.ensures in
    visit_placed (module_of l c.args.i) c.if-taken.false c.if-refusal-ne-DONE.false (sym needed ∙ c.if-not-is_needed.false) c.place_row-after.ensures.0

pub returns-clause-candidates : goal.returns-clause-candidates
returns-clause-candidates c =
    candidates_next c.args.library c.if-refusal-ne-DONE.false c.requires.candidates c.place_row-after.ensures.0 c.symbol_count-known.ensures c.mark_undefined.ensures
