use mathlib.Core.Path.{sym, ap, ◌∙◌}
use Rattle.rules.specs.Answers.{reason_number}
use Rattle.tables.specs.Tables.{modules_in}
use Rattle.walking.proofs.WalkingLaws.{tested_refused, tested_twice, tested_once}
use Rattle.walking.proofs.test_section.Goals as goal

pub returns-then-refusal-ne-DONE-clause-tested : goal.returns-then-refusal-ne-DONE-clause-tested
returns-then-refusal-ne-DONE-clause-tested c =
    let t = c.args.tables in
    tested_refused _ (modules_in t.parts.now t.rows.now c.args.section.first c.args.section.count) c.args.refusal c.if-refusal-ne-DONE.true

pub returns-in-Ok-clause-tested : goal.returns-in-Ok-clause-tested
returns-in-Ok-clause-tested c =
    let t = c.args.tables in
    tested_once _ (modules_in t.parts.now t.rows.now c.args.section.first c.args.section.count) c.args.refusal c.if-refusal-ne-DONE.false (sym c.in-Ok.ensures.tested.is)

pub returns-in-Err-clause-tested : goal.returns-in-Err-clause-tested
returns-in-Err-clause-tested c =
    let t = c.args.tables in
    tested_twice _ (modules_in t.parts.now t.rows.now c.args.section.first c.args.section.count) c.args.refusal c.if-refusal-ne-DONE.false
    (sym c.in-Err.ensures.tested.is) (c.number.ensures ∙ ap reason_number c.in-Err.ensures.reason) c.line.ensures
