use Rattle.std.proofs.Common.{arith}
use mathlib.Core.Path.{sym, ap, ◌∙◌}
use Rattle.tables.specs.Tables.{kind_number}
use Rattle.walking.proofs.WalkingLaws.{row_free, row_section, row_member}
use Rattle.walking.proofs.walk_row.Goals as goal

pub walk_free-requires-clause-module_sound : goal.walk_free-requires-clause-module_sound
walk_free-requires-clause-module_sound c = c.requires.row_sound.free_sound (sym c.in-Some-Free.ensures ∙ ap kind_number c.in-Some-Free.field-0-is)

pub returns-in-Some-Free-clause-advances : goal.returns-in-Some-Free-clause-advances
returns-in-Some-Free-clause-advances c =
    let t = c.args.tables in
    row_free t.parts.now t.rows.now c.args.row c.args.far _ _ c.walk_free.result (sym c.in-Some-Free.ensures ∙ ap kind_number c.in-Some-Free.field-0-is) c.walk_free.ensures.advances

pub walk_section-requires-clause-item_sound : goal.walk_section-requires-clause-item_sound
walk_section-requires-clause-item_sound c = c.requires.row_sound.section_sound (sym c.in-Some-Section.ensures ∙ ap kind_number c.in-Some-Section.field-0-is)

pub returns-in-Some-Section-clause-advances : goal.returns-in-Some-Section-clause-advances
returns-in-Some-Section-clause-advances c =
    let t = c.args.tables in
    row_section t.parts.now t.rows.now c.args.row c.args.far _ _ c.walk_section.result (sym c.in-Some-Section.ensures ∙ ap kind_number c.in-Some-Section.field-0-is) c.walk_section.ensures.advances

pub returns-in-Some-Member-clause-advances : goal.returns-in-Some-Member-clause-advances
returns-in-Some-Member-clause-advances c =
    let t = c.args.tables in
    let k = sym c.in-Some-Member.ensures ∙ ap kind_number c.in-Some-Member.field-0-is in
    row_member t.parts.now t.rows.now c.args.row c.args.far _ (λ e. omega (arith, k, e)) (λ e. omega (arith, k, e)) c.requires.good.0

pub returns-in-None-clause-advances : goal.returns-in-None-clause-advances
returns-in-None-clause-advances c =
    let t = c.args.tables in
    let k = c.in-None.ensures in
    row_member t.parts.now t.rows.now c.args.row c.args.far _ (λ e. omega (arith, k, e)) (λ e. omega (arith, k, e)) c.requires.good.0
