use Rattle.walking.proofs.WalkingLaws.{section_is, section_fits, section_indexable, section_walked}
use Rattle.walking.proofs.walk_section.Goals as goal

pub test_section-tested-requires-clause-section_sound : goal.test_section-tested-requires-clause-section_sound
test_section-tested-requires-clause-section_sound c =
    let t = c.args.tables in
    section_fits t.parts.now t.rows.now c.args.row c.section-section.ensures c.requires.item_sound

pub test_section-tested-requires-clause-indexable : goal.test_section-tested-requires-clause-indexable
test_section-tested-requires-clause-indexable c =
    let t = c.args.tables in
    section_indexable t.parts.now t.rows.now c.args.row c.section-section.ensures c.requires.item_sound c.requires.parts_len_bound

pub search-found-requires-clause-library_sound : goal.search-found-requires-clause-library_sound
search-found-requires-clause-library_sound c =
    let t = c.args.tables in
    section_fits t.parts.now t.rows.now c.args.row c.section-section.ensures c.requires.item_sound

pub returns-clause-advances : goal.returns-clause-advances
returns-clause-advances c =
    let t = c.args.tables in
    section_walked t.parts.now t.rows.now c.args.row c.args.far _ c.test_section-tested.result c.search-found.result _ _
    (section_is t.parts.now t.rows.now c.args.row c.section-section.ensures) c.test_section-tested.ensures.tested c.search-found.ensures.sought
