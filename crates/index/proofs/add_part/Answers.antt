use mathlib.Core.Path.{sym, ap, ◌∙◌}
use Rattle.tables.specs.Heads.{is_entry}
use Rattle.index.proofs.FillLaws.{part_new}
use Rattle.index.proofs.add_part.Goals as goal

pub returns-clause-added : goal.returns-clause-added
returns-clause-added c =
    let p = c.requires in
    part_new _ _ p.indexed.0 (sym (c.is_entry.ensures ∙ ap is_entry c.head_at.ensures) ∙ c.if-not-is_entry.false) c.body_at.ensures c.seek-at.ensures p.part_bound.1 p.indexed.1 c.if-index-at-ne0.false c.enter.ensures
