use native.Mathlib.Omega.{arith}
use mathlib.Core.Path.{sym, ◌∙◌}
use Rattle.tables.specs.Iter.{parts_in}
use Rattle.order.proofs.OrderedLaws.{told_position}
use Rattle.placing.proofs.EntryLaws.{value_small, enter_skip, enter_second, enter_on, enter_full}
use Rattle.placing.proofs.PassLaws.{stands_told}
use Rattle.placing.proofs.symbols.enter_part.Goals as goal

pub returns-then-not-is_entry : goal.returns-then-not-is_entry
returns-then-not-is_entry c =
    let a = c.args in
    let p = c.requires in
    (enter_skip a.part (parts_in a.rest) a.base a.state.now p.good.0 (sym c.is_entry.ensures ∙ c.if-not-is_entry.true), p.good.1)

pub returns-then-eq : goal.returns-then-eq
returns-then-eq c =
    let a = c.args in
    let p = c.requires in
    (enter_second a.part (parts_in a.rest) a.base a.state.now p.good.0 (sym c.is_entry.ensures ∙ c.if-not-is_entry.false) (stands_told _ _ _ (c.defined_at.ensures _ (told_position p.good.0 p.good.1 _ c.look_up-seen.ensures)) ∙ sym c.eq.ensures ∙ c.if-eq.true), p.good.1)

pub overflow_cast-value : goal.overflow_cast-value
overflow_cast-value c =
    let a = c.args in
    omega (arith, value_small a.part (parts_in a.rest) a.base c.requires.at_value c.entry_value-value.ensures)

pub returns-then-is_ok : goal.returns-then-is_ok
returns-then-is_ok c =
    let a = c.args in
    let p = c.requires in
    (enter_on a.part (parts_in a.rest) a.base a.state.now p.good.0 (sym c.is_entry.ensures ∙ c.if-not-is_entry.false) (stands_told _ _ _ (c.defined_at.ensures _ (told_position p.good.0 p.good.1 _ c.look_up-seen.ensures)) ∙ sym c.eq.ensures ∙ c.if-eq.false) c.entry_value-value.ensures c.define.new.state c.define.ensures.0 (sym c.is_ok.ensures.value ∙ c.if-is_ok.true), c.define.ensures.1)

pub returns : goal.returns
returns c =
    let a = c.args in
    let p = c.requires in
    (enter_full a.part (parts_in a.rest) a.base a.state.now p.good.0 (sym c.is_entry.ensures ∙ c.if-not-is_entry.false) (stands_told _ _ _ (c.defined_at.ensures _ (told_position p.good.0 p.good.1 _ c.look_up-seen.ensures)) ∙ sym c.eq.ensures ∙ c.if-eq.false) c.entry_value-value.ensures c.define.new.state c.define.ensures.0 (sym c.is_ok.ensures.value ∙ c.if-is_ok.false) c.full_fault.ensures, c.define.ensures.1)
