use mathlib.Core.List.{map}
use mathlib.Core.Path.{sym, ap, ◌∙◌}
use Rattle.rules.specs.Text.{any}
use Rattle.rules.specs.Placing.{entries_in}
use Rattle.tables.specs.Iter.{part_at, parts_in}
use Rattle.placing.specs.Passes.{over_range}
use Rattle.placing.proofs.EntryLaws.{rest_in_range, enter_next, enter_done}
use Rattle.placing.proofs.symbols.enter.Goals as goal

pub loop-part-preserved : goal.loop-part-preserved
loop-part-preserved c =
    let a = c.args in
    let l = c.loop-part in
    let e = c.in_ok-enter_part.ensures in
    (tt, tt, e.0.good, e.1, rest_in_range c.in-Some.part (parts_in c.next.new.self) a.base (sym (ap (λ xs. any (over_range a.base) (entries_in (map part_at xs))) c.in-Some.ensures.steps) ∙ l.invariant.4), enter_next c.in-Some.ensures.steps l.invariant.5 e.0)

pub returns : goal.returns
returns c =
    let l = c.loop-part in
    (enter_done c.in_default.ensures.steps.0 l.state l.invariant.2 l.invariant.5, l.invariant.3)
