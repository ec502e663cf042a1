use mathlib.Core.Path.{refl, sym, ◌∙◌}
use Rattle.state.specs.Layout.{decode}
use Rattle.placing.proofs.WordLaws.{lay_skip, lay_clash, lay_put, lay_done}
use Rattle.placing.proofs.words.lay.Goals as goal

pub returns-then-is_placed : goal.returns-then-is_placed
returns-then-is_placed c =
    let a = c.args in
    let l = c.loop-part in
    lay_clash a.base _ _ c.in-Some.ensures.steps _ l.invariant.3 (sym c.is_word.ensures ∙ c.if-is_word.true) c.address.result c.address.ensures c.is_placed.result c.is_placed.ensures c.if-is_placed.true l.invariant.2 refl

pub loop-part-preserved-then-is_word : goal.loop-part-preserved-then-is_word
loop-part-preserved-then-is_word c =
    let a = c.args in
    let l = c.loop-part in
    (tt, tt, c.put_plain.ensures.good, lay_put a.base _ _ c.in-Some.ensures.steps _ l.invariant.3 (sym c.is_word.ensures ∙ c.if-is_word.true) c.address.result c.address.ensures c.is_placed.result c.is_placed.ensures c.if-is_placed.false (decode c.put_plain.new.state) c.put_plain.ensures.is)

pub loop-part-preserved : goal.loop-part-preserved
loop-part-preserved c =
    let a = c.args in
    let l = c.loop-part in
    (tt, tt, l.invariant.2, lay_skip a.base _ _ c.in-Some.ensures.steps _ l.invariant.3 (sym c.is_word.ensures ∙ c.if-is_word.false))

pub returns : goal.returns
returns c =
    let a = c.args in
    let l = c.loop-part in
    lay_done a.base _ _ c.in-None.ensures.steps.0 l.state l.invariant.2 l.invariant.3
