use Rattle.std.proofs.Common.{rules}
use Rattle.std.specs.Prelude.{Err}
use mathlib.Core.Path.{◌≡◌, sym, ◌∙◌}
use Rattle.placing.proofs.MentionLaws.{mention_skip, mention_index, mention_full, mention_put, mention_done}
use Rattle.placing.proofs.symbols.mention_all.Goals as goal

pub returns-in_err-position : goal.returns-in_err-position
returns-in_err-position c =
    let l = c.loop-part in
    let told : c.from_residual.result ≡ Err c.in_err-position.field-0.0 = search rules in
    (rw told (mention_full _ _ _ _ c.in-Some.ensures.steps _ l.invariant.4 (sym c.is_external.ensures ∙ c.if-is_external.true) c.in_err-position.ensures.0), c.in_err-position.ensures.1)

pub bounds-at-count : goal.bounds-at-count
bounds-at-count c =
    let l = c.loop-part in
    mention_index _ _ _ _ c.in-Some.ensures.steps _ l.invariant.4 (sym c.is_external.ensures ∙ c.if-is_external.true) c.requires.parts_len_bound

pub loop-part-preserved-then-is_external : goal.loop-part-preserved-then-is_external
loop-part-preserved-then-is_external c =
    let l = c.loop-part in
    let m = c.in_ok-position.ensures in
    (tt, tt, m.0.joined.holds.good, m.1, mention_put _ _ _ _ c.in-Some.ensures.steps _ l.invariant.4 (sym c.is_external.ensures ∙ c.if-is_external.true) m.0 c.requires.parts_len_bound)

pub loop-part-preserved : goal.loop-part-preserved
loop-part-preserved c =
    let l = c.loop-part in
    (tt, tt, l.invariant.2, l.invariant.3, mention_skip _ _ _ _ c.in-Some.ensures.steps _ l.invariant.4 (sym c.is_external.ensures ∙ c.if-is_external.false))

pub returns : goal.returns
returns c =
    let l = c.loop-part in
    (mention_done _ _ _ _ c.in-None.ensures.steps.0 l.state l.invariant.2 l.invariant.4, l.invariant.3)
