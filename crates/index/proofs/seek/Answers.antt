use native.Mathlib.Omega.{arith}
use mathlib.Core.Path.{refl, sym, ◌∙◌}
use Rattle.index.proofs.SeekLaws.{seek_start, seek_most, seek_low, seek_later, seek_next, seek_here, seek_none}
use Rattle.index.proofs.seek.Goals as goal

pub loop-k-init : goal.loop-k-init
loop-k-init c = seek_start c.requires _ refl refl refl

pub bounds-index-entry : goal.bounds-index-entry
bounds-index-entry c = omega (arith, seek_most c.requires _ c.loop-k.invariant, c.requires.few)

pub returns-then-body_at-name : goal.returns-then-body_at-name
returns-then-body_at-name c =
    seek_here c.requires _ c.loop-k.invariant c.loop-k-test.true (sym c.body_at.ensures ∙ c.if-body_at-name.true)

pub bounds-index-at-in-loop-k : goal.bounds-index-at-in-loop-k
bounds-index-at-in-loop-k c = omega (arith, seek_most c.requires _ c.loop-k.invariant, c.requires.few)

pub loop-k-smaller : goal.loop-k-smaller
loop-k-smaller c =
    let l = c.loop-k in
    omega (arith, seek_later c.requires _ l.invariant c.loop-k-test.true, seek_low c.requires _ l.invariant)

pub loop-k-preserved : goal.loop-k-preserved
loop-k-preserved c =
    seek_next c.requires _ c.loop-k.invariant c.loop-k-test.true (λ e. c.if-body_at-name.false (c.body_at.ensures ∙ e)) refl refl refl

pub returns : goal.returns
returns c = seek_none c.requires _ c.loop-k.invariant c.loop-k-test.false
