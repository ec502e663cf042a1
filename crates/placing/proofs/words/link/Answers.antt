use native.Mathlib.Omega.{arith}
use Prim.Native.Nat.{ℕ, ◌-◌, ◌≤◌, ◌<◌}
use mathlib.Core.Path.{sym, ap, ◌∙◌}
use lib.ListN.{length, get_or}
use Rattle.rules.specs.Placing.{externals_in}
use Rattle.state.specs.Layout.{decode}
use Rattle.tables.specs.Iter.{parts_in}
use Rattle.placing.proofs.WordLaws.{link_number, link_skip, link_put, link_done}
use Rattle.placing.proofs.words.link.Goals as goal
use Rattle.placing.proofs.words.link.Goals.{After-argument}

-- the external's number is one of the module's
number : (c : After-argument) →
    let k : ℕ = c.argument.result in
    (1 ≤ k) × (k ≤ length (externals_in (parts_in c.args.parts)))
number c =
    let a = c.args in
    let l = c.loop-part in
    link_number a.base a.at.now _ _ _ c.in-Some.ensures.steps _ l.invariant.3 (sym c.is_reference.ensures ∙ c.if-is_reference.true) c.argument.result c.argument.ensures

-- and its position is in the table
there : (c : After-argument) → get_or c.args.at.now (c.argument.result - 1) 0 < length (decode c.args.state.now).symbols
there c = c.requires.linkable.there (c.argument.result - 1) (omega (arith, number c))

pub overflow_sub-symbol : goal.overflow_sub-symbol
overflow_sub-symbol c = omega (arith, number (goal.at.overflow_sub-symbol c).After-argument)

pub bounds-at-argument : goal.bounds-at-argument
bounds-at-argument c = omega (arith, number (goal.at.bounds-at-argument c).After-argument, c.requires.linkable.few)

pub put_reference-requires-clause-symbol_in_bounds : goal.put_reference-requires-clause-symbol_in_bounds
put_reference-requires-clause-symbol_in_bounds c =
    omega (arith, there (goal.at.put_reference-requires-clause-symbol_in_bounds c).After-argument, ap length c.loop-part.invariant.3.table_is)

pub loop-part-preserved-then-is_reference : goal.loop-part-preserved-then-is_reference
loop-part-preserved-then-is_reference c =
    let a = c.args in
    let l = c.loop-part in
    (tt, tt, c.put_reference.ensures.good, link_put a.base a.at.now _ _ _ c.in-Some.ensures.steps _ l.invariant.3 (sym c.is_reference.ensures ∙ c.if-is_reference.true) c.argument.result c.argument.ensures c.address.result c.address.ensures (decode c.put_reference.new.state) c.put_reference.ensures.is)

pub loop-part-preserved : goal.loop-part-preserved
loop-part-preserved c =
    let a = c.args in
    let l = c.loop-part in
    (tt, tt, l.invariant.2, link_skip a.base a.at.now _ _ _ c.in-Some.ensures.steps _ l.invariant.3 (sym c.is_reference.ensures ∙ c.if-is_reference.false))

pub returns : goal.returns
returns c =
    let a = c.args in
    let l = c.loop-part in
    link_done a.base a.at.now _ _ _ c.in-None.ensures.steps.0 l.state l.invariant.2 l.invariant.3
