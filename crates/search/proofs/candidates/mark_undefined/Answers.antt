use Rattle.std.proofs.Common.{arith}
use Rattle.state.specs.Layout.{decode}
use Rattle.search.proofs.CandidateLaws.{from_start, from_defined, from_marked, from_end, listed_defined}
use Rattle.search.proofs.candidates.mark_undefined.Goals as goal

pub loop-j-init : goal.loop-j-init
loop-j-init c =
    let l = c.args.library in
    (omega (arith, c.symbol_count-j.ensures), from_start l.tables.parts.now l.index.now (decode c.args.state.now).symbols c.args.candidates.now _ (omega (arith, c.symbol_count-j.ensures)))

pub loop-j-preserved-then-is_none : goal.loop-j-preserved-then-is_none
loop-j-preserved-then-is_none c =
    let l = c.args.library in
    let i = c.loop-j.invariant in
    (omega (arith, i.0), from_marked l.tables.parts.now l.index.now (decode c.args.state.now).symbols c.args.candidates.now _ c.loop-j.j (omega arith) i.0 i.1 c.symbol_at-symbol.ensures.name c.mark_owner.ensures)

pub loop-j-preserved : goal.loop-j-preserved
loop-j-preserved c =
    let l = c.args.library in
    let i = c.loop-j.invariant in
    (omega (arith, i.0), from_defined l.tables.parts.now l.index.now (decode c.args.state.now).symbols c.args.candidates.now _ c.loop-j.j (omega arith) i.0 i.1 (listed_defined c.symbol_at-symbol.ensures c.if-is_none.ensures))

pub returns : goal.returns
returns c =
    let l = c.args.library in
    from_end l.tables.parts.now l.index.now (decode c.args.state.now).symbols c.args.candidates.now c.loop-j.j c.args.from c.loop-j-test.false c.loop-j.invariant.1
