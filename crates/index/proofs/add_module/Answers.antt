use Prim.Native.Nat.{◌/◌, ◌<◌, ◌≤◌}
use native.Mathlib.Omega.{arith}
use mathlib.Core.Path.{◌≡◌, refl, subst}
use Rattle.std.proofs.Common.{rules}
use Rattle.std.specs.Prelude.{Err}
use lib.ListN.{length}
use Rattle.rules.proofs.BoolLaws.{never}
use Rattle.index.proofs.FillLaws.{adding_start, entry_fits, adding_next, adding_again, adding_done}
use Rattle.index.proofs.add_module.Goals as goal

pub loop-q-init : goal.loop-q-init
loop-q-init c =
    let t = c.args.tables in
    let s = c.args.section in
    let p = c.requires in
    adding_start t.parts.now t.rows.now s.first s.count c.args.m refl p.first_bound.2 p.m_len_bound p.filled

pub add_part-requires-clause-indexed : goal.add_part-requires-clause-indexed
add_part-requires-clause-indexed c =
    let t = c.args.tables in
    let s = c.args.section in
    let l = c.loop-q in
    (l.invariant.indexed, entry_fits t.parts.now t.rows.now s.first s.count c.args.m refl (subst (λ x. l.q < length x / 2) c.module_cells.ensures c.loop-q-test.true) c.start-start.ensures (omega (arith, c.requires.first_bound)) l.invariant)

pub returns-in_err-add_part-clause-added : goal.returns-in_err-add_part-clause-added
returns-in_err-add_part-clause-added c =
    let t = c.args.tables in
    let s = c.args.section in
    let l = c.loop-q in
    let told : c.from_residual.result ≡ Err c.in_err-add_part.field-0.0 = search rules in
    let again = adding_again t.parts.now t.rows.now s.first s.count c.args.m refl (subst (λ x. l.q < length x / 2) c.module_cells.ensures c.loop-q-test.true) c.start-start.ensures l.invariant c.in_err-add_part.ensures.added refl in
    rw told (record { long = c.in_err-add_part.ensures.added.long; again = λ _. again; new = λ r. never refl r })

pub loop-q-preserved : goal.loop-q-preserved
loop-q-preserved c =
    let t = c.args.tables in
    let s = c.args.section in
    let l = c.loop-q in
    adding_next t.parts.now t.rows.now s.first s.count c.args.m refl (subst (λ x. l.q < length x / 2) c.module_cells.ensures c.loop-q-test.true) c.start-start.ensures l.invariant c.in_ok-add_part.ensures.added refl

pub returns-clause-added : goal.returns-clause-added
returns-clause-added c =
    let t = c.args.tables in
    let s = c.args.section in
    let f = adding_done t.parts.now t.rows.now s.first s.count c.args.m refl (subst (λ x. length x / 2 ≤ c.loop-q.q) c.module_cells.ensures c.loop-q-test.false) c.loop-q.invariant in
    record { long = f.owns.indexed.long; again = λ r. never r refl; new = λ _. f }
