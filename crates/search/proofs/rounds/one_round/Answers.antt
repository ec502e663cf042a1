use Rattle.std.proofs.Common.{arith, ap, length, length-set, true}
use Rattle.search.specs.Libraries.{module_of}
use Rattle.search.proofs.VisitLaws.{not_taken, settled_left}
use Rattle.search.proofs.SweepLaws.{swept_start, swept_idle, swept_taken, swept_done}
use Rattle.search.proofs.rounds.one_round.Goals as goal
use Rattle.search.proofs.rounds.one_round.Goals.{in-Some, in_default}

pub loop-i-init : goal.loop-i-init
loop-i-init c = (c.requires.good, omega arith, (λ w g. swept_start c.args.library c.args.taken.now w g), c.requires.candidates)

pub loop-i-preserved-then-not-candidates-i : goal.loop-i-preserved-then-not-candidates-i
loop-i-preserved-then-not-candidates-i c =
    let l = c.args.library in
    let i = c.loop-i.invariant in
    let b = c.loop-i-test.true in (
      i.0,
      omega (arith, i.1),
      (λ w g. swept_idle l (i.2 w g) b (λ v a. settled_left _ (not_taken (module_of l c.loop-i.i) (λ z. i.3.unneeded z c.loop-i.i b c.if-not-candidates-i.true) v a)) (λ v a. a)),
      i.3,
    )

pub visit_module-requires-clause-candidates : goal.visit_module-requires-clause-candidates
visit_module-requires-clause-candidates c = c.loop-i.invariant.3

pub visit_module-requires-clause-good : goal.visit_module-requires-clause-good
visit_module-requires-clause-good c = c.loop-i.invariant.0

pub overflow_add-round : goal.overflow_add-round
overflow_add-round c = omega (arith, c.loop-i.invariant.1, c.requires.library_sound.short)

pub loop-i-preserved : goal.loop-i-preserved
loop-i-preserved c =
    let l = c.args.library in
    let i = c.loop-i.invariant in
    let b = c.loop-i-test.true in
    elim c.match-visit_module.branch [
      | in-Some d ↦ let v = d.in-Some.ensures in rw (d.taken-is, d.round-is) ((v.visited.good, v.ordered), omega (arith, i.1), (λ w g. swept_taken l (i.2 w g) b (omega (arith, b, c.requires.library_sound.short, c.match-visit_module.array_long, ap length d.taken-is, length-set c.loop-i.taken c.loop-i.i true)) v.visited), v.candidates)
      | in_default d ↦ let v = d.in_default.ensures in rw (d.taken-is, d.round-is) ((v.visited.good, v.ordered), omega (arith, i.1), (λ w g. swept_idle l (i.2 w g) b (λ u a. (v.visited.does u a).0) (λ u a. (v.visited.does u a).1)), v.candidates)
    ]

pub returns-clause-rounded : goal.returns-clause-rounded
returns-clause-rounded c =
    let i = c.loop-i.invariant in
    record { good = i.0.0; does = λ w g. swept_done c.args.library (i.2 w g) c.loop-i-test.false }

pub returns-clause-candidates : goal.returns-clause-candidates
returns-clause-candidates c = c.loop-i.invariant.3

pub returns-clause-ordered : goal.returns-clause-ordered
returns-clause-ordered c = c.loop-i.invariant.0.1
