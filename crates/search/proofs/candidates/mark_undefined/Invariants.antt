use Rattle.std.proofs.Common.{◌≤◌, length}
use Rattle.state.specs.Layout.{decode}
use Rattle.search.proofs.CandidateLaws.{MarkedFrom}
use Rattle.search.proofs.candidates.mark_undefined.Given as goal

abbrev pub invariant-loop-j : goal.invariant-loop-j
invariant-loop-j l =
    let t = (decode l.state).symbols in
    (l.j ≤ length t) × MarkedFrom l.library.tables.parts.now l.library.index.now t l.initial.candidates l.j l.candidates
