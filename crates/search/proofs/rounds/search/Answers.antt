use Rattle.std.proofs.Common.{arith}
use Rattle.rules.proofs.SearchLaws.{count_most}
use Rattle.search.specs.Libraries.{modules_of}
use Rattle.search.specs.Searching.{set_of}
use Rattle.search.proofs.SeekLaws.{length_modules, round_counts, seek_start, seek_next, seek_rounds, seek_agrees}
use Rattle.search.proofs.rounds.search.Goals as goal

pub loop-took-init : goal.loop-took-init
loop-took-init c = (c.requires.good, omega arith, (λ w g. seek_start (modules_of c.args.library) 256 w g), c.first_candidates.ensures)

pub overflow_add-rounds : goal.overflow_add-rounds
overflow_add-rounds c = omega (arith, c.loop-took.invariant.1, count_most (set_of c.loop-took.taken) c.args.library.section.count, c.requires.library_sound.short)

pub loop-took-smaller : goal.loop-took-smaller
loop-took-smaller c =
    let l = c.args.library in
    let more = round_counts (length_modules l.tables.parts.now l.tables.rows.now l.section.first l.section.count) c.one_round-round.ensures.rounded in
    let most = count_most (set_of c.one_round-round.new.taken) l.section.count in
    omega (arith, more, most, c.loop-took-test.true)

pub loop-took-preserved : goal.loop-took-preserved
loop-took-preserved c =
    let l = c.args.library in
    let i = c.loop-took.invariant in
    let q = c.one_round-round.ensures in
    let t = c.loop-took-test.true in
    let more = round_counts (length_modules l.tables.parts.now l.tables.rows.now l.section.first l.section.count) q.rounded in
    ((q.rounded.good, q.ordered), omega (arith, more, i.1, t), (λ w g. seek_next (modules_of l) (i.2 w g) t q.rounded), q.candidates)

pub returns-clause-sought : goal.returns-clause-sought
returns-clause-sought c =
    let l = c.args.library in
    let i = c.loop-took.invariant in
    let e = c.loop-took-test.false in
    record {
      good = i.0.0;
      most = omega (arith, i.1, count_most (set_of c.loop-took.taken) l.section.count, c.requires.library_sound.short);
      rounds_is = λ w g. seek_rounds (modules_of l) (i.2 w g) e;
      agrees = λ w g. seek_agrees (modules_of l) (i.2 w g) e;
    }
