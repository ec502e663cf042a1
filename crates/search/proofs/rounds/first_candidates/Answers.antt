use Rattle.search.proofs.CandidateLaws.{candidates_start}
use Rattle.search.proofs.rounds.first_candidates.Goals as goal

pub returns-then-refusal-eq-DONE : goal.returns-then-refusal-eq-DONE
returns-then-refusal-eq-DONE c = candidates_start c.args.library (c.requires.owns c.if-refusal-eq-DONE.true) c.mark_undefined.ensures
