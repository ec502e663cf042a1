use Rattle.usual.proofs.WordLaws.{Front}
use Rattle.usual.proofs.plain_word.Given as goal

abbrev pub invariant-loop-k : goal.invariant-loop-k
invariant-loop-k l = Front l.at l.file l.text l.i l.k
