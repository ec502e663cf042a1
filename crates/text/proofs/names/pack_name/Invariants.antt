use Rattle.text.proofs.NameLaws.{Packed}
use Rattle.text.proofs.names.pack_name.Given as goal

abbrev pub invariant-loop-k : goal.invariant-loop-k
invariant-loop-k l = Packed l.field l.k l.name
