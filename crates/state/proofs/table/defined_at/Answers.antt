use Rattle.state.proofs.TableLaws.{stands_there, stands_absent}
use Rattle.state.proofs.table.defined_at.Goals as goal

pub returns-then-i-state : goal.returns-then-i-state
returns-then-i-state c = λ x p. stands_there c.requires p c.if-i-state.true

pub returns : goal.returns
returns c = λ x p. stands_absent c.requires p c.if-i-state.false
