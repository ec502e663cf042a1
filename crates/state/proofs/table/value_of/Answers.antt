use Rattle.state.proofs.SymbolLaws.{value_is, value_fits}
use mathlib.Core.Path.{sym, ◌∙◌}
use native.Mathlib.Omega.{arith}
use Rattle.state.proofs.table.value_of.Goals as goal

pub overflow_cast-result : goal.overflow_cast-result
overflow_cast-result c = omega (arith, value_fits c.requires.good c.args.i c.requires.i_in_bounds, c.saturating_sub.ensures)

pub returns : goal.returns
returns c = c.saturating_sub.ensures ∙ sym (value_is c.requires.good c.args.i c.requires.i_in_bounds)
