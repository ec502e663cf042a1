use Rattle.std.proofs.lemmas.List.{take_all, length-take-le}
use mathlib.Core.Path.{sym, ◌∙◌}
use native.Mathlib.Omega.{arith}
use Rattle.loading.proofs.copy.Goals as goal

pub slice_bounds-copy_from_slice-end-2 : goal.slice_bounds-copy_from_slice-end-2
slice_bounds-copy_from_slice-end-2 c = sym (length-take-le 8708 c.args.source.now (omega (arith, c.requires)))

pub returns : goal.returns
returns c = c.copy_from_slice.ensures.after ∙ take_all 8708 c.args.source.now (omega (arith, c.requires))
