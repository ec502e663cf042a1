-- `line::fitting::fit` meets its contract: at each field what is left decides.
-- Assumes nothing.
use mathlib.Core.Path.{refl}
use Rattle.line.proofs.FitLaws.{kept_start, kept_wrong, kept_step, kept_many, kept_end}
use borrow.Author.Rules.{rules}
use Rattle.line.proofs.fitting.fit.Goals as goal

pub loop-k-init : goal.loop-k-init
loop-k-init c = kept_start _ _ _ _ refl refl

pub returns-in_err-field : goal.returns-in_err-field
returns-in_err-field c = search (rules, kept_wrong c.loop-k.invariant _ (search rules) c.in_err-field.ensures)

pub loop-k-preserved : goal.loop-k-preserved
loop-k-preserved c = kept_step c.loop-k.invariant _ (search rules) _ _ (search rules) c.in_ok-field.ensures

pub returns-in_err-no_more : goal.returns-in_err-no_more
returns-in_err-no_more c = search (rules, kept_many c.loop-k.invariant (search rules) c.in_err-no_more.ensures)

pub returns : goal.returns
returns c = kept_end c.loop-k.invariant (search rules) (search rules) c.in_ok-no_more.ensures
