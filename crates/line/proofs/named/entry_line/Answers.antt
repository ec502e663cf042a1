-- `line::named::entry_line` meets its contract: field after field, by the type.
-- Assumes nothing.
use native.Mathlib.Omega.{arith}
use borrow.Author.Rules.{rules}
use Rattle.line.proofs.NamedLaws.{type_most, name_wrong, value_wrong, type_wrong, absolute_many, absolute_says, parameters_wrong, relocated_many, relocated_says}
use Rattle.line.proofs.named.entry_line.Goals as goal

pub returns-in_err-name : goal.returns-in_err-name
returns-in_err-name c = search (rules, name_wrong c.in_err-name.ensures)

pub returns-in_err-value : goal.returns-in_err-value
returns-in_err-value c = search (rules, value_wrong c.in_ok-name.ensures c.in_err-value.ensures)

pub returns-in_err-kind : goal.returns-in_err-kind
returns-in_err-kind c = search (rules, type_wrong c.in_ok-name.ensures c.in_ok-value.ensures c.in_err-kind.ensures)

pub returns-in_err-no_more : goal.returns-in_err-no_more
returns-in_err-no_more c =
    search (rules, absolute_many c.in_ok-name.ensures c.in_ok-value.ensures c.in_ok-kind.ensures c.in_err-no_more.ensures (omega (arith, c.if-kind-eq0.true)))

pub returns-then-kind-eq0 : goal.returns-then-kind-eq0
returns-then-kind-eq0 c =
    absolute_says c.in_ok-name.ensures c.in_ok-value.ensures c.in_ok-kind.ensures c.in_ok-no_more.ensures (omega (arith, c.if-kind-eq0.true))

pub returns-in_err-parameters : goal.returns-in_err-parameters
returns-in_err-parameters c =
    search (rules, parameters_wrong c.in_ok-name.ensures c.in_ok-value.ensures c.in_ok-kind.ensures c.in_err-parameters.ensures (omega (arith, c.if-kind-eq0.false, type_most c.in_ok-kind.ensures)))

pub returns-in_err-no_more-2 : goal.returns-in_err-no_more-2
returns-in_err-no_more-2 c =
    search (rules, relocated_many c.in_ok-name.ensures c.in_ok-value.ensures c.in_ok-kind.ensures c.in_ok-parameters.ensures c.in_err-no_more-2.ensures (omega (arith, c.if-kind-eq0.false, type_most c.in_ok-kind.ensures)))

pub returns : goal.returns
returns c =
    relocated_says c.in_ok-name.ensures c.in_ok-value.ensures c.in_ok-kind.ensures c.in_ok-parameters.ensures c.in_ok-no_more-2.ensures (omega (arith, c.if-kind-eq0.false, type_most c.in_ok-kind.ensures))
