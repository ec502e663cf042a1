-- `runs::fields::number_at` meets its contract: digits one by one, at most six; of six the first tells a number.
use Prim.Native.Nat.{ℕ, ◌+◌}
use native.Mathlib.Omega.{arith}
use mathlib.Core.Path.{◌≡◌, sym, subst, ◌∙◌}
use lib.Dec.{ltb}
use borrow.Author.Rules.{rules}
use borrow.Author.Tests.{ltb-true}
use Rattle.rules.specs.Text.{is_octal, is_number}
use Rattle.runs.specs.Runs.{IsField}
use Rattle.runs.proofs.StretchLaws.{stretch_none, stretch_more, number_found, IfSome-from_then_some}
use Rattle.runs.proofs.fields.number_at.Goals as goal

pub loop-n-init : goal.loop-n-init
loop-n-init c = stretch_none is_octal _ _ (omega (arith, c.requires))

pub returns-then-not-is_octal-clause-field : goal.returns-then-not-is_octal-clause-field
returns-then-not-is_octal-clause-field c =
    IfSome-from_then_some (IsField is_number c.args.file.now c.args.i) (ltb 0 c.loop-n.n) (c.args.i + c.loop-n.n) c.then_some.ensures
    (λ t. number_found c.loop-n.invariant (omega (arith, ltb-true 0 c.loop-n.n t)) (search rules) (λ six. absurd (search rules)))

pub loop-n-preserved : goal.loop-n-preserved
loop-n-preserved c = stretch_more is_octal _ _ _ c.loop-n.invariant (search rules) (sym c.is_octal.ensures ∙ c.if-not-is_octal.false)

pub returns-clause-field : goal.returns-clause-field
returns-clause-field c =
    let all : c.loop-n.n ≡ 6 = search rules in
    subst (λ (n : ℕ). IsField is_number c.args.file.now c.args.i (c.args.i + n)) all
    (number_found c.loop-n.invariant (search rules) (search rules) (λ six. search rules))
