-- `runs::fields::name_end` meets its contract: characters one by one, at most six; the first is no digit.
use Prim.Native.Nat.{ℕ, ◌+◌}
use native.Mathlib.Omega.{arith}
use mathlib.Core.Path.{◌≡◌, sym, subst, ◌∙◌}
use lib.Dec.{ltb}
use borrow.Author.Rules.{rules}
use borrow.Author.Tests.{ltb-true}
use Rattle.rules.specs.Text.{is_name_character, is_name}
use Rattle.runs.specs.Runs.{IsField}
use Rattle.runs.proofs.StretchLaws.{stretch_none, stretch_more, name_found, IfSome-from_then_some}
use Rattle.runs.proofs.fields.name_end.Goals as goal

pub loop-n-init : goal.loop-n-init
loop-n-init c = stretch_none is_name_character _ _ (search rules)

pub returns-then-not-is_name_character : goal.returns-then-not-is_name_character
returns-then-not-is_name_character c =
    IfSome-from_then_some (IsField is_name c.args.file.now c.args.i) (ltb 0 c.loop-n.n) (c.args.i + c.loop-n.n) c.then_some.ensures
    (λ t. name_found c.loop-n.invariant (omega (arith, ltb-true 0 c.loop-n.n t)) (search rules) (search rules))

pub loop-n-preserved : goal.loop-n-preserved
loop-n-preserved c = stretch_more is_name_character _ _ _ c.loop-n.invariant (search rules) (sym c.is_name_character.ensures ∙ c.if-not-is_name_character.false)

pub returns : goal.returns
returns c =
    let all : c.loop-n.n ≡ 6 = search rules in
    subst (λ (n : ℕ). IsField is_name c.args.file.now c.args.i (c.args.i + n)) all
    (name_found c.loop-n.invariant (search rules) (search rules) (search rules))
