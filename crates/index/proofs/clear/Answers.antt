use native.Mathlib.Omega.{arith}
use Prim.Native.Nat.{ℕ}
use mathlib.Core.Path.{◌≡◌, ap, ◌∙◌}
use lib.ListN.{length, take, length-take}
use Rattle.std.specs.Prelude.{replicate}
use Rattle.index.proofs.EnterLaws.{cleared}
use Rattle.index.proofs.clear.Goals as goal

pub returns : goal.returns
returns c =
    let front : length (take 2048 c.args.index.now) ≡ 2048 = omega (arith, length-take 2048 c.args.index.now, c.told-index) in
    let told : c.fill.new.self ≡ replicate 2048 0 = c.fill.ensures.after (λ y e. e) ∙ ap (λ (n : ℕ). replicate n 0) front in
    cleared _ _ told c.told-index
