-- `text::numbers::digits` meets its contract: at each digit what is left decides. Six digits fit a u32.
-- Assumes nothing.
use Rattle.std.proofs.Common.{◌≡◌, arith}
use mathlib.Core.Logic.{⊎_elim}
use borrow.Author.Rules.{rules}
use Rattle.text.proofs.ScanLaws.{in_line, between_low, between_high}
use Rattle.text.proofs.NumberLaws.{run_start, run_room, run_step, run_end}
use Rattle.text.proofs.numbers.digits.Goals as goal

pub loop-i-init : goal.loop-i-init
loop-i-init c = run_start _ _ _ (in_line _ _ c.requires)

pub returns-then-digit-lt48 : goal.returns-then-digit-lt48
returns-then-digit-lt48 c =
    run_end c.loop-i.invariant
    (λ h g. ⊎_elim (λ low. between_low 48 55 _ low) (λ high. between_high 48 55 _ high.1) c.then-digit-lt48.either)

pub overflow_mul-value : goal.overflow_mul-value
overflow_mul-value c = omega (arith, run_room c.loop-i.invariant)

pub overflow_add-value : goal.overflow_add-value
overflow_add-value c = omega (arith, run_room c.loop-i.invariant)

pub loop-i-preserved : goal.loop-i-preserved
loop-i-preserved c =
    rw c.from.ensures
    (run_step c.loop-i.invariant (search rules) (search rules) c.if-digit-lt48.false c.if-digit-gt55.false)

pub returns : goal.returns
returns c =
    let last : c.loop-i.i ≡ c.min-most.result = omega arith in
    rw (← last) (run_end c.loop-i.invariant (λ h g. absurd (omega (arith, c.min-most.ensures, c.loop-i-test.false))))
