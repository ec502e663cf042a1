-- `text::numbers::field_number` meets its contract: digits with a field's end behind them are the field.
-- Assumes nothing.
use Rattle.std.proofs.Common.{◌≡◌, arith, get_or, rules}
use Rattle.text.proofs.ScanLaws.{in_line}
use Rattle.text.proofs.NumberLaws.{line_ends, space_ends}
use Rattle.text.proofs.numbers.field_number.Goals as goal
use Rattle.text.proofs.numbers.field_number.Goals.{then-end-line, else-end-line}

pub returns : goal.returns
returns c =
    elim c.if-end-line.branch [
      | then-end-line w ↦
          let space : get_or c.args.line.now c.digits-run.result.end 0 ≡ 32 = search rules in
          space_ends (in_line _ _ c.requires) c.digits-run.ensures c.if-end-at.false (λ e. omega arith) space c.as_number.ensures
      | else-end-line w ↦
          line_ends (in_line _ _ c.requires) c.digits-run.ensures c.if-end-at.false (omega (arith, c.digits-run.ensures.to)) c.as_number.ensures
    ]
