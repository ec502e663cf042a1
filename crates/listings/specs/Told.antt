-- What SYMBOLS and UNDEFINED answer, by what was found.
use Rattle.std.specs.Prelude.{ℕ, Option, Some, None, Result, Ok, Err, is_some}
use Rattle.std.specs.Prelude.{unwrap_or}
use Rattle.rules.specs.Answers.{DONE, reason_number}
use Rattle.rules.specs.Calls.{bit, symbol_none, undefined_none}
use Rattle.rules.specs.declared.answer.Reason.{Reason}
use Rattle.rules.specs.declared.answer.SymbolAnswer.{SymbolAnswer}
use Rattle.rules.specs.declared.answer.UndefinedAnswer.{UndefinedAnswer}
use Rattle.state.specs.declared.table.Listed.{Listed}

abbrev pub symbol_told : Result (Option Listed) Reason → SymbolAnswer
symbol_told (Ok (Some s)) =
    record { number = DONE; line = 0; none = 0; name = s.name; value = unwrap_or s.value 0; defined = bit (is_some s.value) }
symbol_told (Ok None) = symbol_none DONE 1
symbol_told (Err e) = symbol_none (reason_number e) 0

abbrev pub undefined_told : Result (Option (Listed × ℕ)) Reason → UndefinedAnswer
undefined_told (Ok (Some f)) =
    record { number = DONE; line = 0; none = 0; name = f.0.name; value = unwrap_or f.0.value 0; defined = bit (is_some f.0.value); highest = f.1 }
undefined_told (Ok None) = undefined_none DONE 1
undefined_told (Err e) = undefined_none (reason_number e) 0
