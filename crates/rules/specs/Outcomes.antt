-- What the calls answer, by the outcomes of the code that makes them.
use Rattle.std.specs.Prelude.{ℕ, Result, Ok, Err}
use Rattle.rules.specs.Answers.{DONE, reason_number}
use Rattle.rules.specs.Calls.{load_answer, memory_answer, end_answer}
use Rattle.rules.specs.Feed.{feed_answer, advised}
use Rattle.rules.specs.Reading.{Reading}
use Rattle.rules.specs.declared.answer.Reason.{Reason}
use Rattle.rules.specs.declared.answer.FeedAnswer.{FeedAnswer}
use Rattle.rules.specs.declared.answer.LoadAnswer.{LoadAnswer}
use Rattle.rules.specs.declared.answer.MemoryAnswer.{MemoryAnswer}
use Rattle.rules.specs.declared.answer.EndAnswer.{EndAnswer}
use Rattle.rules.specs.declared.outcome.LoadFault.{LoadFault}

abbrev pub memory_told : Result ℕ Reason → MemoryAnswer
memory_told (Ok high) = memory_answer DONE high
memory_told (Err e) = memory_answer (reason_number e) 0

abbrev pub end_told : Result ℕ Reason → EndAnswer
end_told (Ok length) = end_answer DONE length
end_told (Err e) = end_answer (reason_number e) 0

abbrev pub load_fault : ℕ → ℕ → ℕ → LoadFault
load_fault k n c = record { number = k; line = n; column = c }

abbrev pub load_told : Result ℕ LoadFault → LoadAnswer
load_told (Ok rounds) = load_answer DONE 0 0 rounds
load_told (Err f) = load_answer f.number f.line f.column 0

-- a piece's advice
abbrev pub piece_told : Result Reading Reason → FeedAnswer
piece_told (Ok r) = advised r
piece_told (Err e) = feed_answer (reason_number e) 0 0 0
