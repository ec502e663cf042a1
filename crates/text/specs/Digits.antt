-- A field that is read as a number in one pass.
use Rattle.std.specs.Prelude.{ℕ, ◌+◌, ◌≤◌, ◌<◌, true, false, List, ◌≡◌, length, get_or}
use Rattle.rules.specs.Limits.{most_digits}
use Rattle.rules.specs.Text.{space, all, is_octal, octal, number_of}
use Rattle.text.specs.Scan.{part, past, is_not}
use Rattle.text.specs.FieldBounds.{field_start, field_stop}
use Rattle.text.specs.Values.{value_in}
use Rattle.text.specs.declared.numbers.DigitRun.{DigitRun}
use Rattle.text.specs.declared.numbers.NumberField.{NumberField}

-- r is the run of digits from `at` on, or its first six; none of them ends a field
pub record DigitsRead (at stop : ℕ) (file : List ℕ) (r : DigitRun) : Type 0 where
  pub from : at ≤ r.end
  pub to : r.end ≤ stop
  pub few : r.end ≤ at + most_digits
  pub digits : all is_octal (part at r.end file) ≡ true
  pub value : r.value ≡ octal 0 (part at r.end file)
  pub stops : r.end < stop → r.end < at + most_digits → is_octal (get_or file r.end 0) ≡ false
  pub field : past (is_not space) r.end stop file ≡ past (is_not space) at stop file

-- the bytes of the next field
abbrev pub field_text : ℕ → ℕ → List ℕ → List ℕ
field_text at stop file = part (field_start at stop file) (field_stop at stop file) file

-- r is the next field as a number, and how far the field reaches from `at` on
pub record FieldRead (at stop : ℕ) (file : List ℕ) (r : NumberField) : Type 0 where
  pub is : value_in r.number ≡ number_of (field_text at stop file)
  pub ends : r.end ≡ at + length (field_text at stop file)
