-- What a field reads as: a number, a name, or neither.
use Rattle.std.specs.Prelude.{ℕ, cond, leb, Some, None, Option as Answer}
use Rattle.std.proofs.Math.Option.{Option, none, some}
use Rattle.rules.specs.Limits.{largest_number}

-- what a function answers, as an option of the rules: the number or the packed name, where the field is one
abbrev pub value_in : Answer ℕ → Option ℕ
value_in (Some v) = some v
value_in None = none

-- a value as a number, where it is at most 177777
abbrev pub small : ℕ → Option ℕ
small v = cond (leb v largest_number) (some v) none
