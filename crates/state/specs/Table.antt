-- How the functions on the table of symbols say what they did.
use Rattle.std.specs.Prelude.{ℕ, ◌+◌, ◌-◌, ◌≤◌, ◌<◌, Bool, true, false, cond, not, ◌&&◌, List, [], ◌∷◌, Option, Result, MatchOption, MatchResult, IsOkUnless, ◌≡◌, length, eqb, leb, is_ok}
use Rattle.rules.specs.State.{Symbol, symbol, State, is_defined, is_undefined, position_of}
use Rattle.rules.specs.Placing.{mention}
use Rattle.rules.specs.Calls.{with_symbols, bit}
use Rattle.rules.specs.declared.answer.Reason.{Reason}
use Rattle.rules.specs.declared.answer.Reason.TheVariants.{Table}
use Rattle.state.specs.Good.{Holds}
use Rattle.state.specs.declared.table.Listed.{Listed}

-- a name's position in the table, its length where there is none
pub record Position (x : ℕ) (t : List Symbol) (r : ℕ) : Type 0 where
  pub most : r ≤ length t
  pub is : r ≡ position_of x t

-- how a name stands in the table: nowhere, or as a symbol that is defined or not
abbrev pub Stands : ℕ → List Symbol → Option Bool → Type 0
Stands x t r =
    MatchOption r ((is_defined x t ≡ false) × (is_undefined x t ≡ false)) (λ d. (is_defined x t ≡ d) × (is_undefined x t ≡ not d))

-- the table t takes the position of the state's, if it has room for it; the answer says whether it had
pub record Joined {A : Type 0} (t : List Symbol) (s : State) (r : Result A Reason) (after : List ℕ) : Type 0 where
  pub room : is_ok r ≡ leb (length t) 256
  pub full : IsOkUnless r Table
  pub holds : Holds after (cond (leb (length t) 256) (with_symbols t s) s)

-- an external is mentioned, and stands at the position that is answered; where the table had no room it would stand at 256
pub record MentionedAt (x : ℕ) (s : State) (r : Result ℕ Reason) (after : List ℕ) : Type 0 where
  pub at : MatchResult r (λ p. (p < 256) × (p ≡ position_of x s.symbols)) (λ _. 256 ≡ position_of x s.symbols)
  pub joined : Joined (mention x s.symbols) s r after

-- a symbol as SYMBOLS and UNDEFINED tell it: its value, 0 where it is undefined
pub record Listing (s : Symbol) (r : Listed) : Type 0 where
  pub name : r.name ≡ s.name
  pub value : MatchOption r.value ((s.defined ≡ false) × (s.value ≡ 0)) (λ v. (s.defined ≡ true) × (v ≡ s.value))

-- no symbol
abbrev pub no_symbol : Symbol
no_symbol = symbol 0 0 false

-- the position in the table of the k-th undefined symbol, the table's length where there is none
unfoldable pub undefined_position : ℕ → List Symbol → ℕ
undefined_position k [] = 0
undefined_position k (s ∷ t) =
    let rest = undefined_position (k - bit (not s.defined)) t in
    cond (not s.defined && eqb k 0) 0 (rest + 1)

-- that position, if there is one
abbrev pub UndefinedAt : ℕ → List Symbol → Option ℕ → Type 0
UndefinedAt k t r =
    MatchOption r (undefined_position k t ≡ length t) (λ i. (i < length t) × (i ≡ undefined_position k t))
