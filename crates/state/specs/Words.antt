-- How the functions on program words say what they found.
use Rattle.std.specs.Prelude.{ℕ, ◌≤◌, ◌<◌, Bool, true, false, not, ◌==◌, List, [], Option, Some, None, MatchOption, EachIndex, slice_index, ⊤, ◌≡◌, length, get_or}
use Rattle.std.specs.List.{fold}
use Rattle.std.specs.Int.Bits.{bit_or}
use Rattle.rules.specs.State.{Word, unplaced, plain, refers, State}
use Rattle.state.specs.declared.words.Placed.{Placed}
use Rattle.state.specs.declared.words.Placed.TheVariants.{Plain, Refers}

-- a word's tag, if it is placed
abbrev pub tag_of : Word → Option Placed
tag_of unplaced = None
tag_of (plain x) = Some Plain
tag_of (refers x i) = Some (Refers i)

-- what a tag refers to is one of n symbols
abbrev pub WithinTable : ℕ → Option Placed → Type 0
WithinTable n None = ⊤
WithinTable n (Some Plain) = ⊤
WithinTable n (Some (Refers i)) = i < n

pub record Tagged (s : State) (address : ℕ) (r : Option Placed) : Type 0 where
  pub is : r ≡ tag_of (get_or s.words address unplaced)
  pub inside : WithinTable (length s.symbols) r

-- where the last of these tags stands that passes a test
abbrev pub LastOf : (ℕ → Bool) → List ℕ → Option ℕ → Type 0
LastOf test tags r =
    MatchOption r (EachIndex tags (λ k. test (slice_index tags k) ≡ false))
    (λ i. (i < length tags) × (test (slice_index tags i) ≡ true) × ((k : ℕ) → i < k → k < length tags → test (slice_index tags k) ≡ false))

-- which of these eights of tags is the last that holds a placed word
abbrev pub holds_word : List ℕ → Bool
holds_word eight = not (fold bit_or 0 eight == 0)

abbrev pub LastEight : List (List ℕ) → Option ℕ → Type 0
LastEight eights r =
    MatchOption r (EachIndex eights (λ k. holds_word (get_or eights k []) ≡ false))
    (λ i. (i < length eights) × ((k : ℕ) → i < k → k < length eights → holds_word (get_or eights k []) ≡ false))

-- no word is placed where one of these tags stands from n on
pub record UnplacedFrom (tags : List ℕ) (n : ℕ) : Type 0 where
  pub within : n ≤ length tags
  pub none : (k : ℕ) → n ≤ k → k < length tags → slice_index tags k ≡ 0
