-- What each pass that changes the state does to it, and what it says of that.
use Rattle.std.specs.Prelude.{ℕ, ◌+◌, ◌-◌, ◌≤◌, ◌<◌, false, cond, List, [], ◌∷◌, ◌++◌, map, ◌≡◌, length, get_or, set, take, leb, ltb, Result, is_ok, is_err, IfOk, IfErr, OnOk, IsOkUnless}
use Rattle.rules.specs.Text.{any}
use Rattle.rules.specs.Reading.{Module}
use Rattle.rules.specs.State.{Symbol, position_of, Word, plain, refers, State}
use Rattle.rules.specs.Placing.{Code, entry_name, define_all, mention, mention_all, placing_fault, placed}
use Rattle.rules.specs.Calls.{with_symbols}
use Rattle.rules.proofs.OverlapLaws.{clash}
use Rattle.rules.specs.declared.line.Entry.{Entry}
use Rattle.rules.specs.declared.line.Relocation.{Relocation}
use Rattle.rules.specs.declared.line.Relocation.TheVariants.{Plain, External, Unread}
use Rattle.state.specs.Layout.{decode}
use Rattle.state.specs.Good.{Good, with_words}
use Rattle.placing.specs.Passes.{bad_code, repeated}
use Rattle.rules.specs.Answers.{reason_number, answer_number}
use Rattle.rules.specs.declared.answer.Reason.{Reason}
use Rattle.rules.specs.declared.answer.Reason.TheVariants.{Overlap, Table}

-- ---- words: first all of them without their references, then the references

unfoldable pub plain_all : ℕ → List Code → List Word → List Word
plain_all base [] ws = ws
plain_all base (c ∷ cs) ws = plain_all base cs (set ws (base + c.address) (plain c.word.text))

abbrev pub laid : ℕ → List Code → State → State
laid base cs s = with_words (plain_all base cs s.words) s

-- the words are put, unless one of them is placed already
pub record Laid (base : ℕ) (cs : List Code) (s : State) (r : Result (Unit {0}) Reason) (after : List ℕ) : Type 0 where
  pub clash_is : is_err r ≡ clash base cs s.words
  pub reason : IsOkUnless r Overlap
  pub good : Good after
  pub table_is : (decode after).symbols ≡ s.symbols
  pub done : OnOk r (decode after ≡ laid base cs s)

-- on the way: what the rest comes to from here is what the whole comes to from the start
pub record Laying (base : ℕ) (whole : List Code) (s₀ : State) (rest : List Code) (s : State) : Type 0 where
  pub clash_is : clash base rest s.words ≡ clash base whole s₀.words
  pub laid_is : laid base rest s ≡ laid base whole s₀

-- a word that refers to external k is put again, with the position that stands for k
unfoldable pub relink : List ℕ → ℕ → ℕ → Relocation → List Word → List Word
relink at address text Plain ws = ws
relink at address text (External k) ws = set ws address (refers text (get_or at (k - 1) 0))
relink at address text (Unread type) ws = ws

unfoldable pub link_at : ℕ → List ℕ → List Code → List Word → List Word
link_at base at [] ws = ws
link_at base at (c ∷ cs) ws = link_at base at cs (relink at (base + c.address) c.word.text c.word.relocation ws)

abbrev pub relinked : ℕ → List ℕ → List Code → State → State
relinked base at cs s = with_words (link_at base at cs s.words) s

-- every external number is one of the n externals', and the n positions are of symbols of the table
pub record Linkable (n : ℕ) (cs : List Code) (at : List ℕ) (s : State) : Type 0 where
  pub few : n ≤ 64
  pub arguments : any (bad_code n) cs ≡ false
  pub there : (k : ℕ) → k < n → get_or at k 0 < length s.symbols

-- on the way
pub record Linking (base n : ℕ) (at : List ℕ) (whole : List Code) (s₀ : State) (rest : List Code) (s : State) : Type 0 where
  pub relinked_is : relinked base at rest s ≡ relinked base at whole s₀
  pub table_is : s.symbols ≡ s₀.symbols
  pub arguments : any (bad_code n) rest ≡ false

-- ---- entries

abbrev pub entered : ℕ → List Entry → State → State
entered base es s = with_symbols (define_all base es s.symbols) s

-- 13 where a name is a second one, 14 where the table has no room for the entries
abbrev pub entering_fault : ℕ → List Entry → State → ℕ
entering_fault base es s =
    cond (repeated s.symbols (map entry_name es)) 13 (cond (ltb 256 (length (define_all base es s.symbols))) 14 0)

pub record Entered (base : ℕ) (es : List Entry) (s : State) (r : Result (Unit {0}) Reason) (after : List ℕ) : Type 0 where
  pub number : answer_number r ≡ entering_fault base es s
  pub good : Good after
  pub done : OnOk r (decode after ≡ entered base es s)

-- on the way
pub record Entering (base : ℕ) (whole : List Entry) (s₀ : State) (rest : List Entry) (s : State) : Type 0 where
  pub number : entering_fault base rest s ≡ entering_fault base whole s₀
  pub entered_is : entered base rest s ≡ entered base whole s₀

-- the first part of a list is entered: with a fault that is the whole list's, or the rest says what the whole list said
pub record EnteredPart (base : ℕ) (whole : List Entry) (s : State) (rest : List Entry) (r : Result (Unit {0}) Reason) (after : List ℕ) : Type 0 where
  pub good : Good after
  pub stopped : IfErr r (λ e. reason_number e ≡ entering_fault base whole s)
  pub on : OnOk r (Entering base whole s rest (decode after))

-- ---- externals

abbrev pub mentioned : List ℕ → State → State
mentioned xs s = with_symbols (mention_all xs s.symbols) s

-- the position of each external as it joins
unfoldable pub positions_of : List ℕ → List Symbol → List ℕ
positions_of [] t = []
positions_of (x ∷ xs) t = position_of x t ∷ positions_of xs (mention x t)

-- where the table has room for all of them: the position of each
pub record Mentioned (xs : List ℕ) (s : State) (r : Result (List ℕ) Reason) (after : List ℕ) : Type 0 where
  pub room_is : is_ok r ≡ leb (length (mention_all xs s.symbols)) 256
  pub full : IsOkUnless r Table
  pub good : Good after
  pub done : OnOk r (decode after ≡ mentioned xs s)
  pub positions : IfOk r (λ at. take (length xs) at ≡ positions_of xs s.symbols)

-- on the way, with the positions of the first n externals
pub record Mentioning (whole : List ℕ) (s₀ : State) (n : ℕ) (at : List ℕ) (rest : List ℕ) (s : State) : Type 0 where
  pub long : length at ≡ 64
  pub count : n + length rest ≡ length whole
  pub positions : take n at ++ positions_of rest s.symbols ≡ positions_of whole s₀.symbols
  pub mentioned_is : mentioned rest s ≡ mentioned whole s₀

-- ---- a module

-- a module was tried: its fault, and its effect where there is none
pub record Tried (s : State) (m : Module) (r : ℕ) (after : List ℕ) : Type 0 where
  pub number : r ≡ placing_fault s m
  pub most : r ≤ 14
  pub good : Good after
  pub done : r ≡ 0 → decode after ≡ placed s m
