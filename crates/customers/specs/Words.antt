-- The customers' contracts, in the user's words.
use Rattle.std.specs.Prelude.{ℕ, ◌+◌, ◌*◌, ◌≤◌, ◌<◌, true, false, not, List, [], ◌∷◌, ◌++◌, ◌≢◌, ◌≡◌, length, get_or, take, replicate, eqb}
use Rattle.std.proofs.Math.Option.{some}
use Rattle.rules.specs.Limits.{longest_file, work_size}
use Rattle.rules.specs.Text.{lines_of, is_letter_or_digit, is_name, pack_name}
use Rattle.rules.specs.Answers.{is_line_fault}
use Rattle.rules.specs.Faults.{fault_number, faults_of, leftmost}
use Rattle.rules.specs.Reading.{Module, section, unread as nothing_read, read_lines, reading_of, items_of, Complete, Stopped}
use Rattle.rules.specs.State.{State, state, unmarked, no_words, placed_words}
use Rattle.rules.specs.Lookup.{name_at}
use Rattle.rules.specs.Load.{progress, walking, searched, walk_from, taken_in, sections_in}
use Rattle.rules.specs.Image.{image_of}
use Rattle.rules.specs.Calls.{holding, work_after, load_answer, load_over, call_answer, symbol_at}
use Rattle.rules.specs.Demand.{LeastSufficient}
use Rattle.rules.specs.History.{resetting, loading, ending, of_call, of_load, of_end, work_fits}
use Rattle.rules.specs.declared.line.Fault.{Fault}
use Rattle.rules.specs.declared.answer.LoadAnswer.{LoadAnswer}
use Rattle.rules.specs.declared.answer.CallAnswer.{CallAnswer}
use Rattle.rules.specs.declared.answer.SymbolAnswer.{SymbolAnswer}
use Rattle.rules.specs.declared.answer.UndefinedAnswer.{UndefinedAnswer}
use Rattle.rules.specs.declared.answer.EndAnswer.{EndAnswer}
use Rattle.rules.proofs.TestLaws.{Every}
use Rattle.state.specs.Layout.{size, lent, lent_over, cells_after, decode}
use Rattle.state.specs.Promise.{DemandMet}
use Rattle.state.specs.Sequence.{Run}
use Rattle.order.specs.Order.{read_in}

-- state memory has its length
abbrev pub HasLength : List ℕ → Type 0
HasLength cells = length cells ≡ size

-- the cell of the mark
abbrev pub mark_at : ℕ
mark_at = 2

-- every cell is as it was, but perhaps the mark's
abbrev pub SameButMark : List ℕ → List ℕ → Type 0
SameButMark before after = (i : ℕ) → i ≢ mark_at → get_or after i 0 ≡ get_or before i 0

-- every byte from n on is as it was
abbrev pub SameFrom : ℕ → List ℕ → List ℕ → Type 0
SameFrom n before after = (i : ℕ) → n ≤ i → get_or after i 0 ≡ get_or before i 0

-- ---- RESET

-- done on any memory of its length; memory of another length it refuses, and leaves as it was
pub record ResetKept (before : List ℕ) (r : CallAnswer) (after : List ℕ) : Type 0 where
  pub done : length before ≡ size → r ≡ call_answer 0
  pub refused : length before ≢ size → r ≡ call_answer 1
  pub untouched : length before ≢ size → after ≡ before

-- ---- a link

-- what a link is lent, or what it has left there: state memory, work memory, the output
pub record Memories : Type 0 where
  pub state : List ℕ
  pub work : List ℕ
  pub out : List ℕ

abbrev pub memories : List ℕ → List ℕ → List ℕ → Memories
memories s w o = record { state = s; work = w; out = o }

-- a link of a file is three calls in a row, RESET, LOAD and END, and leaves work memory as LOAD does
pub record Linked (before : Memories) (file : List ℕ) (load : LoadAnswer) (end : EndAnswer) (after : Memories) : Type 0 where
  pub reset : CallAnswer
  pub run :
      Run
      before.state
      (resetting ∷ loading before.work file ∷ ending before.out ∷ [])
      (of_call reset ∷ of_load load after.work ∷ of_end end after.out ∷ [])
      after.state
  pub cleared : after.work ≡ work_after work_size before.work

-- two links of one file, in memories that held different things: all that is told, written and left is equal
pub record SameLinks (l m : LoadAnswer) (d e : EndAnswer) (state other out again : List ℕ) : Type 0 where
  pub loads : l ≡ m
  pub ends : d ≡ e
  pub states : state ≡ other
  pub images : out ≡ again

-- ---- LOAD

pub record LoadKept (before work file : List ℕ) (r : LoadAnswer) (after used : List ℕ) : Type 0 where
  -- refused, it leaves every cell as it was but the mark; refused ahead of reading, by 1 to 5, the mark too
  pub kept : r.number ≢ 0 → SameButMark before after
  pub unread : r.number ≢ 0 → r.number ≤ 5 → after ≡ before
  -- a file that cannot be read is refused by the number of its first fault, at that line and column
  pub told : (s : State) (k n c : ℕ) → lent before ≡ holding s → s.mark ≡ unmarked → length work ≡ work_size →
      length file ≤ longest_file → reading_of file ≡ Stopped k n c → r ≡ load_answer k n c 0
  -- of the first line that has faults, whatever stands behind it, the leftmost is told, by its number
  pub leftmost_told : (s : State) (ls more : List (List ℕ)) (line : List ℕ) (f : Fault) →
      lent before ≡ holding s → s.mark ≡ unmarked → length work ≡ work_size → length file ≤ longest_file →
      lines_of file ≡ ls ++ (line ∷ more) → (read_lines nothing_read ls).fault ≡ Complete →
      leftmost (faults_of (read_lines nothing_read ls).mode.expected line) ≡ some f →
      r ≡ load_answer (fault_number f.kind) (length ls + 1) f.column 0
  -- accepted by document 01's alphabet, it has the answer and leaves the state that it had by that one
  pub accepted_before :
      let was = load_over is_letter_or_digit (lent_over is_letter_or_digit before) (work_fits work) file in
      was.answer.number ≡ 0 → (r ≡ was.answer) × (after ≡ cells_after before was.left)
  -- no answer but the fault of a line names a column
  pub columns : eqb r.column 0 ≡ not (is_line_fault r.number)
  -- work memory that is lent with junk comes back zero, refused or not; of another length it comes back as it was
  pub cleared : length work ≡ work_size → used ≡ replicate work_size 0
  pub untouched : length work ≢ work_size → used ≡ work
  -- accepted, it meets demand 3 with the state that it left
  pub least : r.number ≡ 0 → DemandMet before file after
  -- of a file that is one library: what its search takes is the least, and what it ends in is the state that is left
  pub library : r.number ≡ 0 → (s : State) (line : ℕ) (ms : List Module) → lent before ≡ holding s → items_of file ≡ section line ms ∷ [] →
      LeastSufficient s.symbols ms (searched ms (walking s)).taken × (lent after ≡ holding (searched ms (walking s)).now.state)
  -- its rounds are at most the modules taken and the sections together
  pub rounds : r.number ≡ 0 → (s : State) → lent before ≡ holding s → r.rounds ≤ taken_in (progress (walking s) 0) (items_of file) + sections_in (items_of file)

-- the symbols that are listed after an accepted load are those that the walk over its file ends with
abbrev pub Listed : List ℕ → List ℕ → ℕ → LoadAnswer → SymbolAnswer → Type 0
Listed before file i r listed =
    r.number ≡ 0 → (s : State) → lent before ≡ holding s → listed ≡ symbol_at (walk_from s (items_of file)).walk.state.symbols i

-- ---- behind a load that was refused for its file

-- such a load was answered by 6 to 14, or by 17 to 21
abbrev pub Broke : LoadAnswer → Type 0
Broke r = 6 ≤ r.number

-- ---- FORCE and BASE, after RESET

-- UNDEFINED's answer for a name that was forced and to which no word refers
abbrev pub forced_only : ℕ → UndefinedAnswer
forced_only x = record { number = 0; line = 0; none = 0; name = x; value = 0; defined = 0; highest = 65535 }

-- a name is then the one undefined symbol, and no word refers to it; what is no name is refused by 15
pub record Forced (before name : List ℕ) (r : CallAnswer) (listed : UndefinedAnswer) : Type 0 where
  pub joins : length before ≡ size → is_name name ≡ true → listed ≡ forced_only (pack_name name)
  pub refused : length before ≡ size → is_name name ≡ false → r ≡ call_answer 15

-- the symbols that an accepted load then lists are those of a walk from that base; a base over 4,095 is refused by 12
pub record Moved (before : List ℕ) (address : ℕ) (file : List ℕ) (index : ℕ) (r : CallAnswer) (load : LoadAnswer) (listed : SymbolAnswer) : Type 0 where
  pub moves : length before ≡ size → address ≤ 4095 → load.number ≡ 0 →
      listed ≡ symbol_at (walk_from (state [] no_words address unmarked) (items_of file)).walk.state.symbols index
  pub refused : length before ≡ size → 4095 < address → r ≡ call_answer 12

-- ---- END

pub record EndKept (before out : List ℕ) (r : EndAnswer) (written : List ℕ) : Type 0 where
  -- every byte past the image is as it was, and every byte where END is refused
  pub kept : SameFrom r.length out written
  -- the bytes up to there are the image of the state: 11 for each placed word, and 5
  pub image : r.number ≡ 0 → (s : State) → lent before ≡ holding s → take r.length written ≡ image_of s
  pub bytes : r.number ≡ 0 → (s : State) → lent before ≡ holding s → r.length ≡ 11 * placed_words s.words + 5

-- END may be repeated: the answer and the image are the same
pub record SameEnds (out again : List ℕ) (r q : EndAnswer) (written rewritten : List ℕ) : Type 0 where
  pub answers : r.number ≡ 0 → length again ≡ length out → q ≡ r
  pub images : r.number ≡ 0 → length again ≡ length out → take q.length rewritten ≡ take r.length written

-- ---- a lookup

-- two tables have as many symbols, and the same name at each position whose name a lookup of x in the first reads
pub record AgreeOnRead (cells other order : List ℕ) (x : ℕ) : Type 0 where
  pub count : length (decode other).symbols ≡ length (decode cells).symbols
  pub names : Every (λ p. name_at (decode cells).symbols p ≡ name_at (decode other).symbols p) (read_in cells order x)
