-- Calls in a row: what comes back of each, and the state that each leaves. Then document 01, "The image": "Placed words always equal
-- the sum of the CODE counts of all modules placed since the reset."
use Rattle.std.specs.Prelude.{ℕ, ◌+◌, Bool, cond, ◌||◌, List, [], ◌∷◌, ◌++◌, length, eqb, leb}
use Rattle.rules.specs.Limits.{work_size}
use Rattle.rules.specs.Text.{Alphabet, is_name_character}
use Rattle.rules.specs.Reading.{Module, Item, free, section, items_of}
use Rattle.rules.specs.State.{State}
use Rattle.rules.specs.Placing.{code_count}
use Rattle.rules.specs.Search.{ModuleSet}
use Rattle.rules.specs.Answers.{DONE, BUFFER, DAMAGED, RESET, FROZEN, TOO_LONG, RANGE, TABLE, NAME, OUT, is_file_fault}
use Rattle.rules.specs.Load.{Progress, progress, walking, searched, test_section, walk_item}
use Rattle.rules.specs.Calls.{Lent, Left, as_before, now, holding, work_after, load, load_over, force_over, base, reset, memory, symbols, undefined, end}
use Rattle.rules.specs.declared.answer.LoadAnswer.{LoadAnswer}
use Rattle.rules.specs.declared.answer.CallAnswer.{CallAnswer}
use Rattle.rules.specs.declared.answer.MemoryAnswer.{MemoryAnswer}
use Rattle.rules.specs.declared.answer.SymbolAnswer.{SymbolAnswer}
use Rattle.rules.specs.declared.answer.UndefinedAnswer.{UndefinedAnswer}
use Rattle.rules.specs.declared.answer.EndAnswer.{EndAnswer}

-- ---- calls in a row

-- a call, with what it is lent besides state memory: LOAD work memory and a file, FORCE a name, BASE an address, SYMBOLS and
-- UNDEFINED an index, END the output
pub data Call : Type 0 where
  loading : List ℕ → List ℕ → Call
  forcing : List ℕ → Call
  basing : ℕ → Call
  resetting : Call
  asking_high : Call
  listing : ℕ → Call
  listing_undefined : ℕ → Call
  ending : List ℕ → Call

-- what comes back: the answer, and what was lent for writing besides state memory, as it is afterwards
pub data Reply : Type 0 where
  of_load : LoadAnswer → List ℕ → Reply
  of_call : CallAnswer → Reply
  of_memory : MemoryAnswer → Reply
  of_symbols : SymbolAnswer → Reply
  of_undefined : UndefinedAnswer → Reply
  of_end : EndAnswer → List ℕ → Reply

abbrev pub work_fits : List ℕ → Bool
work_fits work = eqb (length work) work_size

-- the number of a reply
unfoldable pub number_in : Reply → ℕ
number_in (of_load r work) = r.number
number_in (of_call r) = r.number
number_in (of_memory r) = r.number
number_in (of_symbols r) = r.number
number_in (of_undefined r) = r.number
number_in (of_end r out) = r.number

-- which numbers each call can answer, by "Given when" of the table of answers
unfoldable pub can_answer : Call → ℕ → Bool
can_answer (loading work file) k = leb k TOO_LONG || is_file_fault k
can_answer (forcing name) k = leb k FROZEN || (eqb k TABLE || eqb k NAME)
can_answer (basing address) k = leb k FROZEN || eqb k RANGE
can_answer resetting k = leb k BUFFER
can_answer asking_high k = leb k DAMAGED
can_answer (listing i) k = leb k DAMAGED
can_answer (listing_undefined i) k = leb k DAMAGED
can_answer (ending out) k = leb k RESET || eqb k OUT

module _ (alphabet : Alphabet) where
  unfoldable pub reply_over : Lent → Call → Reply
  reply_over m (loading work file) = of_load (load_over alphabet m (work_fits work) file).answer (work_after work_size work)
  reply_over m (forcing name) = of_call (force_over alphabet m name).answer
  reply_over m (basing address) = of_call (base m address).answer
  reply_over m resetting = of_call (reset m).answer
  reply_over m asking_high = of_memory (memory m)
  reply_over m (listing i) = of_symbols (symbols m i)
  reply_over m (listing_undefined i) = of_undefined (undefined m i)
  reply_over m (ending out) = of_end (end m out).call.answer (end m out).output

  -- state memory as a call leaves it
  unfoldable pub left_over : Lent → Call → Left
  left_over m (loading work file) = (load_over alphabet m (work_fits work) file).left
  left_over m (forcing name) = (force_over alphabet m name).left
  left_over m (basing address) = (base m address).left
  left_over m resetting = (reset m).left
  left_over m asking_high = as_before
  left_over m (listing i) = as_before
  left_over m (listing_undefined i) = as_before
  left_over m (ending out) = (end m out).call.left

-- by the rules' own alphabet
abbrev pub reply_to : Lent → Call → Reply
reply_to = reply_over is_name_character

abbrev pub left_by : Lent → Call → Left
left_by = left_over is_name_character

unfoldable pub state_after : State → Left → State
state_after s as_before = s
state_after s (now t) = t

-- the state that a call leaves, where it is lent the state s
unfoldable pub called : State → Call → State
called s c = state_after s (left_by (holding s) c)

unfoldable pub called_all : State → List Call → State
called_all s [] = s
called_all s (c ∷ cs) = called_all (called s c) cs

-- ---- the modules that a load places

-- the modules of a set, from position i on
unfoldable pub chosen : ModuleSet → ℕ → List Module → List Module
chosen set i [] = []
chosen set i (m ∷ ms) = let rest = chosen set (i + 1) ms in cond (set i) (m ∷ rest) rest

unfoldable pub placed_by : Progress → Item → List Module
placed_by p (free m) = m ∷ []
placed_by p (section line ms) = chosen (searched ms (test_section line ms p.walk)).taken 0 ms

unfoldable pub placed_from : Progress → List Item → List Module
placed_from p [] = []
placed_from p (i ∷ is) = placed_by p i ++ placed_from (walk_item p i) is

unfoldable pub code_counts : List Module → ℕ
code_counts [] = 0
code_counts (m ∷ ms) = code_count m + code_counts ms

-- the CODE counts of the modules that an accepted load places
unfoldable pub count_placed : State → List ℕ → List ℕ → ℕ
count_placed s work file =
    let answer = (load (holding s) (work_fits work) file).answer in
    cond (eqb answer.number DONE) (code_counts (placed_from (progress (walking s) 0) (items_of file))) 0

-- the sum after a call, n before it
unfoldable pub count_after : ℕ → State → Call → ℕ
count_after n s (loading work file) = n + count_placed s work file
count_after n s (forcing name) = n
count_after n s (basing address) = n
count_after n s resetting = 0
count_after n s asking_high = n
count_after n s (listing i) = n
count_after n s (listing_undefined i) = n
count_after n s (ending out) = n

-- the sum since the last reset, after n from the calls before
unfoldable pub count_since : ℕ → State → List Call → ℕ
count_since n s [] = n
count_since n s (c ∷ cs) = count_since (count_after n s c) (called s c) cs
