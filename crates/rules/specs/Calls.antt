-- Document 01, "What the calls return": each call's whole outcome, from what it is lent to its answer and what is left.
use Rattle.std.specs.Prelude.{ℕ, Bool, true, false, cond, not, List, ◌++◌, length, get_or, drop, replicate, eqb, leb, ltb}
use Rattle.rules.specs.Limits.{longest_file, most_symbols, largest_base}
use Rattle.rules.specs.Text.{Alphabet, is_name_character, is_name_over, pack_name}
use Rattle.rules.specs.Answers.{DONE, BUFFER, DAMAGED, RESET, FROZEN, TOO_LONG, RANGE, TABLE, NAME, OUT}
use Rattle.rules.specs.State.{Symbol, symbol, State, state, Mark, unmarked, broken, frozen, fresh, marked, is_symbol, position_of, undefined_only, highest, high}
use Rattle.rules.specs.Placing.{mention}
use Rattle.rules.specs.Load.{Loaded, load_file_over}
use Rattle.rules.specs.Image.{image_of}
use Rattle.rules.specs.declared.answer.LoadAnswer.{LoadAnswer}
use Rattle.rules.specs.declared.answer.CallAnswer.{CallAnswer}
use Rattle.rules.specs.declared.answer.MemoryAnswer.{MemoryAnswer}
use Rattle.rules.specs.declared.answer.SymbolAnswer.{SymbolAnswer}
use Rattle.rules.specs.declared.answer.UndefinedAnswer.{UndefinedAnswer}
use Rattle.rules.specs.declared.answer.EndAnswer.{EndAnswer}

-- ---- what is lent

-- lent memory as a call finds it: of another length than the fixed one, not sound, or sound and holding something
pub data LentOf (A : Type 0) : Type 0 where
  wrong_length : LentOf A
  damaged : LentOf A
  holding : A → LentOf A

-- lent memory as a call leaves it: as it was, or holding something
pub data LeftOf (A : Type 0) : Type 0 where
  as_before : LeftOf A
  now : A → LeftOf A

-- state memory holds a state
abbrev pub Lent : Type 0
Lent = LentOf State

abbrev pub Left : Type 0
Left = LeftOf State

-- "Work memory of the right length is zero after each call [..]; of another length it is untouched."
unfoldable pub work_after : ℕ → List ℕ → List ℕ
work_after size work = cond (eqb (length work) size) (replicate size 0) work

-- 3 RESET: "broken; LOAD, FORCE, BASE, END", and 4 FROZEN: "an END was done; LOAD, FORCE, BASE"; 0 where neither applies
unfoldable pub shut_by : Mark → ℕ
shut_by unmarked = DONE
shut_by broken = RESET
shut_by frozen = FROZEN

-- what a call comes to: its answer, and state memory as it leaves it
pub record Outcome (A : Type 0) : Type 0 where
  pub answer : A
  pub left : Left

abbrev pub outcome : {A : Type 0} → A → Left → Outcome A
outcome a l = record { answer = a; left = l }

-- ---- LOAD

abbrev pub load_answer : ℕ → ℕ → ℕ → ℕ → LoadAnswer
load_answer k n c r = record { number = k; line = n; column = c; rounds = r }

abbrev pub load_stopped : ℕ → Outcome LoadAnswer
load_stopped k = outcome (load_answer k 0 0 0) as_before

abbrev pub load_outcome : Loaded → Outcome LoadAnswer
load_outcome l = outcome (load_answer l.refusal.number l.refusal.line l.column l.rounds) (now l.state)

module _ (alphabet : Alphabet) where
  -- 3 and 4, then 5 TOO LONG, then the file
  unfoldable pub load_state_over : State → List ℕ → Outcome LoadAnswer
  load_state_over s file =
      let k = shut_by s.mark in
      let read = load_outcome (load_file_over alphabet s file) in
      cond (not (eqb k DONE)) (load_stopped k) (cond (ltb longest_file (length file)) (load_stopped TOO_LONG) read)

  unfoldable pub load_lent_over : Lent → List ℕ → Outcome LoadAnswer
  load_lent_over wrong_length file = load_stopped BUFFER
  load_lent_over damaged file = load_stopped DAMAGED
  load_lent_over (holding s) file = load_state_over s file

  -- 1 BUFFER: "state or work memory hasn't its fixed length"
  unfoldable pub load_over : Lent → Bool → List ℕ → Outcome LoadAnswer
  load_over lent false file = load_stopped BUFFER
  load_over lent true file = load_lent_over lent file

-- by the rules' own alphabet
abbrev pub load_state : State → List ℕ → Outcome LoadAnswer
load_state = load_state_over is_name_character

abbrev pub load_lent : Lent → List ℕ → Outcome LoadAnswer
load_lent = load_lent_over is_name_character

abbrev pub load : Lent → Bool → List ℕ → Outcome LoadAnswer
load = load_over is_name_character

-- ---- FORCE, BASE, RESET

abbrev pub call_answer : ℕ → CallAnswer
call_answer k = record { number = k; line = 0 }

abbrev pub stopped : ℕ → Outcome CallAnswer
stopped k = outcome (call_answer k) as_before

abbrev pub done : State → Outcome CallAnswer
done s = outcome (call_answer DONE) (now s)

abbrev pub with_symbols : List Symbol → State → State
with_symbols t s = state t s.words s.next s.mark

module _ (alphabet : Alphabet) where
  -- "FORCE tests 15 before 14, and is DONE without change for a name in the table."
  unfoldable pub force_state_over : State → List ℕ → Outcome CallAnswer
  force_state_over s name =
      let k = shut_by s.mark in
      cond (not (eqb k DONE)) (stopped k)
      (cond (not (is_name_over alphabet name)) (stopped NAME)
      (cond (is_symbol (pack_name name) s.symbols) (done s)
      (cond (leb most_symbols (length s.symbols)) (stopped TABLE) (done (with_symbols (mention (pack_name name) s.symbols) s)))))

  unfoldable pub force_over : Lent → List ℕ → Outcome CallAnswer
  force_over wrong_length name = stopped BUFFER
  force_over damaged name = stopped DAMAGED
  force_over (holding s) name = force_state_over s name

-- by the rules' own alphabet
abbrev pub force_state : State → List ℕ → Outcome CallAnswer
force_state = force_state_over is_name_character

abbrev pub force : Lent → List ℕ → Outcome CallAnswer
force = force_over is_name_character

-- 12 RANGE: "BASE over 4,095"
unfoldable pub base_state : State → ℕ → Outcome CallAnswer
base_state s address =
    let k = shut_by s.mark in
    cond (not (eqb k DONE)) (stopped k)
    (cond (ltb largest_base address) (stopped RANGE) (done (state s.symbols s.words address s.mark)))

unfoldable pub base : Lent → ℕ → Outcome CallAnswer
base wrong_length address = stopped BUFFER
base damaged address = stopped DAMAGED
base (holding s) address = base_state s address

-- "RESET tests only 1, and makes the fresh state"
unfoldable pub reset : Lent → Outcome CallAnswer
reset wrong_length = stopped BUFFER
reset damaged = done fresh
reset (holding s) = done fresh

-- ---- MEMORY, SYMBOLS, UNDEFINED, which change nothing

abbrev pub memory_answer : ℕ → ℕ → MemoryAnswer
memory_answer k h = record { number = k; line = 0; high = h }

unfoldable pub memory : Lent → MemoryAnswer
memory wrong_length = memory_answer BUFFER 0
memory damaged = memory_answer DAMAGED 0
memory (holding s) = memory_answer DONE (high s.words)

abbrev pub bit : Bool → ℕ
bit b = cond b 1 0

-- a refusal, and past the end: "DONE with a mark for "none" and zeros"
abbrev pub symbol_none : ℕ → ℕ → SymbolAnswer
symbol_none k n = record { number = k; line = 0; none = n; name = 0; value = 0; defined = 0 }

abbrev pub symbol_is : Symbol → SymbolAnswer
symbol_is s = record { number = DONE; line = 0; none = 0; name = s.name; value = s.value; defined = bit s.defined }

unfoldable pub symbol_at : List Symbol → ℕ → SymbolAnswer
symbol_at t i = cond (ltb i (length t)) (symbol_is (get_or t i (symbol 0 0 false))) (symbol_none DONE 1)

-- "SYMBOLS gives name, value and whether defined, at an index in table order"
unfoldable pub symbols : Lent → ℕ → SymbolAnswer
symbols wrong_length i = symbol_none BUFFER 0
symbols damaged i = symbol_none DAMAGED 0
symbols (holding s) i = symbol_at s.symbols i

abbrev pub undefined_none : ℕ → ℕ → UndefinedAnswer
undefined_none k n = record { number = k; line = 0; none = n; name = 0; value = 0; defined = 0; highest = 0 }

abbrev pub undefined_is : State → Symbol → UndefinedAnswer
undefined_is s y =
    record { number = DONE; line = 0; none = 0; name = y.name; value = y.value; defined = bit y.defined; highest = highest (position_of y.name s.symbols) s.words }

unfoldable pub undefined_at : State → ℕ → UndefinedAnswer
undefined_at s i =
    let t = undefined_only s.symbols in
    cond (ltb i (length t)) (undefined_is s (get_or t i (symbol 0 0 false))) (undefined_none DONE 1)

-- "UNDEFINED the same over the undefined, with the highest address that refers to it"
unfoldable pub undefined : Lent → ℕ → UndefinedAnswer
undefined wrong_length i = undefined_none BUFFER 0
undefined damaged i = undefined_none DAMAGED 0
undefined (holding s) i = undefined_at s i

-- ---- END

-- besides, the output as END leaves it
pub record EndOutcome : Type 0 where
  pub call : Outcome EndAnswer
  pub output : List ℕ

abbrev pub end_answer : ℕ → ℕ → EndAnswer
end_answer k n = record { number = k; line = 0; length = n }

abbrev pub end_stopped : ℕ → List ℕ → EndOutcome
end_stopped k out = record { call = outcome (end_answer k 0) as_before; output = out }

-- "the output keeps all bytes past it"
abbrev pub overwritten : List ℕ → List ℕ → List ℕ
overwritten image out = image ++ drop (length image) out

abbrev pub end_done : State → List ℕ → List ℕ → EndOutcome
end_done s image out =
    record { call = outcome (end_answer DONE (length image)) (now (marked frozen s)); output = overwritten image out }

unfoldable pub is_broken : Mark → Bool
is_broken unmarked = false
is_broken broken = true
is_broken frozen = false

-- "An END tests 16 last."
unfoldable pub end_state : State → List ℕ → EndOutcome
end_state s out =
    let image = image_of s in
    cond (is_broken s.mark) (end_stopped RESET out)
    (cond (ltb (length out) (length image)) (end_stopped OUT out) (end_done s image out))

unfoldable pub end : Lent → List ℕ → EndOutcome
end wrong_length out = end_stopped BUFFER out
end damaged out = end_stopped DAMAGED out
end (holding s) out = end_state s out
