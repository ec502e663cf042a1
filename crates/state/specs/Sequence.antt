-- Calls in a row on one state memory, each on what the one before it left there.
use Rattle.std.specs.Prelude.{ℕ, ◌≤◌, true, List, [], ◌∷◌, ◌≢◌, ◌≡◌}
use Rattle.rules.specs.Limits.{no_address}
use Rattle.rules.specs.Text.{Alphabet, is_name_character}
use Rattle.rules.specs.declared.answer.MemoryAnswer.{MemoryAnswer}
use Rattle.rules.specs.History.{Call, loading, Reply, work_fits, reply_over, left_over}
use Rattle.state.specs.Layout.{lent_over, cells_after}

module _ (alphabet : Alphabet) where
  -- state memory after a call
  unfoldable pub cells_called_over : List ℕ → Call → List ℕ
  cells_called_over cells c = cells_after cells (left_over alphabet (lent_over alphabet cells) c)

  -- the promise of any call: its reply, and every cell afterwards, are the definition's
  pub record RepliedOver (before : List ℕ) (c : Call) (r : Reply) (after : List ℕ) : Type 0 where
    pub reply : r ≡ reply_over alphabet (lent_over alphabet before) c
    pub cells : after ≡ cells_called_over before c

  -- calls in a row that keep this promise, from the first cells to the last, with their replies
  pub data RunOver : List ℕ → List Call → List Reply → List ℕ → Type 0 where
    stop : {cells : List ℕ} → RunOver cells [] [] cells
    step :
        {cells next last : List ℕ} {c : Call} {cs : List Call} {r : Reply} {rs : List Reply} → RepliedOver cells c r next
        → RunOver next cs rs last → RunOver cells (c ∷ cs) (r ∷ rs) last

-- by the rules' own alphabet
abbrev pub cells_called : List ℕ → Call → List ℕ
cells_called = cells_called_over is_name_character

abbrev pub Replied : List ℕ → Call → Reply → List ℕ → Type 0
Replied = RepliedOver is_name_character

abbrev pub Run : List ℕ → List Call → List Reply → List ℕ → Type 0
Run = RunOver is_name_character

-- the same calls, but that the work memory lent to a LOAD, where it has its length, may hold anything
pub data Alike : List Call → List Call → Type 0 where
  none : Alike [] []
  same : {c : Call} {cs ds : List Call} → Alike cs ds → Alike (c ∷ cs) (c ∷ ds)
  loads :
      {work other file : List ℕ} {cs ds : List Call} → work_fits work ≡ true → work_fits other ≡ true → Alike cs ds
      → Alike (loading work file ∷ cs) (loading other file ∷ ds)

-- MEMORY before and after other calls: the same number, and once a word is placed an address that is not lower
pub record NotLower (before after : MemoryAnswer) : Type 0 where
  pub as_told : after.number ≡ before.number
  pub high : before.high ≢ no_address → (before.high ≤ after.high) × (after.high ≢ no_address)
