-- The client's fear is "a name still tied to last week's address". Against it: after RESET nothing tells what memory held before.
use Prim.Native.Nat.{ℕ}
use mathlib.Core.Bool.{Bool, true, false, cond}
use mathlib.Core.List.{List, ◌∷◌}
use mathlib.Core.Path.{◌≡◌, refl, sym, ap, ap₂, ◌∙◌}
use lib.ListN.{length}
use borrow.Author.Tests.{eq-eqb}
use Rattle.rules.specs.State.{fresh}
use Rattle.rules.specs.Answers.{DONE}
use Rattle.rules.specs.Calls.{Lent, damaged, holding, Outcome, work_after, load, call_answer, done, reset}
use Rattle.rules.specs.declared.answer.CallAnswer.{CallAnswer}
use Rattle.rules.specs.History.{Call, loading, resetting, Reply, of_call, work_fits, reply_to, reply_over, left_by, left_over}
use Rattle.state.specs.Layout.{size, sound_cells, encode, decode, lent, lent_over, cells_after}
use Rattle.state.specs.Sequence.{cells_called, cells_called_over, Replied, Run, stop, step, Alike, none, same, loads}

-- RESET of memory of the right length, whatever it held
pub reset_always : (cells : List ℕ) → length cells ≡ size → reset (lent cells) ≡ done fresh
unfolding lent_over reset
reset_always cells e = rw (eq-eqb (length cells) size e) (go (sound_cells cells))
  where
    go : (good : Bool) → reset (cond good (holding (decode cells)) damaged) ≡ done fresh
    go true = refl
    go false = refl

-- so its reply and its cells are always the same
reset_replied_same : {cells next : List ℕ} {r : Reply} → length cells ≡ size → Replied cells resetting r next →
    (r ≡ of_call (call_answer DONE)) × (next ≡ encode fresh)
unfolding reply_over cells_called_over left_over cells_after
reset_replied_same {cells} e p =
    let is = reset_always cells e in (
      p.reply ∙ ap (λ (o : Outcome CallAnswer). of_call o.answer) is,
      p.cells ∙ ap (λ (o : Outcome CallAnswer). cells_after cells o.left) is,
    )

-- a LOAD with work memory of its length, whatever that holds
module _ (work other file : List ℕ) (e : work_fits work ≡ true) (f : work_fits other ≡ true) where
  work_unread : (m : Lent) → reply_to m (loading work file) ≡ reply_to m (loading other file)
  unfolding reply_over work_after
  work_unread m = rw (e, f)

  work_unused : (m : Lent) → left_by m (loading work file) ≡ left_by m (loading other file)
  unfolding left_over
  work_unused m = ap (λ (fits : Bool). (load m fits file).left) (e ∙ sym f)

-- two calls in a row that come to the same from the same cells
module _
    {a b next next' : List ℕ} {c d : Call} {q r : Reply} (e : a ≡ b) (p : Replied a c q next) (p' : Replied b d r next')
    (reads : (m : Lent) → reply_to m c ≡ reply_to m d) (leaves : (m : Lent) → left_by m c ≡ left_by m d) where
  same_reply : q ≡ r
  same_reply = p.reply ∙ ap (λ (l : List ℕ). reply_to (lent l) c) e ∙ reads (lent b) ∙ sym p'.reply

  same_cells : next ≡ next'
  unfolding cells_called_over
  same_cells =
      p.cells ∙ ap (λ (l : List ℕ). cells_called l c) e ∙ ap (cells_after b) (leaves (lent b)) ∙ sym p'.cells

abbrev Same : List Reply → List Reply → List ℕ → List ℕ → Type 0
Same qs rs c d = (qs ≡ rs) × (c ≡ d)

one_more : {q r : Reply} {qs rs : List Reply} {c d : List ℕ} → q ≡ r → Same qs rs c d → Same (q ∷ qs) (r ∷ rs) c d
one_more here rest = (ap₂ {C = List Reply} (λ h t. h ∷ t) here rest.0, rest.1)

-- from the same cells, the same calls have the same replies and leave the same cells
pub same_run :
    {a b c d : List ℕ} {cs ds : List Call} {qs rs : List Reply} → a ≡ b → Alike cs ds → Run a cs qs c → Run b ds rs d → Same qs rs c d
same_run e none stop stop = (refl, e)
same_run e (same alike) (step p x) (step p' y) =
    one_more (same_reply e p p' (λ m. refl) (λ m. refl)) (same_run (same_cells e p p' (λ m. refl) (λ m. refl)) alike x y)
same_run e (loads {work} {other} {file} u v alike) (step p x) (step p' y) =
    let reads = work_unread work other file u v in
    let leaves = work_unused work other file u v in
    one_more (same_reply e p p' reads leaves) (same_run (same_cells e p p' reads leaves) alike x y)

-- After RESET, whatever state memory and work memory held before, the same calls in a row have the same answers, write the same bytes
-- and leave the same cells.
pub last_week_is_gone :
    {a b c d : List ℕ} {cs ds : List Call} {qs rs : List Reply} → length a ≡ size → length b ≡ size → Alike cs ds
    → Run a (resetting ∷ cs) qs c → Run b (resetting ∷ ds) rs d → (qs ≡ rs) × (c ≡ d)
last_week_is_gone la lb alike (step p x) (step p' y) =
    let this = reset_replied_same la p in
    let that = reset_replied_same lb p' in
    one_more (this.0 ∙ sym that.0) (same_run (this.1 ∙ sym that.1) alike x y)
