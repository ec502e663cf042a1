-- The calls over an alphabet, and over a larger one: they come to the same, unless the first refuses a name. And what decides them: two
-- alphabets over which a file is read alike come to the same.
use Prim.Native.Nat.{ℕ}
use mathlib.Core.Bool.{Bool, true, false, cond, not}
use mathlib.Core.List.{List}
use mathlib.Core.Logic.{◌≢◌, ◌⊎◌, inl, inr}
use mathlib.Core.Path.{◌≡◌, refl, sym, ap, ◌∙◌}
use lib.ListN.{length}
use lib.Dec.{eqb, leb, ltb}
use Rattle.std.specs.Prelude.{Err}
use Rattle.rules.specs.Text.{all, Alphabet, unpack_name, is_name_over, is_packed_over}
use Rattle.rules.specs.Answers.{DONE, DAMAGED, TOO_LONG, NAME, SYMBOL}
use Rattle.rules.specs.Reading.{reading_over, Item, Reading, Complete}
use Rattle.rules.specs.State.{State, Symbol, sound_symbol_over, sound_over}
use Rattle.rules.specs.Load.{Loaded, walked, walk_from, load_read_over, load_file_over}
use Rattle.rules.specs.Calls.{Lent, wrong_length, damaged, holding, Outcome, shut_by, load_outcome, load_stopped, stopped, load_state_over, load_lent_over, load_over, force_state_over, force_over, work_after, base, reset, memory, symbols, undefined, end}
use Rattle.rules.specs.Limits.{longest_file, work_size}
use Rattle.rules.specs.History.{Call, loading, forcing, basing, resetting, asking_high, listing, listing_undefined, ending, of_load, of_call, work_fits, reply_over, number_in, left_over}
use Rattle.rules.specs.declared.answer.LoadAnswer.{LoadAnswer}
use Rattle.rules.specs.declared.answer.CallAnswer.{CallAnswer}
use Rattle.rules.proofs.TestLaws.{and_intro, and_left, and_right, all_weaken}
use Rattle.rules.proofs.AlphabetLaws.{Within, ReadAlike, FileGrows, name_grows, file_grows}

-- ---- loads: what a file is read to decides

module _ (one other : Alphabet) where
  load_file_same : (s : State) (file : List ℕ) → ReadAlike one other file → load_file_over one s file ≡ load_file_over other s file
  unfolding load_file_over load_read_over
  load_file_same s file (e, i) = go (reading_over one file) ∙ ap (load_read_over other s file) e
    where
      go : (r : Reading) → load_read_over one s file r ≡ load_read_over other s file r
      go Complete = ap (λ (is : List Item). walked s (walk_from s is)) i
      go (Err s) = refl

  pub load_same : (m : Lent) (fits : Bool) (file : List ℕ) → ReadAlike one other file → load_over one m fits file ≡ load_over other m fits file
  unfolding load_over load_lent_over load_state_over
  load_same m false file h = refl
  load_same wrong_length true file h = refl
  load_same damaged true file h = refl
  load_same (holding s) true file h =
      ap (λ (l : Loaded). cond (not (eqb (shut_by s.mark) DONE)) (load_stopped (shut_by s.mark)) (cond (ltb longest_file (length file)) (load_stopped TOO_LONG) (load_outcome l)))
      (load_file_same s file h)

  pub force_same : (m : Lent) (name : List ℕ) → is_name_over one name ≡ is_name_over other name → force_over one m name ≡ force_over other m name
  unfolding force_over force_state_over
  force_same wrong_length name h = refl
  force_same damaged name h = refl
  force_same (holding s) name h = rw h

-- ---- calls: the same, or refused by one number

abbrev pub Unless : {A : Type 0} → (A → ℕ) → ℕ → A → A → Type 0
Unless number k x y = (x ≡ y) ⊎ (number x ≡ k)

pub unless_other : {A : Type 0} (number : A → ℕ) {k : ℕ} {x y : A} → Unless number k x y → number x ≢ k → y ≡ x
unless_other number (inl e) h = sym e
unless_other number (inr e) h = absurd (h e)

-- behind a test that comes ahead
tested : {A : Type 0} (number : A → ℕ) (k : ℕ) (t : Bool) (a x y : A) → Unless number k x y → Unless number k (cond t a x) (cond t a y)
tested number k true a x y h = inl refl
tested number k false a x y h = h

abbrev pub loaded_number : Loaded → ℕ
loaded_number l = l.refusal.number

abbrev pub load_number : Outcome LoadAnswer → ℕ
load_number o = o.answer.number

abbrev pub call_number : Outcome CallAnswer → ℕ
call_number o = o.answer.number

load_outcome_lem : (x y : Loaded) → Unless loaded_number SYMBOL x y → Unless load_number SYMBOL (load_outcome x) (load_outcome y)
load_outcome_lem x y (inl e) = inl (ap load_outcome e)
load_outcome_lem x y (inr e) = inr e

name_tested : (t u : Bool) (x : Outcome CallAnswer) → (t ≡ true → u ≡ true) →
    Unless call_number NAME (cond (not t) (stopped NAME) x) (cond (not u) (stopped NAME) x)
name_tested true u x h = inl (ap (λ (v : Bool). cond (not v) (stopped NAME) x) (sym (h refl)))
name_tested false u x h = inr refl

-- refused for a name: of a symbol of the state, of FORCE, or in a file
abbrev pub RefusedName : ℕ → Type 0
RefusedName k = (k ≡ DAMAGED) ⊎ ((k ≡ NAME) ⊎ (k ≡ SYMBOL))

-- a call on m by one alphabet and on m' by another: the same reply, and memory left the same, or refused for a name by the first
abbrev pub CallGrows : Alphabet → Lent → Alphabet → Lent → Call → Type 0
CallGrows small m large m' c =
    ((reply_over small m c ≡ reply_over large m' c) × (left_over small m c ≡ left_over large m' c))
    ⊎ RefusedName (number_in (reply_over small m c))

-- ---- two alphabets, the one within the other

module _ {small large : Alphabet} (grows : Within small large) where
  load_file_grows : (s : State) (file : List ℕ) → Unless loaded_number SYMBOL (load_file_over small s file) (load_file_over large s file)
  unfolding load_file_over load_read_over
  load_file_grows s file = go (file_grows grows file)
    where
      go : FileGrows small large file → Unless loaded_number SYMBOL (load_file_over small s file) (load_file_over large s file)
      go (inl same) = inl (load_file_same small large s file same)
      go (inr (n, c, e)) = inr (ap (λ (r : Reading). (load_read_over small s file r).refusal.number) e)

  pub load_grows : (m : Lent) (fits : Bool) (file : List ℕ) → Unless load_number SYMBOL (load_over small m fits file) (load_over large m fits file)
  unfolding load_over load_lent_over load_state_over
  load_grows m false file = inl refl
  load_grows wrong_length true file = inl refl
  load_grows damaged true file = inl refl
  load_grows (holding s) true file =
      tested load_number SYMBOL (not (eqb (shut_by s.mark) DONE)) _ _ _
      (tested load_number SYMBOL (ltb 65536 (length file)) _ _ _ (load_outcome_lem _ _ (load_file_grows s file)))

  pub force_grows : (m : Lent) (name : List ℕ) → Unless call_number NAME (force_over small m name) (force_over large m name)
  unfolding force_over force_state_over
  force_grows wrong_length name = inl refl
  force_grows damaged name = inl refl
  force_grows (holding s) name =
      tested call_number NAME (not (eqb (shut_by s.mark) DONE)) _ _ _
      (name_tested (is_name_over small name) (is_name_over large name) _ (name_grows grows name))

  -- ---- soundness

  packed_grows : (n : ℕ) → is_packed_over small n ≡ true → is_packed_over large n ≡ true
  unfolding is_packed_over
  packed_grows n h =
      and_intro
      (name_grows grows (unpack_name n) (and_left (is_name_over small (unpack_name n)) _ h))
      (and_right (is_name_over small (unpack_name n)) _ h)

  pub sound_grows : (s : State) → sound_over small s ≡ true → sound_over large s ≡ true
  unfolding sound_over sound_symbol_over
  sound_grows s h =
      let few = leb (length s.symbols) 256 in
      let rest = and_right few _ h in
      and_intro (and_left few _ h)
      (and_intro
      (all_weaken (sound_symbol_over small) (sound_symbol_over large) symbol_grows s.symbols (and_left (all (sound_symbol_over small) s.symbols) _ rest))
      (and_right (all (sound_symbol_over small) s.symbols) _ rest))
    where
      symbol_grows : (y : Symbol) → sound_symbol_over small y ≡ true → sound_symbol_over large y ≡ true
      symbol_grows y h =
          and_intro (packed_grows y.name (and_left (is_packed_over small y.name) _ h)) (and_right (is_packed_over small y.name) _ h)

  -- ---- any call

  pub call_grows : (m : Lent) (c : Call) → CallGrows small m large m c
  unfolding reply_over left_over number_in
  call_grows m (loading work file) = go (load_grows m (work_fits work) file)
    where
      go : Unless load_number SYMBOL (load_over small m (work_fits work) file) (load_over large m (work_fits work) file) →
          CallGrows small m large m (loading work file)
      go (inl e) = inl (ap (λ (o : Outcome LoadAnswer). of_load o.answer (work_after work_size work)) e, ap (λ (o : Outcome LoadAnswer). o.left) e)
      go (inr e) = inr (inr (inr e))
  call_grows m (forcing name) = go (force_grows m name)
    where
      go : Unless call_number NAME (force_over small m name) (force_over large m name) → CallGrows small m large m (forcing name)
      go (inl e) = inl (ap (λ (o : Outcome CallAnswer). of_call o.answer) e, ap (λ (o : Outcome CallAnswer). o.left) e)
      go (inr e) = inr (inr (inl e))
  call_grows m (basing address) = inl (refl, refl)
  call_grows m resetting = inl (refl, refl)
  call_grows m asking_high = inl (refl, refl)
  call_grows m (listing i) = inl (refl, refl)
  call_grows m (listing_undefined i) = inl (refl, refl)
  call_grows m (ending out) = inl (refl, refl)

-- memory whose state was not sound, and is
module _ (small large : Alphabet) (s : State) where
  damaged_load : (work file : List ℕ) (fits : Bool) → work_fits work ≡ fits → CallGrows small damaged large (holding s) (loading work file)
  unfolding reply_over left_over number_in load_over load_lent_over
  damaged_load work file true e = inr (inl (rw e))
  damaged_load work file false e =
      inl (
        rw e,
        ap (λ (t : Bool). (load_over small damaged t file).left) e ∙ sym (ap (λ (t : Bool). (load_over large (holding s) t file).left) e),
      )

  pub damaged_grows : (c : Call) → CallGrows small damaged large (holding s) c
  unfolding reply_over left_over number_in force_over base reset memory symbols undefined end
  damaged_grows (loading work file) = damaged_load work file (work_fits work) refl
  damaged_grows (forcing name) = inr (inl refl)
  damaged_grows (basing address) = inr (inl refl)
  damaged_grows resetting = inl (refl, refl)
  damaged_grows asking_high = inr (inl refl)
  damaged_grows (listing i) = inr (inl refl)
  damaged_grows (listing_undefined i) = inr (inl refl)
  damaged_grows (ending out) = inr (inl refl)
