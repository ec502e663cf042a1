-- The reading over an alphabet, and over a larger one: a file is read to the same, unless it stops by 19 over the first.
use Prim.Native.Nat.{ℕ, ◌+◌, ◌≤◌, ◌<◌}
use native.Mathlib.Omega.{arith}
use mathlib.Core.Bool.{Bool, true, false}
use mathlib.Core.List.{List, [], ◌∷◌}
use mathlib.Core.Logic.{◌⊎◌, inl, inr}
use mathlib.Core.Option.{Option, none, some}
use mathlib.Core.Path.{◌≡◌, refl, sym, ap, subst, ◌∙◌}
use lib.ListN.{length, get_or}
use lib.Dec.{leb}
use borrow.Author.Tests.{leb-false, lt-leb}
use Rattle.std.specs.Prelude.{Err}
use Rattle.rules.specs.Text.{between, is_letter, Field, fields_from, fields_of, lines_of, Alphabet, is_name_over, name_over}
use Rattle.rules.specs.Answers.{SYMBOL}
use Rattle.rules.specs.Line.{Held, value, wrong, held, Fitted, fits, misfit, fault, in_front, Shape, said, read_field_over, fit_over, read_as_over, shape_for, say_fields_over, line_over, fault_in, within, test_bytes, line_answer_over}
use Rattle.rules.specs.Faults.{fault_number}
use Rattle.rules.specs.Reading.{ReadSoFar, unread, stepped, if_complete, step_of, read_line_over, read_lines_over, ended, reading_over, items_over, Reading, Complete, Stopped}
use Rattle.rules.specs.Calls.{end}
use Rattle.rules.specs.declared.line.FaultKind.TheVariants.{BadName}
use Rattle.rules.specs.declared.line.Fault.{Fault}
use Rattle.rules.specs.declared.line.Kind.{Kind}
use Rattle.rules.specs.declared.line.Kind.TheVariants.{Number, Name, Anything, Marker}
use Rattle.rules.specs.declared.line.Expected.{Expected}
use Rattle.rules.specs.declared.line.LineAnswer.{LineAnswer}
use Rattle.rules.specs.declared.line.LineAnswer.TheVariants.{Bad}
use Rattle.rules.specs.declared.reading.Mode.{Mode}
use Rattle.rules.specs.declared.reading.Step.{Step}
use Rattle.rules.specs.declared.reading.Step.TheVariants.{Stop}
use Rattle.rules.proofs.BoolLaws.{never_none}
use Rattle.rules.proofs.TestLaws.{and_intro, and_left, and_right, all_weaken}
use Rattle.rules.proofs.FaultLaws.{Rising, rising_lower, fields_rise, Faultless, FaultlessIn, shape_faultless}
use Rattle.rules.proofs.FirstFault.{lines_after}

-- ---- fields: no fault of theirs stands left of the first

-- no fault left of column c
abbrev FitFrom : ℕ → Fitted → Type 0
FitFrom c (fits vs) = Unit {0}
FitFrom c (misfit f) = c ≤ f.column

front_from : (low c : ℕ) (h : Held) (x : Fitted) → low ≤ c → FitFrom low x → FitFrom low (in_front c h x)
unfolding in_front
front_from low c (wrong k) x l r = l
front_from low c (value v) (misfit f) l r = r
front_from low c (value v) (fits vs) l r = tt

fit_from : (alphabet : Alphabet) (low end : ℕ) (ks : List Kind) (fs : List Field) → Rising low end fs → FitFrom low (fit_over alphabet end ks fs)
unfolding fit_over
fit_from alphabet low end [] [] r = tt
fit_from alphabet low end [] (f ∷ fs) r = r.0
fit_from alphabet low end (k ∷ ks) [] r = r
fit_from alphabet low end (k ∷ ks) (f ∷ fs) r =
    front_from low f.column _ _ r.0
    (fit_from alphabet low end ks fs (rising_lower _ _ end fs (omega (arith, r.0)) r.1))

-- the same, or the first tells a name, and the second nothing left of it
abbrev FitGrows : Fitted → Fitted → Type 0
FitGrows x y = (x ≡ y) ⊎ ((c : ℕ) × (x ≡ misfit (fault BadName c)) × FitFrom c y)

front_value : (c d v : ℕ) (y : Fitted) → FitFrom d y → FitFrom d (in_front c (value v) y)
unfolding in_front
front_value c d v (fits vs) l = tt
front_value c d v (misfit f) l = l

front_same : (c : ℕ) (h : Held) (x y : Fitted) → FitGrows x y → FitGrows (in_front c h x) (in_front c h y)
unfolding in_front
front_same c (wrong k) x y g = inl refl
front_same c (value v) x y (inl e) = inl (ap (in_front c (value v)) e)
front_same c (value v) x y (inr (d, e, l)) = inr (d, ap (in_front c (value v)) e, front_value c d v y l)

module _ (c : ℕ) (x y : Fitted) (from : FitFrom c y) (rest : FitGrows x y) where
  front_grows : (h h' : Held) → (h ≡ h') ⊎ (h ≡ wrong BadName) → FitGrows (in_front c h x) (in_front c h' y)
  unfolding in_front
  front_grows h h' (inl e) = subst (λ (k : Held). FitGrows (in_front c h x) (in_front c k y)) e (front_same c h x y rest)
  front_grows h h' (inr e) = inr (c, ap (λ (k : Held). in_front c k x) e, front_from c c h' y (omega arith) from)

-- ---- lines

-- no fault left of column c
abbrev AnswerFrom : ℕ → LineAnswer → Type 0
AnswerFrom c a = ((f : Fault) → fault_in a ≡ some f → c ≤ f.column)

abbrev AnswerGrows : LineAnswer → LineAnswer → Type 0
AnswerGrows a b = (a ≡ b) ⊎ ((c : ℕ) × (a ≡ Bad (fault BadName c)) × AnswerFrom c b)

same_column : (c : ℕ) (g f : Fault) → c ≤ g.column → some g ≡ some f → c ≤ f.column
same_column c g f l e = let same : g ≡ f = cc in subst (λ (h : Fault). c ≤ h.column) same l

said_grows : (s : Shape) → Faultless s → (x y : Fitted) → FitGrows x y → AnswerGrows (said s.says x) (said s.says y)
unfolding said fault_in
said_grows s clean x y (inl e) = inl (ap (said s.says) e)
said_grows s clean x y (inr (c, e, l)) = inr (c, ap (said s.says) e, from y l)
  where
    from : (y : Fitted) → FitFrom c y → AnswerFrom c (said s.says y)
    from (fits vs) l f e = never_none (sym (clean vs) ∙ e)
    from (misfit g) l f e = same_column c g f l e

-- the bytes' fault is the same, so the line is told alike, or by the name
abbrev LineGrows : LineAnswer → LineAnswer → Type 0
LineGrows a b = (a ≡ b) ⊎ ((c : ℕ) × (a ≡ Bad (fault BadName c)))

module _ (front size : ℕ) where
  outside : (c : ℕ) (o : Option Fault) → front < c → ((f : Fault) → o ≡ some f → c ≤ f.column) → within front o ≡ false
  unfolding within
  outside c none h l = refl
  outside c (some f) h l = lt-leb f.column front (omega (arith, l f refl))

  test_grows : (a b : LineAnswer) → AnswerGrows a b → LineGrows (test_bytes front size a) (test_bytes front size b)
  unfolding test_bytes within fault_in
  test_grows a b (inl e) = inl (ap (test_bytes front size) e)
  test_grows a b (inr (c, e, l)) = go (leb size front) refl (leb c front) refl
    where
      told : test_bytes front size a ≡ test_bytes front size (Bad (fault BadName c))
      told = ap (test_bytes front size) e

      go : (t : Bool) → leb size front ≡ t → (u : Bool) → leb c front ≡ u → LineGrows (test_bytes front size a) (test_bytes front size b)
      go true p u q = inr (c, told ∙ rw p)
      go false p true q = inr (c, told ∙ rw (p, q))
      go false p false q = inl (told ∙ rw (p, q, outside c (fault_in b) (leb-false c front q) l))

-- ---- the reading: the same step, or one that stops for a name

abbrev StepGrows : Step → Step → Type 0
StepGrows a b = (a ≡ b) ⊎ ((c : ℕ) × (a ≡ Stop SYMBOL c))

step_grows : (n : ℕ) (m : Mode) (a b : LineAnswer) → LineGrows a b → StepGrows (step_of n m a) (step_of n m b)
unfolding step_of fault_number
step_grows n m a b (inl e) = inl (ap (step_of n m) e)
step_grows n m a b (inr (c, e)) = inr (c, ap (step_of n m) e)

abbrev NameStopped : ReadSoFar → Type 0
NameStopped r = ((n : ℕ) × (c : ℕ) × (r.fault ≡ Stopped SYMBOL n c))

abbrev ReadGrows : ReadSoFar → ReadSoFar → Type 0
ReadGrows r q = (r ≡ q) ⊎ NameStopped r

taken_grows : (r : ReadSoFar) (a b : Step) → StepGrows a b → ReadGrows (if_complete r.fault (stepped r a) r) (if_complete r.fault (stepped r b) r)
unfolding if_complete stepped
taken_grows r a b (inl e) = inl (ap (λ (x : Step). if_complete r.fault (stepped r x) r) e)
taken_grows r a b (inr (c, e)) = go r.fault
  where
    go : (f : Reading) → ReadGrows (if_complete f (stepped r a) r) (if_complete f (stepped r b) r)
    go Complete = inr (r.line, c, ap (λ (x : Step). (stepped r x).fault) e)
    go (Err s) = inl refl

-- a file that is read alike over two alphabets
abbrev pub ReadAlike : Alphabet → Alphabet → List ℕ → Type 0
ReadAlike one other file = (reading_over one file ≡ reading_over other file) × (items_over one file ≡ items_over other file)

-- or stops for a name over the first
abbrev pub FileGrows : Alphabet → Alphabet → List ℕ → Type 0
FileGrows small large file =
    ReadAlike small large file ⊎ ((n : ℕ) × (c : ℕ) × (reading_over small file ≡ Stopped SYMBOL n c))

-- ---- two alphabets, the one within the other

abbrev pub Within : Alphabet → Alphabet → Type 0
Within small large = ((b : ℕ) → small b ≡ true → large b ≡ true)

module _ {small large : Alphabet} (grows : Within small large) where
  pub name_grows : (cs : List ℕ) → is_name_over small cs ≡ true → is_name_over large cs ≡ true
  unfolding is_name_over
  name_grows cs h =
      let size = and_left (between 1 6 (length cs)) _ h in
      let rest = and_right (between 1 6 (length cs)) _ h in
      and_intro size
      (and_intro
      (and_left (is_letter (get_or cs 0 0)) _ rest)
      (all_weaken small large grows cs (and_right (is_letter (get_or cs 0 0)) _ rest)))

  field_grows : (k : Kind) (f : List ℕ) → (read_field_over small k f ≡ read_field_over large k f) ⊎ (read_field_over small k f ≡ wrong BadName)
  unfolding read_field_over name_over held
  field_grows (Number low high j) f = inl refl
  field_grows Name f = go (is_name_over small f) refl
    where
      go : (t : Bool) → is_name_over small f ≡ t →
          (held BadName (name_over small f) ≡ held BadName (name_over large f)) ⊎ (held BadName (name_over small f) ≡ wrong BadName)
      go true e = inl (rw (e, name_grows f e))
      go false e = inr (rw e)
  field_grows Anything f = inl refl
  field_grows (Marker c) f = inl refl

  fit_grows : (low end : ℕ) (ks : List Kind) (fs : List Field) → Rising low end fs → FitGrows (fit_over small end ks fs) (fit_over large end ks fs)
  unfolding fit_over
  fit_grows low end [] [] r = inl refl
  fit_grows low end [] (f ∷ fs) r = inl refl
  fit_grows low end (k ∷ ks) [] r = inl refl
  fit_grows low end (k ∷ ks) (f ∷ fs) r =
      front_grows f.column (fit_over small end ks fs) (fit_over large end ks fs)
      (fit_from large f.column end ks fs (rising_lower _ _ end fs (omega arith) r.1))
      (fit_grows (f.column + 1) end ks fs r.1)
      (read_field_over small k f.text)
      (read_field_over large k f.text)
      (field_grows k f.text)

  fields_grow : (end : ℕ) (fs : List Field) (s : Option Shape) → FaultlessIn s → Rising 1 end fs →
      AnswerGrows (say_fields_over small end fs s) (say_fields_over large end fs s)
  unfolding say_fields_over read_as_over
  fields_grow end [] s clean r = inl refl
  fields_grow end (f ∷ fs) none clean r = inl refl
  fields_grow end (f ∷ fs) (some s) clean r = said_grows s clean _ _ (fit_grows 1 end s.kinds (f ∷ fs) r)

  line_grows : (w : Expected) (line : List ℕ) → LineGrows (line_answer_over small w line) (line_answer_over large w line)
  unfolding line_answer_over line_over fields_of
  line_grows w line =
      let fs = fields_from 1 line in
      let end : 1 + length line ≡ length line + 1 = omega arith in
      let rise = subst (λ n. Rising 1 n fs) end (fields_rise 1 line) in
      test_grows _ _ _ _ (fields_grow (length line + 1) fs (shape_for w fs) (shape_faultless w fs) rise)

  read_grows : (r : ReadSoFar) (l : List ℕ) → ReadGrows (read_line_over small r l) (read_line_over large r l)
  unfolding read_line_over
  read_grows r l = taken_grows r _ _ (step_grows _ _ _ _ (line_grows r.mode.expected l))

  lines_grow : (ls : List (List ℕ)) (r : ReadSoFar) → ReadGrows (read_lines_over small r ls) (read_lines_over large r ls)
  unfolding read_lines_over
  lines_grow [] r = inl refl
  lines_grow (l ∷ ls) r = go (read_grows r l) (lines_grow ls (read_line_over small r l))
    where
      go : ReadGrows (read_line_over small r l) (read_line_over large r l) →
          ReadGrows (read_lines_over small (read_line_over small r l) ls) (read_lines_over large (read_line_over small r l) ls) →
          ReadGrows (read_lines_over small (read_line_over small r l) ls) (read_lines_over large (read_line_over large r l) ls)
      go (inl e) (inl f) = inl (f ∙ ap (λ (q : ReadSoFar). read_lines_over large q ls) e)
      go (inl e) (inr f) = inr f
      go (inr (n, c, e)) f = inr (n, c, ap (λ (q : ReadSoFar). q.fault) (lines_after small ls (read_line_over small r l) SYMBOL n c e) ∙ e)

  pub file_grows : (file : List ℕ) → FileGrows small large file
  unfolding reading_over items_over if_complete
  file_grows file = go (lines_grow (lines_of file) unread)
    where
      go : ReadGrows (read_lines_over small unread (lines_of file)) (read_lines_over large unread (lines_of file)) → FileGrows small large file
      go (inl e) = inl (ap ended e, ap (λ (r : ReadSoFar). r.items) e)
      go (inr (n, c, e)) = inr (n, c, rw e)
