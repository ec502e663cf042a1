-- Two alphabets that agree on the bytes of a file read it alike, whatever it holds.
use Prim.Native.Nat.{ℕ, ◌+◌}
use mathlib.Core.Bool.{Bool, true, cond, ◌&&◌}
use mathlib.Core.List.{List, [], ◌∷◌, map}
use mathlib.Core.Option.{Option, none, some}
use mathlib.Core.Path.{◌≡◌, refl, ap, ap₂, ◌∙◌}
use lib.ListN.{length, get_or}
use lib.Dec.{eqb}
use Rattle.rules.specs.Text.{all, between, is_letter, LF, space, is_line_end, widen_line, cut_lines, without_end, lines_of, Field, starts_field, widen_field, add_to_fields, fields_from, fields_of, Alphabet, pack_name, is_name_over, name_over}
use Rattle.rules.specs.Line.{Shape, held, in_front, said, read_field_over, fit_over, read_as_over, say_fields_over, line_over, test_bytes, line_answer_over}
use Rattle.rules.specs.Reading.{ReadSoFar, unread, stepped, if_complete, step_of, read_line_over, read_lines_over, ended, reading_over, items_over}
use Rattle.rules.specs.declared.line.FaultKind.TheVariants.{BadName}
use Rattle.rules.specs.declared.line.Kind.{Kind}
use Rattle.rules.specs.declared.line.Kind.TheVariants.{Number, Name, Anything, Marker}
use Rattle.rules.specs.declared.line.Expected.{Expected}
use Rattle.rules.specs.declared.line.LineAnswer.{LineAnswer}
use Rattle.rules.proofs.BoolLaws.{cond_cases}
use Rattle.rules.proofs.AlphabetLaws.{ReadAlike}
use Rattle.rules.proofs.TestLaws.{all_cons, all_first, all_rest}

-- ---- the bytes of a file, of its lines and of their fields

module _ (p : ℕ → Bool) where
  abbrev in_line : List ℕ → Bool
  in_line l = all p l

  abbrev in_field : Field → Bool
  in_field f = all p f.text

  widened_line : (b : ℕ) (ls : List (List ℕ)) → p b ≡ true → all in_line ls ≡ true → all in_line (widen_line b ls) ≡ true
  unfolding all widen_line
  widened_line b [] h k = all_cons in_line (b ∷ []) [] (all_cons p b [] h refl) refl
  widened_line b (l ∷ ls) h k = all_cons in_line (b ∷ l) ls (all_cons p b l h (all_first in_line l ls k)) (all_rest in_line l ls k)

  cut_lines_lem : (file : List ℕ) → all p file ≡ true → all in_line (cut_lines file) ≡ true
  unfolding all cut_lines
  cut_lines_lem [] h = refl
  cut_lines_lem (b ∷ rest) h =
      let more = cut_lines_lem rest (all_rest p b rest h) in
      let one = all_first p b rest h in
      cond_cases (λ ls. all in_line ls ≡ true) (eqb b LF) _ _
      (λ _. all_cons in_line (b ∷ []) (cut_lines rest) (all_cons p b [] one refl) more)
      (λ _. widened_line b (cut_lines rest) one more)

  without_end_lem : (l : List ℕ) → all p l ≡ true → all p (without_end l) ≡ true
  unfolding all without_end
  without_end_lem [] h = refl
  without_end_lem (b ∷ rest) h =
      cond_cases (λ l. all p l ≡ true) (is_line_end (b ∷ rest)) _ _
      (λ _. refl)
      (λ _. all_cons p b (without_end rest) (all_first p b rest h) (without_end_lem rest (all_rest p b rest h)))

  ends_dropped : (ls : List (List ℕ)) → all in_line ls ≡ true → all in_line (map without_end ls) ≡ true
  unfolding all map
  ends_dropped [] h = refl
  ends_dropped (l ∷ ls) h =
      all_cons in_line (without_end l) (map without_end ls) (without_end_lem l (all_first in_line l ls h)) (ends_dropped ls (all_rest in_line l ls h))

  lines_of_lem : (file : List ℕ) → all p file ≡ true → all in_line (lines_of file) ≡ true
  unfolding lines_of
  lines_of_lem file h = ends_dropped (cut_lines file) (cut_lines_lem file h)

  widened_field : (c b : ℕ) (fs : List Field) → p b ≡ true → all in_field fs ≡ true → all in_field (widen_field c b fs) ≡ true
  unfolding all widen_field
  widened_field c b [] h k = all_cons in_field (record { column = c; text = b ∷ [] }) [] (all_cons p b [] h refl) refl
  widened_field c b (f ∷ fs) h k =
      all_cons in_field (record { column = c; text = b ∷ f.text }) fs (all_cons p b f.text h (all_first in_field f fs k)) (all_rest in_field f fs k)

  fields_from_lem : (c : ℕ) (l : List ℕ) → all p l ≡ true → all in_field (fields_from c l) ≡ true
  unfolding all fields_from add_to_fields
  fields_from_lem c [] h = refl
  fields_from_lem c (b ∷ rest) h =
      let more = fields_from_lem (c + 1) rest (all_rest p b rest h) in
      let one = all_first p b rest h in
      cond_cases (λ fs. all in_field fs ≡ true) (eqb b space) _ _
      (λ _. more)
      (λ _.
      cond_cases (λ fs. all in_field fs ≡ true) (starts_field rest) _ _
      (λ _. widened_field c b (fields_from (c + 1) rest) one more)
      (λ _. all_cons in_field (record { column = c; text = b ∷ [] }) (fields_from (c + 1) rest) (all_cons p b [] one refl) more))

-- ---- the rules, one after the other

-- two alphabets that agree on what passes p
abbrev pub Agree : (ℕ → Bool) → Alphabet → Alphabet → Type 0
Agree p one other = ((b : ℕ) → p b ≡ true → one b ≡ other b)

module _ (p : ℕ → Bool) (one other : Alphabet) (agree : Agree p one other) where
  all_agree : (cs : List ℕ) → all p cs ≡ true → all one cs ≡ all other cs
  unfolding all
  all_agree [] h = refl
  all_agree (c ∷ cs) h = ap₂ ◌&&◌ (agree c (all_first p c cs h)) (all_agree cs (all_rest p c cs h))

  pub name_agrees : (cs : List ℕ) → all p cs ≡ true → is_name_over one cs ≡ is_name_over other cs
  unfolding is_name_over
  name_agrees cs h = ap (λ (t : Bool). between 1 6 (length cs) && (is_letter (get_or cs 0 0) && t)) (all_agree cs h)

  field_agrees : (k : Kind) (f : List ℕ) → all p f ≡ true → read_field_over one k f ≡ read_field_over other k f
  unfolding read_field_over name_over
  field_agrees (Number low high j) f h = refl
  field_agrees Name f h = ap (λ (t : Bool). held BadName (cond t (some (pack_name f)) none)) (name_agrees f h)
  field_agrees Anything f h = refl
  field_agrees (Marker c) f h = refl

  fit_agrees : (end : ℕ) (ks : List Kind) (fs : List Field) → all (in_field p) fs ≡ true → fit_over one end ks fs ≡ fit_over other end ks fs
  unfolding fit_over
  fit_agrees end [] [] h = refl
  fit_agrees end [] (f ∷ fs) h = refl
  fit_agrees end (k ∷ ks) [] h = refl
  fit_agrees end (k ∷ ks) (f ∷ fs) h =
      ap₂ (in_front f.column) (field_agrees k f.text (all_first (in_field p) f fs h)) (fit_agrees end ks fs (all_rest (in_field p) f fs h))

  fields_agree : (end : ℕ) (fs : List Field) (s : Option Shape) → all (in_field p) fs ≡ true → say_fields_over one end fs s ≡ say_fields_over other end fs s
  unfolding say_fields_over read_as_over
  fields_agree end [] s h = refl
  fields_agree end (f ∷ fs) none h = refl
  fields_agree end (f ∷ fs) (some s) h = ap (said s.says) (fit_agrees end s.kinds (f ∷ fs) h)

  line_agrees : (w : Expected) (line : List ℕ) → all p line ≡ true → line_answer_over one w line ≡ line_answer_over other w line
  unfolding line_answer_over line_over fields_of
  line_agrees w line h = ap (test_bytes _ _) (fields_agree _ _ _ (fields_from_lem p 1 line h))

  read_agrees : (r : ReadSoFar) (l : List ℕ) → all p l ≡ true → read_line_over one r l ≡ read_line_over other r l
  unfolding read_line_over
  read_agrees r l h = ap (λ (a : LineAnswer). if_complete r.fault (stepped r (step_of r.line r.mode a)) r) (line_agrees r.mode.expected l h)

  lines_agree : (ls : List (List ℕ)) (r : ReadSoFar) → all (in_line p) ls ≡ true → read_lines_over one r ls ≡ read_lines_over other r ls
  unfolding read_lines_over
  lines_agree [] r h = refl
  lines_agree (l ∷ ls) r h =
      lines_agree ls (read_line_over one r l) (all_rest (in_line p) l ls h)
      ∙ ap (λ (q : ReadSoFar). read_lines_over other q ls) (read_agrees r l (all_first (in_line p) l ls h))

  pub file_agrees : (file : List ℕ) → all p file ≡ true → ReadAlike one other file
  unfolding reading_over items_over
  file_agrees file h =
      let same = lines_agree (lines_of file) unread (lines_of_lem p file h) in
      (ap ended same, ap (λ (r : ReadSoFar). r.items) same)
