-- The first field of a line, looked at before the line is fitted.
-- Assumes nothing.
use Prim.Native.Nat.{ℕ, suc, ◌+◌, ◌-◌, ◌≤◌}
use native.Mathlib.Omega.{arith}
use mathlib.Core.Bool.{Bool, true, false}
use mathlib.Core.List.{List, [], ◌∷◌}
use mathlib.Core.Option.{Option, none, some}
use mathlib.Core.Path.{◌≡◌, refl, sym, ap, ◌∙◌}
use lib.ListN.{length, get_or}
use borrow.Author.Tests.{ne_eqb, ltb-true, ltb-false}
use lib.Dec.{ltb}
use Rattle.rules.specs.Text.{Field, fields_from, fields_of, same_text}
use Rattle.rules.specs.Line.{Shape, first_text, starred, fault, say_fields, say_fields_over}
use Rattle.rules.specs.declared.line.FaultKind.TheVariants.{BadMarker}
use Rattle.text.specs.Scan.{part, InFile}
use Rattle.text.specs.FieldBounds.{field_start, field_stop, first}
use Rattle.text.specs.Digits.{field_text}
use Rattle.text.proofs.FieldLaws.{field, next_field, field_found, no_field, start_most, stop_most}
use Rattle.text.proofs.ScanLaws.{in_line, part_nil, part_cons, part_all}
use Rattle.line.specs.Fields.{StartsAt}
use Rattle.line.specs.Fitting.{line_fields, shape_said}

first_text_lem : (c : ℕ) (t : List ℕ) (others : List Field) → first_text (first (field c t) others) ≡ t
unfolding first first_text
first_text_lem c [] others = refl
first_text_lem c (b ∷ t) others = simp (ne_eqb (suc (length t)) 0 (λ e. omega arith))

-- ---- an asterisk in front

other_first : (b : ℕ) (rest : List ℕ) → (b ≡ 42 → ⊥) → false ≡ same_text (b ∷ rest) (42 ∷ [])
unfolding same_text
other_first b rest n = simp (ne_eqb b 42 n)

none_first : (l : List ℕ) → l ≡ [] → false ≡ same_text l (42 ∷ [])
unfolding same_text
none_first l e = rw e

module _ (at stop s : ℕ) (l : List ℕ) (h : InFile at stop l) (e : s ≡ field_start at stop l) where
  abbrev end : ℕ
  end = field_stop at stop l

  text_is : first_text (line_fields at stop l) ≡ part s end l
  unfolding fields_of
  text_is =
      ap first_text (next_field at stop l h 1) ∙ first_text_lem _ _ _ ∙ ap (λ (k : ℕ). part k end l) (sym e)

  -- another byte stands in front of the first field
  pub star_not : (get_or l s 0 ≡ 42 → ⊥) → false ≡ starred (line_fields at stop l)
  star_not n = go (ltb s end) refl
    where
      go : (x : Bool) → ltb s end ≡ x → false ≡ starred (line_fields at stop l)
      go true x =
          let m : end ≤ length l = omega (arith, stop_most at stop l h, h.size) in
          other_first (get_or l s 0) (part (s + 1) end l) n
          ∙ ap (λ (t : List ℕ). same_text t (42 ∷ [])) (sym (text_is ∙ part_cons s end l (ltb-true s end x) m))
      go false x = none_first _ (text_is ∙ part_nil s end l (ltb-false s end x))

-- ---- a line by itself

pub fields_none : (l : List ℕ) {s : ℕ} → s ≡ field_start 0 (length l) l → s ≡ length l → fields_of l ≡ []
unfolding fields_of
fields_none l {s} e n = ap (fields_from 1) (sym (part_all 0 l)) ∙ no_field 0 (length l) s l (in_line _ _ (omega arith)) e n 1

module _ (l : List ℕ) {s : ℕ} (e : s ≡ field_start 0 (length l) l) where
  -- it starts there, where it has one
  pub starts : (s ≡ length l → ⊥) → StartsAt 0 l s
  starts n =
      let m : s ≤ length l = rw (← e) at (start_most 0 (length l) l (in_line _ _ (omega arith))) in
      record { found = e; inside = omega (arith, m, n) }

  -- where it has none, no asterisk stands in front
  pub unstarred_none : s ≡ length l → starred (fields_of l) ≡ false
  unfolding first_text
  unstarred_none n = sym (none_first _ (ap first_text (fields_none l e n)))

module _ (l : List ℕ) (s : ℕ) (b : StartsAt 0 l s) where
  others : List Field
  others = fields_from (1 + (s + length (field_text s (length l) l) - 0)) (part (s + length (field_text s (length l) l)) (length l) l)

  -- its first field is that at s
  fields_are : fields_of l ≡ field (s + 1) (field_text s (length l) l) ∷ others
  unfolding fields_of others
  fields_are =
      let f = field_found 0 (length l) s l (in_line _ _ (omega arith)) b.found b.inside (field_text s (length l) l) refl in
      let c : 1 + (s - 0) ≡ s + 1 = omega arith in
      ap (fields_from 1) (sym (part_all 0 l)) ∙ f.anywhere 1 ∙ ap (λ (n : ℕ). field n (field_text s (length l) l) ∷ others) c

  pub first_is : first_text (fields_of l) ≡ field_text s (length l) l
  unfolding first_text
  first_is = ap first_text fields_are

  pub unstarred : (get_or l s 0 ≡ 42 → ⊥) → starred (fields_of l) ≡ false
  unstarred n =
      ap starred (ap fields_of (sym (part_all 0 l)))
      ∙ sym (star_not 0 (length l) s l (in_line _ _ (omega arith)) b.found n)

  -- one that is read as no shape is at fault there
  pub shape_is : (o : Option Shape) (end : ℕ) → shape_said o (fault BadMarker (s + 1)) end (fields_of l) ≡ say_fields end (fields_of l) o
  unfolding shape_said say_fields_over
  shape_is none end = rw fields_are
  shape_is (some x) end = rw fields_are
