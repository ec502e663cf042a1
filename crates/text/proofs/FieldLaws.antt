-- The fields of a line, one after the other, by the positions of their bounds.
-- Assumes nothing.
use Prim.Native.Nat.{ℕ, suc, ◌+◌, ◌-◌, ◌≤◌, ◌<◌}
use native.Mathlib.Nat.{add-zero}
use native.Mathlib.Omega.{arith}
use mathlib.Core.Bool.{Bool, true, false, not}
use mathlib.Core.List.{List, [], ◌∷◌}
use mathlib.Core.Path.{◌≡◌, refl, sym, ap, ap₂, ◌∙◌}
use lib.ListN.{length, take, drop}
use lib.Dec.{eqb}
use borrow.Author.Tests.{eq-eqb, ne_eqb}
use denote.Ref.{Bor}
use Rattle.rules.specs.Text.{space, Field, fields_from, add_to_fields, starts_field, widen_field}
use Rattle.text.specs.Scan.{part, run, past, is_not, InFile}
use Rattle.text.specs.FieldBounds.{is_space, field_start, field_stop, first, onward, NextField}
use Rattle.text.proofs.ScanLaws.{run_yes, run_no, run_most, drop_part, take_part, part_nil, past_again, length_part}

-- how many bytes stand before the first space, and how many spaces before the first other byte
abbrev width : List ℕ → ℕ
width l = run (is_not space) l

abbrev gap : List ℕ → ℕ
gap l = run is_space l

abbrev pub field : ℕ → List ℕ → Field
field c t = record { column = c; text = t }

module _ (c b : ℕ) (rest : List ℕ) where
  fields_space : eqb b space ≡ true → fields_from c (b ∷ rest) ≡ fields_from (c + 1) rest
  unfolding fields_from add_to_fields
  fields_space e = simp e

  module _ (e : eqb b space ≡ false) where
    fields_more : starts_field rest ≡ true → fields_from c (b ∷ rest) ≡ widen_field c b (fields_from (c + 1) rest)
    unfolding fields_from add_to_fields
    fields_more h = simp (e, h)

    fields_end : starts_field rest ≡ false → fields_from c (b ∷ rest) ≡ field c (b ∷ []) ∷ fields_from (c + 1) rest
    unfolding fields_from add_to_fields
    fields_end h = simp (e, h)

    width_more : width (b ∷ rest) ≡ suc (width rest)
    width_more = run_yes (is_not space) b rest (ap not e)

width_none : (l : List ℕ) → starts_field l ≡ false → width l ≡ 0
unfolding starts_field run
width_none [] h = refl
width_none (b ∷ rest) h = run_no (is_not space) b rest h

pub first_some : (f : Field) (others : List Field) → 0 < length f.text → first f others ≡ f ∷ others
unfolding first
first_some f others h = simp (ne_eqb (length f.text) 0 (λ e. omega arith))

pub first_none : (f : Field) (others : List Field) → length f.text ≡ 0 → first f others ≡ []
unfolding first
first_none f others e = simp (eq-eqb (length f.text) 0 e)

-- a text that starts with a field
abbrev Starts : ℕ → List ℕ → Type 0
Starts c l = fields_from c l ≡ field c (take (width l) l) ∷ fields_from (c + width l) (drop (width l) l)

starts : (c b : ℕ) (rest : List ℕ) → eqb b space ≡ false → Starts c (b ∷ rest)
unfolding starts_field widen_field
starts c b [] e = rw (width_more c b [] e, width_none [] refl) (fields_end c b [] e refl)
starts c b (x ∷ xs) e = go (eqb x space) refl (λ f. starts (c + 1) x xs f)
  where
    k : (w : ℕ) → c + 1 + w ≡ c + suc w
    k w = omega arith

    go : (t : Bool) → eqb x space ≡ t → (eqb x space ≡ false → Starts (c + 1) (x ∷ xs)) → Starts c (b ∷ x ∷ xs)
    go true f ih =
        rw (width_more c b (x ∷ xs) e, width_none (x ∷ xs) (ap not f)) (fields_end c b (x ∷ xs) e (ap not f))
    go false f ih =
        rw (width_more c b (x ∷ xs) e)
        (fields_more c b (x ∷ xs) e (ap not f)
        ∙ ap (widen_field c b) (ih f)
        ∙ ap
        (λ (n : ℕ). field c (b ∷ take (width (x ∷ xs)) (x ∷ xs)) ∷ fields_from n (drop (width (x ∷ xs)) (x ∷ xs)))
        (k (width (x ∷ xs))))

-- the fields of a text whose first byte, if any, is no space
after : ℕ → List ℕ → List Field
after c l = first (field c (take (width l) l)) (fields_from (c + width l) (drop (width l) l))

-- the spaces in front are passed over
after_gap : (c : ℕ) (l : List ℕ) → fields_from c l ≡ after (c + gap l) (drop (gap l) l)
unfolding after fields_from first run
after_gap c [] = refl
after_gap c (b ∷ rest) = go (eqb b space) refl (after_gap (c + 1) rest)
  where
    go :
        (t : Bool) → eqb b space ≡ t
        → fields_from (c + 1) rest ≡ after (c + 1 + gap rest) (drop (gap rest) rest)
        → fields_from c (b ∷ rest) ≡ after (c + gap (b ∷ rest)) (drop (gap (b ∷ rest)) (b ∷ rest))
    go true e ih =
        let k : c + 1 + gap rest ≡ c + suc (gap rest) = omega arith in
        rw (run_yes is_space b rest e) (fields_space c b rest e ∙ ih ∙ ap (λ (n : ℕ). after n (drop (gap rest) rest)) k)
    go false e ih =
        rw (run_no is_space b rest e, add-zero)
        (starts c b rest e ∙ sym (first_some _ _ (rw (width_more c b rest e) (omega arith))))

-- ---- the same by positions

module _ (at stop : ℕ) (file : List ℕ) (i : InFile at stop file) where
  gap_is : field_start at stop file ≡ at + gap (part at stop file)
  unfolding field_start past
  gap_is = refl

  from_start : drop (gap (part at stop file)) (part at stop file) ≡ part (field_start at stop file) stop file
  unfolding field_start past
  from_start = drop_part at stop (gap (part at stop file)) file

  width_is : field_stop at stop file ≡ field_start at stop file + width (part (field_start at stop file) stop file)
  unfolding field_stop past
  width_is = refl

  pub start_least : at ≤ field_start at stop file
  start_least = omega (arith, gap_is)

  pub start_most : field_start at stop file ≤ stop
  start_most =
      omega
      (arith, gap_is, run_most is_space (part at stop file), length_part at stop file i.size, i.order)

  pub stop_least : field_start at stop file ≤ field_stop at stop file
  stop_least = omega (arith, width_is)

  pub stop_most : field_stop at stop file ≤ stop
  stop_most =
      let start = field_start at stop file in
      omega
      (arith, width_is, start_most, run_most (is_not space) (part start stop file), length_part start stop file i.size)

  -- the next field, and the fields of what stands behind it
  pub next_field : (c : ℕ)
      → fields_from c (part at stop file)
      ≡ first
      (field (c + (field_start at stop file - at)) (part (field_start at stop file) (field_stop at stop file) file))
      (fields_from (c + (field_stop at stop file - at)) (part (field_stop at stop file) stop file))
  unfolding after
  next_field c =
      let start = field_start at stop file in
      let w = width (part start stop file) in
      let g : c + gap (part at stop file) ≡ c + (start - at) = omega (arith, gap_is) in
      let n : c + (start - at) + w ≡ c + (field_stop at stop file - at) = omega (arith, gap_is, width_is) in
      let most : w ≤ stop - start = omega (arith, width_is, stop_most) in
      after_gap c (part at stop file)
      ∙ ap₂ after g from_start
      ∙ ap₂
      (λ (t : List ℕ) (fs : List Field). first (field (c + (start - at)) t) fs)
      (take_part start stop w file most ∙ ap (λ (k : ℕ). part start k file) (sym width_is))
      (ap₂ fields_from n (drop_part start stop w file ∙ ap (λ (k : ℕ). part k stop file) (sym width_is)))

-- where a field starts, the next one starts there
pub start_again : (at stop : ℕ) (file : List ℕ) {s : ℕ} → s ≡ field_start at stop file → field_start s stop file ≡ s
unfolding field_start past
start_again at stop file {s} e = omega (arith, ap (λ (k : ℕ). run is_space (part k stop file)) e, past_again is_space at stop file)

-- the part between the two positions that the scans find is the next field
pub lends_field : (at stop start end : ℕ) (file r : Bor (List ℕ)) → InFile at stop file.now
    → start ≡ field_start at stop file.now → end ≡ past (is_not space) start stop file.now
    → r.now ≡ part start end file.now → r.ref_ptr ≡ onward start file.ref_ptr → NextField at stop file r
unfolding field_stop
lends_field at stop start end file r i s e b p =
    let n : end ≡ field_stop at stop file.now = e ∙ ap (λ (k : ℕ). past (is_not space) k stop file.now) s in
    let t : r.now ≡ part (field_start at stop file.now) (field_stop at stop file.now) file.now =
    b ∙ ap₂ (λ (f g : ℕ). part f g file.now) s n in
    record {
      bytes = t;
      position = p ∙ ap (λ (k : ℕ). onward k file.ref_ptr) s;
      fields = λ c. rw t (next_field at stop file.now i c);
    }

-- ---- for a loop over the fields: s is where the next field of the line from i to stop starts

no_gap : (l : List ℕ) → gap l ≡ 0 → 0 < length l → 0 < width l
no_gap [] e h = absurd (omega arith)
no_gap (b ∷ rest) e h = go (eqb b space) refl
  where
    go : (t : Bool) → eqb b space ≡ t → 0 < width (b ∷ rest)
    go true f = absurd (omega (arith, run_yes is_space b rest f))
    go false f = omega (arith, width_more 0 b rest f)

-- a field with the text t was found at s, and the others stand behind it. Columns count from c at position i, or from the line's
-- start, `at`
pub record FieldFound (i stop s : ℕ) (l t : List ℕ) : Type 0 where
  pub ahead : i ≤ s
  pub some : 0 < length t
  pub fits : s + length t ≤ stop
  pub anywhere : (c : ℕ)
      → fields_from c (part i stop l)
      ≡ field (c + (s - i)) t ∷ fields_from (c + (s + length t - i)) (part (s + length t) stop l)
  pub fields : (at : ℕ) → at ≤ i
      → fields_from (i - at + 1) (part i stop l)
      ≡ field (s - at + 1) t ∷ fields_from (s + length t - at + 1) (part (s + length t) stop l)

module _ (i stop s : ℕ) (l : List ℕ) (h : InFile i stop l) (e : s ≡ field_start i stop l) where
  -- where it starts with the line's end, there is none
  pub no_field : s ≡ stop → (c : ℕ) → fields_from c (part i stop l) ≡ []
  no_field g c =
      next_field i stop l h c
      ∙ first_none _ _
      (ap length (part_nil (field_start i stop l) (field_stop i stop l) l (omega (arith, stop_most i stop l h))))

  -- where it starts before that, it is what `next_field` hands back from there
  module _ (g : s < stop) (t : List ℕ) (b : t ≡ part (field_start s stop l) (field_stop s stop l) l) where
    here : InFile s stop l
    here = record { order = omega arith; size = h.size }

    gap_zero : gap (part s stop l) ≡ 0
    unfolding field_start
    gap_zero = rw e (past_again is_space i stop l)

    start_same : field_start s stop l ≡ s
    start_same = omega (arith, gap_is s stop l here, gap_zero)

    stop_same : field_stop s stop l ≡ field_stop i stop l
    unfolding field_stop
    stop_same = ap (λ (k : ℕ). past (is_not space) k stop l) (start_same ∙ e)

    text_is : t ≡ part (field_start i stop l) (field_stop i stop l) l
    text_is = b ∙ ap₂ (λ (f n : ℕ). part f n l) (start_same ∙ e) stop_same

    size_is : s + length t ≡ field_stop i stop l
    size_is =
        omega (
          arith,
          ap length text_is,
          length_part (field_start i stop l) (field_stop i stop l) l (omega (arith, stop_most i stop l h, h.size)),
          stop_least i stop l h,
          e,
        )

    some : 0 < length t
    some =
        omega (
          arith,
          size_is,
          stop_same,
          rw start_same at (width_is s stop l here),
          no_gap (part s stop l) gap_zero (omega (arith, length_part s stop l h.size)),
        )

    pub field_found : FieldFound i stop s l t
    field_found =
        let ahead : i ≤ s = omega (arith, start_least i stop l h) in
        record {
          ahead = ahead;
          some = some;
          fits = omega (arith, size_is, stop_most i stop l h);
          anywhere = λ c. next_field i stop l h c ∙ rw (← text_is, ← size_is, ← e) (first_some _ _ some);
          fields = λ at before.
              let column : i - at + 1 + (s - i) ≡ s - at + 1 = omega arith in
              let behind : i - at + 1 + (s + length t - i) ≡ s + length t - at + 1 = omega arith in
              next_field i stop l h (i - at + 1)
              ∙ rw (← text_is, ← size_is, ← e, column, behind) (first_some _ _ some);
        }
