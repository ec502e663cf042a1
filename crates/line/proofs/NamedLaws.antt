-- Entries: fields that were read one after the other are the line's, and fit its shape, which its third field tells.
-- Assumes nothing.
use Prim.Native.Nat.{ℕ, ◌+◌, ◌≤◌}
use native.Mathlib.Omega.{arith}
use mathlib.Core.Bool.{Bool, true, false, cond}
use mathlib.Core.List.{List, [], ◌∷◌}
use mathlib.Core.Option.{Option, none, some}
use mathlib.Core.Path.{◌≡◌, refl, sym, ap, ◌∙◌}
use lib.ListN.{length}
use Rattle.rules.specs.Text.{fields_from, fields_of, number_of, between}
use Rattle.rules.specs.Line.{number, value, wrong, held, in_bounds, read_field, read_field_over, misfit, fit, said, read_as, read_as_over, record_shape, absolute_entry, relocated_entry, entry, is_one, text_at, entry_shape}
use Rattle.rules.specs.declared.line.Fault.{Fault}
use Rattle.rules.specs.declared.line.FaultKind.{FaultKind}
use Rattle.rules.specs.declared.line.FaultKind.TheVariants.{BadNumber, BadType}
use Rattle.rules.specs.declared.line.Kind.{Kind}
use Rattle.rules.specs.declared.line.Kind.TheVariants.{Number, Name}
use Rattle.rules.specs.declared.line.LineAnswer.TheVariants.{Bad, Entered}
use Rattle.text.specs.FieldBounds.{field_start}
use Rattle.text.specs.Digits.{field_text}
use Rattle.text.proofs.ScanLaws.{part_all}
use Rattle.rules.proofs.TestLaws.{between_high}
use Rattle.line.specs.Fields.{FieldLeft, FieldAs, FieldWrong}
use Rattle.line.proofs.FieldLaws.{later, this}
use Rattle.line.proofs.FitLaws.{Fitting, line_start, line_more, line_wrong, line_many, line_end}

-- ---- the type

-- a number that was taken is the field's
number_is : (low high : ℕ) (j : FaultKind) (t : List ℕ) {v : ℕ} → value v ≡ read_field (Number low high j) t → number_of t ≡ some v
unfolding read_field_over in_bounds held
number_is low high j t {v} e = go (number_of t) e
  where
    go : (o : Option ℕ) → value v ≡ in_bounds low high j (held BadNumber o) → o ≡ some v
    go none e = absurd (cc)
    go (some n) e = bound (between low high n) e
      where
        bound : (b : Bool) → value v ≡ cond b (value n) (wrong j) → some n ≡ some v
        bound true e = cc
        bound false e = absurd (cc)

-- and is within the bounds
number_most : (low high : ℕ) (j : FaultKind) (t : List ℕ) {v : ℕ} → value v ≡ read_field (Number low high j) t → v ≤ high
unfolding read_field_over in_bounds held
number_most low high j t {v} e = go (number_of t) e
  where
    go : (o : Option ℕ) → value v ≡ in_bounds low high j (held BadNumber o) → v ≤ high
    go none e = absurd (cc)
    go (some n) e = bound (between low high n) refl e
      where
        bound : (b : Bool) → between low high n ≡ b → value v ≡ cond b (value n) (wrong j) → v ≤ high
        bound true p e = let m : n ≡ v = cc in rw m at (between_high low high n p)
        bound false p e = absurd (cc)

abbrev type : Kind
type = Number 0 1 BadType

-- ---- what an entry says

pub type_most : {i : ℕ} {l : List ℕ} {t e : ℕ} → FieldAs type i l t e → t ≤ 1
type_most a = number_most 0 1 BadType _ a.reads

module _ (l : List ℕ) where
  -- whatever its type, the line is at fault
  pub entry_wrong : {f : Fault} → ((rest : List Kind) → misfit f ≡ fit (length l + 1) (Name ∷ number ∷ type ∷ rest) (fields_of l))
      → Bad f ≡ read_as (entry_shape (fields_of l)) (length l + 1) (fields_of l)
  unfolding entry_shape read_as_over record_shape said
  entry_wrong {f} h = go (is_one (number_of (text_at (fields_of l) 2)))
    where
      go : (b : Bool) → Bad f ≡ read_as (record_shape (cond b relocated_entry absolute_entry)) (length l + 1) (fields_of l)
      go true = rw (← (h (number ∷ [])))
      go false = rw (← (h []))

module _ {l : List ℕ} where
  -- a line that begins with a name
  one : {n e : ℕ} → FieldAs Name 0 l n e → (rest : List Kind) → Fitting (Name ∷ rest) 0 (length l) l (n ∷ []) rest e
  one a rest = line_more (line_start (Name ∷ rest) l) a

  pub name_wrong : {f : Fault} → FieldWrong Name 0 l f → Bad f ≡ read_as (entry_shape (fields_of l)) (length l + 1) (fields_of l)
  name_wrong w = entry_wrong l (λ rest. line_wrong (line_start (Name ∷ number ∷ type ∷ rest) l) w)

  module _ {n e : ℕ} (a : FieldAs Name 0 l n e) where
    pub value_wrong : {f : Fault} → FieldWrong number e l f → Bad f ≡ read_as (entry_shape (fields_of l)) (length l + 1) (fields_of l)
    value_wrong w = entry_wrong l (λ rest. line_wrong (one a (number ∷ type ∷ rest)) w)

    module _ {v f : ℕ} (b : FieldAs number e l v f) where
      pub type_wrong : {g : Fault} → FieldWrong type f l g → Bad g ≡ read_as (entry_shape (fields_of l)) (length l + 1) (fields_of l)
      type_wrong w = entry_wrong l (λ rest. line_wrong (line_more (one a (number ∷ type ∷ rest)) b) w)

      module _ {t g : ℕ} (c : FieldAs type f l t g) where
        third : text_at (fields_of l) 2 ≡ field_text c.start (length l) l
        unfolding fields_of
        third =
            ap (λ (x : List ℕ). text_at (fields_from 1 x) 2) (sym (part_all 0 l))
            ∙ later (omega arith) a 1 1
            ∙ later a.most b _ 0
            ∙ this b.most c _

        -- the type as the third field
        typed : is_one (number_of (text_at (fields_of l) 2)) ≡ is_one (some t)
        typed = ap is_one (ap number_of third ∙ number_is 0 1 BadType _ c.reads)

        three : (rest : List Kind) → Fitting (Name ∷ number ∷ type ∷ rest) 0 (length l) l (n ∷ v ∷ t ∷ []) rest g
        three rest = line_more (line_more (one a (number ∷ type ∷ rest)) b) c

        pub absolute_many : {x : Fault} → FieldLeft g l x → t ≡ 0 → Bad x ≡ read_as (entry_shape (fields_of l)) (length l + 1) (fields_of l)
        unfolding read_as_over record_shape entry_shape said is_one
        absolute_many m z = rw (typed, z, ← (line_many (three []) m))

        pub absolute_says : field_start g (length l) l ≡ length l → t ≡ 0
            → Entered (entry n v false 0) ≡ read_as (entry_shape (fields_of l)) (length l + 1) (fields_of l)
        unfolding read_as_over record_shape entry_shape said is_one
        absolute_says m z = rw (typed, z, ← (line_end (three []) m))

        pub parameters_wrong : {x : Fault} → FieldWrong number g l x → t ≡ 1 → Bad x ≡ read_as (entry_shape (fields_of l)) (length l + 1) (fields_of l)
        unfolding read_as_over record_shape entry_shape said is_one
        parameters_wrong w z = rw (typed, z, ← (line_wrong (three (number ∷ [])) w))

        module _ {p s : ℕ} (d : FieldAs number g l p s) where
          pub relocated_many : {x : Fault} → FieldLeft s l x → t ≡ 1 → Bad x ≡ read_as (entry_shape (fields_of l)) (length l + 1) (fields_of l)
          unfolding read_as_over record_shape entry_shape said is_one
          relocated_many m z = rw (typed, z, ← (line_many (line_more (three (number ∷ [])) d) m))

          pub relocated_says : field_start s (length l) l ≡ length l → t ≡ 1
              → Entered (entry n v true p) ≡ read_as (entry_shape (fields_of l)) (length l + 1) (fields_of l)
          unfolding read_as_over record_shape entry_shape said is_one
          relocated_says m z = rw (typed, z, ← (line_end (line_more (three (number ∷ [])) d) m))
