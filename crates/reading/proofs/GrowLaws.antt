-- The tables as they are filled: the open module's parts and the open section's rows begin inside them, and they only grow.
use Prim.Native.Nat.{ℕ, ◌+◌, ◌≤◌}
use native.Mathlib.Omega.{arith}
use mathlib.Core.Bool.{Bool, true, false, cond}
use mathlib.Core.List.{List, [], ◌∷◌, ◌++◌, append_assoc, append-nil}
use mathlib.Core.Path.{◌≡◌, refl, sym, ap, ◌∙◌}
use lib.ListN.{length, length-append}
use Rattle.rules.specs.Reading.{step_at}
use Rattle.rules.specs.declared.reading.Mode.{Mode}
use Rattle.rules.specs.declared.reading.Part.{Part}
use Rattle.rules.specs.declared.reading.Step.{Step}
use Rattle.rules.specs.declared.reading.Step.TheVariants.{Stop, Next, Add, CloseModule, CloseSection}
use Rattle.tables.specs.Cells.{Row}
use Rattle.reading.specs.TwoTables.{Tables, empty, module_row, section_row_of, add_part, add_module, add_section, emit, tables_from}

-- ---- where the open ones begin

pub record Begun (t : Tables) : Type 0 where
  pub object : t.object ≤ length t.parts
  pub section : t.section ≤ length t.rows

pub empty_begun : Begun empty
unfolding empty
empty_begun = record { object = omega arith; section = omega arith }

module _ {t : Tables} (h : Begun t) where
  pub part_begun : (p : Part) → Begun (add_part p t)
  unfolding add_part
  part_begun p = record { object = omega (arith, h.object, length-append t.parts (p ∷ [])); section = h.section }

  pub module_begun : (member : Bool) (line : ℕ) → Begun (add_module member line t)
  unfolding add_module
  module_begun member line =
      record { object = omega arith; section = omega (arith, begins member, length-append t.rows (module_row member line t ∷ [])) }
    where
      begins : (c : Bool) → cond c t.section (length t.rows + 1) ≤ length t.rows + 1
      begins true = omega (arith, h.section)
      begins false = omega arith

pub section_begun : (line : ℕ) (t : Tables) → Begun (add_section line t)
unfolding add_section
section_begun line t =
    record { object = omega arith; section = omega (arith, length-append t.rows (section_row_of line t ∷ [])) }

-- ---- tables only grow

pub record Extends (t all : Tables) : Type 0 where
  pub later_parts : List Part
  pub later_rows : List Row
  pub parts : all.parts ≡ t.parts ++ later_parts
  pub rows : all.rows ≡ t.rows ++ later_rows

unchanged : (t : Tables) → Extends t t
unchanged t = record { later_parts = []; later_rows = []; parts = sym (append-nil t.parts); rows = sym (append-nil t.rows) }

grown :
    (t u all : Tables) (ps : List Part) (rs : List Row) → u.parts ≡ t.parts ++ ps → u.rows ≡ t.rows ++ rs → Extends u all
    → Extends t all
grown t u all ps rs p q e =
    record {
      later_parts = ps ++ e.later_parts;
      later_rows = rs ++ e.later_rows;
      parts = e.parts ∙ ap (λ (l : List Part). l ++ e.later_parts) p ∙ append_assoc t.parts ps e.later_parts;
      rows = e.rows ∙ ap (λ (l : List Row). l ++ e.later_rows) q ∙ append_assoc t.rows rs e.later_rows;
    }

-- as many rows as there were, or more
pub rows_grow : {t all : Tables} → Extends t all → length t.rows ≤ length all.rows
rows_grow {t} e = omega (arith, ap length e.rows, length-append t.rows e.later_rows)

pub one_row : (t : Tables) (r : Row) → length (t.rows ++ (r ∷ [])) ≡ length t.rows + 1
one_row t r = length-append t.rows (r ∷ [])

module _ (go : Mode → Tables → Tables) (grows : (m : Mode) (t : Tables) → Extends t (go m t)) where
  emit_grows : (s : Step) (t : Tables) → Extends t (emit s t go)
  unfolding emit add_part add_module add_section
  emit_grows (Stop k c) t = unchanged t
  emit_grows (Next m) t = grows m t
  emit_grows (Add m p) t = grown t _ _ (p ∷ []) [] refl (sym (append-nil t.rows)) (grows m (add_part p t))
  emit_grows (CloseModule m line) t = grown t _ _ [] _ (sym (append-nil t.parts)) refl (grows m (add_module m.section.inside line t))
  emit_grows (CloseSection m line) t = grown t _ _ [] _ (sym (append-nil t.parts)) refl (grows m (add_section line t))

pub tables_grow : (ls : List (List ℕ)) (n : ℕ) (m : Mode) (t : Tables) → Extends t (tables_from n m t ls)
unfolding tables_from
tables_grow [] n m t = unchanged t
tables_grow (l ∷ ls) n m t = emit_grows (λ m' t'. tables_from (n + 1) m' t' ls) (tables_grow ls (n + 1)) (step_at n m l) t
