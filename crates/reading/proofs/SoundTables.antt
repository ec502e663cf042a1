-- What whoever walks over the tables of a file may count on: ranges that lie in the tables, lines of the file, modules with
-- at most 64 entries and 64 externals, and sections with at most 256 modules.
use Prim.Native.Nat.{ℕ, zero, suc, ◌+◌, ◌-◌, ◌<◌, ◌≤◌}
use native.Mathlib.Omega.{arith}
use mathlib.Core.Bool.{Bool, true, false}
use mathlib.Core.List.{List, [], ◌∷◌, ◌++◌, append_assoc}
use mathlib.Core.Path.{◌≡◌, refl, sym, ap, subst, ◌∙◌}
use lib.ListN.{length, drop, length-append}
use Rattle.rules.specs.Text.{lines_of}
use Rattle.rules.specs.Reading.{at_start, step_at}
use Rattle.rules.specs.declared.reading.Mode.{Mode}
use Rattle.rules.specs.declared.reading.Part.{Part}
use Rattle.rules.specs.declared.reading.Step.{Step}
use Rattle.rules.specs.declared.reading.Step.TheVariants.{Stop, Next, Add, CloseModule, CloseSection}
use Rattle.rules.proofs.TestLaws.{Every}
use Rattle.rules.proofs.ReadingLaws.{ModuleSound, ItemSound, items_sound}
use Rattle.tables.specs.Tables.{free_row, section_row, kind_in, line_in, start_in, end_in, module_in, modules_in, section_in, items_in}
use Rattle.tables.specs.Cells.{Row, row_cells}
use Rattle.tables.proofs.CellLaws.{RowIs, row_at_lem}
use Rattle.tables.proofs.RowLaws.{at_free, at_section, at_member, modules_length}
use Rattle.reading.specs.TwoTables.{Tables, empty, add_part, add_module, add_section, module_row, section_row_of, emit, tables_from, tables_of}
use Rattle.reading.specs.Filling.{ReadInto}
use Rattle.reading.specs.declared.FileRead.{FileRead}
use Rattle.reading.proofs.GrowLaws.{Extends, tables_grow, Begun, empty_begun, part_begun, module_begun, section_begun}
use Rattle.reading.proofs.LimitLaws.{lines_count}
use Rattle.reading.proofs.DateLaws.{Dated, DatedStep, start_dated, line_dated}
use Rattle.reading.proofs.ItemLaws.{tables_hold}

-- ---- ranges

-- row i has a range, of parts or of the rows before it, and names a line up to the last
pub record Ranged (last i : ℕ) (r : Row) : Type 0 where
  pub known : r.kind < 4
  pub order : r.start ≤ r.end
  pub few : r.end ≤ 32768
  pub earlier : r.kind ≡ section_row → r.end ≤ i
  pub dated : r.line ≤ last

abbrev RangedFrom : ℕ → ℕ → List Row → Type 0
RangedFrom last i [] = Unit {0}
RangedFrom last i (r ∷ rs) = Ranged last i r × RangedFrom last (i + 1) rs

-- few parts and rows, now and so at first
record Few (t : Tables) : Type 0 where
  parts : length t.parts ≤ 32768
  rows : length t.rows ≤ 32768

few_before : {t all : Tables} → Extends t all → Few all → Few t
few_before {t} e f =
    record {
      parts = omega (arith, f.parts, ap length e.parts, length-append t.parts e.later_parts);
      rows = omega (arith, f.rows, ap length e.rows, length-append t.rows e.later_rows);
    }

few_rows_before : (t u : Tables) (r : Row) → u.parts ≡ t.parts → u.rows ≡ t.rows ++ (r ∷ []) → Few u → Few t
few_rows_before t u r p q f =
    record {
      parts = omega (arith, f.parts, ap length p);
      rows = omega (arith, f.rows, ap length q, length-append t.rows (r ∷ []));
    }

module _ (last : ℕ) where
  ranged_add :
      (rs : List Row) (r : Row) (i : ℕ) → RangedFrom last i rs → Ranged last (i + length rs) r
      → RangedFrom last i (rs ++ (r ∷ []))
  ranged_add [] r i h k = let z : i + 0 ≡ i = omega arith in (subst (λ (j : ℕ). Ranged last j r) z k, tt)
  ranged_add (x ∷ rs) r i h k =
      let z : i + suc (length rs) ≡ i + 1 + length rs = omega arith in
      (h.0, ranged_add rs r (i + 1) h.1 (subst (λ (j : ℕ). Ranged last j r) z k))

  record Ranges (t : Tables) : Type 0 where
    begun : Begun t
    closed : RangedFrom last 0 t.rows

  empty_ranges : Ranges empty
  unfolding empty
  empty_ranges = record { begun = empty_begun; closed = tt }

  part_ranges : (p : Part) (t : Tables) → Ranges t → Ranges (add_part p t)
  unfolding add_part
  part_ranges p t h = record { begun = part_begun h.begun p; closed = h.closed }

  module_ranges : (b : Bool) (line : ℕ) (t : Tables) → line ≤ last → Few t → Ranges t → Ranges (add_module b line t)
  unfolding add_module
  module_ranges b line t d f h =
      record {
        begun = module_begun h.begun b line;
        closed = ranged_add t.rows (module_row b line t) 0 h.closed (ranged b);
      }
    where
      ranged : (c : Bool) → Ranged last (0 + length t.rows) (module_row c line t)
      ranged true =
          record { known = omega arith; order = h.begun.object; few = f.parts; earlier = λ e. absurd (omega arith); dated = d }
      ranged false =
          record { known = omega arith; order = h.begun.object; few = f.parts; earlier = λ e. absurd (omega arith); dated = d }

  section_ranges : (line : ℕ) (t : Tables) → line ≤ last → Few t → Ranges t → Ranges (add_section line t)
  unfolding add_section
  section_ranges line t d f h =
      let ranged : Ranged last (0 + length t.rows) (section_row_of line t) =
      record { known = omega arith; order = h.begun.section; few = f.rows; earlier = λ e. omega arith; dated = d } in
      record {
        begun = section_begun line t;
        closed = ranged_add t.rows (section_row_of line t) 0 h.closed ranged;
      }

  module _ (go : Mode → Tables → Tables) (grows : (m : Mode) (t : Tables) → Extends t (go m t))
      (onward : (m : Mode) (t : Tables) → Dated last m → Ranges t → Few (go m t) → RangedFrom last 0 (go m t).rows) where
    emit_ranged :
        (s : Step) (t : Tables) → DatedStep last s → Ranges t → Few (emit s t go) → RangedFrom last 0 (emit s t go).rows
    unfolding emit add_module add_section
    emit_ranged (Stop k c) t d h f = h.closed
    emit_ranged (Next m) t d h f = onward m t d h f
    emit_ranged (Add m p) t d h f = onward m (add_part p t) d (part_ranges p t h) f
    emit_ranged (CloseModule m line) t d h f =
        let u = add_module m.section.inside line t in
        let few = few_rows_before t u (module_row m.section.inside line t) refl refl (few_before (grows m u) f) in
        onward m u d.1 (module_ranges m.section.inside line t d.0 few h) f
    emit_ranged (CloseSection m line) t d h f =
        let u = add_section line t in
        let few = few_rows_before t u (section_row_of line t) refl refl (few_before (grows m u) f) in
        onward m u d.1 (section_ranges line t d.0 few h) f

  tables_ranged :
      (ls : List (List ℕ)) (n : ℕ) (m : Mode) (t : Tables) → n + length ls ≤ last + 1 → Dated last m → Ranges t
      → Few (tables_from n m t ls)
      → RangedFrom last 0 (tables_from n m t ls).rows
  unfolding tables_from
  tables_ranged [] n m t l d h f = h.closed
  tables_ranged (x ∷ ls) n m t l d h f =
      emit_ranged
      (λ m' t'. tables_from (n + 1) m' t' ls)
      (tables_grow ls (n + 1))
      (λ m' t'. tables_ranged ls (n + 1) m' t' (omega arith))
      (step_at n m x)
      t
      (line_dated last n (omega arith) m d x)
      h
      f

-- the same, read back from cells
pub record InRange (last : ℕ) (rows : List ℕ) (i : ℕ) : Type 0 where
  pub order : start_in rows i ≤ end_in rows i
  pub few : end_in rows i ≤ 32768
  pub earlier : kind_in rows i ≡ section_row → end_in rows i ≤ i
  pub dated : line_in rows i ≤ last

read_back : {last : ℕ} {rows : List ℕ} {i : ℕ} {r : Row} → RowIs rows i r → Ranged last i r → InRange last rows i
read_back s h =
    record {
      order = omega (arith, s.start, s.end, h.order);
      few = omega (arith, s.end, h.few);
      earlier = λ e. omega (arith, s.end, h.earlier (sym s.kind ∙ e));
      dated = omega (arith, s.line, h.dated);
    }

-- row k of those behind the front
range_at :
    (last : ℕ) (rs front : List Row) (i : ℕ) (more : List ℕ) → length front ≡ i → RangedFrom last i rs → (k : ℕ) → k < length rs
    → InRange last (row_cells (front ++ rs) ++ more) (i + k)
range_at last [] front i more e h k l = absurd (omega arith)
range_at last (r ∷ rs) front i more e h zero l =
    let z : length front ≡ i + 0 = omega arith in
    let there = row_at_lem front r rs more h.0.known (omega (arith, h.0.order, h.0.few)) in
    subst (InRange last (row_cells (front ++ r ∷ rs) ++ more)) z (read_back there (subst (λ (j : ℕ). Ranged last j r) (sym e) h.0))
range_at last (r ∷ rs) front i more e h (suc k) l =
    let z : i + 1 + k ≡ i + suc k = omega arith in
    let one : length (front ++ (r ∷ [])) ≡ i + 1 = omega (arith, length-append front (r ∷ [])) in
    subst (InRange last (row_cells (front ++ r ∷ rs) ++ more)) z
    (subst (λ (l : List Row). InRange last (row_cells l ++ more) (i + 1 + k)) (append_assoc front (r ∷ []) rs)
    (range_at last rs (front ++ (r ∷ [])) (i + 1) more one h.1 k (omega arith)))

-- ---- of a file that was read

module _ {file lent_parts lent_rows : List ℕ} {r : FileRead} {parts rows : List ℕ}
    (h : ReadInto file lent_parts lent_rows r parts rows) where
  pub row_ranged : (i : ℕ) → i < r.rows → InRange (length file + 1) rows i
  unfolding tables_of
  row_ranged i l =
      let t = tables_of file in
      let last = length file + 1 in
      let few : Few t = record { parts = omega (arith, h.parts, h.few_parts); rows = omega (arith, h.rows, h.few_rows) } in
      let z : 0 + i ≡ i = omega arith in
      let ranged =
      tables_ranged last (lines_of file) 1 at_start empty (omega (arith, lines_count file)) (start_dated last)
      (empty_ranges last) few in
      let more = drop (length (row_cells t.rows)) lent_rows in
      let all = range_at last t.rows [] 0 more refl ranged i (omega (arith, h.rows)) in
      subst (λ (c : List ℕ). InRange last c i) (sym h.row_cells) (rw z at all)

  pub items_in_sound : Every ItemSound (items_in parts rows r.rows)
  items_in_sound = subst (Every ItemSound) (sym (tables_hold h)) (items_sound file)

  pub free_sound : (i : ℕ) → i < r.rows → kind_in rows i ≡ free_row → ModuleSound (module_in parts rows i)
  free_sound i l e = at_free parts rows ItemSound r.rows i items_in_sound l e

  module _ (i : ℕ) (l : i < r.rows) (e : kind_in rows i ≡ section_row) where
    section_sound : ItemSound (section_in parts rows i)
    section_sound = at_section parts rows ItemSound r.rows i items_in_sound l e

    pub section_small : end_in rows i - start_in rows i ≤ 256
    unfolding section_in
    section_small =
        omega (arith, section_sound.1, modules_length parts rows (end_in rows i - start_in rows i) (start_in rows i))

    pub members_sound : Every ModuleSound (modules_in parts rows (start_in rows i) (end_in rows i - start_in rows i))
    unfolding section_in
    members_sound = section_sound.0

    pub member_sound : (k : ℕ) → k < end_in rows i - start_in rows i → ModuleSound (module_in parts rows (start_in rows i + k))
    member_sound k m = at_member parts rows ModuleSound (end_in rows i - start_in rows i) (start_in rows i) k members_sound m
