-- Whoever goes over the rows of the tables meets what the file holds, item by item.
use Prim.Native.Nat.{ℕ, zero, suc, ◌+◌, ◌-◌, ◌<◌, ◌≤◌}
use native.Mathlib.Numerals.{add-one}
use native.Mathlib.Omega.{arith}
use mathlib.Core.Bool.{Bool, true, false, cond, true≢false}
use mathlib.Core.List.{List, [], ◌∷◌, ◌++◌, append_assoc, append-nil}
use mathlib.Core.Path.{◌≡◌, refl, sym, ap, ap₂, subst, ◌∙◌}
use lib.ListN.{length, length-append}
use borrow.Author.Tests.{ltb-true}
use Rattle.rules.specs.Text.{all, lines_of}
use Rattle.rules.specs.Reading.{at_start, step_at, Module, Item, free, section, module_at, items_of}
use Rattle.rules.proofs.FoldLaws.{closed, gather, items_from, items_lines}
use Rattle.rules.specs.Placing.{code_in, length_in}
use Rattle.rules.specs.declared.reading.Mode.{Mode}
use Rattle.rules.specs.declared.reading.OpenSection.{OpenSection}
use Rattle.rules.specs.declared.reading.Part.{Part}
use Rattle.rules.specs.declared.reading.Part.TheVariants.{EntryPart, ExternalPart, BlockPart, WordPart}
use Rattle.rules.specs.declared.reading.Step.{Step}
use Rattle.rules.specs.declared.reading.Step.TheVariants.{Stop, Next, Add, CloseModule, CloseSection}
use Rattle.rules.proofs.TestLaws.{Every, all_first, all_rest}
use Rattle.rules.proofs.PartLaws.{legal_part, code_below, PartsSound, length_bound}
use Rattle.rules.proofs.ReadingLaws.{ModuleSound, InSection, outside, inside, Stands, at_rest, before_title, before_code, before_other, After, start_stands, line_stands}
use Rattle.tables.specs.Tables.{free_row, member_row, cells_in, parts_of, start_in, end_in, module_in, modules_in, section_in, items_from_row, items_in}
use Rattle.tables.specs.Cells.{Row, row, part_cells, row_cells}
use Rattle.tables.proofs.TablesLaws.{Fits}
use Rattle.tables.proofs.FitLaws.{legal_fits}
use Rattle.tables.proofs.CellLaws.{cells_between, parts_back, RowIs, row_at_lem}
use Rattle.tables.proofs.RowLaws.{row_free, row_member, row_section, modules_add}
use Rattle.reading.specs.TwoTables.{Tables, empty, add_part, add_module, add_section, module_row, section_row_of, emit, tables_from, tables_of}
use Rattle.reading.specs.Filling.{ReadInto}
use Rattle.reading.specs.declared.FileRead.{FileRead}
use Rattle.reading.proofs.GrowLaws.{Extends, rows_grow, one_row, tables_grow}

-- ---- sound parts fit their cells

fit_below :
    (ps : List Part) (n : ℕ) → n ≤ 131072 → all legal_part ps ≡ true → all (code_below n) (code_in ps) ≡ true → Every Fits ps
unfolding code_in
fit_below [] n h l b = tt
fit_below (EntryPart e ∷ ps) n h l b =
    (legal_fits (EntryPart e) (all_first legal_part _ ps l) (omega arith), fit_below ps n h (all_rest legal_part _ ps l) b)
fit_below (ExternalPart x ∷ ps) n h l b =
    (legal_fits (ExternalPart x) (all_first legal_part _ ps l) (omega arith), fit_below ps n h (all_rest legal_part _ ps l) b)
fit_below (BlockPart o c ∷ ps) n h l b =
    (legal_fits (BlockPart o c) (all_first legal_part _ ps l) (omega arith), fit_below ps n h (all_rest legal_part _ ps l) b)
fit_below (WordPart a w ∷ ps) n h l b = (
  legal_fits (WordPart a w) (all_first legal_part _ ps l) (omega (arith, ltb-true a n (all_first (code_below n) _ (code_in ps) b))),
  fit_below ps n h (all_rest legal_part _ ps l) (all_rest (code_below n) _ (code_in ps) b),
)

sound_fit : {ps : List Part} {c : ℕ} → PartsSound ps c → Every Fits ps
sound_fit {ps} s = fit_below ps (length_in ps) (omega (arith, length_bound ps s.legal)) s.legal s.below

-- ---- outside a section none of its modules is left

section_outside : {k : ℕ} {s : OpenSection} {ms : List Module} → InSection k s ms → s.inside ≡ false → ms ≡ []
section_outside outside e = refl
section_outside (inside r) e = absurd (true≢false e)

stands_outside : {m : Mode} {ps : List Part} {ms : List Module} → Stands m ps ms → m.section.inside ≡ false → ms ≡ []
stands_outside (at_rest i) e = section_outside i e
stands_outside (before_title i) e = section_outside i e
stands_outside (before_code i h g) e = section_outside i e
stands_outside (before_other i h known l) e = section_outside i e

-- ---- rows and items, one after the other

module _ (parts rows : List ℕ) where
  -- these cells begin with all that the tables hold in the end
  record Final (all : Tables) : Type 0 where
    behind_parts : List ℕ
    behind_rows : List ℕ
    part_cells : parts ≡ part_cells all.parts ++ behind_parts
    row_cells : rows ≡ row_cells all.rows ++ behind_rows
    few_parts : length all.parts < 65536
    few_rows : length all.rows < 65536

  -- the open module's parts stand last, and the rows of the open section's modules stand last and are read back
  record Open (t : Tables) (ps : List Part) (ms : List Module) : Type 0 where
    closed : List Part
    last_parts : t.parts ≡ closed ++ ps
    first_part : length closed ≡ t.object
    last_rows : t.section + length ms ≡ length t.rows
    members : modules_in parts rows t.section (length ms) ≡ ms

  -- the row that was written behind those of t
  row_there :
      (t : Tables) {u all : Tables} → Final all → Extends u all → (r : Row) → u.rows ≡ t.rows ++ (r ∷ []) → r.kind < 4
      → r.start < 65536
      → RowIs rows (length t.rows) r
  row_there t f e r q k s =
      let cells : rows ≡ row_cells (t.rows ++ r ∷ e.later_rows) ++ f.behind_rows =
      f.row_cells
      ∙ ap (λ (l : List Row). row_cells l ++ f.behind_rows)
      (e.rows ∙ ap (λ (l : List Row). l ++ e.later_rows) q ∙ append_assoc t.rows (r ∷ []) e.later_rows) in
      subst (λ (c : List ℕ). RowIs c (length t.rows) r) (sym cells) (row_at_lem t.rows r e.later_rows f.behind_rows k s)

  module _ {t all : Tables} {ps : List Part} {ms : List Module} (o : Open t ps ms) (f : Final all) where
    -- a module that was closed is read back
    module_there :
        {u :
        Tables} → Extends u all → {k line : ℕ} → u.parts ≡ t.parts → RowIs rows (length t.rows) (row k line t.object (length t.parts))
        → Every Fits ps → module_in parts rows (length t.rows) ≡ module_at line ps
    unfolding module_in
    module_there e {k} {line} same r fits =
        let i = length t.rows in
        let now : all.parts ≡ (o.closed ++ ps) ++ e.later_parts =
        e.parts ∙ ap (λ (l : List Part). l ++ e.later_parts) (same ∙ o.last_parts) in
        let between : cells_in parts (start_in rows i) (end_in rows i) ≡ part_cells ps =
        ap (λ (c : List ℕ). cells_in c (start_in rows i) (end_in rows i))
        (f.part_cells ∙ ap (λ (l : List Part). part_cells l ++ f.behind_parts) now)
        ∙ cells_between _ _ o.closed ps e.later_parts f.behind_parts (start_in rows i) (end_in rows i)
        (o.first_part ∙ sym r.start)
        (sym (length-append o.closed ps) ∙ sym (ap length o.last_parts) ∙ sym r.end) in
        ap₂ module_at r.line (ap parts_of between ∙ parts_back ps fits)

  -- the modules of the open section, with one more and at first
  members_add :
      (ms : List Module) (md : Module) (i j : ℕ) → modules_in parts rows i (length ms) ≡ ms → module_in parts rows j ≡ md
      → i + length ms ≡ j
      → modules_in parts rows i (length (ms ++ (md ∷ []))) ≡ ms ++ (md ∷ [])
  members_add ms md i j p q e =
      ap (modules_in parts rows i) (length-append ms (md ∷ []) ∙ add-one (length ms))
      ∙ modules_add parts rows (length ms) i
      ∙ ap₂ (λ (l : List Module) (x : Module). l ++ (x ∷ [])) p (ap (module_in parts rows) e ∙ q)

  no_members : (ms : List Module) → ms ≡ [] → (i : ℕ) → modules_in parts rows i (length ms) ≡ ms
  unfolding modules_in
  no_members ms e i = subst (λ (l : List Module). modules_in parts rows i (length l) ≡ l) (sym e) refl

  -- every row that is still to come is one more
  none_left : (n d : ℕ) (i : ℕ) → n ≡ n + d → items_from_row parts rows i d ≡ []
  unfolding items_from_row
  none_left n zero i e = refl
  none_left n (suc d) i e = absurd (omega arith)

  module _ (go : Mode → Tables → Tables) (grows : (m : Mode) (t : Tables) → Extends t (go m t))
      (items : Mode → List Part → List Module → List Item)
      (onward : (m : Mode) (t : Tables) (ps : List Part) (ms : List Module) → Stands m ps ms → Open t ps ms → Final (go m t)
      → (d : ℕ) → length (go m t).rows ≡ length t.rows + d
      → items_from_row parts rows (length t.rows) d ≡ items m ps ms) where
    -- one row more, and d rows behind it
    next_row :
        {m : Mode} (t u : Tables) {ps : List Part} {ms : List Module} → Stands m ps ms → Open u ps ms → Final (go m u)
        → length u.rows ≡ length t.rows + 1 → (d : ℕ) → length (go m u).rows ≡ length t.rows + suc d
        → items_from_row parts rows (length t.rows + 1) d ≡ items m ps ms
    next_row t u s o f one d e =
        ap (λ (i : ℕ). items_from_row parts rows i d) (sym one) ∙ onward _ u _ _ s o f d (omega arith)

    module _ (t : Tables) (ps : List Part) (ms : List Module) (o : Open t ps ms) where
      closed_few : {all : Tables} → Final all → {u : Tables} → Extends u all → u.parts ≡ t.parts → t.object < 65536
      closed_few f e same =
          let all_parts = ap length (e.parts ∙ ap (λ (l : List Part). l ++ e.later_parts) same) in
          let open_parts = ap length o.last_parts in
          omega (
            arith,
            f.few_parts,
            all_parts,
            length-append t.parts e.later_parts,
            open_parts,
            length-append o.closed ps,
            o.first_part,
          )

      -- nothing of the next module is there yet
      reopened :
          (u : Tables) (ns : List Module) → u.parts ≡ t.parts → u.object ≡ length t.parts
          → u.section + length ns ≡ length u.rows
          → modules_in parts rows u.section (length ns) ≡ ns → Open u [] ns
      reopened u ns p q e s =
          record {
            closed = t.parts;
            last_parts = p ∙ sym (append-nil t.parts);
            first_part = sym q;
            last_rows = e;
            members = s;
          }

      -- a closed module's row, as it stands in the cells, and the module that is read back
      module_row_lem :
          (m : Mode) (b : Bool) {line : ℕ} → Final (go m (add_module b line t)) → ModuleSound (module_at line ps)
          → cond b member_row free_row < 4
          → RowIs rows (length t.rows) (module_row b line t) × (module_in parts rows (length t.rows) ≡ module_at line ps)
      unfolding add_module
      module_row_lem m b {line} f s k =
          let later = grows m (add_module b line t) in
          let there = row_there t f later (module_row b line t) refl k (closed_few f later refl) in
          (there, module_there o f later refl there (sound_fit s))

      module_items :
          (b : Bool) (m : Mode) (line : ℕ) → m.section.inside ≡ b → After ps ms (CloseModule m line)
          → Final (go m (add_module b line t))
          → (d : ℕ) → length (go m (add_module b line t)).rows ≡ length t.rows + d
          → items_from_row parts rows (length t.rows) d ≡ closed b (module_at line ps) m ms items
      unfolding add_module closed
      module_items b m line w a f zero e =
          absurd (omega (arith, e, rows_grow (grows m (add_module b line t)), one_row t (module_row b line t)))
      module_items true m line w a f (suc d) e =
          let r = module_row_lem m true f a.0 (omega arith) in
          let i = length t.rows in
          let md = module_at line ps in
          let stands = subst (λ (c : Bool). Stands m [] (cond c (ms ++ (md ∷ [])) ms)) w a.1 in
          let opened =
          reopened (add_module true line t) (ms ++ (md ∷ [])) refl refl
          (omega (arith, o.last_rows, one_row t (module_row true line t), length-append ms (md ∷ [])))
          (members_add ms md t.section i o.members r.1 o.last_rows) in
          row_member parts rows i d r.0.kind
          ∙ next_row t (add_module true line t) stands opened f (one_row t _) d e
      module_items false m line w a f (suc d) e =
          let r = module_row_lem m false f a.0 (omega arith) in
          let i = length t.rows in
          let md = module_at line ps in
          let stands : Stands m [] ms = subst (λ (c : Bool). Stands m [] (cond c (ms ++ (md ∷ [])) ms)) w a.1 in
          let none : ms ≡ [] = stands_outside stands w in
          let opened =
          reopened (add_module false line t) ms refl refl (omega (arith, ap length none, one_row t (module_row false line t)))
          (no_members ms none (i + 1)) in
          row_free parts rows i d r.0.kind
          ∙ ap₂ (λ (x : Module) (l : List Item). free x ∷ l) r.1
          (next_row t (add_module false line t) stands opened f (one_row t _) d e)

      section_items :
          (m : Mode) (line : ℕ) → After ps ms (CloseSection m line) → Final (go m (add_section line t))
          → (d : ℕ) → length (go m (add_section line t)).rows ≡ length t.rows + d
          → items_from_row parts rows (length t.rows) d ≡ section line ms ∷ items m [] []
      unfolding add_section section_in
      section_items m line a f zero e =
          absurd (omega (arith, e, rows_grow (grows m (add_section line t)), one_row t (section_row_of line t)))
      section_items m line a f (suc d) e =
          let i = length t.rows in
          let few : t.section < 65536 = omega (arith, o.last_rows, f.few_rows, e) in
          let r = row_there t f (grows m (add_section line t)) (section_row_of line t) refl (omega arith) few in
          let count : end_in rows i - start_in rows i ≡ length ms = omega (arith, r.start, r.end, o.last_rows) in
          let opened =
          reopened (add_section line t) [] refl refl (omega (arith, one_row t (section_row_of line t)))
          (no_members [] refl (i + 1)) in
          row_section parts rows i d r.kind
          ∙ ap₂ (◌∷◌)
          (ap₂ section r.line (ap₂ (modules_in parts rows) r.start count ∙ o.members))
          (next_row t (add_section line t) a.1 opened f (one_row t _) d e)

      part_open : (p : Part) → Open (add_part p t) (ps ++ (p ∷ [])) ms
      unfolding add_part
      part_open p =
          record {
            closed = o.closed;
            last_parts = ap (λ (l : List Part). l ++ (p ∷ [])) o.last_parts ∙ append_assoc o.closed ps (p ∷ []);
            first_part = o.first_part;
            last_rows = o.last_rows;
            members = o.members;
          }

      emit_items :
          (s : Step) → After ps ms s → Final (emit s t go) → (d : ℕ) → length (emit s t go).rows ≡ length t.rows + d
          → items_from_row parts rows (length t.rows) d ≡ gather s ps ms items
      unfolding emit gather add_part
      emit_items (Stop k c) a f d e = none_left (length t.rows) d (length t.rows) e
      emit_items (Next m) a f d e = onward m t ps ms a o f d e
      emit_items (Add m p) a f d e = onward m (add_part p t) (ps ++ (p ∷ [])) ms a (part_open p) f d e
      emit_items (CloseModule m line) a f d e = module_items m.section.inside m line refl a f d e
      emit_items (CloseSection m line) a f d e = section_items m line a f d e

  items_from_lem :
      (ls : List (List ℕ)) (n : ℕ) (m : Mode) (t : Tables) (ps : List Part) (ms : List Module) → Stands m ps ms → Open t ps ms
      → Final (tables_from n m t ls) → (d : ℕ) → length (tables_from n m t ls).rows ≡ length t.rows + d
      → items_from_row parts rows (length t.rows) d ≡ items_from n m ps ms ls
  unfolding tables_from items_from
  items_from_lem [] n m t ps ms i o f d e = none_left (length t.rows) d (length t.rows) e
  items_from_lem (l ∷ ls) n m t ps ms i o f d e =
      emit_items
      (λ m' t'. tables_from (n + 1) m' t' ls)
      (tables_grow ls (n + 1))
      (λ m' ps' ms'. items_from (n + 1) m' ps' ms' ls)
      (items_from_lem ls (n + 1))
      t
      ps
      ms
      o
      (step_at n m l)
      (line_stands n i l)
      f
      d
      e

empty_open : (parts rows : List ℕ) → Open parts rows empty [] []
unfolding empty modules_in
empty_open parts rows = record { closed = []; last_parts = refl; first_part = refl; last_rows = refl; members = refl }

-- The tables hold the file's items; where the reading stopped, those that are complete before the fault.
pub tables_hold :
    {file lent_parts lent_rows : List ℕ} {r : FileRead} {parts rows : List ℕ} → ReadInto file lent_parts lent_rows r parts rows
    → items_in parts rows r.rows ≡ items_of file
unfolding items_in tables_of empty
tables_hold {file} {lent_parts} {lent_rows} {r} {parts} {rows} h =
    let final : Final parts rows (tables_of file) =
    record {
      behind_parts = _;
      behind_rows = _;
      part_cells = h.part_cells;
      row_cells = h.row_cells;
      few_parts = omega (arith, h.parts, h.few_parts);
      few_rows = omega (arith, h.rows, h.few_rows);
    } in
    items_from_lem parts rows (lines_of file) 1 at_start empty [] [] start_stands (empty_open parts rows) final r.rows
    (omega (arith, h.rows))
    ∙ sym (items_lines file)
