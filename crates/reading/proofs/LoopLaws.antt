-- The loop over the lines of a file: what holds before each line, and how it holds again.
use Prim.Native.Nat.{ℕ, suc, ◌+◌, ◌≤◌, ◌<◌}
use native.Mathlib.Omega.{arith}
use mathlib.Core.Bool.{Bool, true, false}
use mathlib.Core.List.{List, [], ◌∷◌}
use mathlib.Core.Path.{◌≡◌, refl, sym, ap, ap₂, subst, ◌∙◌}
use lib.ListN.{length, drop, get_or, length-append}
use lib.Seq.{drop-cons}
use Rattle.std.specs.Prelude.{Ok, Err, MatchResult}
use Rattle.rules.specs.Text.{LF, lines_of}
use Rattle.rules.specs.Line.{code_word, line_answer}
use Rattle.rules.specs.Reading.{at_start, record_done, word_part, step_of, step_at, at_end, Reading}
use Rattle.rules.specs.Calls.{overwritten}
use Rattle.rules.specs.declared.line.CodeWord.{CodeWord}
use Rattle.rules.specs.declared.line.Expected.TheVariants.{CodeRecord}
use Rattle.rules.specs.declared.line.LineAnswer.{LineAnswer}
use Rattle.rules.specs.declared.line.Relocation.TheVariants.{Plain}
use Rattle.rules.specs.declared.reading.Mode.{Mode}
use Rattle.rules.specs.declared.reading.Part.{Part}
use Rattle.rules.specs.declared.reading.Step.{Step}
use Rattle.rules.specs.declared.reading.Step.TheVariants.{Stop, Next, Add, CloseModule, CloseSection}
use Rattle.rules.proofs.LineEndLaws.{line_LF}
use Rattle.runs.specs.Modes.{after_records}
use Rattle.runs.specs.declared.Run.{Run}
use Rattle.tables.specs.Cells.{cells_of, part_cells}
use Rattle.text.specs.Scan.{part}
use Rattle.text.specs.LineEnds.{NextLine}
use Rattle.text.specs.declared.lines.LineSpan.{LineSpan}
use Rattle.text.proofs.LineLaws.{no_line}
use Rattle.framing.specs.Framing.{LineSaid}
use Rattle.usual.specs.Words.{WordRead}
use Rattle.usual.specs.declared.UsualWord.{UsualWord}
use Rattle.reading.specs.TwoTables.{Tables, empty, add_part, add_module, add_section, emit, tables_from, tables_of}
use Rattle.reading.specs.Filling.{filled_of, parts_in, rows_in, PartRoom, RowRoom, Fills, Lent, file_read, ReadInto}
use Rattle.reading.specs.Lines.{Reached, clean, fault, gone_on, go_on, line_in, ended_at, reached_from, lines_read, RunFrom, Begins, TablesKept, LinesInto}
use Rattle.reading.specs.declared.Clean.{Clean}
use Rattle.reading.specs.declared.Place.{Place}
use Rattle.reading.specs.declared.LinesRead.{LinesRead}
use Rattle.reading.specs.declared.fill.Filled.{Filled}
use Rattle.reading.proofs.GoLaws.{go_records, ended_is}
use Rattle.rules.proofs.BoolLaws.{never}
use Rattle.rules.proofs.FoldLaws.{reading_lines}
use Rattle.reading.proofs.GrowLaws.{Begun, empty_begun, part_begun, module_begun, section_begun}
use Rattle.reading.proofs.LimitLaws.{weight, lines_weight, pending, spent, used, empty_line, line_spends, start_pending}

-- ---- what holds before each line

module _ (file : List ℕ) (p : Place) (keep : Bool) (lent_parts lent_rows : List ℕ) where
  -- the lines that are left
  abbrev rest : ℕ → List (List ℕ)
  rest at = lines_of (drop at file)

  -- where the tables are filled: what stands in them, and what the rest of the file will add
  pub record Tabled (parts rows : List ℕ) (m : Mode) (f : Filled) (n at : ℕ) : Type 0 where
    pub here : Tables
    pub counts : f ≡ filled_of here
    pub part_cells : parts ≡ overwritten (parts_in here) lent_parts
    pub row_cells : rows ≡ overwritten (rows_in here) lent_rows
    pub part_size : length parts ≡ 65536
    pub row_size : length rows ≡ 14562
    pub begun : Begun here
    pub tables : tables_from n m here (rest at) ≡ tables_of file
    pub room : used here + pending m + weight (rest at) ≤ length file + 1

  -- The rest of the file decides: from here it comes to what all lines come to.
  pub record Before (parts rows : List ℕ) (m : Mode) (f : Filled) (n at : ℕ) : Type 0 where
    pub goes : go_on n m (rest at) ≡ reached_from file p
    pub numbered : n ≤ at + 1
    pub ends : at ≤ length file
    pub short : length file ≤ 65536
    pub part_length : length parts ≡ length lent_parts
    pub row_length : length rows ≡ length lent_rows
    pub tabled : keep ≡ true → Tabled parts rows m f n at

  pub start : Begins file p keep lent_parts lent_rows → {f : Filled} → f ≡ filled_of empty → Before lent_parts lent_rows p.mode f p.line p.at
  unfolding tables_of empty cells_of used
  start b {f} e =
      record {
        goes = refl;
        numbered = b.numbered;
        ends = b.inside;
        short = b.short;
        part_length = refl;
        row_length = refl;
        tabled = λ k.
            subst (λ (q : Place). Tabled lent_parts lent_rows q.mode f q.line q.at) (sym (b.at_first k))
            (record {
              here = empty;
              counts = e;
              part_cells = refl;
              row_cells = refl;
              part_size = (b.room k).part_room_is;
              row_size = (b.room k).row_room_is;
              begun = empty_begun;
              tables = refl;
              room = omega (arith, lines_weight file, start_pending);
            });
      }

  -- ---- one line

  -- line n is this one, where the reading stands at m; its step is s, and the next line starts at next
  pub record Turn (m : Mode) (n at next : ℕ) (s : Step) : Type 0 where
    pub line : List ℕ
    pub lines : rest at ≡ line ∷ rest next
    pub is : s ≡ step_at n m line
    pub moves : at < next
    pub ends : next ≤ length file

  module _ (m : Mode) (n at : ℕ) where
    pub turn :
        {r : LineSpan} → NextLine at file r → {h : Mode} → h ≡ m
        → {a : LineAnswer} → a ≡ line_answer h.expected (part at r.stop file)
        → {s : Step} → s ≡ step_of n h a → Turn m n at r.next s
    turn {r} l {h} g {a} d {s} q =
        let text = part at r.stop file in
        record {
          line = text;
          lines = l.lines;
          is = q ∙ ap (step_of n h) d ∙ ap (λ (k : Mode). step_at n k text) g;
          moves = l.moves;
          ends = l.ends;
        }

    -- the same of a line of which it is told what it says
    pub said_turn :
        {h : Mode} → h ≡ m → {a : LineAnswer} {next : ℕ} → LineSaid h.expected at file a next → {s : Step} → s ≡ step_of n h a
        → Turn m n at next s
    said_turn {h} g l {s} q =
        record {
          line = l.line;
          lines = l.lines;
          is = q ∙ ap (step_of n h) l.says ∙ ap (λ (k : Mode). step_at n k l.line) g;
          moves = l.moves;
          ends = l.ends;
        }

    -- and of a code word that was read in one pass
    pub word_turn :
        {h : Mode} → h ≡ m → {w : UsualWord} → WordRead h.expected at file w → {x : CodeWord} → x ≡ code_word w.text Plain
        → {k : Mode} → k ≡ record_done CodeRecord h → {q : Part} → q ≡ word_part h x → Turn m n at w.next (Add k q)
    unfolding step_of
    word_turn {h} g {w} r u {k} e {q} f =
        subst (λ (next : ℕ). Turn m n at next (Add k q)) r.follows
        (turn r.line g r.says (ap₂ Add e (f ∙ ap (word_part h) u)))

    -- and of an empty one
    pub empty_turn : at < length file → get_or file at 0 ≡ LF → Turn m n at (at + 1) (Next m)
    empty_turn h e =
        let one : suc at ≡ at + 1 = omega arith in
        record {
          line = [];
          lines =
              ap lines_of (drop-cons file at 0 h ∙ ap₂ (λ (b k : ℕ). b ∷ drop k file) e one)
              ∙ line_LF (drop (at + 1) file);
          is = sym (empty_line n m);
          moves = omega arith;
          ends = omega arith;
        }

  module _ {parts rows : List ℕ} {m : Mode} {f : Filled} {n at : ℕ} (b : Before parts rows m f n at) where
    module _ {next : ℕ} {s : Step} (t : Turn m n at next s) where
      step_goes : gone_on n s (λ k. go_on (n + 1) k (rest next)) ≡ reached_from file p
      unfolding go_on
      step_goes = ap (λ (x : Step). gone_on n x (λ k. go_on (n + 1) k (rest next))) t.is ∙ sym (ap (go_on n m) t.lines) ∙ b.goes

      module _ (d : Tabled parts rows m f n at) where
        step_tables : emit s d.here (λ k h. tables_from (n + 1) k h (rest next)) ≡ tables_of file
        unfolding tables_from
        step_tables =
            ap (λ (x : Step). emit x d.here (λ k h. tables_from (n + 1) k h (rest next))) t.is
            ∙ sym (ap (tables_from n m d.here) t.lines)
            ∙ d.tables

        step_room : used d.here + spent s + weight (rest next) ≤ length file + 1
        unfolding weight
        step_room = omega (arith, d.room, ap weight t.lines, ap spent t.is, line_spends n m t.line)

      -- the next line, where the cells and the counts have become these
      proceed :
          {k : Mode} {ps rs : List ℕ} {g : Filled} → go_on (n + 1) k (rest next) ≡ reached_from file p
          → length ps ≡ length parts → length rs ≡ length rows → (keep ≡ true → Tabled ps rs k g (n + 1) next)
          → Before ps rs k g (n + 1) next
      proceed goes_on x y d =
          record {
            goes = goes_on;
            numbered = omega (arith, b.numbered, t.moves);
            ends = t.ends;
            short = b.short;
            part_length = x ∙ b.part_length;
            row_length = y ∙ b.row_length;
            tabled = d;
          }

    module _ {next : ℕ} {k : Mode} where
      pub skipped : Turn m n at next (Next k) → Before parts rows k f (n + 1) next
      unfolding gone_on emit spent
      skipped t =
          proceed t (step_goes t) refl refl
          (λ e.
          let d = b.tabled e in
          record {
            here = d.here;
            counts = d.counts;
            part_cells = d.part_cells;
            row_cells = d.row_cells;
            part_size = d.part_size;
            row_size = d.row_size;
            begun = d.begun;
            tables = step_tables t d;
            room = step_room t d;
          })

      pub added :
          {q : Part} → Turn m n at next (Add k q) → {g : Filled} {new : List ℕ} → (keep ≡ true → Fills parts_in (add_part q) f parts g new)
          → length new ≡ length parts → Before new rows k g (n + 1) next
      unfolding gone_on emit spent add_part used
      added {q} t h same =
          proceed t (step_goes t) same refl
          (λ e.
          let d = b.tabled e in
          let more = length-append d.here.parts (q ∷ []) in
          record {
            here = add_part q d.here;
            counts = (h e).counts d.here d.counts;
            part_cells = (h e).cells d.here lent_parts d.counts d.part_cells;
            row_cells = d.row_cells;
            part_size = same ∙ d.part_size;
            row_size = d.row_size;
            begun = part_begun d.begun q;
            tables = step_tables t d;
            room = omega (arith, more, step_room t d);
          })

      -- one row more
      module _ {g : Filled} {new : List ℕ} (same : length new ≡ length rows) where
        filed :
            (change : Tables → Tables) → (d : Tabled parts rows m f n at) → Fills rows_in change f rows g new
            → (change d.here).parts ≡ d.here.parts → length (change d.here).rows ≡ length d.here.rows + 1
            → Begun (change d.here)
            → tables_from (n + 1) k (change d.here) (rest next) ≡ tables_of file
            → used d.here + (9 + pending k) + weight (rest next) ≤ length file + 1 → Tabled parts new k g (n + 1) next
        unfolding used
        filed change d h kept_parts one begun c u =
            let count = ap length kept_parts in
            record {
              here = change d.here;
              counts = h.counts d.here d.counts;
              part_cells = d.part_cells ∙ ap (λ (ps : List Part). overwritten (part_cells ps) lent_parts) (sym kept_parts);
              row_cells = h.cells d.here lent_rows d.counts d.row_cells;
              part_size = d.part_size;
              row_size = same ∙ d.row_size;
              begun = begun;
              tables = c;
              room = omega arith;
            }

        pub module_closed :
            {line : ℕ} → Turn m n at next (CloseModule k line)
            → (keep ≡ true → Fills rows_in (add_module k.section.inside line) f rows g new) → Before parts new k g (n + 1) next
        unfolding gone_on emit spent add_module
        module_closed {line} t h =
            proceed t (step_goes t) refl same
            (λ e.
            let d = b.tabled e in
            filed (add_module k.section.inside line) d (h e) refl (length-append d.here.rows _)
            (module_begun d.begun k.section.inside line) (step_tables t d) (step_room t d))

        pub section_closed :
            {line : ℕ} → Turn m n at next (CloseSection k line) → (keep ≡ true → Fills rows_in (add_section line) f rows g new)
            → Before parts new k g (n + 1) next
        unfolding gone_on emit spent add_section
        section_closed {line} t h =
            proceed t (step_goes t) refl same
            (λ e.
            let d = b.tabled e in
            filed (add_section line) d (h e) refl (length-append d.here.rows _) (section_begun line d.here)
            (step_tables t d) (step_room t d))

    -- ---- records in a row, of which nothing is kept

    pub run_on :
        {h : Mode} → h ≡ m → {r : Run} → RunFrom file at h keep r → 0 < r.count → {k : Mode} → k ≡ after_records r.count h
        → Before parts rows k f (n + r.count) r.next
    run_on {h} g {r} u some {k} e =
        let q = u.reads in
        record {
          goes =
              ap (λ (x : Mode). go_on (n + r.count) x (rest r.next)) e
              ∙ ap (λ (j : ℕ). go_on (n + j) (after_records j h) (rest r.next)) (sym q.count)
              ∙ sym (go_records h.expected (rest r.next) q.records n h refl q.say (omega (arith, q.count, q.few)))
              ∙ sym (ap (go_on n h) q.lines)
              ∙ ap (λ (x : Mode). go_on n x (rest at)) g
              ∙ b.goes;
          numbered = omega (arith, b.numbered, q.moves);
          ends = q.ends;
          short = b.short;
          part_length = b.part_length;
          row_length = b.row_length;
          tabled = λ t. absurd (omega (arith, u.none_kept t));
        }

    -- ---- room for what a step adds

    module _ (d : Tabled parts rows m f n at) where
      count_parts : f.parts ≡ length d.here.parts
      count_parts = ap (λ (x : Filled). x.parts) d.counts

      count_rows : f.rows ≡ length d.here.rows
      count_rows = ap (λ (x : Filled). x.rows) d.counts

      row_room_is : (x y : ℕ) → used d.here + (9 + x) + y ≤ length file + 1 → RowRoom f rows
      unfolding used
      row_room_is x y h =
          record {
            free = omega (arith, b.short, count_rows);
            whole = d.row_size;
            few = omega (arith, b.short, count_parts);
            open_object = omega (arith, ap (λ (x : Filled). x.object) d.counts, count_parts, d.begun.object);
            open_section = omega (arith, ap (λ (x : Filled). x.section) d.counts, count_rows, d.begun.section);
          }

    module _ {next : ℕ} {k : Mode} where
      pub part_room_is : {q : Part} → Turn m n at next (Add k q) → keep ≡ true → PartRoom f parts
      unfolding spent used
      part_room_is t e =
          let d = b.tabled e in
          record { free = omega (arith, b.short, step_room t d, count_parts d); whole = d.part_size }

      pub module_room : {line : ℕ} → Turn m n at next (CloseModule k line) → keep ≡ true → RowRoom f rows
      unfolding spent
      module_room t e = row_room_is (b.tabled e) _ _ (step_room t (b.tabled e))

      pub section_room : {line : ℕ} → Turn m n at next (CloseSection k line) → keep ≡ true → RowRoom f rows
      unfolding spent
      section_room t e = row_room_is (b.tabled e) _ _ (step_room t (b.tabled e))

    -- ---- the end

    -- what stands in the tables is all
    kept : (d : Tabled parts rows m f n at) → d.here ≡ tables_of file → TablesKept file lent_parts lent_rows f parts rows
    unfolding used
    kept d e =
        record {
          counts = d.counts ∙ ap filled_of e;
          part_cells = d.part_cells ∙ ap (λ (t : Tables). overwritten (parts_in t) lent_parts) e;
          row_cells = d.row_cells ∙ ap (λ (t : Tables). overwritten (rows_in t) lent_rows) e;
          few_parts = omega (arith, b.short, d.room, count_parts d);
          few_rows = omega (arith, b.short, d.room, count_rows d);
        }

    pub faulty :
        {next j c : ℕ} → Turn m n at next (Stop j c) → {x : LinesRead} → x ≡ lines_read (fault j n c) f
        → LinesInto file p keep lent_parts lent_rows x parts rows
    unfolding gone_on emit line_in
    faulty {j = j} {c = c} t {x} e =
        subst (λ (r : LinesRead). LinesInto file p keep lent_parts lent_rows r parts rows) (sym e)
        (record {
          reached = record { is = step_goes t; counted = omega (arith, b.numbered, t.moves, t.ends) };
          kept = λ q. kept (b.tabled q) (step_tables t (b.tabled q));
        })

    pub whole : length file ≤ at → LinesInto file p keep lent_parts lent_rows (lines_read (clean m n) f) parts rows
    unfolding go_on tables_from line_in
    whole h =
        let none_left = no_line at file h in
        record {
          reached = record { is = sym (ap (go_on n m) none_left) ∙ b.goes; counted = omega (arith, b.numbered, b.ends) };
          kept = λ q. let d = b.tabled q in kept d (sym (ap (tables_from n m d.here) none_left) ∙ d.tables);
        }

-- ---- a whole file, and lines of which nothing is kept

abbrev first : Mode → Place
first m = record { at = 0; line = 1; mode = m }

module _ {file lent_parts lent_rows : List ℕ} {m : Mode} (at_start_lem : m ≡ at_start) where
  pub begins_file : Lent file lent_parts lent_rows → Begins file (first m) true lent_parts lent_rows
  begins_file l =
      record {
        inside = omega arith;
        numbered = omega arith;
        short = l.short;
        room = λ e. l;
        at_first = λ e. ap first at_start_lem;
      }

  pub file_read_lem :
      {read : LinesRead} {parts rows : List ℕ} → LinesInto file (first m) true lent_parts lent_rows read parts rows → {x : Reading} → x ≡ ended_at read.reached
      → ReadInto file lent_parts lent_rows (file_read x read.filled) parts rows
  file_read_lem {read} {parts} {rows} l {x} e =
      let t = l.kept refl in
      record {
        reading =
            e
            ∙ ap ended_at (l.reached.is ∙ ap (λ (k : Mode). go_on 1 k (lines_of file)) at_start_lem)
            ∙ ended_is (lines_of file) 1 at_start
            ∙ sym (reading_lines file);
        parts = ap (λ (f : Filled). f.parts) t.counts;
        rows = ap (λ (f : Filled). f.rows) t.counts;
        part_cells = t.part_cells;
        row_cells = t.row_cells;
        few_parts = t.few_parts;
        few_rows = t.few_rows;
      }

-- what a file comes to, as `and_then` gives it
pub ended_by : (r : Reached) (x : Reading) (P : Clean → Type 0) → MatchResult r P (λ s. x ≡ Err s) → ((c : Clean) → P c → x ≡ at_end c.line c.mode) → x ≡ ended_at r
unfolding ended_at
ended_by (Ok c) x P h f = f c h
ended_by (Err s) x P h f = h

pub begins_on :
    {file : List ℕ} {p : Place} {parts rows : List ℕ} → p.at ≤ length file → p.line ≤ p.at + 1 → length file ≤ 65536
    → Begins file p false parts rows
begins_on a b c = record { inside = a; numbered = b; short = c; room = λ e. never e refl; at_first = λ e. never e refl }
