-- The walk over the rows, step by step.
use Prim.Native.Nat.{ℕ, zero, suc, ◌+◌, ◌-◌, ◌≤◌, ◌<◌}
use native.Mathlib.Nat.{add-zero}
use native.Mathlib.Omega.{arith}
use mathlib.Core.Bool.{Bool, true, false, cond, true≢false}
use mathlib.Core.List.{List, ◌∷◌}
use mathlib.Core.Logic.{◌≢◌}
use mathlib.Core.Path.{◌≡◌, refl, sym, ap, ap₂, subst, ◌∙◌}
use lib.ListN.{length, length-map}
use lib.Dec.{eqb}
use borrow.Author.Tests.{eq-eqb, ne_eqb}
use Rattle.rules.specs.Reading.{Module, Item, free}
use Rattle.rules.specs.Placing.{entries, entry_name, twice}
use Rattle.rules.specs.Load.{refusal, searched, entry_names, section_names, test_section, Progress, progress, walk_item, walk_items}
use Rattle.rules.proofs.TestLaws.{Every}
use Rattle.rules.proofs.ReadingLaws.{ModuleSound, ItemSound}
use Rattle.tables.specs.Tables.{kind_in, free_row, section_row, line_in, start_in, end_in, module_in, modules_in, section_in, items_from_row, items_in, RowsOf}
use Rattle.tables.specs.declared.rows.Section.{Section}
use Rattle.rules.specs.declared.answer.Refusal.{Refusal}
use Rattle.state.specs.Good.{Good}
use Rattle.index.specs.Index.{Tested}
use Rattle.placing.specs.Walks.{PlacedRow}
use Rattle.placing.proofs.PlacedLaws.{goes_on_lem, stands}
use Rattle.search.specs.Libraries.{SectionSound}
use Rattle.search.specs.Searching.{Sought}
use Rattle.search.proofs.SeekLaws.{length_modules}
use Rattle.search.specs.declared.rounds.Searched.{Searched}
use Rattle.walking.specs.declared.WalkSoFar.{WalkSoFar}
use Rattle.walking.specs.Walking.{section_rounds, walk_so_far, unwalked, row_step, RowSound, TestedSection, Indexable, Known, Tracks, Advances, Stands}

-- ---- the test of a section

module _ (at : ℕ) (ms : List Module) (old : Refusal) where
  pub tested_refused : old.number ≢ 0 → TestedSection at ms old old
  unfolding test_section
  tested_refused z = record { does = λ w cells a. rw (stands a z) a }

  pub tested_twice : old.number ≡ 0 → twice (section_names ms) ≡ true → {n k : ℕ} → n ≡ 13 → k ≡ at → TestedSection at ms old (refusal n k)
  unfolding test_section
  tested_twice e t {n} {k} o q =
      record { does = λ w cells a. rw (goes_on_lem a e, t) (record { refusal_is = ap₂ refusal o q; state_is = λ z. absurd (omega arith) }) }

  pub tested_once : old.number ≡ 0 → twice (section_names ms) ≡ false → TestedSection at ms old old
  unfolding test_section
  tested_once e t = record { does = λ w cells a. rw (goes_on_lem a e, t) a }

-- what the index knows after the test
module _ {parts rows : List ℕ} {s : Section} {index : List ℕ} where
  pub known_refused : {r : Refusal} → r.number ≢ 0 → Known parts rows s r index
  known_refused z = record { owns = λ e. absurd (z e) }

  pub known_tested : {r : Refusal} {b : Bool} → Tested parts rows s.first s.count b index → b ≡ false → Known parts rows s r index
  known_tested t f = record { owns = λ _. t.owns f }

-- ---- a section's rows

module_sound : (parts rows : List ℕ) (i n : ℕ) → Every ModuleSound (modules_in parts rows i n) →
    (k : ℕ) → k < n → ModuleSound (module_in parts rows (i + k))
unfolding modules_in
module_sound parts rows i zero e k l = absurd (omega arith)
module_sound parts rows i (suc n) e zero l = subst (λ j. ModuleSound (module_in parts rows j)) (sym (add-zero i)) e.0
module_sound parts rows i (suc n) e (suc k) l =
    let next : i + suc k ≡ i + 1 + k = omega arith in
    subst (λ j. ModuleSound (module_in parts rows j)) (sym next) (module_sound parts rows (i + 1) n e.1 k (omega arith))

few_names : (m : Module) → ModuleSound m → length (entry_names m) ≤ 64
unfolding entry_names
few_names m s = omega (arith, length-map (entries m) entry_name, s.few_entries)

module _ (parts rows : List ℕ) (row : ℕ) {s : Section} (o : RowsOf rows row s) where
  pub section_is :
      modules_in parts rows s.first s.count ≡ modules_in parts rows (start_in rows row) (end_in rows row - start_in rows row)
  section_is = ap₂ (modules_in parts rows) o.first o.count

  module _ (i : ItemSound (section_in parts rows row)) where
    members : Every ModuleSound (modules_in parts rows s.first s.count) × (length (modules_in parts rows s.first s.count) ≤ 256)
    unfolding section_in
    members = subst (λ ms. Every ModuleSound ms × (length ms ≤ 256)) (sym section_is) i

    pub section_fits : SectionSound parts rows s
    section_fits =
        record {
          low = o.low;
          short = omega (arith, length_modules parts rows s.first s.count, members.1);
          sound = module_sound parts rows s.first s.count members.0;
        }

    pub section_indexable : length parts ≤ 131072 → Indexable parts rows s
    section_indexable p =
        record {
          parts_few = p;
          few = λ k l. few_names _ (module_sound parts rows s.first s.count members.0 k l);
        }

-- ---- an item

pub section_walked :
    (parts rows : List ℕ) (row : ℕ) (far : WalkSoFar) (ms : List Module) (t : Refusal) (o : Searched) (before after : List ℕ)
    → ms ≡ modules_in parts rows (start_in rows row) (end_in rows row - start_in rows row)
    → TestedSection (line_in rows row) ms far.refusal t → Sought ms t before o after
    → Advances (λ p. walk_item p (section_in parts rows row)) section_rounds far before (walk_so_far o.refusal (far.rounds + o.rounds)) after
unfolding walk_item section_in
section_walked parts rows row far ms t o before after e test found =
    record {
      good = found.good;
      most = omega (arith, found.most);
      does = λ p g.
          let w = test_section (line_in rows row) ms p.walk in
          let a = test.does p.walk before g.agrees in
          subst
          (λ (l : List Module).
          Tracks
          (progress
          (searched l (test_section (line_in rows row) l p.walk)).now
          (p.rounds + (searched l (test_section (line_in rows row) l p.walk)).rounds))
          (walk_so_far o.refusal (far.rounds + o.rounds))
          after)
          e
          (record { agrees = found.agrees w a; rounds_are = ap₂ ◌+◌ g.rounds_are (found.rounds_is w a) });
    }

pub free_walked :
    (parts rows : List ℕ) (row : ℕ) (far : WalkSoFar) (t : Refusal) (before after : List ℕ)
    → PlacedRow (module_in parts rows row) far.refusal before t after
    → Advances (λ p. walk_item p (free (module_in parts rows row))) section_rounds far before (walk_so_far t far.rounds) after
unfolding walk_item
free_walked parts rows row far t before after d =
    record {
      good = d.good;
      most = omega arith;
      does = λ p g. record { agrees = d.does p.walk g.agrees; rounds_are = g.rounds_are };
    }

-- ---- a row

module _ (parts rows : List ℕ) (i : ℕ) (far : WalkSoFar) (before after : List ℕ) (r : WalkSoFar) where
  pub row_free : kind_in rows i ≡ free_row → Advances (λ p. walk_item p (free (module_in parts rows i))) section_rounds far before r after →
      Advances (row_step parts rows i) section_rounds far before r after
  unfolding row_step
  row_free e w =
      let on : eqb (kind_in rows i) free_row ≡ true = eq-eqb (kind_in rows i) free_row e in
      record { good = w.good; most = w.most; does = λ p g. rw on (w.does p g) }

  pub row_section : kind_in rows i ≡ section_row → Advances (λ p. walk_item p (section_in parts rows i)) section_rounds far before r after →
      Advances (row_step parts rows i) section_rounds far before r after
  unfolding row_step
  row_section e w =
      let off : eqb (kind_in rows i) free_row ≡ false = ne_eqb (kind_in rows i) free_row (λ f. absurd (omega (arith, e, f))) in
      let on : eqb (kind_in rows i) section_row ≡ true = eq-eqb (kind_in rows i) section_row e in
      record { good = w.good; most = w.most; does = λ p g. rw (off, on) (w.does p g) }

pub row_member : (parts rows : List ℕ) (i : ℕ) (far : WalkSoFar) (cells : List ℕ) → kind_in rows i ≢ free_row → kind_in rows i ≢ section_row → Good cells →
    Advances (row_step parts rows i) section_rounds far cells far cells
unfolding row_step
row_member parts rows i far cells nf ns good =
    let off : eqb (kind_in rows i) free_row ≡ false = ne_eqb (kind_in rows i) free_row nf in
    let shut : eqb (kind_in rows i) section_row ≡ false = ne_eqb (kind_in rows i) section_row ns in
    record { good = good; most = omega arith; does = λ p g. rw (off, shut) g }

-- ---- the rows

by_kind : (p : Progress) (one two : Item) (rest : List Item) (f s : Bool) →
    walk_items p (cond f (one ∷ rest) (cond s (two ∷ rest) rest)) ≡ walk_items (cond f (walk_item p one) (cond s (walk_item p two) p)) rest
unfolding walk_items
by_kind p one two rest true s = refl
by_kind p one two rest false true = refl
by_kind p one two rest false false = refl

module _ (parts rows : List ℕ) (i n : ℕ) where
  -- the items from a row on are the row's own and those behind it
  rest_leads : (p : Progress) → walk_items p (items_from_row parts rows i (suc n)) ≡ walk_items (row_step parts rows i p) (items_from_row parts rows (i + 1) n)
  unfolding items_from_row row_step
  rest_leads p =
      by_kind p (free (module_in parts rows i)) (section_in parts rows i) (items_from_row parts rows (i + 1) n)
      (eqb (kind_in rows i) free_row) (eqb (kind_in rows i) section_row)

every_kind : (one two : Item) (rest : List Item) (f s : Bool) → Every ItemSound (cond f (one ∷ rest) (cond s (two ∷ rest) rest)) →
    (f ≡ true → ItemSound one) × (f ≡ false → s ≡ true → ItemSound two) × Every ItemSound rest
every_kind one two rest true s e = (λ _. e.0, λ u. absurd (true≢false u), e.1)
every_kind one two rest false true e = (λ u. absurd (true≢false (sym u)), λ _ _. e.0, e.1)
every_kind one two rest false false e = (λ u. absurd (true≢false (sym u)), λ _ u. absurd (true≢false (sym u)), e)

module _ (parts rows : List ℕ) (i n : ℕ) (below : i < n) where
  -- one row is gone over
  count_next : n - i ≡ suc (n - (i + 1))
  count_next = omega arith

  split : Every ItemSound (items_from_row parts rows i (n - i)) →
      (eqb (kind_in rows i) free_row ≡ true → ItemSound (free (module_in parts rows i))) ×
      (eqb (kind_in rows i) free_row ≡ false → eqb (kind_in rows i) section_row ≡ true → ItemSound (section_in parts rows i)) ×
      Every ItemSound (items_from_row parts rows (i + 1) (n - (i + 1)))
  unfolding items_from_row
  split e =
      every_kind (free (module_in parts rows i)) (section_in parts rows i) (items_from_row parts rows (i + 1) (n - (i + 1)))
      (eqb (kind_in rows i) free_row) (eqb (kind_in rows i) section_row)
      (subst (λ k. Every ItemSound (items_from_row parts rows i k)) count_next e)

  pub row_sound : Every ItemSound (items_from_row parts rows i (n - i)) → RowSound parts rows i
  row_sound e =
      record {
        free_sound = λ k. (split e).0 (eq-eqb (kind_in rows i) free_row k);
        section_sound = λ k.
            (split e).1 (ne_eqb (kind_in rows i) free_row (λ f. absurd (omega (arith, k, f)))) (eq-eqb (kind_in rows i) section_row k);
      }

  pub rest_sound : Every ItemSound (items_from_row parts rows i (n - i)) → Every ItemSound (items_from_row parts rows (i + 1) (n - (i + 1)))
  rest_sound e = (split e).2

  pub stands_next : (p : Progress) (whole : List Item) (far : WalkSoFar) (before after : List ℕ) (r : WalkSoFar) →
      Stands p whole (items_from_row parts rows i (n - i)) far before →
      Advances (row_step parts rows i) section_rounds far before r after →
      Stands p whole (items_from_row parts rows (i + 1) (n - (i + 1))) r after
  stands_next p whole far before after r s w =
      record {
        here = row_step parts rows i s.here;
        tracks = w.does s.here s.tracks;
        leads =
            sym (rest_leads parts rows i (n - (i + 1)) s.here) ∙
            ap (λ k. walk_items s.here (items_from_row parts rows i k)) (sym count_next) ∙ s.leads;
      }

-- no row is gone over, and all are
pub stands_start : (parts rows : List ℕ) (n : ℕ) (p : Progress) (cells : List ℕ) → Tracks p unwalked cells →
    Stands p (items_in parts rows n) (items_from_row parts rows 0 (n - 0)) unwalked cells
unfolding items_in
stands_start parts rows n p cells g =
    let all : n - 0 ≡ n = omega arith in
    record { here = p; tracks = g; leads = ap (λ k. walk_items p (items_from_row parts rows 0 k)) all }

pub stands_end : (parts rows : List ℕ) (n i : ℕ) (p : Progress) (whole : List Item) (far : WalkSoFar) (cells : List ℕ) → n ≤ i →
    Stands p whole (items_from_row parts rows i (n - i)) far cells → Tracks (walk_items p whole) far cells
unfolding items_from_row walk_items
stands_end parts rows n i p whole far cells l s =
    let none : 0 ≡ n - i = omega arith in
    subst (λ q. Tracks q far cells) (ap (λ k. walk_items s.here (items_from_row parts rows i k)) none ∙ s.leads) s.tracks

pub all_sound : (parts rows : List ℕ) (n : ℕ) → Every ItemSound (items_in parts rows n) → Every ItemSound (items_from_row parts rows 0 (n - 0))
unfolding items_in
all_sound parts rows n e =
    let all : n ≡ n - 0 = omega arith in
    subst (λ k. Every ItemSound (items_from_row parts rows 0 k)) all e
