-- A line's end, the line that ends there, and lines in a row.
-- Assumes nothing.
use Prim.Native.Nat.{ℕ, suc, ◌+◌, ◌-◌, ◌≤◌, ◌<◌}
use native.Mathlib.Numerals.{add-one}
use native.Mathlib.Omega.{arith}
use mathlib.Core.Bool.{true}
use mathlib.Core.List.{List, [], ◌∷◌, ◌++◌, append_assoc}
use mathlib.Core.Path.{◌≡◌, refl, sym, ap, ap₂, ◌∙◌}
use lib.ListN.{length, take, drop, length-append, take-append-drop}
use lib.Seq.{drop-cons, drop-drop}
use borrow.Author.Tests.{ne_eqb}
use Rattle.rules.specs.Text.{LF, CR, all, is_legal, widen_line, lines_of, is_number, is_name}
use Rattle.rules.specs.declared.line.Expected.{Expected}
use Rattle.rules.specs.declared.line.Expected.TheVariants.{CodeRecord, EntryRecord, ExternalRecord, DataRecord}
use Rattle.rules.proofs.LineEndLaws.{add_to_lines, starts_lf, lines_cons}
use Rattle.rules.proofs.TestLaws.{every_add, between_low, all_first, all_rest}
use Rattle.text.specs.FieldBounds.{is_space}
use Rattle.text.specs.Scan.{part}
use Rattle.text.proofs.ScanLaws.{length_part}
use Rattle.runs.specs.Runs.{Stands, Stretch, IsField, Spelled, ByteFollows, NumberFollows, Numbers, LineStops, LineEnded, IsRecord, LineRead, RecordsRead}
use Rattle.runs.proofs.AnswerLaws.{Says, plain_says, pair_says, linked_says, external_says, absolute_says, relocated_says}
use Rattle.runs.proofs.SpelledLaws.{trailed, number_spelled, name_spelled, byte_spelled, gap_spelled, that_byte, follow_on, numbers_start, numbers_more}
use Rattle.runs.proofs.StretchLaws.{stretch_start}

-- ---- the line's end

drop_at : (i b : ℕ) (l : List ℕ) → Stands l i b → drop i l ≡ b ∷ drop (i + 1) l
drop_at i b l s = rw add-one (drop-cons l i 0 s.inside ∙ ap (λ (x : ℕ). x ∷ drop (suc i) l) s.is)

ends_LF : (i : ℕ) (l : List ℕ) → Stands l i LF → lines_of (drop i l) ≡ [] ∷ lines_of (drop (i + 1) l)
unfolding add_to_lines
ends_LF i l s = ap lines_of (drop_at i LF l s) ∙ lines_cons LF (drop (i + 1) l)

module _ {at end : ℕ} {l : List ℕ} (h : (at ≤ end) × (end ≤ length l)) (short : end - at ≤ 80) where
  pub stops_LF : Stands l end LF → LineStops l at end (end + 1)
  stops_LF s =
      record {
        short = omega (arith, length_part at end l h.1);
        behind = omega arith;
        inside = omega (arith, s.inside);
        lines = ends_LF end l s;
      }

  pub stops_CRLF : Stands l end CR → Stands l (end + 1) LF → LineStops l at end (end + 2)
  unfolding add_to_lines starts_lf
  stops_CRLF s t =
      let k : end + 1 + 1 ≡ end + 2 = omega arith in
      record {
        short = omega (arith, length_part at end l h.1);
        behind = omega arith;
        inside = omega (arith, t.inside);
        lines =
            ap lines_of (drop_at end CR l s)
            ∙ lines_cons CR (drop (end + 1) l)
            ∙ ap₂ (add_to_lines CR) (ap starts_lf (drop_at (end + 1) LF l t)) (ends_LF (end + 1) l t)
            ∙ ap (λ (n : ℕ). [] ∷ lines_of (drop n l)) k;
      }

pub line_ended : {at end stop r : ℕ} {l : List ℕ} → Stretch is_space l end stop → LineStops l at stop r → LineEnded l at end r
line_ended {stop = stop} gap stops = record { stop = stop; gap = gap; stops = stops }

-- ---- the line

-- legal bytes in front of the end of a line are the line
line_front :
    (t u : List ℕ) {more : List (List ℕ)} → all is_legal t ≡ true → lines_of u ≡ [] ∷ more → lines_of (t ++ u) ≡ t ∷ more
unfolding add_to_lines widen_line
line_front [] u h e = e
line_front (b ∷ t) u h e =
    let low = between_low 32 126 b (all_first is_legal b t h) in
    lines_cons b (t ++ u)
    ∙ simp (ne_eqb b LF (λ x. omega (arith, low)), ne_eqb b CR (λ x. omega (arith, low)))
    (ap (widen_line b) (line_front t u (all_rest is_legal b t h) e))

split_off : (at end : ℕ) (l : List ℕ) → at ≤ end → drop at l ≡ part at end l ++ drop end l
unfolding part
split_off at end l h =
    let k : at + (end - at) ≡ end = omega arith in
    sym (take-append-drop (end - at) (drop at l))
    ∙ ap (◌++◌ (take (end - at) (drop at l))) (drop-drop (end - at) at l ∙ ap (λ (n : ℕ). drop n l) k)

-- what is spelled in front of where a line stops is the line
pub line_stands :
    {at stop r : ℕ} {l : List ℕ} {ts : List (List ℕ)} → Spelled l at stop ts → LineStops l at stop r
    → lines_of (drop at l) ≡ part at stop l ∷ lines_of (drop r l)
line_stands {at} {stop} {r} {l} s d =
    ap lines_of (split_off at stop l s.from) ∙ line_front (part at stop l) (drop stop l) s.legal d.lines

line_read :
    {e : Expected} {at end r : ℕ} {l : List ℕ} {ts : List (List ℕ)} → Says e ts → Spelled l at end ts → LineEnded l at end r → LineRead e at l r
line_read {e} {at} {end} {r} {l} says s d =
    let whole = trailed s d.gap in
    record {
      line = part at d.stop l;
      lines = line_stands whole d.stops;
      says = says (part at d.stop l) (whole.fields 1) whole.legal d.stops.short;
      moves = omega (arith, whole.from, d.stops.behind);
      ends = d.stops.inside;
    }

-- ---- each record, in the order of its fields

module _ {at end r : ℕ} {l : List ℕ} (d : LineEnded l at end r) where
  pub external_read : {s : ℕ} → Stretch is_space l at s → IsField is_name l s end → LineRead ExternalRecord at l r
  external_read gap n = line_read (external_says n.is) (gap_spelled gap (name_spelled n)) d

  pub pair_read : {s m : ℕ} → Stretch is_space l at s → IsField is_number l s m → NumberFollows l m end → LineRead DataRecord at l r
  pair_read {s} {m} gap n last =
      line_read (pair_says (part s m l) last.text n.is last.is) (last.follow.adds at _ (gap_spelled gap (number_spelled n))) d

  pub word_read : {s m : ℕ} → Stretch is_space l at s → IsField is_number l s m → Numbers l m end 3 → LineRead CodeRecord at l r
  word_read {s} {m} gap n ns =
      line_read (plain_says (part s m l) ns.texts n.is ns.size ns.are) (ns.follow.adds at _ (gap_spelled gap (number_spelled n))) d

  -- with no space in front
  pub near_read :
      {m b c : ℕ} → IsField is_number l at m → NumberFollows l m b → NumberFollows l b c → NumberFollows l c end → LineRead CodeRecord at l r
  near_read {m} n second third last =
      word_read (stretch_start is_space at l (omega (arith, n.some, n.to))) n
      (numbers_more (numbers_more (numbers_more (numbers_start m l n.to) second) third) last)

  pub linked_read :
      {s m z k : ℕ} → Stretch is_space l at s → Stands l s 42 → Numbers l (s + 1) m 4 → ByteFollows l m z 48 48 → ByteFollows l z k 49 53
      → NumberFollows l k end → LineRead CodeRecord at l r
  linked_read {s} gap star ns zero kind last =
      line_read (linked_says ns.texts kind.byte last.text ns.size ns.are kind.least kind.most last.is)
      ((follow_on ns.follow (follow_on (that_byte zero) (follow_on kind.follow last.follow))
      ).adds at _ (gap_spelled gap (byte_spelled s 42 l star refl))) d

  module _ {s m k : ℕ} (gap : Stretch is_space l at s) (n : IsField is_name l s m) (v : NumberFollows l m k) where
    pub absolute_read : ByteFollows l k end 48 48 → LineRead EntryRecord at l r
    absolute_read zero =
        line_read (absolute_says n.is v.is)
        ((follow_on v.follow (that_byte zero)).adds at _ (gap_spelled gap (name_spelled n))) d

    pub relocated_read : {j : ℕ} → ByteFollows l k j 49 49 → NumberFollows l j end → LineRead EntryRecord at l r
    relocated_read one last =
        line_read (relocated_says n.is v.is last.is)
        ((follow_on v.follow (follow_on (that_byte one) last.follow)).adds at _ (gap_spelled gap (name_spelled n))) d

-- ---- lines in a row

pub read_more :
    {e : Expected} {at most : ℕ} {l : List ℕ} {n i r : ℕ} → RecordsRead e at l most (record { count = n; next = i }) → LineRead e i l r
    → n < most → RecordsRead e at l most (record { count = n + 1; next = r })
read_more {e} {at} {most} {l} {n} {i} {r} s d h =
    record {
      records = s.records ++ (d.line ∷ []);
      lines = s.lines ∙ ap (◌++◌ s.records) d.lines ∙ sym (append_assoc s.records (d.line ∷ []) (lines_of (drop r l)));
      count = length-append s.records (d.line ∷ []) ∙ ap (λ (k : ℕ). k + 1) s.count;
      say = every_add (IsRecord e) s.records d.line s.say d.says;
      few = omega arith;
      moves = omega (arith, s.moves, d.moves);
      ends = d.ends;
    }
