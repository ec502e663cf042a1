-- Headers and titles by their fields: a text found byte by byte, a marker, a number with its value, and what a line of such fields says.
-- Assumes nothing.
use Prim.Native.Nat.{ℕ, ◌+◌, ◌-◌, ◌≤◌}
use native.Mathlib.Omega.{arith}
use mathlib.Core.Bool.{Bool, true, false, cond}
use mathlib.Core.List.{List, [], ◌∷◌, ◌++◌, append-nil}
use mathlib.Core.Option.{some}
use mathlib.Core.Path.{◌≡◌, refl, sym, ap, subst, ◌∙◌}
use lib.ListN.{length, get_or, take, length-drop}
use lib.Pointwise.{pointwise}
use lib.Dec.{ltb}
use borrow.Author.Tests.{eq-eqb, le-leb, ltb-true}
use Rattle.std.specs.Prelude.{Option as Answer, Some, nat_eq}
use Rattle.std.specs.Cmp.Lexicographic.{same_text as same_bytes}
use Rattle.rules.specs.Text.{bytes, all, between, is_legal, same_text, Field, fields_of, is_number, number_of, is_name, name_of}
use Rattle.rules.specs.Line.{nth, number, Row, row, headers, row_in, row_of, marker_in, marker_of, value, held, in_bounds, read_field, read_field_over, fits, in_front, fit, fit_over, Shape, said, read_as_over, header_shape, header_shape_in, row_at, opening_title, closing_title, record_shape, shape_for, test_bytes, say_fields_over, line_of, line_over, line_answer, line_answer_over}
use Rattle.rules.specs.declared.line.Expected.{Expected}
use Rattle.rules.specs.declared.line.Expected.TheVariants.{AnyHeader, OpeningTitle, ClosingTitle}
use Rattle.rules.specs.declared.line.Header.TheVariants.{CodeBlock, EndBlock, TitleBlock, EntryBlock, ExternalBlock, LibraryStart, LibraryEnd}
use Rattle.rules.specs.declared.line.Kind.{Kind}
use Rattle.rules.specs.declared.line.Kind.TheVariants.{Name, Anything, Marker}
use Rattle.rules.specs.declared.line.LineAnswer.{LineAnswer}
use Rattle.rules.specs.declared.line.LineAnswer.TheVariants.{Opening, Closing}
use Rattle.rules.proofs.TestLaws.{and_intro, between_intro}
use Rattle.text.specs.FieldBounds.{is_space}
use Rattle.text.specs.Scan.{part}
use Rattle.text.specs.Values.{value_in}
use Rattle.text.proofs.ScanLaws.{part_all, part_front}
use Rattle.runs.specs.Runs.{Stands, Stretch, Gap, IsField, texts_from, Spelled, Follow, LineEnded}
use Rattle.runs.proofs.SpelledLaws.{trailed, plain_spelled, spaced, gap_spelled, byte_spelled, number_spelled, name_spelled, follow_on}
use Rattle.runs.proofs.AnswerLaws.{texts, digit_is, legal_front_lem, first_text_lem}
use Rattle.runs.proofs.LineReadLaws.{line_stands}
use Rattle.framing.specs.Framing.{TextEnds, CountStands, Begun, HeaderEnded, title_by, LineSaid}
use Rattle.framing.specs.declared.Frame.{Frame}

-- ---- a text

pub text_found :
    (i : ℕ) (l t : List ℕ) → true ≡ pointwise nat_eq t (take (length t) (part i (length l) l)) → length t ≤ length (part i (length l) l)
    → i ≤ length l → TextEnds l i t (i + length t)
text_found i l t same enough h =
    record {
      from = refl;
      to = omega (arith, enough, ap length (part_all i l), length-drop i l);
      is = part_front i (length t) l ∙ ap (take (length t)) (sym (part_all i l)) ∙ sym (same_bytes t (take (length t) (part i (length l) l)) same);
    }

-- ---- a number with its value

pub value_read : (t : List ℕ) {r : Answer ℕ} {n : ℕ} → value_in r ≡ number_of t → r ≡ Some n → n ≤ 65535 → read_field number t ≡ value n
unfolding read_field_over in_bounds held
value_read t {r} {n} e g h = rw (sym e ∙ ap value_in g) (simp (le-leb 0 n (omega arith), le-leb n 65535 h))

pub name_read : (t : List ℕ) {r : Answer ℕ} {n : ℕ} → value_in r ≡ name_of t → r ≡ Some n → read_field Name t ≡ value n
unfolding read_field_over held
name_read t e g = rw (sym e ∙ ap value_in g)

pub count_found :
    {i end b v : ℕ} {l : List ℕ} → IsField is_number l i end → Gap l end b → read_field number (part i end l) ≡ value v → CountStands l i b v
count_found {i} {end} {b} {v} {l} n gap is =
    record { end = end; text = part i end l; spelled = number_spelled n; is = is; gap = gap }

-- ---- texts against the kinds that they have to be, with the values that they have

abbrev pub HeldAs : List Kind → List (List ℕ) → List ℕ → Type 0
HeldAs [] [] [] = Unit {0}
HeldAs [] [] (v ∷ vs) = ⊥
HeldAs [] (t ∷ ts) vs = ⊥
HeldAs (k ∷ ks) [] vs = ⊥
HeldAs (k ∷ ks) (t ∷ ts) [] = ⊥
HeldAs (k ∷ ks) (t ∷ ts) (v ∷ vs) = (read_field k t ≡ value v) × HeldAs ks ts vs

fits_as : (end : ℕ) (ks : List Kind) (fs : List Field) (vs : List ℕ) → HeldAs ks (texts fs) vs → fit end ks fs ≡ fits vs
unfolding fit_over in_front
fits_as end [] [] [] h = refl
fits_as end [] [] (v ∷ vs) h = absurd h
fits_as end [] (f ∷ fs) vs h = absurd h
fits_as end (k ∷ ks) [] vs h = absurd h
fits_as end (k ∷ ks) (f ∷ fs) [] h = absurd h
fits_as end (k ∷ ks) (f ∷ fs) (v ∷ vs) h = rw (h.0, fits_as end ks fs vs h.1)

-- one field more
held_add :
    (ks : List Kind) (ts : List (List ℕ)) (vs : List ℕ) (k : Kind) (t : List ℕ) (v : ℕ) → HeldAs ks ts vs → read_field k t ≡ value v
    → HeldAs (ks ++ (k ∷ [])) (ts ++ (t ∷ [])) (vs ++ (v ∷ []))
held_add [] [] [] j u w h e = (e, tt)
held_add [] [] (v ∷ vs) j u w h e = absurd h
held_add [] (t ∷ ts) vs j u w h e = absurd h
held_add (k ∷ ks) [] vs j u w h e = absurd h
held_add (k ∷ ks) (t ∷ ts) [] j u w h e = absurd h
held_add (k ∷ ks) (t ∷ ts) (v ∷ vs) j u w h e = (h.0, held_add ks ts vs j u w h.1 e)

-- ---- a line of such fields

module _ (e : Expected) (s : Shape) (vs : List ℕ) where
  fields_say_lem :
      (end : ℕ) (fs : List Field) → shape_for e fs ≡ some s → 1 ≤ length (texts fs) → HeldAs s.kinds (texts fs) vs
      → s.says vs ≡ line_of e end fs
  unfolding line_over say_fields_over read_as_over said
  fields_say_lem end [] q n h = absurd (omega arith)
  fields_say_lem end (f ∷ fs) q n h = rw (q, fits_as end s.kinds (f ∷ fs) vs h)

  line_says :
      (ts : List (List ℕ)) → 1 ≤ length ts → HeldAs s.kinds ts vs → ((fs : List Field) → texts fs ≡ ts → shape_for e fs ≡ some s)
      → (line : List ℕ) → texts_from 1 line ≡ ts → all is_legal line ≡ true → length line ≤ 80 → s.says vs ≡ line_answer e line
  unfolding line_answer_over test_bytes texts_from fields_of
  line_says ts n h q line are legal short =
      rw (legal_front_lem 80 line legal short, le-leb (length line) (length line) (omega arith))
      (fields_say_lem (length line + 1) (fields_of line) (q (fields_of line) are) (omega (arith, n, ap length are))
      (subst (λ (us : List (List ℕ)). HeldAs s.kinds us vs) (sym are) h))

  line_said :
      {at end r : ℕ} {l : List ℕ} {ts : List (List ℕ)} → 1 ≤ length ts → HeldAs s.kinds ts vs
      → ((fs : List Field) → texts fs ≡ ts → shape_for e fs ≡ some s) → Spelled l at end ts → LineEnded l at end r
      → LineSaid e at l (s.says vs) r
  line_said {at} {end} {r} {l} {ts} n h q t d =
      let whole = trailed t d.gap in
      record {
        line = part at d.stop l;
        lines = line_stands whole d.stops;
        says = line_says ts n h q (part at d.stop l) (whole.fields 1) whole.legal d.stops.short;
        moves = omega (arith, whole.from, d.stops.behind);
        ends = d.stops.inside;
      }

-- ---- titles

pub title_said :
    (opens : Bool) {at s end r n : ℕ} {l : List ℕ} → Stretch is_space l at s → IsField is_name l s end → LineEnded l at end r
    → read_field Name (part s end l) ≡ value n → LineSaid (title_by opens) at l (cond opens (Opening n) (Closing n)) r
unfolding record_shape
title_said true {n = n} gap f d v =
    line_said OpeningTitle (record_shape opening_title) (n ∷ []) (omega arith) (v, tt) (λ fs same. unfold shape_for in refl)
    (gap_spelled gap (name_spelled f)) d
title_said false {n = n} gap f d v =
    line_said ClosingTitle (record_shape closing_title) (n ∷ []) (omega arith) (v, tt) (λ fs same. unfold shape_for in refl)
    (gap_spelled gap (name_spelled f)) d

-- ---- headers

-- a code of one digit
code_is : (c : ℕ) → c ≤ 7 → number_of ((48 + c) ∷ []) ≡ some c
code_is c h =
    let v : 48 + c - 48 ≡ c = omega arith in
    digit_is (48 + c) (omega arith) (omega arith) ∙ ap some v

-- it chooses the row
row_chosen :
    (c : ℕ) {o : Row} {ts : List (List ℕ)} → c ≤ 7 → row_of c ≡ some o → (fs : List Field) → texts fs ≡ ((48 + c) ∷ []) ∷ ts
    → shape_for AnyHeader fs ≡ some (header_shape o)
unfolding shape_for row_at header_shape_in
row_chosen c h e fs same =
    rw (first_text_lem fs ∙ ap (λ (us : List (List ℕ)). get_or us 0 []) same, code_is c h, e)

same_self : (t : List ℕ) → same_text t t ≡ true
unfolding same_text
same_self [] = refl
same_self (b ∷ t) = and_intro (eq-eqb b b refl) (same_self t)

marker_held : (c : ℕ) → read_field (Marker c) (marker_of c) ≡ value 0
unfolding read_field_over
marker_held c = rw (same_self (marker_of c))

any_held : (t : List ℕ) → read_field Anything t ≡ value 0
unfolding read_field_over
any_held t = refl

marker_spelled : {i r : ℕ} {l t m : List ℕ} → TextEnds l i t r → t ≡ m → 1 ≤ length m → all (between 33 126) m ≡ true → Spelled l i r (m ∷ [])
marker_spelled {i} {r} {l} e same long plain =
    let is = e.is ∙ same in
    subst (λ (u : List ℕ). Spelled l i r (u ∷ [])) is
    (plain_spelled i r l (omega (arith, e.from, ap length same)) e.to (ap (all (between 33 126)) is ∙ plain))

-- the code, fields with these values up to e, and the marker at i
header_said :
    (c : ℕ) (o : Row) {at j e i b : ℕ} {l t : List ℕ} {ts : List (List ℕ)} (vs : List ℕ) {r : Frame} → c ≤ 7 → row_of c ≡ some o → o.code ≡ c
    → 1 ≤ length (marker_of c) → all (between 33 126) (marker_of c) ≡ true → HeldAs o.fields ts vs → b ≡ 48 + c → (g : Begun l at j b)
    → Follow l (g.start + 1) e ts → Gap l e i → t ≡ marker_of c → HeaderEnded l at i t (o.says (0 ∷ (vs ++ (0 ∷ [])))) r
    → LineSaid AnyHeader at l r.answer r.next
header_said c o {at} {j} {e} {i} {b} {l} {t} {ts} vs {r} h chosen same long plain kinds is g f gap marked d =
    let first = byte_spelled g.start (48 + c) l (subst (Stands l g.start) is g.code) (between_intro 33 126 (48 + c) (omega arith) (omega arith)) in
    let last : read_field (Marker o.code) (marker_of c) ≡ value 0 =
    subst (λ (n : ℕ). read_field (Marker n) (marker_of c) ≡ value 0) (sym same) (marker_held c) in
    subst (λ (a : LineAnswer). LineSaid AnyHeader at l a r.next) (sym d.tells)
    (line_said AnyHeader (header_shape o) (0 ∷ (vs ++ (0 ∷ []))) (omega arith)
    (any_held ((48 + c) ∷ []), held_add o.fields ts vs (Marker o.code) (marker_of c) 0 kinds last)
    (row_chosen c h chosen) ((spaced gap (marker_spelled d.stands marked long plain)).adds at _ (f.adds at _ (gap_spelled g.front first))) d.line)

-- ---- each header

pub begins : {at s i b : ℕ} {l : List ℕ} → Stretch is_space l at s → true ≡ ltb s (length l) → b ≡ get_or l s 0 → Gap l (s + 1) i → Begun l at i b
begins {s = s} {l = l} front inside is gap =
    record {
      start = s;
      front = front;
      code = record { inside = ltb-true s (length l) (sym inside); is = sym is };
      gap = gap;
    }

none_follow : (i : ℕ) (l : List ℕ) → i ≤ length l → Follow l i i []
none_follow i l h = record { from = omega arith; to = h; adds = λ at front s. rw (append-nil front) s }

counts : {at j b i v : ℕ} {l : List ℕ} (g : Begun l at j b) (n : CountStands l j i v) → Follow l (g.start + 1) n.end (n.text ∷ [])
counts g n = spaced g.gap n.spelled

module _ {at j b : ℕ} {l t : List ℕ} {r : Frame} (g : Begun l at j b) where
  bare_said :
      (c : ℕ) (o : Row) → c ≤ 7 → row_of c ≡ some o → o.code ≡ c → 1 ≤ length (marker_of c) → all (between 33 126) (marker_of c) ≡ true
      → HeldAs o.fields [] [] → b ≡ 48 + c → t ≡ marker_of c → HeaderEnded l at j t (o.says (0 ∷ 0 ∷ [])) r → LineSaid AnyHeader at l r.answer r.next
  bare_said c o h e same long plain kinds is marked d =
      header_said c o [] h e same long plain kinds is g (none_follow (g.start + 1) l (omega (arith, g.code.inside))) g.gap marked d

  pub end_said : b ≡ 49 → t ≡ marker_of 1 → HeaderEnded l at j t EndBlock r → LineSaid AnyHeader at l r.answer r.next
  unfolding bytes all headers row_in row_of marker_in
  end_said = bare_said 1 (row 1 [] "***END" (λ u. EndBlock)) (omega arith) refl refl (omega arith) refl tt

  pub title_block_said : b ≡ 51 → t ≡ marker_of 3 → HeaderEnded l at j t TitleBlock r → LineSaid AnyHeader at l r.answer r.next
  unfolding bytes all headers row_in row_of marker_in
  title_block_said = bare_said 3 (row 3 [] "***TITLE" (λ u. TitleBlock)) (omega arith) refl refl (omega arith) refl tt

  pub library_start_said : b ≡ 54 → t ≡ marker_of 6 → HeaderEnded l at j t LibraryStart r → LineSaid AnyHeader at l r.answer r.next
  unfolding bytes all headers row_in row_of marker_in
  library_start_said = bare_said 6 (row 6 [] "***LSB" (λ u. LibraryStart)) (omega arith) refl refl (omega arith) refl tt

  pub library_end_said : b ≡ 55 → t ≡ marker_of 7 → HeaderEnded l at j t LibraryEnd r → LineSaid AnyHeader at l r.answer r.next
  unfolding bytes all headers row_in row_of marker_in
  library_end_said = bare_said 7 (row 7 [] "***LEB" (λ u. LibraryEnd)) (omega arith) refl refl (omega arith) refl tt

  module _ {i v : ℕ} (n : CountStands l j i v) where
    pub entries_said : b ≡ 52 → t ≡ marker_of 4 → HeaderEnded l at i t (EntryBlock v) r → LineSaid AnyHeader at l r.answer r.next
    unfolding bytes all headers row_in row_of marker_in
    entries_said is marked d =
        header_said 4 (row 4 (number ∷ []) "***ENTRY" (λ u. EntryBlock (nth u 1))) (v ∷ []) (omega arith) refl refl (omega arith) refl (n.is, tt)
        is g (counts g n) n.gap marked d

    pub externals_said : b ≡ 53 → t ≡ marker_of 5 → HeaderEnded l at i t (ExternalBlock v) r → LineSaid AnyHeader at l r.answer r.next
    unfolding bytes all headers row_in row_of marker_in
    externals_said is marked d =
        header_said 5 (row 5 (number ∷ []) "***EXT" (λ u. ExternalBlock (nth u 1))) (v ∷ []) (omega arith) refl refl (omega arith) refl (n.is, tt)
        is g (counts g n) n.gap marked d

    pub code_said :
        {k w : ℕ} → CountStands l i k w → b ≡ 48 → t ≡ marker_of 0 → HeaderEnded l at k t (CodeBlock v w) r → LineSaid AnyHeader at l r.answer r.next
    unfolding bytes all headers row_in row_of marker_in
    code_said {k} {w} m is marked d =
        header_said 0 (row 0 (number ∷ number ∷ []) "***CODE" (λ u. CodeBlock (nth u 1) (nth u 2))) (v ∷ w ∷ []) (omega arith) refl refl
        (omega arith) refl (n.is, (m.is, tt)) is g (follow_on (counts g n) (spaced n.gap m.spelled)) m.gap marked d
