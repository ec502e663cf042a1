-- A field that is read in a line is a field of the file in which the line lies.
-- Assumes nothing.
use Prim.Native.Nat.{ℕ, ◌+◌, ◌-◌, ◌≤◌, min}
use native.Mathlib.Omega.{arith}
use mathlib.Core.Bool.{Bool}
use mathlib.Core.List.{List}
use mathlib.Core.Path.{◌≡◌, ap, ◌∙◌}
use lib.ListN.{length, drop}
use denote.Ref.{Bor}
use Rattle.text.specs.Scan.{part, run, past, is_not, InFile}
use Rattle.rules.specs.Text.{space}
use Rattle.text.specs.FieldBounds.{is_space, field_start, field_stop, onward, NextField, PartOf}
use Rattle.text.specs.LineEnds.{LinePart}
use Rattle.text.proofs.ScanLaws.{length_part, part_all, drop_part, part_part, in_line}
use Rattle.text.proofs.FieldLaws.{stop_most, lends_field}

onward_on : (n m : ℕ) (p : ℕ × ℕ) → onward n (onward m p) ≡ onward (m + n) p
onward_on n m p = let k : n + (m + p.1) ≡ m + n + p.1 = omega arith in ap (λ (j : ℕ). (p.0, j)) k

-- a part of a part of the file is one too
pub part_lent : {file line r : Bor (List ℕ)} → PartOf file line → PartOf line r → PartOf file r
part_lent {file} {line} l p =
    record {
      from = l.from + p.from;
      to = min (l.from + p.to) l.to;
      bytes = p.bytes ∙ ap (part p.from p.to) l.bytes ∙ part_part p.from p.to l.from l.to file.now;
      position = p.position ∙ ap (onward p.from) l.position ∙ onward_on p.from l.from file.ref_ptr;
    }

-- the line is a part of its file
pub line_lent : {at stop : ℕ} {file r : Bor (List ℕ)} → LinePart at stop file r → PartOf file r
line_lent {at} {stop} l = record { from = at; to = stop; bytes = l.bytes; position = l.position }

-- the next field is a part of the line
pub field_lent : {at stop : ℕ} {line r : Bor (List ℕ)} → NextField at stop line r → PartOf line r
field_lent {at} {stop} {line} n =
    record {
      from = field_start at stop line.now;
      to = field_stop at stop line.now;
      bytes = n.bytes;
      position = n.position;
    }

module _ {from stop : ℕ} {file line : Bor (List ℕ)} (i : InFile from stop file.now) (l : LinePart from stop file line) where
  long : length line.now ≡ stop - from
  long = ap length l.bytes ∙ length_part from stop file.now i.size

  rest : (k : ℕ) → part k (length line.now) line.now ≡ part (from + k) stop file.now
  rest k = part_all k line.now ∙ ap (drop k) l.bytes ∙ drop_part from stop k file.now

  past_in : (p : ℕ → Bool) (k : ℕ) → from + past p k (length line.now) line.now ≡ past p (from + k) stop file.now
  unfolding past
  past_in p k = omega (arith, ap (run p) (rest k))

  -- the field at its place in the line is the field at its place in the file
  pub field_in_file : {at : ℕ} {r : Bor (List ℕ)} → at ≤ length line.now → NextField at (length line.now) line r
      → NextField (from + at) stop file r
  unfolding field_start field_stop
  field_in_file {at} {r} h n =
      let start = field_start at (length line.now) line.now in
      let end = field_stop at (length line.now) line.now in
      let most : end ≤ length line.now = stop_most at (length line.now) line.now (in_line at line.now h) in
      let e : min (from + end) stop ≡ from + end = omega (arith, most, long, i.order) in
      lends_field (from + at) stop (from + start) (from + end) file r
      (record { order = omega (arith, h, long, i.order); size = i.size })
      (past_in is_space at) (past_in (is_not space) start)
      (n.bytes ∙ ap (part start end) l.bytes ∙ part_part start end from stop file.now ∙ ap (λ (k : ℕ). part (from + start) k file.now) e)
      (n.position ∙ ap (onward start) l.position ∙ onward_on start from file.ref_ptr)
