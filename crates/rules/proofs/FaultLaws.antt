-- "On one line the leftmost fault is told; at equal columns the order is 6, 20, 17, 18, 19, 21": what a line tells is the least of all
-- its faults, by column and rank.
use Prim.Native.Nat.{ℕ, zero, suc, ◌+◌, ◌≤◌, ◌<◌}
use native.Mathlib.Nat.{add_comm}
use native.Mathlib.Omega.{arith}
use mathlib.Core.Bool.{Bool, true, false, cond, ◌&&◌, ◌||◌}
use mathlib.Core.List.{List, [], ◌∷◌, ◌++◌, append-nil}
use mathlib.Core.Option.{Option, none, some}
use mathlib.Core.Path.{◌≡◌, refl, sym, ap, ap₂, subst, ◌∙◌}
use lib.ListN.{length}
use lib.Dec.{eqb, leb, ltb}
use borrow.Author.Tests.{leb-true, leb-false, lt-leb, le-leb, ltb-true, ltb-false, eqb-true, eq-eqb}
use Rattle.rules.specs.Text.{Field, starts_field, widen_field, add_to_fields, fields_from, fields_of, is_legal, legal_front}
use Rattle.rules.specs.Line.{Row, Held, value, wrong, read_field, Fitted, fits, misfit, fault, in_front, fit, fit_over, Shape, said, read_as, read_as_over, header_shape_in, Record, plain_code, linked_code, absolute_entry, relocated_entry, external, opening_title, closing_title, data_record, init_record, parameter_record, sub_record, record_shape, code_shape, entry_shape, shape_for, say_fields, say_fields_over, line_over, fault_in, within, test_bytes, line_answer, line_answer_over}
use Rattle.rules.specs.Faults.{fault_at, field_faults, count_faults, shape_faults, byte_faults, length_faults, faults_of, rank, ahead, ahead_of, leftmost}
use Rattle.rules.specs.declared.line.FaultKind.{FaultKind}
use Rattle.rules.specs.declared.line.FaultKind.TheVariants.{IllegalByte, BadMarker, FieldCount, BadNumber, BadName, BadType}
use Rattle.rules.specs.declared.line.Fault.{Fault}
use Rattle.rules.specs.declared.line.Kind.{Kind}
use Rattle.rules.specs.declared.line.Expected.{Expected}
use Rattle.rules.specs.declared.line.Expected.TheVariants.{AnyHeader, OpeningTitle, ClosingTitle, CodeRecord, EntryRecord, ExternalRecord, DataRecord, InitRecord, ParameterRecord, SubRecord}
use Rattle.rules.specs.declared.line.LineAnswer.{LineAnswer}
use Rattle.rules.specs.declared.line.LineAnswer.TheVariants.{Bad}
use Rattle.rules.proofs.TestLaws.{Every}
use Rattle.rules.proofs.BoolLaws.{cond_cases, never, or_off}

-- ---- the least of a list

-- f is told rather than g, or they are the same
pub record Before (f g : Fault) : Type 0 where
  columns : f.column ≤ g.column
  ranks : f.column ≡ g.column → rank f.kind ≤ rank g.kind

before_same : (f : Fault) → Before f f
before_same f = record { columns = omega arith; ranks = λ _. omega arith }

before_trans : {f g h : Fault} → Before f g → Before g h → Before f h
before_trans p q =
    record {
      columns = omega (arith, p.columns, q.columns);
      ranks = λ e. omega (arith, p.ranks (omega (arith, p.columns, q.columns)), q.ranks (omega (arith, p.columns, q.columns)));
    }

-- further left, whatever the kinds are
before_left : {f g : Fault} → f.column < g.column → Before f g
before_left h = record { columns = omega arith; ranks = λ e. absurd (omega arith) }

ahead_before : (f g : Fault) → ahead f g ≡ true → Before f g
unfolding ahead
ahead_before f g h = go (ltb f.column g.column) refl h
  where
    same : (t : Bool) → eqb f.column g.column ≡ t → (t && ltb (rank f.kind) (rank g.kind)) ≡ true → Before f g
    same true e r =
        let c = eqb-true f.column g.column e in
        let k = ltb-true (rank f.kind) (rank g.kind) r in
        record { columns = omega arith; ranks = λ _. omega arith }
    same false e r = never r refl

    go : (t : Bool) → ltb f.column g.column ≡ t
        → (t || (eqb f.column g.column && ltb (rank f.kind) (rank g.kind))) ≡ true → Before f g
    go true e r = before_left (ltb-true f.column g.column e)
    go false e r = same (eqb f.column g.column) refl r

not_ahead : (f g : Fault) → ahead g f ≡ false → Before f g
unfolding ahead
not_ahead f g h =
    let parts = or_off (ltb g.column f.column) _ h in
    record {
      columns = ltb-false g.column f.column parts.0;
      ranks = λ e. ltb-false (rank g.kind) (rank f.kind) (rw (eq-eqb g.column f.column (sym e)) at parts.1);
    }

pub data Among : Fault → List Fault → Type 0 where
  here : {f : Fault} {gs : List Fault} → Among f (f ∷ gs)
  later : {f g : Fault} {gs : List Fault} → Among f gs → Among f (g ∷ gs)

-- one of the faults, and none is told rather than it
pub record Least (f : Fault) (fs : List Fault) : Type 0 where
  pub one : Among f fs
  pub first : Every (Before f) fs

-- what is told of faults: nothing where there are none, else the least
abbrev pub Tells : Option Fault → List Fault → Type 0
Tells none fs = fs ≡ []
Tells (some f) fs = Least f fs

module _ (P : Fault → Type 0) where
  every_among : {f : Fault} {fs : List Fault} → Among f fs → Every P fs → P f
  every_among here h = h.0
  every_among (later a) h = every_among a h.1

  every_append : (fs gs : List Fault) → Every P fs → Every P gs → Every P (fs ++ gs)
  every_append [] gs h k = k
  every_append (f ∷ fs) gs h k = (h.0, every_append fs gs h.1 k)

every_weaken : (P Q : Fault → Type 0) → ((f : Fault) → P f → Q f) → (fs : List Fault) → Every P fs → Every Q fs
every_weaken P Q w [] h = tt
every_weaken P Q w (f ∷ fs) h = (w f h.0, every_weaken P Q w fs h.1)

among_front : {f : Fault} {fs : List Fault} → Among f fs → (gs : List Fault) → Among f (fs ++ gs)
among_front here gs = here
among_front (later a) gs = later (among_front a gs)

among_back : {f : Fault} (fs : List Fault) {gs : List Fault} → Among f gs → Among f (fs ++ gs)
among_back [] a = a
among_back (g ∷ fs) a = later (among_back fs a)

-- no fault is among none
among_none : {A : Type 0} {f : Fault} → Among f [] → A
among_none a = nothing a refl
  where
    nothing : {A : Type 0} {f : Fault} {fs : List Fault} → Among f fs → fs ≡ [] → A
    nothing here e = absurd (let z : ◌≡◌ {A = ℕ} 0 1 = cc in omega arith)
    nothing (later a) e = absurd (let z : ◌≡◌ {A = ℕ} 0 1 = cc in omega arith)

-- `leftmost` tells the least of any list
pub leftmost_tells : (fs : List Fault) → Tells (leftmost fs) fs
unfolding leftmost ahead_of
leftmost_tells [] = refl
leftmost_tells (f ∷ fs) = go (leftmost fs) (leftmost_tells fs)
  where
    go : (o : Option Fault) → Tells o fs → Least (ahead_of f o) (f ∷ fs)
    go none e = record { one = here; first = (before_same f, subst (Every (Before f)) (sym e) tt) }
    go (some g) l =
        cond_cases (λ x. Least x (f ∷ fs)) (ahead g f) g f
        (λ a. record { one = later l.one; first = (ahead_before g f a, l.first) })
        (λ a.
        record {
          one = here;
          first = (before_same f, every_weaken (Before g) (Before f) (λ h. before_trans (not_ahead f g a)) fs l.first);
        })

-- a kind, by its rank, for no two have the same
kind_of : ℕ → FaultKind
kind_of n =
    cond (eqb n (rank IllegalByte)) IllegalByte
    (cond (eqb n (rank BadMarker)) BadMarker
    (cond (eqb n (rank FieldCount)) FieldCount
    (cond (eqb n (rank BadNumber)) BadNumber (cond (eqb n (rank BadName)) BadName BadType))))

kind_of_rank : (k : FaultKind) → kind_of (rank k) ≡ k
unfolding kind_of rank
kind_of_rank IllegalByte = refl
kind_of_rank BadMarker = refl
kind_of_rank FieldCount = refl
kind_of_rank BadNumber = refl
kind_of_rank BadName = refl
kind_of_rank BadType = refl

before_both : (f g : Fault) → Before f g → Before g f → f ≡ g
before_both f g p q =
    let c : f.column ≡ g.column = omega (arith, p.columns, q.columns) in
    let r : rank f.kind ≡ rank g.kind = omega (arith, p.ranks c, q.ranks (sym c)) in
    ap₂ fault (sym (kind_of_rank f.kind) ∙ ap kind_of r ∙ kind_of_rank g.kind) c

-- so it is one and the same
tells_one : (o p : Option Fault) (fs : List Fault) → Tells o fs → Tells p fs → o ≡ p
tells_one none none fs h k = refl
tells_one none (some g) fs h k = among_none (subst (Among g) h k.one)
tells_one (some f) none fs h k = among_none (subst (Among f) k h.one)
tells_one (some f) (some g) fs h k =
    ap some (before_both f g (every_among (Before f) k.one h.first) (every_among (Before g) h.one k.first))

-- ---- the fields

-- the columns rise from low and stay below end
abbrev pub Rising : ℕ → ℕ → List Field → Type 0
Rising low end [] = low ≤ end
Rising low end (f ∷ fs) = (low ≤ f.column) × Rising (f.column + 1) end fs

pub rising_lower : (low low' end : ℕ) (fs : List Field) → low' ≤ low → Rising low end fs → Rising low' end fs
rising_lower low low' end [] h r = omega arith
rising_lower low low' end (f ∷ fs) h r = (omega (arith, r.0), r.1)

widened : (c b end : ℕ) (fs : List Field) → Rising (c + 1) end fs → Rising c end (widen_field c b fs)
unfolding widen_field
widened c b end [] r = (omega arith, r)
widened c b end (f ∷ fs) r = (omega arith, rising_lower _ _ end fs (omega (arith, r.0)) r.1)

pub fields_rise : (c : ℕ) (l : List ℕ) → Rising c (c + length l) (fields_from c l)
unfolding fields_from add_to_fields
fields_rise c [] = omega arith
fields_rise c (b ∷ rest) =
    let end : c + 1 + length rest ≡ c + suc (length rest) = omega arith in
    let fs = fields_from (c + 1) rest in
    let r = subst (λ n. Rising (c + 1) n fs) end (fields_rise (c + 1) rest) in
    cond_cases (Rising c (c + suc (length rest))) (eqb b 32) _ _
    (λ _. rising_lower _ _ _ fs (omega arith) r)
    (λ _. cond_cases (Rising c (c + suc (length rest))) (starts_field rest) _ _ (λ _. widened c b _ fs r) (λ _. (omega arith, r)))

abbrev From : ℕ → Fault → Type 0
From low f = low ≤ f.column

-- no fault of the fields stands left of the first of them
count_from : (low end : ℕ) (ks : List Kind) (fs : List Field) → Rising low end fs → Every (From low) (count_faults end ks fs)
unfolding count_faults
count_from low end [] [] r = tt
count_from low end [] (f ∷ fs) r = (r.0, tt)
count_from low end (k ∷ ks) [] r = (r, tt)
count_from low end (k ∷ ks) (f ∷ fs) r = count_from low end ks fs (rising_lower _ _ end fs (omega (arith, r.0)) r.1)

held_from : (low c : ℕ) (h : Held) → low ≤ c → Every (From low) (fault_at c h)
unfolding fault_at
held_from low c (value v) l = tt
held_from low c (wrong k) l = (l, tt)

field_from_lem : (low end : ℕ) (ks : List Kind) (fs : List Field) → Rising low end fs → Every (From low) (field_faults ks fs)
unfolding field_faults
field_from_lem low end [] fs r = tt
field_from_lem low end (k ∷ ks) [] r = tt
field_from_lem low end (k ∷ ks) (f ∷ fs) r =
    every_append (From low) (fault_at f.column (read_field k f.text)) (field_faults ks fs)
    (held_from low f.column (read_field k f.text) r.0)
    (field_from_lem low end ks fs (rising_lower _ _ end fs (omega (arith, r.0)) r.1))

abbrev all_faults : ℕ → List Kind → List Field → List Fault
all_faults end ks fs = field_faults ks fs ++ count_faults end ks fs

abbrev TellsOf : Fitted → List Fault → Type 0
TellsOf (fits vs) fs = fs ≡ []
TellsOf (misfit f) fs = Least f fs

-- the first fault in field order is the least
fit_tells : (low end : ℕ) (ks : List Kind) (fs : List Field) → Rising low end fs → TellsOf (fit end ks fs) (all_faults end ks fs)
unfolding fit_over field_faults count_faults in_front fault_at
fit_tells low end [] [] r = refl
fit_tells low end [] (f ∷ fs) r = record { one = here; first = (before_same _, tt) }
fit_tells low end (k ∷ ks) [] r = record { one = here; first = (before_same _, tt) }
fit_tells low end (k ∷ ks) (f ∷ fs) r =
    go (read_field k f.text) (fit end ks fs) (fit_tells (f.column + 1) end ks fs r.1)
  where
    right : Every (From (f.column + 1)) (all_faults end ks fs)
    right =
        every_append (From (f.column + 1)) (field_faults ks fs) (count_faults end ks fs)
        (field_from_lem (f.column + 1) end ks fs r.1)
        (count_from (f.column + 1) end ks fs r.1)

    go : (h : Held) (x : Fitted) → TellsOf x (all_faults end ks fs) →
        TellsOf (in_front f.column h x) ((fault_at f.column h ++ field_faults ks fs) ++ count_faults end ks fs)
    go (wrong j) x t =
        record {
          one = here;
          first = (before_same _, every_weaken (From (f.column + 1)) (Before (fault j f.column)) (λ _ h. before_left (omega (arith, h))) (all_faults end ks fs) right);
        }
    go (value v) (misfit g) t = t
    go (value v) (fits vs) t = t

-- what a shape says of values is no fault
abbrev pub Faultless : Shape → Type 0
Faultless s = ((vs : List ℕ) → fault_in (s.says vs) ≡ none)

abbrev pub FaultlessIn : Option Shape → Type 0
FaultlessIn none = Unit {0}
FaultlessIn (some s) = Faultless s

header_faultless : (r : Option Row) → FaultlessIn (header_shape_in r)
unfolding header_shape_in fault_in
header_faultless none = tt
header_faultless (some r) = λ vs. refl

record_faultless : (r : Record) → Faultless (record_shape r)
unfolding record_shape fault_in
record_faultless plain_code vs = refl
record_faultless linked_code vs = refl
record_faultless absolute_entry vs = refl
record_faultless relocated_entry vs = refl
record_faultless external vs = refl
record_faultless opening_title vs = refl
record_faultless closing_title vs = refl
record_faultless data_record vs = refl
record_faultless init_record vs = refl
record_faultless parameter_record vs = refl
record_faultless sub_record vs = refl

pub shape_faultless : (w : Expected) (fs : List Field) → FaultlessIn (shape_for w fs)
unfolding shape_for code_shape entry_shape
shape_faultless AnyHeader fs = header_faultless _
shape_faultless OpeningTitle fs = record_faultless _
shape_faultless ClosingTitle fs = record_faultless _
shape_faultless CodeRecord fs = record_faultless _
shape_faultless EntryRecord fs = record_faultless _
shape_faultless ExternalRecord fs = record_faultless _
shape_faultless DataRecord fs = record_faultless _
shape_faultless InitRecord fs = record_faultless _
shape_faultless ParameterRecord fs = record_faultless _
shape_faultless SubRecord fs = record_faultless _

read_tells : (s : Shape) (end : ℕ) (fs : List Field) → Faultless s → Rising 1 end fs →
    Tells (fault_in (read_as s end fs)) (all_faults end s.kinds fs)
unfolding read_as_over said fault_in
read_tells s end fs clean r = go (fit end s.kinds fs) (fit_tells 1 end s.kinds fs r)
  where
    go : (x : Fitted) → TellsOf x (all_faults end s.kinds fs) → Tells (fault_in (said s.says x)) (all_faults end s.kinds fs)
    go (fits vs) t = subst (λ o. Tells o (all_faults end s.kinds fs)) (sym (clean vs)) t
    go (misfit f) t = t

-- what the fields of a line tell; no fault of theirs stands left of column 1
fields_tell : (end : ℕ) (fs : List Field) (s : Option Shape) → FaultlessIn s → Rising 1 end fs →
    Tells (fault_in (say_fields end fs s)) (shape_faults end fs s)
unfolding say_fields_over shape_faults fault_in
fields_tell end [] s clean r = refl
fields_tell end (f ∷ fs) none clean r = record { one = here; first = (before_same _, tt) }
fields_tell end (f ∷ fs) (some s) clean r = read_tells s end (f ∷ fs) clean r

fields_from_lem : (end : ℕ) (fs : List Field) (s : Option Shape) → Rising 1 end fs → Every (From 1) (shape_faults end fs s)
unfolding shape_faults
fields_from_lem end [] s r = tt
fields_from_lem end (f ∷ fs) none r = (r.0, tt)
fields_from_lem end (f ∷ fs) (some s) r =
    every_append (From 1) (field_faults s.kinds (f ∷ fs)) (count_faults end s.kinds (f ∷ fs))
    (field_from_lem 1 end s.kinds (f ∷ fs) r)
    (count_from 1 end s.kinds (f ∷ fs) r)

-- ---- the bytes

-- the faults of the bytes from column c on, of which n are within the line's bound
abbrev from_column : ℕ → ℕ → List ℕ → List Fault
from_column c n line = byte_faults c line ++ cond (leb (length line) n) [] (fault IllegalByte (c + n) ∷ [])

bytes_from : (c : ℕ) (line : List ℕ) → Every (From c) (byte_faults c line)
unfolding byte_faults
bytes_from c [] = tt
bytes_from c (b ∷ rest) =
    let more = every_weaken (From (c + 1)) (From c) (λ _ h. omega (arith, h)) (byte_faults (c + 1) rest) (bytes_from (c + 1) rest) in
    cond_cases (Every (From c)) (is_legal b) _ _ (λ _. more) (λ _. (omega arith, more))

bounded_from : (c n : ℕ) (t : Bool) → Every (From c) (cond t [] (fault IllegalByte (c + n) ∷ []))
bounded_from c n true = tt
bounded_from c n false = (omega arith, tt)

-- an illegal byte at column c, or the first past the bound there, is the least of those from there on
first_byte : (c : ℕ) (fs : List Fault) → Among (fault IllegalByte c) fs → Every (From c) fs → Least (fault IllegalByte c) fs
unfolding rank
first_byte c fs a h =
    record {
      one = a;
      first = every_weaken (From c) (Before (fault IllegalByte c)) (λ _ l. record { columns = l; ranks = λ _. omega arith }) fs h;
    }

-- the first illegal byte, or the first past the bound, is the least; without one there is no fault
abbrev BytesTell : ℕ → ℕ → List ℕ → Type 0
BytesTell c n line =
    (length line ≤ legal_front n line → from_column c n line ≡ [])
    × (legal_front n line < length line → Least (fault IllegalByte (c + legal_front n line)) (from_column c n line))

-- the faults of a line whose first byte is legal, or not
abbrev behind_first : Bool → ℕ → ℕ → List ℕ → List Fault
behind_first legal c n rest =
    cond legal (byte_faults (c + 1) rest) (fault IllegalByte c ∷ byte_faults (c + 1) rest)
    ++ cond (leb (suc (length rest)) (suc n)) [] (fault IllegalByte (c + suc n) ∷ [])

leb_suc : (a b : ℕ) → leb (suc a) (suc b) ≡ leb a b
leb_suc a b = go (leb a b) refl
  where
    go : (t : Bool) → leb a b ≡ t → leb (suc a) (suc b) ≡ t
    go true e = le-leb (suc a) (suc b) (omega (arith, leb-true a b e))
    go false e = lt-leb (suc a) (suc b) (omega (arith, leb-false a b e))

byte_tells : (legal : Bool) (c n : ℕ) (rest : List ℕ) → BytesTell (c + 1) n rest →
    let front = cond legal (suc (legal_front n rest)) 0 in
    (suc (length rest) ≤ front → behind_first legal c n rest ≡ [])
    × (front < suc (length rest) → Least (fault IllegalByte (c + front)) (behind_first legal c n rest))
byte_tells true c n rest h =
    let past : c + 1 + n ≡ c + suc n = omega arith in
    let place : c + suc (legal_front n rest) ≡ c + 1 + legal_front n rest = omega arith in (
      (λ l. rw (leb_suc (length rest) n) (rw past at (h.0 (omega arith)))),
      (λ l. rw (leb_suc (length rest) n, place) (rw past at (h.1 (omega arith)))),
    )
byte_tells false c n rest h =
    let place : c + 0 ≡ c = omega arith in
    let more = every_weaken (From (c + 1)) (From c) (λ _ k. omega (arith, k)) (byte_faults (c + 1) rest) (bytes_from (c + 1) rest) in (
      (λ l. absurd (omega arith)),
      (λ l.
          rw place
          (first_byte c (behind_first false c n rest) here
          (omega arith, every_append (From c) (byte_faults (c + 1) rest) _ more (bounded_from c (suc n) (leb (suc (length rest)) (suc n)))))),
    )

bytes_tell : (c n : ℕ) (line : List ℕ) → BytesTell c n line
unfolding legal_front byte_faults
bytes_tell c n [] = ((λ _. rw (le-leb 0 n (omega arith))), (λ h. absurd (omega arith)))
bytes_tell c zero (b ∷ rest) =
    let place : c + 0 ≡ c = omega arith in (
      (λ h. absurd (omega arith)),
      (λ _.
          rw (place, lt-leb (suc (length rest)) 0 (omega arith))
          (first_byte c _ (among_back (byte_faults c (b ∷ rest)) here)
          (every_append (From c) (byte_faults c (b ∷ rest)) _ (bytes_from c (b ∷ rest)) (omega arith, tt)))),
    )
bytes_tell c (suc n) (b ∷ rest) = byte_tells (is_legal b) c n rest (bytes_tell (c + 1) n rest)

-- ---- the whole line

module _ (front size : ℕ) (a : LineAnswer) (fs bs : List Fault) (t : Tells (fault_in a) fs) where
  -- no byte is illegal
  all_legal : size ≤ front → bs ≡ [] → Tells (fault_in (test_bytes front size a)) (fs ++ bs)
  unfolding test_bytes
  all_legal h e = rw (le-leb size front h, e, append-nil fs) t

  -- one is
  some_illegal : front < size → Least (fault IllegalByte (front + 1)) bs → Tells (fault_in (test_bytes front size a)) (fs ++ bs)
  unfolding test_bytes fault_in within rank
  some_illegal h l = rw (lt-leb size front h) (go (fault_in a) refl t)
    where
      go : (o : Option Fault) → fault_in a ≡ o → Tells o fs →
          Tells (fault_in (cond (within front o) a (Bad (fault IllegalByte (front + 1))))) (fs ++ bs)
      go none e k = rw k l
      go (some f) e k =
          cond_cases (λ x. Tells (fault_in x) (fs ++ bs)) (leb f.column front) a (Bad (fault IllegalByte (front + 1)))
          (λ q.
          let left = leb-true f.column front q in
          rw e
          (record {
            one = among_front k.one bs;
            first =
                every_append (Before f) fs bs k.first
                (every_weaken (Before (fault IllegalByte (front + 1))) (Before f) (λ _ p. before_left (omega (arith, p.columns))) bs l.first);
          }))
          (λ q.
          let right = leb-false f.column front q in
          record {
            one = among_back fs l.one;
            first =
                every_append (Before (fault IllegalByte (front + 1))) fs bs
                (every_weaken (Before f) (Before (fault IllegalByte (front + 1))) (λ _ p. record { columns = omega (arith, p.columns); ranks = λ _. omega arith }) fs k.first)
                l.first;
          })

-- by whether a is at most b
at_most : (a b : ℕ) {A : Type 0} → (a ≤ b → A) → (b < a → A) → A
at_most a b {A} f g = go (leb a b) refl
  where
    go : (t : Bool) → leb a b ≡ t → A
    go true e = f (leb-true a b e)
    go false e = g (leb-false a b e)

line_tells : (w : Expected) (line : List ℕ) → Tells (fault_in (line_answer w line)) (faults_of w line)
unfolding line_answer_over line_over faults_of length_faults fields_of
line_tells w line =
    let fs = fields_from 1 line in
    let end : 1 + length line ≡ length line + 1 = omega arith in
    let rise = subst (λ n. Rising 1 n fs) end (fields_rise 1 line) in
    let fields = fields_tell (length line + 1) fs (shape_for w fs) (shape_faultless w fs) rise in
    let bytes = bytes_tell 1 80 line in
    at_most (length line) (legal_front 80 line)
    (λ h. all_legal _ _ _ _ _ fields h (bytes.0 h))
    (λ h. some_illegal _ _ _ _ _ fields h (rw add_comm at (bytes.1 h)))

-- what a line tells is the leftmost of all its faults
pub told_leftmost : (w : Expected) (line : List ℕ) → fault_in (line_answer w line) ≡ leftmost (faults_of w line)
told_leftmost w line = tells_one _ _ (faults_of w line) (line_tells w line) (leftmost_tells (faults_of w line))

-- columns count from 1
pub line_column : (w : Expected) (line : List ℕ) (f : Fault) → fault_in (line_answer w line) ≡ some f → 1 ≤ f.column
unfolding faults_of fields_of length_faults
line_column w line f e =
    let fs = fields_from 1 line in
    let end : 1 + length line ≡ length line + 1 = omega arith in
    let rise = subst (λ n. Rising 1 n fs) end (fields_rise 1 line) in
    let told = subst (λ o. Tells o (faults_of w line)) e (line_tells w line) in
    every_among (From 1) told.one
    (every_append (From 1) (shape_faults (length line + 1) fs (shape_for w fs)) _
    (fields_from_lem (length line + 1) fs (shape_for w fs) rise)
    (every_append (From 1) (byte_faults 1 line) _ (bytes_from 1 line) (bounded_from 1 80 (leb (length line) 80))))
