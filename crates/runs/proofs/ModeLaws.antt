-- The mode behind k records of a block, in one piece: what one record does, done k times.
use Prim.Native.Nat.{ℕ, zero, suc, ◌+◌, ◌-◌, ◌≤◌, ◌<◌}
use native.Mathlib.Omega.{arith}
use mathlib.Core.Bool.{Bool, true, false, cond}
use mathlib.Core.List.{List}
use mathlib.Core.Option.{some}
use mathlib.Core.Path.{◌≡◌, refl, sym, ap, subst, ◌∙◌}
use lib.Dec.{leb}
use borrow.Author.Tests.{le-leb, lt-leb, lt-ltb, leb-true, leb-false}
use Rattle.rules.specs.Line.{line_answer}
use Rattle.rules.specs.Reading.{mode, open_block, open_module, record_done, count_entry, count_external, word_part, entry_step, external_step, step_of, step_at}
use Rattle.rules.specs.declared.line.Expected.{Expected}
use Rattle.rules.specs.declared.line.Expected.TheVariants.{AnyHeader, OpeningTitle, ClosingTitle, CodeRecord, EntryRecord, ExternalRecord, DataRecord, InitRecord, ParameterRecord, SubRecord}
use Rattle.rules.specs.declared.line.LineAnswer.{LineAnswer}
use Rattle.rules.specs.declared.line.LineAnswer.TheVariants.{Bad, Blank, Head, Opening, Closing, Code, Entered, Mentioned, Ignored, Parameter, Sub}
use Rattle.rules.specs.declared.reading.Mode.{Mode}
use Rattle.rules.specs.declared.reading.OpenSection.{OpenSection}
use Rattle.rules.specs.declared.reading.Part.{Part}
use Rattle.rules.specs.declared.reading.Part.TheVariants.{EntryPart, ExternalPart}
use Rattle.rules.specs.declared.reading.Step.{Step}
use Rattle.rules.specs.declared.reading.Step.TheVariants.{Next, Add}
use Rattle.rules.proofs.BoolLaws.{never_none}
use Rattle.runs.specs.Runs.{record_of, IsRecord}
use Rattle.runs.specs.Modes.{counted, one_done, after_records, room_by, room_for, entries_in, externals_in}

-- ---- the mode in one piece

unfoldable pub behind : ℕ → Mode → Mode
behind k m =
    mode
    (cond (leb m.block.remaining k) AnyHeader m.expected)
    (open_block m.block.offset m.block.count (m.block.remaining - k) 0)
    (open_module m.object.inside m.object.title m.object.line (m.object.entries + entries_in m.expected k) (m.object.externals + externals_in m.expected k))
    m.section

-- no more records than the block has
pub room_most : (m : Mode) → room_for m ≤ m.block.remaining
unfolding room_by
room_most m = go m.expected
  where
    go : (e : Expected) → room_by e m ≤ m.block.remaining
    go AnyHeader = omega arith
    go OpeningTitle = omega arith
    go ClosingTitle = omega arith
    go CodeRecord = omega arith
    go EntryRecord = omega arith
    go ExternalRecord = omega arith
    go DataRecord = omega arith
    go InitRecord = omega arith
    go ParameterRecord = omega arith
    go SubRecord = omega arith

module _ (o c : ℕ) (i : Bool) (t l : ℕ) (s : OpenSection) where
  abbrev at : Expected → ℕ → ℕ → ℕ → ℕ → Mode
  at w r b n x = mode w (open_block o c r b) (open_module i t l n x) s

  same : {w w' : Expected} {r r' n n' x x' : ℕ} → w ≡ w' → r ≡ r' → n ≡ n' → x ≡ x' → at w r 0 n x ≡ at w' r' 0 n' x'
  same {w} {w'} {r} {r'} {n} {n'} {x} {x'} p q u v =
      ap (λ (a : Expected). at a r 0 n x) p
      ∙ ap (λ (a : ℕ). at w' a 0 n x) q
      ∙ ap (λ (a : ℕ). at w' r' 0 a x) u
      ∙ ap (λ (a : ℕ). at w' r' 0 n' a) v

  -- one record, whatever is expected
  one : (e : Expected) (r b n x : ℕ) → one_done (at e r b n x) ≡ behind 1 (at e r b n x)
  unfolding one_done counted record_done count_entry count_external behind entries_in externals_in
  one AnyHeader r b n x = same refl refl (omega arith) (omega arith)
  one OpeningTitle r b n x = same refl refl (omega arith) (omega arith)
  one ClosingTitle r b n x = same refl refl (omega arith) (omega arith)
  one CodeRecord r b n x = same refl refl (omega arith) (omega arith)
  one EntryRecord r b n x = same refl refl refl (omega arith)
  one ExternalRecord r b n x = same refl refl (omega arith) refl
  one DataRecord r b n x = same refl refl (omega arith) (omega arith)
  one InitRecord r b n x = same refl refl (omega arith) (omega arith)
  one ParameterRecord r b n x = same refl refl (omega arith) (omega arith)
  one SubRecord r b n x = same refl refl (omega arith) (omega arith)

entries_one : (e : Expected) (k : ℕ) → entries_in e k + entries_in e 1 ≡ entries_in e (k + 1)
unfolding entries_in
entries_one AnyHeader k = refl
entries_one OpeningTitle k = refl
entries_one ClosingTitle k = refl
entries_one CodeRecord k = refl
entries_one EntryRecord k = refl
entries_one ExternalRecord k = refl
entries_one DataRecord k = refl
entries_one InitRecord k = refl
entries_one ParameterRecord k = refl
entries_one SubRecord k = refl

externals_one : (e : Expected) (k : ℕ) → externals_in e k + externals_in e 1 ≡ externals_in e (k + 1)
unfolding externals_in
externals_one AnyHeader k = refl
externals_one OpeningTitle k = refl
externals_one ClosingTitle k = refl
externals_one CodeRecord k = refl
externals_one EntryRecord k = refl
externals_one ExternalRecord k = refl
externals_one DataRecord k = refl
externals_one InitRecord k = refl
externals_one ParameterRecord k = refl
externals_one SubRecord k = refl

module _ (m : Mode) where
  one_is : one_done m ≡ behind 1 m
  one_is = one m.block.offset m.block.count m.object.inside m.object.title m.object.line m.section m.expected m.block.remaining m.block.subs m.object.entries m.object.externals

  -- while records are left, the same is expected
  still : (k : ℕ) → k < m.block.remaining → (behind k m).expected ≡ m.expected
  unfolding behind
  still k h = rw (lt-leb m.block.remaining k h)

  one_more : (k : ℕ) → k < m.block.remaining → behind 1 (behind k m) ≡ behind (k + 1) m
  unfolding behind
  one_more k h =
      let e : cond (leb m.block.remaining k) AnyHeader m.expected ≡ m.expected = rw (lt-leb m.block.remaining k h) in
      let left : leb (m.block.remaining - k) 1 ≡ leb m.block.remaining (k + 1) = same_test in
      same m.block.offset m.block.count m.object.inside m.object.title m.object.line m.section
      (rw (e, left))
      (omega arith)
      (ap (λ (w : Expected). m.object.entries + entries_in m.expected k + entries_in w 1) e ∙ omega (arith, entries_one m.expected k))
      (ap (λ (w : Expected). m.object.externals + externals_in m.expected k + externals_in w 1) e ∙ omega (arith, externals_one m.expected k))
    where
      same_test : leb (m.block.remaining - k) 1 ≡ leb m.block.remaining (k + 1)
      same_test = go (leb m.block.remaining (k + 1)) refl
        where
          go : (b : Bool) → leb m.block.remaining (k + 1) ≡ b → leb (m.block.remaining - k) 1 ≡ b
          go true q = le-leb (m.block.remaining - k) 1 (omega (arith, leb-true m.block.remaining (k + 1) q))
          go false q = lt-leb (m.block.remaining - k) 1 (omega (arith, leb-false m.block.remaining (k + 1) q))

  pub after_is : (k : ℕ) → suc k ≤ m.block.remaining → after_records (suc k) m ≡ behind (suc k) m
  unfolding after_records
  after_is zero h = one_is
  after_is (suc k) h =
      let before = after_is k (omega arith) in
      ap one_done before ∙ one_is_of (behind (suc k) m) ∙ one_more (suc k) (omega arith) ∙ ap (λ (j : ℕ). behind j m) (omega arith)
    where
      one_is_of : (n : Mode) → one_done n ≡ behind 1 n
      one_is_of n = one n.block.offset n.block.count n.object.inside n.object.title n.object.line n.section n.expected n.block.remaining n.block.subs n.object.entries n.object.externals

-- the same, as the code makes it
module _ (m : Mode) where
  pub done :
      (k : ℕ) → 1 ≤ k → k ≤ room_for m
      → mode (cond (leb m.block.remaining k) AnyHeader m.expected) (open_block m.block.offset m.block.count (m.block.remaining - k) 0)
      (open_module m.object.inside m.object.title m.object.line (m.object.entries + entries_in m.expected k) (m.object.externals + externals_in m.expected k))
      m.section
      ≡ after_records k m
  unfolding behind
  done k p h =
      let some_k : k ≡ suc (k - 1) = omega arith in
      ap (λ (j : ℕ). behind j m) some_k ∙ sym (after_is m (k - 1) (omega (arith, room_most m))) ∙ ap (λ (j : ℕ). after_records j m) (sym some_k)

-- the first of them in front
pub after_front : (k : ℕ) (m : Mode) → after_records k (one_done m) ≡ after_records (suc k) m
unfolding after_records
after_front zero m = refl
after_front (suc k) m = ap one_done (after_front k m)

-- ---- what a record's step is

-- it adds a part, or nothing
pub data Does (m : Mode) (s : Step) : Type 0 where
  adds : (p : Part) → s ≡ Add (one_done m) p → Does m s
  goes : s ≡ Next (one_done m) → Does m s

module _ (n : ℕ) (m : Mode) where
  -- the record is of the kind k, which is the one expected
  module _ (k : Expected) (is : some k ≡ some m.expected) where
    expected : m.expected ≡ k
    expected = cc

    done_by : one_done m ≡ record_done k (counted k m)
    unfolding one_done
    done_by = ap (λ (w : Expected). record_done w (counted w m)) expected

  step_is : (a : LineAnswer) → record_of a ≡ some m.expected → 1 ≤ room_for m → Does m (step_of n m a)
  unfolding record_of step_of entry_step external_step counted room_by
  step_is (Bad f) e h = never_none e
  step_is Blank e h = never_none e
  step_is (Head x) e h = never_none e
  step_is (Opening t) e h = never_none e
  step_is (Closing t) e h = never_none e
  step_is (Code w) e h = adds (word_part m w) (ap (λ (k : Mode). Add k (word_part m w)) (sym (done_by CodeRecord e)))
  step_is (Entered x) e h =
      let some_room : 1 ≤ room_by EntryRecord m = subst (λ (w : Expected). 1 ≤ room_by w m) (expected EntryRecord e) h in
      adds (EntryPart x) (rw (lt-ltb m.object.entries 64 (omega arith)) (ap (λ (k : Mode). Add k (EntryPart x)) (sym (done_by EntryRecord e))))
  step_is (Mentioned x) e h =
      let some_room : 1 ≤ room_by ExternalRecord m = subst (λ (w : Expected). 1 ≤ room_by w m) (expected ExternalRecord e) h in
      adds (ExternalPart x) (rw (lt-ltb m.object.externals 64 (omega arith)) (ap (λ (k : Mode). Add k (ExternalPart x)) (sym (done_by ExternalRecord e))))
  step_is Ignored e h =
      goes (ap (λ (w : Expected). Next (record_done w m)) (expected DataRecord e) ∙ ap Next (sym (done_by DataRecord e)))
  step_is (Parameter x) e h = never_none e
  step_is Sub e h = never_none e

  pub record_step : (l : List ℕ) → IsRecord m.expected l → 1 ≤ room_for m → Does m (step_at n m l)
  record_step l e h = step_is (line_answer m.expected l) e h

-- ---- room behind a record

pub record RoomBehind (m : Mode) : Type 0 where
  pub expects : (one_done m).expected ≡ m.expected
  pub room : room_for (one_done m) ≡ room_for m - 1

room_left : (m : Mode) (w : Expected) → m.expected ≡ w → 2 ≤ room_by w m → room_by w (behind 1 m) ≡ room_by w m - 1
unfolding room_by behind entries_in externals_in
room_left m AnyHeader e g = refl
room_left m OpeningTitle e g = refl
room_left m ClosingTitle e g = refl
room_left m CodeRecord e g = refl
room_left m EntryRecord e g = rw e (omega arith)
room_left m ExternalRecord e g = rw e (omega arith)
room_left m DataRecord e g = refl
room_left m InitRecord e g = refl
room_left m ParameterRecord e g = refl
room_left m SubRecord e g = refl

pub room_behind : (m : Mode) → 2 ≤ room_for m → RoomBehind m
room_behind m h =
    let more = room_most m in
    let e = ap (λ (k : Mode). k.expected) (one_is m) ∙ still m 1 (omega arith) in
    record {
      expects = e;
      room = ap (λ (w : Expected). room_by w (one_done m)) e ∙ ap (room_by m.expected) (one_is m) ∙ room_left m m.expected refl h;
    }
