-- Document 02, 5/14, of the definitions: pieces in a row come to what all their bytes joined come to, and the first fault of the whole
-- lines is told once, by the piece that brings its line's LF.
use Prim.Native.Nat.{ℕ, ◌+◌, ◌≤◌, ◌<◌}
use native.Mathlib.Omega.{arith}
use mathlib.Core.Bool.{Bool, true, false, cond, ◌&&◌, or-true}
use mathlib.Core.List.{List, [], ◌∷◌, ◌++◌, append_assoc, append-nil}
use mathlib.Core.Path.{◌≡◌, refl, sym, ap, subst, ◌∙◌}
use lib.ListN.{length, length-append, length-replicate}
use lib.Dec.{eqb, leb, ltb}
use borrow.Author.Tests.{eqb-true, leb-true, leb-false, le-leb, lt-leb, le-ltb, lt-ltb}
use Rattle.std.specs.Prelude.{Err}
use Rattle.rules.specs.Limits.{longest_file, longest_piece}
use Rattle.rules.specs.Text.{LF, CR, all, lines_of, widen_line, is_name_character}
use Rattle.rules.specs.Reading.{ReadSoFar, unread, if_complete, read_line, read_line_over, read_lines, read_lines_over, stepped, step_at, module_done, module_at, reading_of, reading_over, Module, Reading, Complete, Stopped}
use Rattle.rules.specs.State.{State, unmarked, broken, marked}
use Rattle.rules.specs.Load.{load_read_over, load_file_over}
use Rattle.rules.specs.Calls.{LentOf, wrong_length, damaged, holding, as_before, now, Lent, outcome, load_answer, load, load_over, load_lent_over, load_state_over}
use Rattle.rules.specs.Feed.{Feed, shut, fed, too_many, kept, before_lf, whole_lines, fault_so_far, advice, FeedOutcome, take_piece, feed_piece, close_outcome, close_feed, open_feed, drop_feed, advised, can_answer_feed, can_answer_close, joined, advices, Silent, ToldOnce, nothing, once, count_lf}
use Rattle.rules.specs.declared.answer.FeedAnswer.{FeedAnswer}
use Rattle.rules.specs.declared.reading.Mode.{Mode}
use Rattle.rules.specs.declared.reading.Step.{Step}
use Rattle.rules.specs.declared.reading.Step.TheVariants.{Stop, Next, Add, CloseModule, CloseSection}
use Rattle.rules.proofs.FirstFault.{lines_append, lines_after, never_stopped, lines_counted, line_counted}
use Rattle.rules.proofs.LineEndLaws.{starts_lf, add_to_lines, lines_nil, lines_cons, line_LF, some_line}
use Rattle.rules.proofs.TestLaws.{Every}
use Rattle.rules.proofs.WholeLaws.{Ends, none, behind, whole_none, whole_some, whole_ends, whole_behind}
use Rattle.rules.specs.Answers.{TOO_LONG, is_file_fault}
use Rattle.rules.proofs.OrderLaws.{load_reads, load_answers}
use Rattle.rules.proofs.BoolLaws.{cond_cases, or_cases}

-- ---- what is kept

pub many_long : length too_many ≡ 65537
unfolding too_many
many_long = length-replicate {A = ℕ} 65537 0

pub kept_few : (bs : List ℕ) → length bs ≤ longest_file → kept bs ≡ bs
unfolding kept
kept_few bs h = rw (le-leb (length bs) longest_file h)

pub kept_long : (bs : List ℕ) → longest_file < length bs → kept bs ≡ too_many
unfolding kept
kept_long bs h = rw (lt-leb (length bs) longest_file h)

-- at most as many bytes as a file may have, or more
pub by_length : {A : Type 0} (bs : List ℕ) → (length bs ≤ longest_file → A) → (longest_file < length bs → A) → A
by_length {A} bs few many = go (leb (length bs) longest_file) refl
  where
    go : (t : Bool) → leb (length bs) longest_file ≡ t → A
    go true e = few (leb-true _ _ e)
    go false e = many (leb-false _ _ e)

-- a piece behind what is kept
pub kept_more : (bs p : List ℕ) → kept (kept bs ++ p) ≡ kept (bs ++ p)
kept_more bs p =
    by_length bs
    (λ h. ap (λ (l : List ℕ). kept (l ++ p)) (kept_few bs h))
    (λ h.
    ap (λ (l : List ℕ). kept (l ++ p)) (kept_long bs h)
    ∙ kept_long (too_many ++ p) (omega (arith, length-append too_many p, many_long))
    ∙ sym (kept_long (bs ++ p) (omega (arith, length-append bs p))))

-- LOAD answers all files that are too long alike
long_alike : (m : Lent) (fits : Bool) (f g : List ℕ) → longest_file < length f → longest_file < length g → load m fits f ≡ load m fits g
unfolding load_over load_lent_over load_state_over
long_alike m false f g a b = refl
long_alike wrong_length true f g a b = refl
long_alike damaged true f g a b = refl
long_alike (holding s) true f g a b = rw (lt-ltb longest_file (length f) a, lt-ltb longest_file (length g) b)

pub load_kept : (m : Lent) (fits : Bool) (bs : List ℕ) → load m fits (kept bs) ≡ load m fits bs
load_kept m fits bs =
    by_length bs
    (λ h. ap (load m fits) (kept_few bs h))
    (λ h. ap (load m fits) (kept_long bs h) ∙ long_alike m fits too_many bs (omega (arith, many_long)) h)

-- ---- a piece that is fed

abbrev pub fed_so_far : List ℕ → LentOf Feed
fed_so_far bs = holding (fed (kept bs))

-- what the next piece does to the feed
pub piece_left : (bs p : List ℕ) → length p ≤ longest_piece → (feed_piece (fed_so_far bs) p).feed ≡ now (fed (kept (bs ++ p)))
unfolding feed_piece take_piece
piece_left bs p h = rw (le-ltb longest_piece (length p) h) (ap (λ (l : List ℕ). now (fed l)) (kept_more bs p))

pub long_left : (f : Feed) (p : List ℕ) → longest_piece < length p → (feed_piece (holding f) p).feed ≡ as_before
unfolding feed_piece
long_left f p h = rw (lt-ltb longest_piece (length p) h)

-- "The close gives the answer, state and rounds of one load of all fed bytes joined"
pub close_is_load : (bs : List ℕ) (m : Lent) (fits : Bool) → close_feed (fed_so_far bs) m fits ≡ close_outcome (load m fits bs) (now shut)
unfolding close_feed
close_is_load bs m fits = ap (λ o. close_outcome o (now shut)) (load_kept m fits bs)

-- ---- the fault so far

-- lines behind whole lines
behind_lines : (bs rest : List ℕ) → read_lines unread (lines_of (whole_lines bs ++ rest)) ≡ read_lines (read_lines unread (lines_of (whole_lines bs))) (lines_of rest)
behind_lines bs rest = ap (read_lines unread) (whole_behind bs rest) ∙ lines_append (lines_of (whole_lines bs)) (lines_of rest) unread

-- a text is its whole lines, and what stands behind them
pub record Parted (bs : List ℕ) : Type 0 where
  pub rest : List ℕ
  pub is : bs ≡ whole_lines bs ++ rest

parted : (bs : List ℕ) → Parted bs
unfolding whole_lines before_lf
parted [] = record { rest = []; is = refl }
parted (b ∷ bs) = go (parted bs) (eqb b LF) refl (whole_lines bs) refl
  where
    go : Parted bs → (t : Bool) → eqb b LF ≡ t → (w : List ℕ) → whole_lines bs ≡ w → Parted (b ∷ bs)
    go p true e w q = record { rest = p.rest; is = rw e (ap (λ (l : List ℕ). b ∷ l) p.is) }
    go p false e [] q = record { rest = b ∷ bs; is = rw (e, q) }
    go p false e (c ∷ w) q = record { rest = p.rest; is = rw (e, q) (ap (λ (l : List ℕ). b ∷ l) (p.is ∙ ap (λ (l : List ℕ). l ++ p.rest) q)) }

-- what a piece adds to the whole lines
pub record Goes (bs p : List ℕ) : Type 0 where
  pub rest : List ℕ
  pub is : whole_lines (bs ++ p) ≡ whole_lines bs ++ rest

goes : (bs p : List ℕ) → Goes bs p
goes bs p = go (whole_lines p) refl
  where
    go : (w : List ℕ) → whole_lines p ≡ w → Goes bs p
    go [] e = record { rest = []; is = whole_none p e bs ∙ sym (append-nil (whole_lines bs)) }
    go (c ∷ w) e =
        let q = parted bs in
        record {
          rest = q.rest ++ whole_lines p;
          is =
              whole_some p (omega (arith, ap length e)) bs
              ∙ ap (λ (l : List ℕ). l ++ whole_lines p) q.is
              ∙ append_assoc (whole_lines bs) q.rest (whole_lines p);
        }

-- a fault that is there stays, whatever comes
pub fault_stays : (bs p : List ℕ) (k n c : ℕ) → fault_so_far bs ≡ Stopped k n c → fault_so_far (bs ++ p) ≡ Stopped k n c
unfolding fault_so_far
fault_stays bs p k n c e =
    let g = goes bs p in
    ap (λ (l : List ℕ). (read_lines unread (lines_of l)).fault) g.is
    ∙ ap (λ (r : ReadSoFar). r.fault) (behind_lines bs g.rest ∙ lines_after is_name_character (lines_of g.rest) (read_lines unread (lines_of (whole_lines bs))) k n c e)
    ∙ e

-- ---- "it is the fault, line and column that the close gives when no check ahead of reading refuses"

module _ (bs more : List ℕ) (k n c : ℕ) (e : fault_so_far bs ≡ Stopped k n c) where
  reads_so : reading_of (bs ++ more) ≡ Stopped k n c
  unfolding reading_over fault_so_far if_complete
  reads_so =
      let q = parted bs in
      let whole : bs ++ more ≡ whole_lines bs ++ (q.rest ++ more) =
      ap (λ (l : List ℕ). l ++ more) q.is ∙ append_assoc (whole_lines bs) q.rest more in
      let reached = read_lines unread (lines_of (whole_lines bs)) in
      rw (whole, behind_lines bs (q.rest ++ more), lines_after is_name_character (lines_of (q.rest ++ more)) reached k n c e, e)

  pub close_tells : (s : State) → s.mark ≡ unmarked → length (bs ++ more) ≤ longest_file →
      load (holding s) true (bs ++ more) ≡ outcome (load_answer k n c 0) (now (marked broken s))
  unfolding load_file_over load_read_over
  close_tells s m h = load_reads s (bs ++ more) m h ∙ rw reads_so

-- ---- told once

-- pieces that are not refused for their length
abbrev pub Within : List (List ℕ) → Type 0
Within ps = Every (λ p. length p ≤ longest_piece) ps

module _ (bs p : List ℕ) where
  -- behind a fault nothing is told
  known : (k n c : ℕ) → fault_so_far bs ≡ Stopped k n c → advice bs p ≡ Complete
  unfolding advice if_complete
  known k n c e = rw e (go (leb (length (bs ++ p)) longest_file))
    where
      go : (t : Bool) → cond t Complete Complete ≡ Complete
      go true = refl
      go false = refl

  -- in front of one the piece tells what there is
  pub told_is : fault_so_far bs ≡ Complete → length (bs ++ p) ≤ longest_file → advice bs p ≡ fault_so_far (bs ++ p)
  unfolding advice if_complete
  told_is e h = rw (e, le-leb (length (bs ++ p)) longest_file h)

silent_behind : (ps : List (List ℕ)) (bs : List ℕ) (k n c : ℕ) → fault_so_far bs ≡ Stopped k n c → Silent (advices bs ps)
unfolding advices all if_complete
silent_behind [] bs k n c e = refl
silent_behind (p ∷ ps) bs k n c e = rw (known bs p k n c e) (silent_behind ps (bs ++ p) k n c (fault_stays bs p k n c e))

one_silent : {l : List Reading} {a r : Reading} → a ≡ Complete → ToldOnce l r → ToldOnce (a ∷ l) r
unfolding all if_complete
one_silent e (nothing h) = nothing (rw e h)
one_silent {a = a} e (once k n c before after q h g) = once k n c (a ∷ before) after (ap (λ (l : List Reading). a ∷ l) q) (rw e h) g

-- no bytes, no fault
pub no_fault : fault_so_far [] ≡ Complete
unfolding fault_so_far whole_lines read_lines_over unread
no_fault = ap (λ (ls : List (List ℕ)). (read_lines unread ls).fault) lines_nil

-- "told early, as advice, by the piece that brings its line's LF and no other, as long as the total is at most 65,536"
pub told_once :
    (ps : List (List ℕ)) → Within ps → (bs : List ℕ) → fault_so_far bs ≡ Complete → length (bs ++ joined ps) ≤ longest_file
    → ToldOnce (advices bs ps) (fault_so_far (bs ++ joined ps))
unfolding advices joined all
told_once [] w bs e h = subst (ToldOnce []) (sym (ap fault_so_far (append-nil bs) ∙ e)) (nothing refl)
told_once (p ∷ ps) w bs e h = subst (ToldOnce (advice bs p ∷ advices (bs ++ p) ps)) (ap fault_so_far whole) (go (told_once ps w.1 (bs ++ p)) (fault_so_far (bs ++ p)) refl)
  where
    whole : (bs ++ p) ++ joined ps ≡ bs ++ joined (p ∷ ps)
    whole = append_assoc bs p (joined ps) ∙ sym (ap (λ (t : Bool). bs ++ cond t (joined ps) (p ++ joined ps)) (le-ltb longest_piece (length p) w.0))

    short : length (bs ++ p) ≤ longest_file
    short = omega (arith, h, ap length (sym whole), length-append (bs ++ p) (joined ps))

    go :
        (fault_so_far (bs ++ p) ≡ Complete → length ((bs ++ p) ++ joined ps) ≤ longest_file → ToldOnce (advices (bs ++ p) ps) (fault_so_far ((bs ++ p) ++ joined ps)))
        → (f : Reading) → fault_so_far (bs ++ p) ≡ f → ToldOnce (advice bs p ∷ advices (bs ++ p) ps) (fault_so_far ((bs ++ p) ++ joined ps))
    go on Complete q = one_silent (told_is bs p e short ∙ q) (on q (omega (arith, h, ap length whole)))
    go on (Err s) q =
        subst (ToldOnce (advice bs p ∷ advices (bs ++ p) ps)) (sym (fault_stays (bs ++ p) (joined ps) s.number s.line s.column q))
        (once s.number s.line s.column [] (advices (bs ++ p) ps) (ap (λ (a : Reading). a ∷ advices (bs ++ p) ps) (told_is bs p e short ∙ q)) refl (silent_behind ps (bs ++ p) s.number s.line s.column q))

-- ---- "by the piece that brings its line's LF"

-- they are as many as its whole lines
add_count : (b : ℕ) (lf : Bool) → eqb b LF ≡ false → (ls : List (List ℕ)) → 1 ≤ length ls → length (add_to_lines b lf ls) ≡ length ls
unfolding add_to_lines widen_line
add_count b lf e [] h = absurd (omega arith)
add_count b lf e (l ∷ ls) h = rw e (go (eqb b CR && lf))
  where
    go : (t : Bool) → length (cond t (l ∷ ls) ((b ∷ l) ∷ ls)) ≡ length (l ∷ ls)
    go true = refl
    go false = refl

some_lines : (xs : List ℕ) → Ends xs → 1 ≤ length xs → 1 ≤ length (lines_of xs)
some_lines xs (none e) h = absurd (omega (arith, ap length e))
some_lines xs (behind ys e) h = subst (λ (l : List ℕ). 1 ≤ length (lines_of l)) (sym e) (some_line ys)

pub whole_count : (bs : List ℕ) → length (lines_of (whole_lines bs)) ≡ count_lf bs
unfolding whole_lines before_lf count_lf
whole_count [] = ap length lines_nil
whole_count (b ∷ bs) = go (whole_count bs) (eqb b LF) refl (whole_lines bs) refl
  where
    go : length (lines_of (whole_lines bs)) ≡ count_lf bs → (t : Bool) → eqb b LF ≡ t → (w : List ℕ) → whole_lines bs ≡ w
        → length (lines_of (cond t (b ∷ w) (before_lf b w))) ≡ cond t 1 0 + count_lf bs
    go on true e w q = ap (λ (x : ℕ). length (lines_of (x ∷ w))) (eqb-true b LF e) ∙ ap length (line_LF w) ∙ omega (arith, on, ap (λ (l : List ℕ). length (lines_of l)) q)
    go on false e [] q = omega (arith, on, ap (λ (l : List ℕ). length (lines_of l)) q)
    go on false e (c ∷ w) q =
        let there = some_lines (c ∷ w) (subst Ends q (whole_ends bs)) (omega arith) in
        ap length (lines_cons b (c ∷ w))
        ∙ add_count b (starts_lf (c ∷ w)) e (lines_of (c ∷ w)) there
        ∙ omega (arith, on, ap (λ (l : List ℕ). length (lines_of l)) q)

-- the line of a fault is one of the lines read
member_clean : (r : ReadSoFar) (t : Bool) (m : Mode) (md : Module) {k n c : ℕ} → (module_done r t m md).fault ≡ Stopped k n c → n ≡ r.line
unfolding module_done
member_clean r true m md e = never_stopped _ _ _ (sym e)
member_clean r false m md e = never_stopped _ _ _ (sym e)

-- the line at which a reading stops
unfoldable stop_line : Reading → ℕ
stop_line Complete = 0
stop_line (Err s) = s.line

step_line : (r : ReadSoFar) (a : Step) {k n c : ℕ} → (stepped r a).fault ≡ Stopped k n c → n ≡ r.line
unfolding stepped stop_line
step_line r (Stop j d) e = sym (ap stop_line e)
step_line r (Next m) e = never_stopped _ _ _ (sym e)
step_line r (Add m p) e = never_stopped _ _ _ (sym e)
step_line r (CloseModule m line) e = member_clean r m.section.inside m (module_at line r.parts) e
step_line r (CloseSection m line) e = never_stopped _ _ _ (sym e)

-- a line read where there was no fault
read_clean : (r : ReadSoFar) (l : List ℕ) → r.fault ≡ Complete → (read_line r l).fault ≡ (stepped r (step_at r.line r.mode l)).fault
unfolding read_line_over if_complete
read_clean r l e = ap (λ (f : Reading). (if_complete f (stepped r (step_at r.line r.mode l)) r).fault) e

pub fault_within : (ls : List (List ℕ)) (r : ReadSoFar) → r.fault ≡ Complete → (k n c : ℕ) → (read_lines r ls).fault ≡ Stopped k n c → (r.line ≤ n) × (n < r.line + length ls)
unfolding read_lines_over stop_line
fault_within [] r clean k n c e = never_stopped k n c (sym e ∙ clean)
fault_within (l ∷ ls) r clean k n c e = go (λ q. fault_within ls (read_line r l) q k n c e) (read_line r l).fault refl
  where
    go :
        ((read_line r l).fault ≡ Complete → ((read_line r l).line ≤ n) × (n < (read_line r l).line + length ls))
        → (f : Reading) → (read_line r l).fault ≡ f → (r.line ≤ n) × (n < r.line + length (l ∷ ls))
    go rest Complete q =
        let on = rest q in
        let next = line_counted r l clean q in
        (omega (arith, on.0, next), omega (arith, on.1, next))
    go rest (Err s) q =
        let same : Err s ≡ Stopped k n c = sym q ∙ sym (ap (λ (x : ReadSoFar). x.fault) (lines_after is_name_character ls (read_line r l) s.number s.line s.column q)) ∙ e in
        let line : s.line ≡ n = ap stop_line same in
        let here : s.line ≡ r.line = step_line r (step_at r.line r.mode l) (sym (read_clean r l clean) ∙ q) in
        (omega (arith, line, here), omega (arith, line, here))

fault_is : (bs : List ℕ) → (read_lines unread (lines_of (whole_lines bs))).fault ≡ fault_so_far bs
unfolding fault_so_far
fault_is bs = refl

too_long : (bs p : List ℕ) → leb (length (bs ++ p)) longest_file ≡ false → advice bs p ≡ Complete
unfolding advice
too_long bs p h = rw h

first_line : (bs : List ℕ) → unread.line + length (lines_of (whole_lines bs)) ≡ count_lf bs + 1
unfolding unread
first_line bs = omega (arith, whole_count bs)

all_lines : (bs p : List ℕ) (g : Goes bs p) → count_lf (bs ++ p) ≡ count_lf bs + length (lines_of g.rest)
all_lines bs p g =
    sym (whole_count (bs ++ p))
    ∙ ap length (ap lines_of g.is ∙ whole_behind bs g.rest)
    ∙ length-append (lines_of (whole_lines bs)) (lines_of g.rest)
    ∙ ap (λ (k : ℕ). k + length (lines_of g.rest)) (whole_count bs)

-- of two texts, the first clean: the fault's line has its LF in the second
pub brings_LF : (bs p : List ℕ) (k n c : ℕ) → advice bs p ≡ Stopped k n c → (count_lf bs < n) × (n ≤ count_lf (bs ++ p))
brings_LF bs p k n c e = go (fault_so_far bs) refl (leb (length (bs ++ p)) longest_file) refl
  where
    go : (f : Reading) → fault_so_far bs ≡ f → (t : Bool) → leb (length (bs ++ p)) longest_file ≡ t → (count_lf bs < n) × (n ≤ count_lf (bs ++ p))
    go (Err s) q t h = never_stopped k n c (sym e ∙ known bs p s.number s.line s.column q)
    go Complete q false h = never_stopped k n c (sym e ∙ too_long bs p h)
    go Complete q true h =
        let g = goes bs p in
        let reached = read_lines unread (lines_of (whole_lines bs)) in
        let told : (read_lines reached (lines_of g.rest)).fault ≡ Stopped k n c =
        ap (λ (x : ReadSoFar). x.fault) (sym (behind_lines bs g.rest))
        ∙ ap (λ (l : List ℕ). (read_lines unread (lines_of l)).fault) (sym g.is)
        ∙ fault_is (bs ++ p)
        ∙ sym (told_is bs p q (leb-true _ _ h))
        ∙ e in
        let w = fault_within (lines_of g.rest) reached (fault_is bs ∙ q) k n c told in
        let line : reached.line ≡ count_lf bs + 1 = lines_counted (lines_of (whole_lines bs)) unread (fault_is bs ∙ q) ∙ first_line bs in
        let both : count_lf (bs ++ p) ≡ count_lf bs + length (lines_of g.rest) = all_lines bs p g in
        (omega (arith, w.0, line), omega (arith, w.1, line, both))

-- ---- "each call ends with an answer from the list"

pub open_answers : (m : LentOf Feed) → can_answer_feed (open_feed m).answer.number ≡ true
unfolding open_feed can_answer_feed
open_answers wrong_length = refl
open_answers damaged = refl
open_answers (holding shut) = refl
open_answers (holding (fed bs)) = refl

pub drop_answers : (m : LentOf Feed) → can_answer_feed (drop_feed m).answer.number ≡ true
unfolding drop_feed can_answer_feed
drop_answers wrong_length = refl
drop_answers damaged = refl
drop_answers (holding shut) = refl
drop_answers (holding (fed bs)) = refl

told_answers : (f : Reading) → can_answer_feed (advised f).number ≡ true
unfolding advised can_answer_feed
told_answers Complete = refl
told_answers (Err s) = refl

pub piece_answers : (m : LentOf Feed) (p : List ℕ) → can_answer_feed (feed_piece m p).answer.number ≡ true
unfolding feed_piece take_piece can_answer_feed
piece_answers wrong_length p = refl
piece_answers damaged p = refl
piece_answers (holding shut) p = cond_cases (λ (o : FeedOutcome FeedAnswer). can_answer_feed o.answer.number ≡ true) (ltb longest_piece (length p)) _ _ (λ _. refl) (λ _. refl)
piece_answers (holding (fed bs)) p =
    cond_cases (λ (o : FeedOutcome FeedAnswer). can_answer_feed o.answer.number ≡ true) (ltb longest_piece (length p)) _ _ (λ _. refl) (λ _. told_answers (advice bs p))

pub close_answers : (f : LentOf Feed) (m : Lent) (fits : Bool) → can_answer_close (close_feed f m fits).load.answer.number ≡ true
unfolding close_feed can_answer_close
close_answers wrong_length m fits = refl
close_answers damaged m fits = refl
close_answers (holding shut) m fits = refl
close_answers (holding (fed bs)) m fits =
    let k = (load m fits bs).answer.number in
    or_cases (leb k TOO_LONG) (is_file_fault k) (load_answers m fits bs)
    (λ e. rw e)
    (λ e. rw e (or-true (leb k TOO_LONG)))
