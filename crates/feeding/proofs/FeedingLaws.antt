-- What the calls on feed memory come to, by what they find there.
use Prim.Native.Nat.{ℕ, ◌+◌, ◌-◌, ◌≤◌, ◌<◌}
use native.Mathlib.Omega.{arith}
use mathlib.Core.Bool.{Bool, true}
use mathlib.Core.List.{List, [], ◌++◌}
use mathlib.Core.Logic.{◌≢◌}
use mathlib.Core.Path.{◌≡◌, refl, sym, ap, ap₂, subst, ◌∙◌}
use lib.ListN.{length, get_or, set, take, replicate, length-append}
use lib.Seq.{take-take, take-length, take-append-add, length-take-le}
use lib.Dec.{leb}
use borrow.Author.Tests.{eq-eqb, ne_eqb, lt-ltb, le-ltb, le-leb, lt-leb}
use Rattle.std.specs.Prelude.{Err}
use Rattle.std.specs.Prelude.{Option, Some, None}
use Rattle.std.specs.Option.{ok_or}
use Rattle.rules.specs.Answers.{reason_number}
use Rattle.rules.specs.declared.answer.Reason.{Reason}
use Rattle.rules.specs.declared.answer.Reason.TheVariants.{Feed as NoFeed}
use Rattle.soundness.specs.Checks.{refused_by}
use Rattle.feeding.specs.Fed.{mark_of, unopened, OpenLoad}
use Rattle.rules.specs.Limits.{longest_file, work_size}
use Rattle.rules.specs.Text.{all, lines_of}
use Rattle.rules.specs.Reading.{unread, if_complete, read_lines, Reading, Complete}
use Rattle.rules.specs.Calls.{LentOf, wrong_length, damaged, holding, as_before, now, Lent, call_answer, load_answer, load, work_after}
use Rattle.rules.specs.Feed.{Feed, shut, fed, too_many, is_byte, sound_feed, whole_lines, fault_so_far, advice, FeedOutcome, feed_outcome, feed_stopped, feed_done, open_feed, feed_answer, piece_stopped, advised, take_piece, feed_piece, drop_feed, close_outcome, close_stopped, close_feed}
use Rattle.rules.specs.declared.answer.LoadAnswer.{LoadAnswer}
use Rattle.rules.proofs.WholeLaws.{whole_none, whole_some}
use Rattle.state.specs.Layout.{zeros, cells_after}
use Rattle.state.specs.Promise.{LoadCalled}
use Rattle.soundness.proofs.RefusalLaws.{reason_refuses, refused_by_lem}
use Rattle.feed.specs.Layout.{feed_size, cells_with, encode_feed, bytes_in, decode_feed, lent_feed, feed_cells_after}
use Rattle.feed.specs.Held.{file_room, unpacked, Sound, FeedRefusal}
use Rattle.feed.specs.Promise.{FeedCalled, Closed}
use Rattle.rules.proofs.FeedLaws.{kept_few, kept_long}
use Rattle.feed.proofs.FeedLaws.{set_mark_lem, set_open, set_many, fed_small, bytes_put, bytes_before, bytes_long, fed_cells, with_long}
use Rattle.feed.proofs.StoreLaws.{unpacked_bytes}
use Rattle.advising.specs.Whole.{LinesEnd, early_fault}

-- ---- an answer, and what is left

module _ {A : Type 0} {o : FeedOutcome A} {cells : List ℕ} {a : A} where
  -- a refusal leaves feed memory as it was
  pub stopped : o ≡ feed_outcome a as_before → FeedCalled o cells a cells
  unfolding feed_cells_after
  stopped e = record { answer = sym (ap (λ (x : FeedOutcome A). x.answer) e); cells = sym (ap (λ (x : FeedOutcome A). feed_cells_after cells x.feed) e) }

  pub left : {f : Feed} → o ≡ feed_outcome a (now f) → {after : List ℕ} → after ≡ encode_feed f → FeedCalled o cells a after
  unfolding feed_cells_after
  left e c =
      record {
        answer = sym (ap (λ (x : FeedOutcome A). x.answer) e);
        cells = c ∙ sym (ap (λ (x : FeedOutcome A). feed_cells_after cells x.feed) e);
      }

-- a call that comes to what another comes to
pub same_call : {A : Type 0} {o x : FeedOutcome A} {cells : List ℕ} {r : A} {after : List ℕ} → x ≡ o → FeedCalled o cells r after → FeedCalled x cells r after
same_call {A} {o} {x} {cells} {r} {after} e f = subst (λ (y : FeedOutcome A). FeedCalled y cells r after) (sym e) f

-- ---- memory that is refused

module _ {cells : List ℕ} (e : Reason) (r : FeedRefusal cells (reason_number e)) where
  pub open_unsound : FeedCalled (open_feed (lent_feed cells)) cells (call_answer (reason_number e)) cells
  unfolding open_feed
  open_unsound = stopped (refused_by_lem open_feed feed_stopped refl refl (lent_feed cells) e r.is)

  pub piece_unsound : (piece : List ℕ) → FeedCalled (feed_piece (lent_feed cells) piece) cells (feed_answer (reason_number e) 0 0 0) cells
  unfolding feed_piece
  piece_unsound piece = stopped (refused_by_lem (λ f. feed_piece f piece) piece_stopped refl refl (lent_feed cells) e r.is)

pub unsound_unopened : (l : LentOf Feed) (e : Reason) → reason_number e ≡ refused_by l → reason_number e ≡ unopened l
unfolding refused_by unopened
unsound_unopened wrong_length e q = q
unsound_unopened damaged e q = q
unsound_unopened (holding f) e q = absurd (reason_refuses e q)

-- where no load is open, a close and a drop are refused alike
module _ {X : Type 0} (F : LentOf Feed → X) (stop : ℕ → X) (short : F wrong_length ≡ stop 1) (broke : F damaged ≡ stop 2) (none : F (holding shut) ≡ stop 23) where
  unopened_stops : (l : LentOf Feed) (e : Reason) → reason_number e ≡ unopened l → F l ≡ stop (reason_number e)
  unfolding unopened
  unopened_stops wrong_length e q = short ∙ ap stop (sym q)
  unopened_stops damaged e q = broke ∙ ap stop (sym q)
  unopened_stops (holding shut) e q = none ∙ ap stop (sym q)
  unopened_stops (holding (fed bs)) e q = absurd (reason_refuses e q)

pub drop_unopened : {cells : List ℕ} (e : Reason) → reason_number e ≡ unopened (lent_feed cells) → FeedCalled (drop_feed (lent_feed cells)) cells (call_answer (reason_number e)) cells
unfolding drop_feed
drop_unopened {cells} e q = stopped (unopened_stops drop_feed feed_stopped refl refl refl (lent_feed cells) e q)

-- ---- work memory

pub work_kept : {work : List ℕ} → length work ≢ work_size → work ≡ work_after work_size work
unfolding work_after
work_kept {work} h = sym (rw (ne_eqb (length work) work_size h))

pub work_cleared : (work : List ℕ) {left : List ℕ} → length work ≡ work_size → left ≡ replicate (length work) 0 → left ≡ work_after work_size work
unfolding work_after
work_cleared work h p = p ∙ ap (λ n. replicate n 0) h ∙ sym (rw (eq-eqb (length work) work_size h))

-- ---- sound memory: no load is open, or one is

-- all cells cleared
pub cleared : (cells : List ℕ) {left : List ℕ} → length cells ≡ feed_size → left ≡ replicate (length cells) 0 → left ≡ encode_feed shut
unfolding encode_feed zeros
cleared cells h p = p ∙ ap (λ n. replicate n 0) h

-- and the mark of too many bytes
pub too_many_lem : {cells : List ℕ} → cells ≡ encode_feed shut → set cells 0 65538 ≡ encode_feed (fed too_many)
unfolding encode_feed
too_many_lem e = ap (λ (l : List ℕ). set l 0 65538) e ∙ set_many

module _ (cells : List ℕ) (s : Sound cells) where
  abbrev mark : ℕ
  mark = get_or cells 0 0

  module _ (none : mark ≡ 0) where
    decoded_shut : decode_feed cells ≡ shut
    unfolding decode_feed
    decoded_shut = rw (eq-eqb mark 0 none)

    holds_shut : lent_feed cells ≡ holding shut
    holds_shut = s.holds ∙ ap holding decoded_shut

    pub open_done : open_feed (lent_feed cells) ≡ feed_done (fed [])
    unfolding open_feed
    open_done = ap open_feed holds_shut

    pub opened : set cells 0 1 ≡ encode_feed (fed [])
    unfolding encode_feed
    opened = ap (λ (l : List ℕ). set l 0 1) (s.encoded ∙ ap encode_feed decoded_shut) ∙ set_open

    pub piece_none : (piece : List ℕ) → length piece ≤ 512 → feed_piece (lent_feed cells) piece ≡ piece_stopped 23
    unfolding feed_piece take_piece
    piece_none piece h = ap (λ (f : LentOf Feed). feed_piece f piece) holds_shut ∙ rw (le-ltb 512 (length piece) h)

  pub piece_long : (piece : List ℕ) → 512 < length piece → feed_piece (lent_feed cells) piece ≡ piece_stopped 23
  unfolding feed_piece
  piece_long piece h = ap (λ (f : LentOf Feed). feed_piece f piece) s.holds ∙ rw (lt-ltb 512 (length piece) h)

  -- n bytes have been fed
  module _ (n : ℕ) (some : mark ≡ n + 1) where
    abbrev bytes : List ℕ
    bytes = bytes_in cells n

    decoded_fed : decode_feed cells ≡ fed bytes
    unfolding decode_feed
    decoded_fed = let same : mark - 1 ≡ n = omega arith in rw (ne_eqb mark 0 (omega arith), same)

    holds_fed : lent_feed cells ≡ holding (fed bytes)
    holds_fed = s.holds ∙ ap holding decoded_fed

    fed_sound : sound_feed (fed bytes) ≡ true
    fed_sound = ap sound_feed (sym decoded_fed) ∙ s.sound

    encoded_fed : cells ≡ encode_feed (fed bytes)
    encoded_fed = s.encoded ∙ ap encode_feed decoded_fed

    pub open_second : open_feed (lent_feed cells) ≡ feed_stopped 23
    unfolding open_feed
    open_second = ap open_feed holds_fed

    pub drop_done : drop_feed (lent_feed cells) ≡ feed_done shut
    unfolding drop_feed
    drop_done = ap drop_feed holds_fed

    pub piece_taken : (piece : List ℕ) → length piece ≤ 512 → feed_piece (lent_feed cells) piece ≡ take_piece (fed bytes) piece
    unfolding feed_piece
    piece_taken piece h = ap (λ (f : LentOf Feed). feed_piece f piece) holds_fed ∙ rw (le-ltb 512 (length piece) h)

    pub close_done : (m : Lent) (fits : Bool) → close_feed (lent_feed cells) m fits ≡ close_outcome (load m fits bytes) (now shut)
    unfolding close_feed
    close_done m fits = ap (λ (f : LentOf Feed). close_feed f m fits) holds_fed

    pub total_most : n ≤ file_room
    total_most = omega (arith, s.most)

    -- ---- a piece

    pub room_cells : cells ≡ cells_with mark bytes
    room_cells = fed_cells cells bytes encoded_fed fed_sound n (sym (bytes_long cells n))

    module _ (piece : List ℕ) where
      total_is : length (bytes ++ piece) ≡ n + length piece
      total_is = length-append bytes piece ∙ ap (λ (k : ℕ). k + length piece) (bytes_long cells n)

      -- too many bytes: they are not kept, and nothing is advised
      pub many_taken : 65536 < n + length piece → take_piece (fed bytes) piece ≡ feed_outcome (feed_answer 0 0 0 0) (now (fed too_many))
      unfolding take_piece advice advised
      many_taken h =
          let long : 65536 < length (bytes ++ piece) = omega (arith, total_is) in
          rw (lt-leb (length (bytes ++ piece)) 65536 long, kept_long (bytes ++ piece) long)

      pub few_taken : n + length piece ≤ 65536 → take_piece (fed bytes) piece ≡ feed_outcome (advised (advice bytes piece)) (now (fed (bytes ++ piece)))
      unfolding take_piece
      few_taken h = ap (λ (l : List ℕ). feed_outcome (advised (advice bytes piece)) (now (fed l))) (kept_few (bytes ++ piece) (omega (arith, total_is)))

      -- the bytes in the cells, and the total in the first
      module _ (h : n + length piece ≤ 65536) (small : all is_byte piece ≡ true) {put : List ℕ} (e : put ≡ cells_with mark (bytes ++ piece)) {total : ℕ} (t : total ≡ n + length piece) where
        marked_is : set put 0 (total + 1) ≡ cells_with (total + 1) (bytes ++ piece)
        marked_is = ap (λ (l : List ℕ). set l 0 (total + 1)) e ∙ set_mark_lem mark (total + 1) (bytes ++ piece)

        pub marked : set put 0 (total + 1) ≡ encode_feed (fed (bytes ++ piece))
        unfolding encode_feed
        marked = marked_is ∙ ap (λ (k : ℕ). cells_with k (bytes ++ piece)) (omega (arith, total_is))

        room : length bytes + length piece ≤ 65536
        room = omega (arith, bytes_long cells n)

        pub bytes_same : bytes_in (set put 0 (total + 1)) n ≡ bytes
        bytes_same =
            ap₂ (λ (l : List ℕ) (k : ℕ). bytes_in l k) marked_is (sym (bytes_long cells n))
            ∙ bytes_before (total + 1) bytes piece room (fed_small bytes fed_sound) small

        pub bytes_more : bytes_in (set put 0 (total + 1)) (n + length piece) ≡ bytes_in (set put 0 (total + 1)) n ++ piece
        bytes_more =
            ap₂ (λ (l : List ℕ) (k : ℕ). bytes_in l k) marked_is (ap (λ (k : ℕ). k + length piece) (sym (bytes_long cells n)))
            ∙ bytes_put (total + 1) bytes piece room (fed_small bytes fed_sound) small
            ∙ ap (λ (l : List ℕ). l ++ piece) (sym bytes_same)

        pub marked_long : length (set put 0 (total + 1)) ≡ feed_size
        marked_long = with_long (total + 1) (bytes ++ piece) _ marked_is

-- the bytes of an open load, if one is open
pub opens : {cells : List ℕ} → FeedRefusal cells 0 → (r : Option ℕ) → get_or cells 0 0 ≡ mark_of r → OpenLoad cells (ok_or r NoFeed)
unfolding unopened
opens {cells} k None q = sym (ap unopened (holds_shut cells (k.good refl) q))
opens k (Some n) q = (k.good refl, q)

-- ---- advice

same_either : (f : Reading) → if_complete f f Complete ≡ Complete
unfolding if_complete
same_either Complete = refl
same_either (Err s) = refl

module _ (cells : List ℕ) (old : ℕ) (piece : List ℕ) (h : old + length piece ≤ 65536)
    (put : bytes_in cells (old + length piece) ≡ bytes_in cells old ++ piece) where
  abbrev before : List ℕ
  before = bytes_in cells old

  within : leb (length (before ++ piece)) longest_file ≡ true
  within = le-leb (length (before ++ piece)) 65536 (omega (arith, length-append before piece, bytes_long cells old))

  advice_is : advice before piece ≡ if_complete (fault_so_far before) (fault_so_far (before ++ piece)) Complete
  unfolding advice
  advice_is = rw within

  -- a piece without an LF
  pub no_advice : {e : ℕ} → LinesEnd piece (length piece) e → e ≡ 0 → Complete ≡ advice before piece
  unfolding fault_so_far
  no_advice l z =
      let none : whole_lines piece ≡ [] = ap whole_lines (sym (take-length piece)) ∙ sym l.whole ∙ ap (λ (n : ℕ). take n piece) z in
      sym
      (advice_is
      ∙ ap (λ (f : Reading). if_complete (fault_so_far before) f Complete) (ap (λ (w : List ℕ). (read_lines unread (lines_of w)).fault) (whole_none piece none before))
      ∙ same_either (fault_so_far before))

  -- with one: the whole lines are those up to it
  module _ {e : ℕ} (l : LinesEnd piece (length piece) e) (some : e ≢ 0) (n : ℕ) (room : old + e ≤ n) (most : n ≤ 65536) where
    whole_piece : take e piece ≡ whole_lines piece
    whole_piece = l.whole ∙ ap whole_lines (take-length piece)

    old_front : take old (unpacked cells n) ≡ before
    old_front = unpacked_bytes cells n old (omega arith) most

    new_front : take (old + e) (unpacked cells n) ≡ whole_lines (before ++ piece)
    new_front =
        let all_of : 1 ≤ length (whole_lines piece) = omega (arith, ap length whole_piece, some_long) in
        unpacked_bytes cells n (old + e) room most
        ∙ sym (unpacked_bytes cells 65536 (old + e) (omega arith) (omega arith))
        ∙ sym (take-take (old + e) (old + length piece) (unpacked cells 65536) (omega (arith, l.most)))
        ∙ ap (take (old + e)) (unpacked_bytes cells 65536 (old + length piece) h (omega arith) ∙ put)
        ∙ ap (λ (k : ℕ). take (k + e) (before ++ piece)) (sym (bytes_long cells old))
        ∙ take-append-add before piece e
        ∙ ap (λ (w : List ℕ). before ++ w) whole_piece
        ∙ sym (whole_some piece all_of before)
      where
        some_long : length (take e piece) ≡ e
        some_long = length-take-le e piece l.most

    pub new_advice : {r : Reading} → r ≡ early_fault (take old (unpacked cells n)) (take (old + e) (unpacked cells n)) → r ≡ advice before piece
    unfolding early_fault fault_so_far
    new_advice {r} q = q ∙ ap₂ early_fault old_front new_front ∙ sym advice_is

-- ---- the close

module _ {feed state work : List ℕ} (m : Lent) (fits : Bool) where
  pub close_unopened : (e : Reason) → reason_number e ≡ unopened (lent_feed feed) → {r : LoadAnswer} {used : List ℕ} → r ≡ load_answer (reason_number e) 0 0 0 → used ≡ work_after work_size work →
      Closed (close_feed (lent_feed feed) m fits) feed state work r feed state used
  unfolding close_feed feed_cells_after cells_after
  close_unopened e u {r} {used} q w =
      subst (λ o. Closed o feed state work r feed state used) (sym (unopened_stops (λ f. close_feed f m fits) close_stopped refl refl refl (lent_feed feed) e u))
      (record { load = record { call = record { answer = q; cells = refl }; work_left = w }; feed_left = refl })

  pub close_loaded :
      {bs file : List ℕ} → close_feed (lent_feed feed) m fits ≡ close_outcome (load m fits bs) (now shut) → file ≡ bs
      → {r : LoadAnswer} {changed used after : List ℕ} → LoadCalled (load m fits file) state work r changed used → after ≡ encode_feed shut
      → Closed (close_feed (lent_feed feed) m fits) feed state work r after changed used
  unfolding feed_cells_after
  close_loaded {bs} {file} e f {r} {changed} {used} {after} l c =
      subst (λ o. Closed o feed state work r after changed used) (sym e)
      (record { load = subst (λ (x : List ℕ). LoadCalled (load m fits x) state work r changed used) f l; feed_left = c })
