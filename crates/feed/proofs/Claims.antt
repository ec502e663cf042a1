-- Document 02, 5/14, on the calls' own outcomes: whatever the pieces, a close gives what one LOAD of their bytes joined gives; the first
-- fault of the whole lines is told once; and feed memory is sound exactly if it is zero or was left by an opening and pieces.
use Prim.Native.Nat.{ℕ, ◌≤◌, ◌<◌}
use native.Mathlib.Omega.{arith}
use mathlib.Core.Bool.{Bool, true, false, cond}
use mathlib.Core.List.{List, [], ◌∷◌, ◌++◌, map, append_assoc, append-nil}
use mathlib.Core.Logic.{◌⊎◌, inl, inr}
use mathlib.Core.Path.{◌≡◌, refl, sym, ap, ap₂, subst, ◌∙◌}
use lib.ListN.{length, length-append}
use lib.Dec.{ltb}
use borrow.Author.Tests.{ltb-true, ltb-false, lt-ltb, le-ltb}
use Rattle.std.specs.Prelude.{Err}
use Rattle.rules.specs.Limits.{longest_file, longest_piece}
use Rattle.rules.specs.Text.{all}
use Rattle.rules.specs.Answers.{DONE, FEED}
use Rattle.rules.specs.Calls.{LentOf, wrong_length, damaged, holding, now, call_answer, load}
use Rattle.rules.specs.Feed.{Feed, shut, fed, kept, is_byte, sound_feed, fault_so_far, advice, advised, FeedOutcome, open_feed, piece_stopped, take_piece, feed_piece, close_outcome, CloseOutcome, close_feed, joined, advices, ToldOnce}
use Rattle.rules.specs.History.{of_load, loading, work_fits}
use Rattle.rules.specs.declared.answer.CallAnswer.{CallAnswer}
use Rattle.rules.specs.declared.answer.FeedAnswer.{FeedAnswer}
use Rattle.rules.specs.declared.answer.LoadAnswer.{LoadAnswer}
use Rattle.rules.proofs.TestLaws.{and_intro, and_left, and_right}
use Rattle.rules.proofs.FeedLaws.{kept_few, fed_so_far, piece_left, long_left, close_is_load, Within, no_fault, told_once}
use Rattle.state.specs.Layout.{zeros, lent}
use Rattle.state.specs.Promise.{LoadCalled}
use Rattle.state.specs.Sequence.{Replied}
use Rattle.state.proofs.SequenceLaws.{load_replied}
use Rattle.feed.specs.Layout.{feed_size, encode_feed, lent_feed, feed_cells_after}
use Rattle.feed.specs.Promise.{FeedCalled, Closed}
use Rattle.feed.specs.Sequence.{Fed, stop, step, Bytes, Taken, LeftByPieces}
use Rattle.feed.proofs.FeedLaws.{lent_encode_feed, held_feed, sound_shut, sound_kept, small_append, fed_kept, fed_small}
use Rattle.rules.specs.Reading.{Reading, Complete}

-- ---- an opening that is answered DONE

opened_shut : (m : LentOf Feed) → (open_feed m).answer.number ≡ DONE → (open_feed m).feed ≡ now (fed [])
unfolding open_feed
opened_shut wrong_length e = absurd (omega arith)
opened_shut damaged e = absurd (omega arith)
opened_shut (holding shut) e = refl
opened_shut (holding (fed bs)) e = absurd (omega arith)

none_kept : kept [] ≡ []
none_kept = kept_few [] (omega arith)

holds_kept : (bs : List ℕ) → all is_byte bs ≡ true → lent_feed (encode_feed (fed (kept bs))) ≡ fed_so_far bs
holds_kept bs h = lent_encode_feed (fed (kept bs)) (sound_kept bs h)

module _ {before opened : List ℕ} {a : CallAnswer} (o : FeedCalled (open_feed (lent_feed before)) before a opened) (done : a.number ≡ DONE) where
  opens_empty : lent_feed opened ≡ fed_so_far []
  unfolding feed_cells_after all
  opens_empty =
      let left = opened_shut (lent_feed before) (ap (λ (x : CallAnswer). x.number) (sym o.answer) ∙ done) in
      ap lent_feed (o.cells ∙ ap (feed_cells_after before) left ∙ ap (λ (bs : List ℕ). encode_feed (fed bs)) (sym none_kept)) ∙ holds_kept [] refl

-- ---- pieces in a row

-- the joined bytes of one piece more
one_joined : (bs p : List ℕ) (ps : List (List ℕ)) → length p ≤ longest_piece → (bs ++ p) ++ joined ps ≡ bs ++ joined (p ∷ ps)
unfolding joined
one_joined bs p ps h = append_assoc bs p (joined ps) ∙ sym (ap (λ (t : Bool). bs ++ cond t (joined ps) (p ++ joined ps)) (le-ltb longest_piece (length p) h))

long_joined : (p : List ℕ) (ps : List (List ℕ)) → longest_piece < length p → joined ps ≡ joined (p ∷ ps)
unfolding joined
long_joined p ps h = sym (ap (λ (t : Bool). cond t (joined ps) (p ++ joined ps)) (lt-ltb longest_piece (length p) h))

by_size : {A : Type 0} (p : List ℕ) → (length p ≤ longest_piece → A) → (longest_piece < length p → A) → A
by_size {A} p short long = go (ltb longest_piece (length p)) refl
  where
    go : (t : Bool) → ltb longest_piece (length p) ≡ t → A
    go true e = long (ltb-true _ _ e)
    go false e = short (ltb-false _ _ e)

module _ {cells next : List ℕ} (p : List ℕ) {r : FeedAnswer} (c : FeedCalled (feed_piece (lent_feed cells) p) cells r next)
    (bs : List ℕ) (held : lent_feed cells ≡ fed_so_far bs) (small : all is_byte bs ≡ true) (more : all is_byte p ≡ true) where
  left_by : (feed_piece (lent_feed cells) p).feed ≡ (feed_piece (fed_so_far bs) p).feed
  left_by = ap (λ (m : LentOf Feed). (feed_piece m p).feed) held

  -- a piece that is taken, and one that is too long
  piece_holds : length p ≤ longest_piece → lent_feed next ≡ fed_so_far (bs ++ p)
  unfolding feed_cells_after
  piece_holds h =
      ap lent_feed (c.cells ∙ ap (feed_cells_after cells) (left_by ∙ piece_left bs p h))
      ∙ holds_kept (bs ++ p) (small_append bs p small more)

  long_holds : longest_piece < length p → lent_feed next ≡ fed_so_far bs
  unfolding feed_cells_after
  long_holds h = ap lent_feed (c.cells ∙ ap (feed_cells_after cells) (left_by ∙ long_left (fed (kept bs)) p h)) ∙ held

pub fed_holds :
    {cells last : List ℕ} {ps : List (List ℕ)} {rs : List FeedAnswer} → Fed cells ps rs last → Bytes ps → (bs : List ℕ) → all is_byte bs ≡ true
    → lent_feed cells ≡ fed_so_far bs → lent_feed last ≡ fed_so_far (bs ++ joined ps)
unfolding joined
fed_holds stop b bs small h = h ∙ ap fed_so_far (sym (append-nil bs))
fed_holds (step {p = p} {ps = ps} c run) b bs small h =
    by_size p
    (λ s. fed_holds run b.1 (bs ++ p) (small_append bs p small b.0) (piece_holds p c bs h small b.0 s) ∙ ap fed_so_far (one_joined bs p ps s))
    (λ l. fed_holds run b.1 bs small (long_holds p c bs h small b.0 l) ∙ ap (λ (x : List ℕ). fed_so_far (bs ++ x)) (long_joined p ps l))

-- ---- the claim

module _
    {before opened last after state changed work used : List ℕ} {a : CallAnswer} {ps : List (List ℕ)} {rs : List FeedAnswer} {r : LoadAnswer}
    (o : FeedCalled (open_feed (lent_feed before)) before a opened) (done : a.number ≡ DONE) (run : Fed opened ps rs last) (b : Bytes ps)
    (c : Closed (close_feed (lent_feed last) (lent state) (work_fits work)) last state work r after changed used) where
  holds_all : lent_feed last ≡ fed_so_far (joined ps)
  unfolding all
  holds_all = fed_holds run b [] refl (opens_empty o done)

  closes : close_feed (lent_feed last) (lent state) (work_fits work) ≡ close_outcome (load (lent state) (work_fits work) (joined ps)) (now shut)
  closes = ap (λ (m : LentOf Feed). close_feed m (lent state) (work_fits work)) holds_all ∙ close_is_load (joined ps) (lent state) (work_fits work)

  -- "The close gives the answer, state and rounds of one load of all fed bytes joined, from the state at the close.", and every cell of
  -- work memory
  pub as_one_load : LoadCalled (load (lent state) (work_fits work) (joined ps)) state work r changed used
  as_one_load = subst (λ (x : CloseOutcome). LoadCalled x.load state work r changed used) closes c.load

  -- so to state memory a close is a LOAD, and what holds of calls in a row holds with closes among them
  pub close_replied : Replied state (loading work (joined ps)) (of_load r used) changed
  close_replied = load_replied state changed work (joined ps) r used as_one_load

  -- "leaves the feed's memory zero"
  pub feed_zero : after ≡ zeros feed_size
  unfolding feed_cells_after encode_feed
  feed_zero = c.feed_left ∙ ap (λ (x : CloseOutcome). feed_cells_after last x.feed) closes

-- ---- advice

piece_told :
    {cells next : List ℕ} (p : List ℕ) {r : FeedAnswer} → FeedCalled (feed_piece (lent_feed cells) p) cells r next → (bs : List ℕ) → kept bs ≡ bs
    → lent_feed cells ≡ fed_so_far bs → length p ≤ longest_piece → r ≡ advised (advice bs p)
unfolding feed_piece take_piece
piece_told p c bs few h s =
    c.answer
    ∙ ap (λ (m : LentOf Feed). (feed_piece m p).answer) (h ∙ ap (λ (l : List ℕ). holding (fed l)) few)
    ∙ ap (λ (t : Bool). (cond t (piece_stopped FEED) (take_piece (fed bs) p)).answer) (le-ltb longest_piece (length p) s)

pub answers_told :
    {cells last : List ℕ} {ps : List (List ℕ)} {rs : List FeedAnswer} → Fed cells ps rs last → Bytes ps → Within ps → (bs : List ℕ) → all is_byte bs ≡ true
    → lent_feed cells ≡ fed_so_far bs → length (bs ++ joined ps) ≤ longest_file → rs ≡ map advised (advices bs ps)
unfolding advices
answers_told stop b w bs small h s = refl
answers_told (step {p = p} {ps = ps} c run) b w bs small h s =
    let whole = one_joined bs p ps w.0 in
    let short : length (bs ++ p) ≤ longest_file = omega (arith, s, ap length whole, length-append (bs ++ p) (joined ps)) in
    let few : length bs ≤ longest_file = omega (arith, short, length-append bs p) in
    ap₂ {C = List FeedAnswer} (λ x l. x ∷ l)
    (piece_told p c bs (kept_few bs few) h w.0)
    (answers_told run b.1 w.1 (bs ++ p) (small_append bs p small b.0) (piece_holds p c bs h small b.0 w.0) (omega (arith, s, ap length whole)))

-- of a file that is not too long, fed from its first byte on: the answers are those of advice that is told once
module _
    {before opened last : List ℕ} {a : CallAnswer} {ps : List (List ℕ)} {rs : List FeedAnswer}
    (o : FeedCalled (open_feed (lent_feed before)) before a opened) (done : a.number ≡ DONE) (run : Fed opened ps rs last) (b : Bytes ps)
    (w : Within ps) (short : length (joined ps) ≤ longest_file) where
  pub advice_told : rs ≡ map advised (advices [] ps)
  unfolding all
  advice_told = answers_told run b w [] refl (opens_empty o done) short

  pub advice_once : ToldOnce (advices [] ps) (fault_so_far (joined ps))
  advice_once = told_once ps w [] no_fault short

-- ---- sound memory

-- "Feed memory that is zero [..] is sound"
pub zero_sound : lent_feed (zeros feed_size) ≡ holding shut
unfolding encode_feed
zero_sound = lent_encode_feed shut sound_shut

-- "or that an open and pieces not refused have left"
pub left_sound : (cells : List ℕ) (l : LeftByPieces cells) → lent_feed cells ≡ fed_so_far (joined l.pieces)
unfolding all
left_sound cells l = fed_holds l.feeds l.bytes [] refl (opens_empty l.opens refl)

-- the bytes one by one
abbrev singles : List ℕ → List (List ℕ)
singles [] = []
singles (b ∷ bs) = (b ∷ []) ∷ singles bs

singles_joined : (bs : List ℕ) → joined (singles bs) ≡ bs
unfolding joined
singles_joined [] = refl
singles_joined (b ∷ bs) = ap (λ (l : List ℕ). b ∷ l) (singles_joined bs)

singles_bytes : (bs : List ℕ) → all is_byte bs ≡ true → Bytes (singles bs)
unfolding all
singles_bytes [] h = tt
singles_bytes (b ∷ bs) h = (and_intro (and_left (is_byte b) (all is_byte bs) h) refl, singles_bytes bs (and_right (is_byte b) (all is_byte bs) h))

-- pieces that a feed takes: what they answer, and the cells that they leave
record Feeds (cells : List ℕ) (ps : List (List ℕ)) : Type 0 where
  answers : List FeedAnswer
  last : List ℕ
  run : Fed cells ps answers last
  taken : Taken answers

done_told : (f : Reading) → (advised f).number ≡ DONE
unfolding advised
done_told Complete = refl
done_told (Err s) = refl

taken_done : (m : LentOf Feed) (bs p : List ℕ) → m ≡ fed_so_far bs → length p ≤ longest_piece → (feed_piece m p).answer.number ≡ DONE
unfolding feed_piece take_piece
taken_done m bs p h s =
    ap (λ (x : LentOf Feed). (feed_piece x p).answer.number) h
    ∙ ap (λ (t : Bool). (cond t (piece_stopped FEED) (take_piece (fed (kept bs)) p)).answer.number) (le-ltb longest_piece (length p) s)
    ∙ done_told (advice (kept bs) p)

feeds : (ps : List (List ℕ)) → Bytes ps → Within ps → (cells bs : List ℕ) → all is_byte bs ≡ true → lent_feed cells ≡ fed_so_far bs → Feeds cells ps
feeds [] b w cells bs small h = record { answers = []; last = cells; run = stop; taken = tt }
feeds (p ∷ ps) b w cells bs small h =
    let o = feed_piece (lent_feed cells) p in
    let c : FeedCalled o cells o.answer (feed_cells_after cells o.feed) = record { answer = refl; cells = refl } in
    let rest = feeds ps b.1 w.1 (feed_cells_after cells o.feed) (bs ++ p) (small_append bs p small b.0) (piece_holds p c bs h small b.0 w.0) in
    record {
      answers = o.answer ∷ rest.answers;
      last = rest.last;
      run = step c rest.run;
      taken = (taken_done (lent_feed cells) bs p h w.0, rest.taken);
    }

singles_within : (bs : List ℕ) → Within (singles bs)
singles_within [] = tt
singles_within (b ∷ bs) = (omega arith, singles_within bs)

opened_done : call_answer DONE ≡ (open_feed (lent_feed (zeros feed_size))).answer
unfolding open_feed
opened_done = sym (ap (λ (m : LentOf Feed). (open_feed m).answer) zero_sound)

-- ", and no other"
pub sound_is_left : (cells : List ℕ) (f : Feed) → lent_feed cells ≡ holding f → (cells ≡ zeros feed_size) ⊎ LeftByPieces cells
unfolding encode_feed all
sound_is_left cells shut h = inl (held_feed cells shut h).0
sound_is_left cells (fed bs) h = inr (reached (held_feed cells (fed bs) h))
  where
    opening : FeedOutcome CallAnswer
    opening = open_feed (lent_feed (zeros feed_size))

    opens : FeedCalled opening (zeros feed_size) (call_answer DONE) (feed_cells_after (zeros feed_size) opening.feed)
    opens = record { answer = opened_done; cells = refl }

    reached : (cells ≡ encode_feed (fed bs)) × (sound_feed (fed bs) ≡ true) → LeftByPieces cells
    reached (e, s) =
        let small = fed_small bs s in
        let run = feeds (singles bs) (singles_bytes bs small) (singles_within bs) (feed_cells_after (zeros feed_size) opening.feed) [] refl (opens_empty opens refl) in
        let same : run.last ≡ cells =
        (held_feed run.last (fed (kept (joined (singles bs)))) (fed_holds run.run (singles_bytes bs small) [] refl (opens_empty opens refl))).0
        ∙ ap (λ (l : List ℕ). encode_feed (fed (kept l))) (singles_joined bs)
        ∙ ap (λ (l : List ℕ). encode_feed (fed l)) (sym (fed_kept bs s))
        ∙ sym e in
        record {
          opened = feed_cells_after (zeros feed_size) opening.feed;
          pieces = singles bs;
          answers = run.answers;
          opens = opens;
          bytes = singles_bytes bs small;
          feeds = subst (Fed (feed_cells_after (zeros feed_size) opening.feed) (singles bs) run.answers) same run.run;
          taken = run.taken;
        }
