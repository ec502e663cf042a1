-- Document 02, 5/14, "Files off a slow reader": a load that is opened, fed in pieces, and closed or dropped.
use Rattle.std.specs.Prelude.{ℕ, ◌+◌, Bool, true, false, cond, ◌&&◌, ◌||◌, List, [], ◌∷◌, ◌++◌, ◌≡◌, length, replicate, eqb, leb, ltb, Err}
use Rattle.rules.specs.Limits.{longest_file, longest_piece}
use Rattle.rules.specs.Text.{LF, all, same_text, lines_of}
use Rattle.rules.specs.Answers.{DONE, BUFFER, DAMAGED, TOO_LONG, FEED, is_file_fault}
use Rattle.rules.specs.Reading.{unread, if_complete, read_lines, Reading, Complete, Stopped}
use Rattle.rules.specs.Calls.{LentOf, wrong_length, damaged, holding, LeftOf, as_before, now, Lent, Outcome, call_answer, load, load_stopped}
use Rattle.rules.specs.declared.answer.CallAnswer.{CallAnswer}
use Rattle.rules.specs.declared.answer.FeedAnswer.{FeedAnswer}
use Rattle.rules.specs.declared.answer.LoadAnswer.{LoadAnswer}

-- ---- what feed memory holds

-- no load is open; or one is, and these bytes have been fed
pub data Feed : Type 0 where
  shut : Feed
  fed : List ℕ → Feed

-- "5 is a total over 65,536": what stands for all longer files, zeros in place of their bytes
unfoldable pub too_many : List ℕ
too_many = replicate (longest_file + 1) 0

-- what is kept of the bytes that have been fed: of too many only that they are too many
unfoldable pub kept : List ℕ → List ℕ
kept bytes = cond (leb (length bytes) longest_file) bytes too_many

abbrev pub is_byte : ℕ → Bool
is_byte b = leb b 255

-- "Feed memory that is zero, or that an open and pieces not refused have left, is sound, and no other."
unfoldable pub sound_feed : Feed → Bool
sound_feed shut = true
sound_feed (fed bytes) = all is_byte bytes && same_text bytes (kept bytes)

-- ---- advice

-- a byte in front of a text's whole lines: it is in one, if there is one
unfoldable pub before_lf : ℕ → List ℕ → List ℕ
before_lf b [] = []
before_lf b (c ∷ more) = b ∷ c ∷ more

-- a text's whole lines: up to its last LF
unfoldable pub whole_lines : List ℕ → List ℕ
whole_lines [] = []
whole_lines (b ∷ rest) = let more = whole_lines rest in cond (eqb b LF) (b ∷ more) (before_lf b more)

-- "The first reading fault (6 to 8, 17 to 21)" of the whole lines, Complete where they have none
unfoldable pub fault_so_far : List ℕ → Reading
fault_so_far bytes = (read_lines unread (lines_of (whole_lines bytes))).fault

-- it is told "by the piece that brings its line's LF and no other, as long as the total is at most 65,536"
unfoldable pub advice : List ℕ → List ℕ → Reading
advice bytes piece =
    let early = if_complete (fault_so_far bytes) (fault_so_far (bytes ++ piece)) Complete in
    cond (leb (length (bytes ++ piece)) longest_file) early Complete

-- ---- the calls

-- what a call comes to: its answer, and feed memory as it leaves it
pub record FeedOutcome (A : Type 0) : Type 0 where
  pub answer : A
  pub feed : LeftOf Feed

abbrev pub feed_outcome : {A : Type 0} → A → LeftOf Feed → FeedOutcome A
feed_outcome a f = record { answer = a; feed = f }

abbrev pub feed_stopped : ℕ → FeedOutcome CallAnswer
feed_stopped k = feed_outcome (call_answer k) as_before

abbrev pub feed_done : Feed → FeedOutcome CallAnswer
feed_done f = feed_outcome (call_answer DONE) (now f)

-- "Let a load be opened": "a second open" is refused
unfoldable pub open_feed : LentOf Feed → FeedOutcome CallAnswer
open_feed wrong_length = feed_stopped BUFFER
open_feed damaged = feed_stopped DAMAGED
open_feed (holding shut) = feed_done (fed [])
open_feed (holding (fed bytes)) = feed_stopped FEED

abbrev pub feed_answer : ℕ → ℕ → ℕ → ℕ → FeedAnswer
feed_answer k a n c = record { number = k; advice = a; line = n; column = c }

abbrev pub piece_stopped : ℕ → FeedOutcome FeedAnswer
piece_stopped k = feed_outcome (feed_answer k 0 0 0) as_before

unfoldable pub advised : Reading → FeedAnswer
advised Complete = feed_answer DONE 0 0 0
advised (Err s) = feed_answer DONE s.number s.line s.column

unfoldable pub take_piece : Feed → List ℕ → FeedOutcome FeedAnswer
take_piece shut piece = piece_stopped FEED
take_piece (fed bytes) piece = feed_outcome (advised (advice bytes piece)) (now (fed (kept (bytes ++ piece))))

-- "fed": "a longer piece" is refused, and a piece "with none open"
unfoldable pub feed_piece : LentOf Feed → List ℕ → FeedOutcome FeedAnswer
feed_piece wrong_length piece = piece_stopped BUFFER
feed_piece damaged piece = piece_stopped DAMAGED
feed_piece (holding f) piece = cond (ltb longest_piece (length piece)) (piece_stopped FEED) (take_piece f piece)

-- "A close or a drop that passes the feed's own checks leaves the feed's memory zero; a drop changes nothing else."
unfoldable pub drop_feed : LentOf Feed → FeedOutcome CallAnswer
drop_feed wrong_length = feed_stopped BUFFER
drop_feed damaged = feed_stopped DAMAGED
drop_feed (holding shut) = feed_stopped FEED
drop_feed (holding (fed bytes)) = feed_done shut

-- besides, what the close does to state memory
pub record CloseOutcome : Type 0 where
  pub load : Outcome LoadAnswer
  pub feed : LeftOf Feed

abbrev pub close_outcome : Outcome LoadAnswer → LeftOf Feed → CloseOutcome
close_outcome o f = record { load = o; feed = f }

abbrev pub close_stopped : ℕ → CloseOutcome
close_stopped k = close_outcome (load_stopped k) as_before

-- "The close gives the answer, state and rounds of one load of all fed bytes joined, from the state at the close."
unfoldable pub close_feed : LentOf Feed → Lent → Bool → CloseOutcome
close_feed wrong_length lent fits = close_stopped BUFFER
close_feed damaged lent fits = close_stopped DAMAGED
close_feed (holding shut) lent fits = close_stopped FEED
close_feed (holding (fed bytes)) lent fits = close_outcome (load lent fits bytes) (now shut)

-- which numbers an opening, a piece and a drop can answer, and which a close
unfoldable pub can_answer_feed : ℕ → Bool
can_answer_feed k = leb k DAMAGED || eqb k FEED

unfoldable pub can_answer_close : ℕ → Bool
can_answer_close k = leb k TOO_LONG || (is_file_fault k || eqb k FEED)

-- ---- pieces in a row

-- the bytes that pieces bring to an open feed: a piece that is refused brings none
unfoldable pub joined : List (List ℕ) → List ℕ
joined [] = []
joined (p ∷ ps) = let rest = joined ps in cond (ltb longest_piece (length p)) rest (p ++ rest)

-- what each of these pieces advises, behind these bytes
unfoldable pub advices : List ℕ → List (List ℕ) → List Reading
advices bytes [] = []
advices bytes (p ∷ ps) = advice bytes p ∷ advices (bytes ++ p) ps

-- nothing is told
abbrev pub silent : List Reading → Bool
silent told = all (λ a. if_complete a true false) told

abbrev pub Silent : List Reading → Type 0
Silent told = silent told ≡ true

-- nothing is told where there is no fault; else one piece tells it, and no other tells anything
pub data ToldOnce (told : List Reading) : Reading → Type 0 where
  nothing : Silent told → ToldOnce told Complete
  once :
      (k n c : ℕ) (before after : List Reading) → told ≡ before ++ (Stopped k n c ∷ after) → Silent before → Silent after
      → ToldOnce told (Stopped k n c)

-- how many LFs a text has
unfoldable pub count_lf : List ℕ → ℕ
count_lf [] = 0
count_lf (b ∷ rest) = cond (eqb b LF) 1 0 + count_lf rest
