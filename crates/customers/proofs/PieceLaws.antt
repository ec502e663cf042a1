-- Two pieces are one file.
use Prim.Native.Nat.{ℕ, ◌≤◌}
use native.Mathlib.Omega.{arith}
use mathlib.Core.Bool.{true}
use mathlib.Core.List.{List, [], ◌∷◌, ◌++◌, append-nil}
use mathlib.Core.Path.{◌≡◌, refl, ap, subst, ◌∙◌}
use lib.ListN.{length}
use borrow.Author.Tests.{le-ltb}
use Rattle.std.specs.Prelude.{Err}
use Rattle.rules.specs.Limits.{longest_piece}
use Rattle.rules.specs.Text.{all}
use Rattle.rules.specs.Answers.{DONE}
use Rattle.rules.specs.Calls.{LentOf, holding, call_answer, load}
use Rattle.rules.specs.Feed.{Feed, shut, fed, kept, is_byte, fault_so_far, advice, FeedOutcome, feed_done, open_feed, advised, feed_piece, drop_feed, close_feed, joined, advices}
use Rattle.rules.specs.History.{work_fits}
use Rattle.rules.specs.declared.answer.CallAnswer.{CallAnswer}
use Rattle.rules.specs.declared.answer.FeedAnswer.{FeedAnswer}
use Rattle.rules.specs.declared.answer.LoadAnswer.{LoadAnswer}
use Rattle.state.specs.Layout.{zeros, lent}
use Rattle.state.specs.Promise.{LoadCalled}
use Rattle.feed.specs.Layout.{feed_size, encode_feed, lent_feed, feed_cells_after}
use Rattle.feed.specs.Promise.{FeedCalled, Closed}
use Rattle.feed.specs.Sequence.{stop, step}
use Rattle.feed.proofs.Claims.{zero_sound, left_sound, as_one_load, feed_zero, advice_told}
use Rattle.rules.proofs.FeedLaws.{no_fault, told_is}
use Rattle.customers.specs.Pieces.{LoadedInTwo, Tried}
use Rattle.rules.specs.Reading.{Reading, Complete}

two_joined : (p q : List ℕ) → length p ≤ longest_piece → length q ≤ longest_piece → joined (p ∷ q ∷ []) ≡ p ++ q
unfolding joined
two_joined p q h g = rw (le-ltb longest_piece (length p) h, le-ltb longest_piece (length q) g) (ap (λ (l : List ℕ). p ++ l) (append-nil q))

-- on zero memory an opening is done
opened : (cells : List ℕ) → cells ≡ zeros feed_size → (open_feed (lent_feed cells)).answer.number ≡ DONE
unfolding open_feed
opened cells e = ap (λ (m : LentOf Feed). (open_feed m).answer.number) (ap lent_feed e ∙ zero_sound)

opened_answer : (cells : List ℕ) → cells ≡ zeros feed_size → (open_feed (lent_feed cells)).answer ≡ call_answer DONE
unfolding open_feed
opened_answer cells e = ap (λ (m : LentOf Feed). (open_feed m).answer) (ap lent_feed e ∙ zero_sound)

module _
    {feed opened_feed once twice after state changed work used : List ℕ} (first second : List ℕ) {a : CallAnswer} {p q : FeedAnswer} {r : LoadAnswer}
    (o : FeedCalled (open_feed (lent_feed feed)) feed a opened_feed)
    (f : FeedCalled (feed_piece (lent_feed opened_feed) first) opened_feed p once)
    (g : FeedCalled (feed_piece (lent_feed once) second) once q twice)
    (c : Closed (close_feed (lent_feed twice) (lent state) (work_fits work)) twice state work r after changed used)
    (b : all is_byte first ≡ true) (d : all is_byte second ≡ true) where
  pub in_two : LoadedInTwo feed state work first second r after changed used
  in_two =
      record {
        as_one = λ z h k.
            subst (λ (l : List ℕ). LoadCalled (load (lent state) (work_fits work) l) state work r changed used) (two_joined first second h k)
            (as_one_load o (done z) (step f (step g stop)) (b, (d, tt)) c);
        zero = λ z. feed_zero o (done z) (step f (step g stop)) (b, (d, tt)) c;
      }
    where
      done : feed ≡ zeros feed_size → a.number ≡ DONE
      done z = ap (λ (x : CallAnswer). x.number) o.answer ∙ opened feed z

-- ---- a piece that is tried

done_told : (f : Reading) → (advised f).number ≡ DONE
unfolding advised
done_told Complete = refl
done_told (Err s) = refl

-- a drop where a load is open
drops : (m : LentOf Feed) (bs : List ℕ) → m ≡ holding (fed bs) → drop_feed m ≡ feed_done shut
unfolding drop_feed
drops m bs e = ap drop_feed e

-- the fault of a file's first piece
first_told : (piece : List ℕ) → length piece ≤ longest_piece → advice [] piece ≡ fault_so_far piece
first_told piece h = told_is [] piece no_fault (omega arith)

one_joined : (piece : List ℕ) → length piece ≤ longest_piece → joined (piece ∷ []) ≡ piece
unfolding joined
one_joined piece h = rw (le-ltb longest_piece (length piece) h) (append-nil piece)

module _
    {feed opened_feed once after : List ℕ} (piece : List ℕ) {a d : CallAnswer} {p : FeedAnswer}
    (o : FeedCalled (open_feed (lent_feed feed)) feed a opened_feed)
    (f : FeedCalled (feed_piece (lent_feed opened_feed) piece) opened_feed p once)
    (g : FeedCalled (drop_feed (lent_feed once)) once d after)
    (b : all is_byte piece ≡ true) where
  module _ (z : feed ≡ zeros feed_size) (h : length piece ≤ longest_piece) where
    done : a.number ≡ DONE
    done = ap (λ (x : CallAnswer). x.number) o.answer ∙ opened feed z

    telling : p ≡ advised (fault_so_far piece)
    unfolding advices
    telling =
        let whole = advice_told o done (step f stop) (b, tt) (h, tt) (omega (arith, ap length (one_joined piece h))) in
        let same : p ≡ advised (advice [] piece) = cc in
        same ∙ ap advised (first_told piece h)

    opens : FeedCalled (open_feed (lent_feed (zeros feed_size))) (zeros feed_size) (call_answer DONE) opened_feed
    opens =
        subst (λ (x : CallAnswer). FeedCalled (open_feed (lent_feed (zeros feed_size))) (zeros feed_size) x opened_feed)
        (o.answer ∙ opened_answer feed z)
        (subst (λ (l : List ℕ). FeedCalled (open_feed (lent_feed l)) l a opened_feed) z o)

    holds : lent_feed once ≡ holding (fed (kept (joined (piece ∷ []))))
    holds =
        left_sound once
        (record {
          opened = opened_feed;
          pieces = piece ∷ [];
          answers = p ∷ [];
          opens = opens;
          bytes = (b, tt);
          feeds = step f stop;
          taken = (ap (λ (x : FeedAnswer). x.number) telling ∙ done_told (fault_so_far piece), tt);
        })

    dropping : (d ≡ call_answer DONE) × (after ≡ zeros feed_size)
    unfolding feed_cells_after encode_feed
    dropping =
        let is = drops (lent_feed once) (kept (joined (piece ∷ []))) holds in (
          g.answer ∙ ap (λ (x : FeedOutcome CallAnswer). x.answer) is,
          g.cells ∙ ap (λ (x : FeedOutcome CallAnswer). feed_cells_after once x.feed) is,
        )

  pub tried : Tried feed piece p d after
  tried = record { told = λ z h. telling z h; dropped = λ z h. dropping z h }
