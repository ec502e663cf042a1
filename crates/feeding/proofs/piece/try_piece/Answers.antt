use mathlib.Core.Path.{refl}
use Rattle.feeding.proofs.FeedingLaws.{stopped, same_call, piece_long, piece_none, piece_taken}
use Rattle.feeding.proofs.piece.try_piece.Goals as goal

pub returns-then-piece-gt-LONGEST_PIECE : goal.returns-then-piece-gt-LONGEST_PIECE
returns-then-piece-gt-LONGEST_PIECE c = stopped (piece_long _ (c.in_ok-check.ensures.good refl) _ c.if-piece-gt-LONGEST_PIECE.true)

pub returns-in_default : goal.returns-in_default
returns-in_default c = stopped (piece_none _ (c.in_ok-check.ensures.good refl) c.in_default.ensures _ c.if-piece-gt-LONGEST_PIECE.false)

pub returns : goal.returns
returns c = same_call (piece_taken _ (c.in_ok-check.ensures.good refl) _ c.in-Some.ensures _ c.if-piece-gt-LONGEST_PIECE.false) c.take_piece.ensures
