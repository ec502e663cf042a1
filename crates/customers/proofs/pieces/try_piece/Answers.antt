use Rattle.feed.proofs.FeedLaws.{piece_small}
use Rattle.customers.proofs.PieceLaws.{tried}
use Rattle.customers.proofs.pieces.try_piece.Goals as goal

pub returns : goal.returns
returns c =
    tried c.args.piece.now c.lnk100_open.ensures c.lnk100_feed-a.ensures c.lnk100_drop-d.ensures
    (piece_small c.args.piece.now c.shared_slice_known-1.given)
