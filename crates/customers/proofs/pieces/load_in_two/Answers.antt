use Rattle.feed.proofs.FeedLaws.{piece_small}
use Rattle.customers.proofs.PieceLaws.{in_two}
use Rattle.customers.proofs.pieces.load_in_two.Goals as goal

pub returns : goal.returns
returns c =
    in_two c.args.first.now c.args.second.now c.lnk100_open.ensures c.lnk100_feed.ensures c.lnk100_feed-2.ensures c.lnk100_close.ensures
    (piece_small c.args.first.now c.shared_slice_known-1.given) (piece_small c.args.second.now c.shared_slice_known-2-1.given)
