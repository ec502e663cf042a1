use native.Mathlib.Omega.{arith}
use mathlib.Core.Path.{sym, ◌∙◌}
use Rattle.feed.specs.Layout.{bytes_in}
use Rattle.feed.proofs.FeedLaws.{with_long}
use Rattle.feed.proofs.StoreLaws.{put_start, put_end_lem, put_inside, put_fits, put_step}
use Rattle.feed.proofs.bytes.put_bytes.Goals as goal

pub loop-i-init : goal.loop-i-init
loop-i-init c = (omega arith, put_start _ _ _ c.requires.feed_value)

pub bounds-feed-cell : goal.bounds-feed-cell
bounds-feed-cell c = put_inside c.args.feed.now _ _ _ _ c.shared_slice_known-1.given c.requires.piece_bound c.loop-i-test.true c.loop-i.invariant.1

pub overflow_mul-feed : goal.overflow_mul-feed
overflow_mul-feed c = omega (arith, put_fits c.args.feed.now _ _ _ _ c.shared_slice_known-1.given c.requires.piece_bound c.loop-i-test.true c.loop-i.invariant.1 _ c.power.ensures)

pub overflow_add-feed : goal.overflow_add-feed
overflow_add-feed c = put_fits c.args.feed.now _ _ _ _ c.shared_slice_known-1.given c.requires.piece_bound c.loop-i-test.true c.loop-i.invariant.1 _ c.power.ensures

pub bounds-feed-cell-in-loop-i : goal.bounds-feed-cell-in-loop-i
bounds-feed-cell-in-loop-i c = put_inside c.args.feed.now _ _ _ _ c.shared_slice_known-1.given c.requires.piece_bound c.loop-i-test.true c.loop-i.invariant.1

pub loop-i-preserved : goal.loop-i-preserved
loop-i-preserved c = (omega arith, put_step c.args.feed.now _ _ _ _ c.shared_slice_known-1.given c.requires.piece_bound c.loop-i-test.true c.loop-i.invariant.1 _ c.power.ensures)

pub shape_of-feed : goal.shape_of-feed
shape_of-feed c = with_long _ _ _ c.loop-i.invariant.1 ∙ sym (with_long _ _ _ c.requires.feed_value)

pub returns : goal.returns
returns c = put_end_lem _ (bytes_in c.args.feed.now _) c.args.piece.now _ _ c.loop-i.invariant.1 c.loop-i-test.false
