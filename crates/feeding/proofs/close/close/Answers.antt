use native.Mathlib.Omega.{arith}
use mathlib.Core.Path.{refl, sym, ap, ◌∙◌}
use lib.ListN.{take}
use lib.Seq.{length-take-le}
use Rattle.state.specs.Layout.{zeros}
use Rattle.feed.proofs.StoreLaws.{unpacked_all, unpacked_length}
use Rattle.feeding.proofs.FeedingLaws.{close_unopened, close_done, close_loaded, cleared, total_most}
use Rattle.feeding.proofs.close.close.Goals as goal

pub unpack-requires : goal.unpack-requires
unfolding zeros
unpack-requires c = record { feed_len = c.in-Ok.ensures.0.long; n_le_byte_cells = omega arith; file_value = refl }

pub slice_bounds-file-end : goal.slice_bounds-file-end
slice_bounds-file-end c = omega (arith, unpacked_length _ _ _ c.unpack.ensures, total_most c.args.feed.now c.in-Ok.ensures.0 _ c.in-Ok.ensures.1)

pub slice_bounds-load-end : goal.slice_bounds-load-end
slice_bounds-load-end c = sym (length-take-le _ _ (omega (arith, unpacked_length _ _ _ c.unpack.ensures, total_most c.args.feed.now c.in-Ok.ensures.0 _ c.in-Ok.ensures.1)))

pub returns-in-Ok : goal.returns-in-Ok
returns-in-Ok c =
    let s = c.in-Ok.ensures.0 in
    let some = c.in-Ok.ensures.1 in
    close_loaded _ _ (close_done c.args.feed.now s c.in-Ok.total some _ _)
    (ap (take c.in-Ok.total) c.unpack.ensures ∙ unpacked_all c.args.feed.now c.in-Ok.total s.long (total_most c.args.feed.now s c.in-Ok.total some))
    c.load-answer.ensures (cleared _ s.long (c.fill.ensures.after (λ y e. e)))

pub returns-in-Err : goal.returns-in-Err
returns-in-Err c = close_unopened _ _ _ c.in-Err.ensures c.refuse.ensures.0 c.refuse.ensures.1
