use mathlib.Core.Path.{refl}
use Rattle.rules.specs.Feed.{advised}
use Rattle.feed.proofs.FeedLaws.{piece_small}
use Rattle.feeding.proofs.FeedingLaws.{left, cleared, too_many_lem, many_taken, few_taken, room_cells, marked, marked_long, bytes_same, bytes_more}
use Rattle.feeding.proofs.piece.take_piece.Goals as goal

pub returns-then-total-gt-LONGEST_FILE : goal.returns-then-total-gt-LONGEST_FILE
unfolding advised
returns-then-total-gt-LONGEST_FILE c =
    let a = c.args in
    let pre = c.requires in
    left (many_taken a.feed.now pre.sound a.old pre.open a.piece.now c.if-total-gt-LONGEST_FILE.true)
    (too_many_lem (cleared _ pre.sound.long (c.fill.ensures.after (λ y e. e))))

pub put_bytes-requires : goal.put_bytes-requires
put_bytes-requires c = record { piece_bound = c.if-total-gt-LONGEST_FILE.false; feed_value = room_cells c.args.feed.now c.requires.sound _ c.requires.open }

pub advise-requires : goal.advise-requires
advise-requires c =
    let a = c.args in
    let pre = c.requires in
    let small = piece_small a.piece.now c.shared_slice_known-1.given in
    let h = c.if-total-gt-LONGEST_FILE.false in
    let put = c.put_bytes.ensures in
    record { feed_len = marked_long a.feed.now pre.sound a.old pre.open a.piece.now h small put refl; piece_bound = h; piece_value = bytes_more a.feed.now pre.sound a.old pre.open a.piece.now h small put refl }

pub returns : goal.returns
returns c =
    let a = c.args in
    let pre = c.requires in
    let small = piece_small a.piece.now c.shared_slice_known-1.given in
    let h = c.if-total-gt-LONGEST_FILE.false in
    let put = c.put_bytes.ensures in
    rw (c.advise.ensures, bytes_same a.feed.now pre.sound a.old pre.open a.piece.now h small put refl)
    (left (few_taken a.feed.now pre.sound a.old pre.open a.piece.now h) (marked a.feed.now pre.sound a.old pre.open a.piece.now h small put refl))
