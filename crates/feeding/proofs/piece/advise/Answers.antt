use Prim.Native.Nat.{ℕ, ◌+◌, ◌*◌, ◌/◌}
use native.Mathlib.Omega.{arith}
use mathlib.Core.List.{List}
use mathlib.Core.Path.{refl, ap, ◌∙◌}
use lib.ListN.{take}
use Rattle.state.specs.Layout.{zeros}
use Rattle.advising.specs.Whole.{early_fault}
use Rattle.feeding.proofs.FeedingLaws.{no_advice, new_advice}
use Rattle.feeding.proofs.piece.advise.Goals as goal

pub returns-then-whole-eq0 : goal.returns-then-whole-eq0
returns-then-whole-eq0 c =
    let a = c.args in
    let pre = c.requires in
    no_advice a.feed.now a.old a.piece.now pre.piece_bound pre.piece_value c.lines_end-whole.ensures c.if-whole-eq0.true

pub unpack-requires : goal.unpack-requires
unfolding zeros
unpack-requires c = record { feed_len = c.requires.feed_len; n_le_byte_cells = omega (arith, c.lines_end-whole.ensures.most, c.requires.piece_bound); file_value = refl }

pub returns : goal.returns
returns c =
    let a = c.args in
    let pre = c.requires in
    let n = 8 * ((a.old + c.lines_end-whole.result + 7) / 8) in
    let file = c.unpack.ensures in
    new_advice a.feed.now a.old a.piece.now pre.piece_bound pre.piece_value c.lines_end-whole.ensures c.if-whole-eq0.false n (omega arith) (omega (arith, c.lines_end-whole.ensures.most, pre.piece_bound))
    (c.early_fault.ensures ∙ ap (λ (l : List ℕ). early_fault (take a.old l) (take (a.old + c.lines_end-whole.result) l)) file)
