-- `framing::text_end` meets its contract: the bytes are those of the text.
use Prim.Native.Nat.{◌+◌}
use lib.ListN.{length}
use mathlib.Core.Path.{◌∙◌, sym}
use Rattle.text.specs.Scan.{part}
use Rattle.runs.proofs.StretchLaws.{IfSome-from_then_some}
use Rattle.framing.specs.Framing.{TextEnds}
use Rattle.framing.proofs.FramingLaws.{text_found}
use Rattle.framing.proofs.text_end.Goals as goal

pub returns : goal.returns
unfolding part
returns c =
    IfSome-from_then_some (TextEnds c.args.file.now c.args.i c.args.text.now) c.starts_with.result (c.args.i + length c.args.text.now) c.then_some.ensures
    (λ t. text_found _ _ _ (sym t ∙ c.starts_with.ensures.value) (c.starts_with.ensures.bound t) c.requires)
