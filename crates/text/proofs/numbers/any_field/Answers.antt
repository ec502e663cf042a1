-- `text::numbers::any_field` meets its contract: the field's bytes are what `next_field` hands back.
-- Assumes nothing.
use Prim.Native.Nat.{ℕ, ◌+◌}
use mathlib.Core.List.{List}
use mathlib.Core.Path.{ap, ◌∙◌}
use lib.ListN.{length}
use Rattle.rules.specs.Text.{number_of}
use Rattle.text.proofs.numbers.any_field.Goals as goal

pub returns : goal.returns
returns c =
    let bytes = c.next_field-field.ensures.bytes in
    record {
      is = c.read_number.ensures ∙ ap number_of bytes;
      ends = ap (λ (l : List ℕ). c.args.at + length l) bytes;
    }
