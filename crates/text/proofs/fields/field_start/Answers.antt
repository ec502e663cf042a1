-- `text::fields::field_start` meets its contract: the bytes in front are spaces.
-- Assumes nothing.
use Rattle.std.proofs.Common.{rules}
use Rattle.text.specs.FieldBounds.{is_space, field_start}
use Rattle.text.proofs.ScanLaws.{past_is}
use Rattle.text.proofs.fields.field_start.Goals as goal

pub returns : goal.returns
unfolding field_start
returns c =
    past_is is_space _ _ _ c.past.ensures.within
    (λ k g h. let e = c.past.ensures.before k g h in search rules)
    (λ h. let e = c.past.ensures.stops h in search rules)
