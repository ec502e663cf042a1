-- `framing::header` meets its contract: each code by its own fields.
use Rattle.std.proofs.lemmas.Option.{IfSome_then}
use Rattle.framing.proofs.FramingLaws.{code_said, end_said, title_block_said, entries_said, externals_said, library_start_said, library_end_said}
use Rattle.framing.proofs.header.Goals as goal

pub returns-in_ok-offset-in-48 : goal.returns-in_ok-offset-in-48
returns-in_ok-offset-in-48 c =
    IfSome_then _ c.ended.ensures (λ _ d. code_said c.in_ok-digit.ensures c.in_ok-count-in-48.ensures c.in_ok-offset-in-48.ensures c.in-48.is c.marker_text.ensures d)

pub returns-in-49 : goal.returns-in-49
returns-in-49 c =
    IfSome_then _ c.ended-in-49.ensures (λ _ d. end_said c.in_ok-digit.ensures c.in-49.is c.marker_text-in-49.ensures d)

pub returns-in-51 : goal.returns-in-51
returns-in-51 c =
    IfSome_then _ c.ended-in-51.ensures (λ _ d. title_block_said c.in_ok-digit.ensures c.in-51.is c.marker_text-in-51.ensures d)

pub returns-in_ok-behind-in-52 : goal.returns-in_ok-behind-in-52
returns-in_ok-behind-in-52 c =
    IfSome_then _ c.ended-in-52.ensures (λ _ d. entries_said c.in_ok-digit.ensures c.in_ok-behind-in-52.ensures c.in-52.is c.marker_text-in-52.ensures d)

pub returns-in_ok-behind-in-53 : goal.returns-in_ok-behind-in-53
returns-in_ok-behind-in-53 c =
    IfSome_then _ c.ended-in-53.ensures (λ _ d. externals_said c.in_ok-digit.ensures c.in_ok-behind-in-53.ensures c.in-53.is c.marker_text-in-53.ensures d)

pub returns-in-54 : goal.returns-in-54
returns-in-54 c =
    IfSome_then _ c.ended-in-54.ensures (λ _ d. library_start_said c.in_ok-digit.ensures c.in-54.is c.marker_text-in-54.ensures d)

pub returns-in-55 : goal.returns-in-55
returns-in-55 c =
    IfSome_then _ c.ended-in-55.ensures (λ _ d. library_end_said c.in_ok-digit.ensures c.in-55.is c.marker_text-in-55.ensures d)
