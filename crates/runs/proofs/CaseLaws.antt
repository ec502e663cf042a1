-- The arms of a `match` on what is expected that stand for all the others.
-- Kept, though the check finds them alone by now: docs/PORT.md names them.
use Prim.Native.Nat.{ℕ}
use mathlib.Core.Logic.{◌≢◌}
use mathlib.Core.Path.{◌≡◌, refl}
use Rattle.rules.specs.declared.line.Expected.{Expected}
use Rattle.rules.specs.declared.line.Expected.TheVariants.{AnyHeader, OpeningTitle, ClosingTitle, CodeRecord, EntryRecord, ExternalRecord, DataRecord, InitRecord, ParameterRecord, SubRecord}
use Rattle.rules.specs.declared.reading.Mode.{Mode}
use Rattle.runs.specs.Modes.{room_by, entries_in, externals_in}

-- neither a code record, nor an entry, nor an external, nor a data record
pub no_room_lem : (w : Expected) (m : Mode) → w ≢ CodeRecord → w ≢ EntryRecord → w ≢ ExternalRecord → w ≢ DataRecord → 0 ≡ room_by w m
unfolding room_by
no_room_lem AnyHeader m a b d e = refl
no_room_lem OpeningTitle m a b d e = refl
no_room_lem ClosingTitle m a b d e = refl
no_room_lem CodeRecord m a b d e = absurd (a refl)
no_room_lem EntryRecord m a b d e = absurd (b refl)
no_room_lem ExternalRecord m a b d e = absurd (d refl)
no_room_lem DataRecord m a b d e = absurd (e refl)
no_room_lem InitRecord m a b d e = refl
no_room_lem ParameterRecord m a b d e = refl
no_room_lem SubRecord m a b d e = refl

pub no_entries : (w : Expected) (k : ℕ) → w ≢ EntryRecord → entries_in w k ≡ 0
unfolding entries_in
no_entries AnyHeader k h = refl
no_entries OpeningTitle k h = refl
no_entries ClosingTitle k h = refl
no_entries CodeRecord k h = refl
no_entries EntryRecord k h = absurd (h refl)
no_entries ExternalRecord k h = refl
no_entries DataRecord k h = refl
no_entries InitRecord k h = refl
no_entries ParameterRecord k h = refl
no_entries SubRecord k h = refl

pub no_externals : (w : Expected) (k : ℕ) → w ≢ ExternalRecord → externals_in w k ≡ 0
unfolding externals_in
no_externals AnyHeader k h = refl
no_externals OpeningTitle k h = refl
no_externals ClosingTitle k h = refl
no_externals CodeRecord k h = refl
no_externals EntryRecord k h = refl
no_externals ExternalRecord k h = absurd (h refl)
no_externals DataRecord k h = refl
no_externals InitRecord k h = refl
no_externals ParameterRecord k h = refl
no_externals SubRecord k h = refl
