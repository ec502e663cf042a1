-- Where the reading stands behind records in a row.
use Rattle.std.specs.Prelude.{ℕ, zero, suc, ◌-◌, min}
use Rattle.rules.specs.Limits.{most_entries, most_externals}
use Rattle.rules.specs.Reading.{record_done, count_entry, count_external}
use Rattle.rules.specs.declared.line.Expected.{Expected}
use Rattle.rules.specs.declared.line.Expected.TheVariants.{AnyHeader, OpeningTitle, ClosingTitle, CodeRecord, EntryRecord, ExternalRecord, DataRecord, InitRecord, ParameterRecord, SubRecord}
use Rattle.rules.specs.declared.reading.Mode.{Mode}

-- one entry or external more, where such a record was read
unfoldable pub counted : Expected → Mode → Mode
counted AnyHeader m = m
counted OpeningTitle m = m
counted ClosingTitle m = m
counted CodeRecord m = m
counted EntryRecord m = count_entry m
counted ExternalRecord m = count_external m
counted DataRecord m = m
counted InitRecord m = m
counted ParameterRecord m = m
counted SubRecord m = m

-- one record is read
unfoldable pub one_done : Mode → Mode
one_done m = record_done m.expected (counted m.expected m)

unfoldable pub after_records : ℕ → Mode → Mode
after_records zero m = m
after_records (suc k) m = one_done (after_records k m)

-- how many may follow, by what is expected
unfoldable pub room_by : Expected → Mode → ℕ
room_by AnyHeader m = 0
room_by OpeningTitle m = 0
room_by ClosingTitle m = 0
room_by CodeRecord m = m.block.remaining
room_by EntryRecord m = min m.block.remaining (most_entries - m.object.entries)
room_by ExternalRecord m = min m.block.remaining (most_externals - m.object.externals)
room_by DataRecord m = m.block.remaining
room_by InitRecord m = 0
room_by ParameterRecord m = 0
room_by SubRecord m = 0

abbrev pub room_for : Mode → ℕ
room_for m = room_by m.expected m

-- of k records those that are entries, and those that are externals
unfoldable pub entries_in : Expected → ℕ → ℕ
entries_in AnyHeader k = 0
entries_in OpeningTitle k = 0
entries_in ClosingTitle k = 0
entries_in CodeRecord k = 0
entries_in EntryRecord k = k
entries_in ExternalRecord k = 0
entries_in DataRecord k = 0
entries_in InitRecord k = 0
entries_in ParameterRecord k = 0
entries_in SubRecord k = 0

unfoldable pub externals_in : Expected → ℕ → ℕ
externals_in AnyHeader k = 0
externals_in OpeningTitle k = 0
externals_in ClosingTitle k = 0
externals_in CodeRecord k = 0
externals_in EntryRecord k = 0
externals_in ExternalRecord k = k
externals_in DataRecord k = 0
externals_in InitRecord k = 0
externals_in ParameterRecord k = 0
externals_in SubRecord k = 0
