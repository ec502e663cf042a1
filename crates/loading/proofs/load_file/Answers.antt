use mathlib.Core.Path.{sym, ◌∙◌}
use Rattle.reading.proofs.ItemLaws.{tables_hold}
use Rattle.reading.proofs.SoundTables.{items_in_sound}
use Rattle.loading.proofs.LoadingLaws.{file_stopped, file_walked}
use Rattle.loading.proofs.load_file.Goals as goal

pub walk_file-requires-clause-every : goal.walk_file-requires-clause-every
walk_file-requires-clause-every c = items_in_sound c.read_file-f.ensures

pub returns-in-Err : goal.returns-in-Err
returns-in-Err c = rw c.into.ensures (file_stopped _ _ c.in-Err.stop (sym c.in-Err.is ∙ c.read_file-f.ensures.reading) c.set_mark.ensures)

pub returns : goal.returns
returns c = file_walked _ _ (sym c.in_default.is ∙ c.read_file-f.ensures.reading) (tables_hold c.read_file-f.ensures) c.walk_file.ensures
