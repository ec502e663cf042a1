use Rattle.loading.proofs.LoadingLaws.{load_done}
use Rattle.loading.proofs.try_load.Goals as goal

pub returns : goal.returns
returns c = load_done _ c.in_ok-check.ensures c.in_ok-shut_by.ensures c.if-file-gt-LONGEST_FILE.false c.load_file.ensures
