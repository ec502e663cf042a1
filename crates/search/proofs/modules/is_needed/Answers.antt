use Rattle.std.proofs.Common.{rules, tests}
use mathlib.Core.List.{map}
use mathlib.Core.Path.{sym, ap, ◌∙◌}
use Rattle.state.specs.Layout.{decode}
use Rattle.tables.specs.Tables.{parts_of}
use Rattle.tables.specs.Iter.{part_at, parts_left}
use Rattle.tables.proofs.PairLaws.{any_part, pairs_are}
use Rattle.search.proofs.ModuleLaws.{needs, needed_in, needed_is, needed_pass}
use Rattle.search.proofs.modules.is_needed.Goals as goal

pub returns : goal.returns
returns c =
    let s = decode c.args.state.now in
    any_part (needs s) c.of.result c.any.new.self c.any.ensures.ran (λ x b q k. search (rules, tests))
    ∙ needed_pass s (parts_left c.of.result)
    ∙ ap (λ xs. needed_in s (map part_at xs)) c.of.ensures
    ∙ ap (needed_in s) (pairs_are c.args.cells.now)
    ∙ sym (needed_is s 0 (parts_of c.args.cells.now))
