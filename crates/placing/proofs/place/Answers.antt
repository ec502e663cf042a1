use Rattle.std.proofs.Common.{rules}
use Rattle.std.specs.Prelude.{Err}
use mathlib.Core.Path.{◌≡◌, ap, ◌∙◌}
use Rattle.rules.specs.State.{State}
use Rattle.state.specs.Layout.{decode}
use Rattle.tables.specs.Iter.{parts_in}
use Rattle.order.proofs.OrderedLaws.{same_table}
use Rattle.placing.proofs.PlaceLaws.{no_room_lem, placed_twice, bad_argument_lem, over_range_lem, entry_fault, table_full_lem, can_link, all_done}
use Rattle.placing.proofs.place.Goals as goal

pub returns-then-end-gt-PROGRAM_WORDS : goal.returns-then-end-gt-PROGRAM_WORDS
returns-then-end-gt-PROGRAM_WORDS c = (
  no_room_lem (decode c.args.state.now) (parts_in c.args.parts) c.requires.module_sound c.requires.good.0.tidy.full c.next_address-base.ensures c.survey-extent.ensures.length_is c.requires.good.0 c.if-end-gt-PROGRAM_WORDS.true,
  c.requires.good.1,
)

pub returns-in_err-lay : goal.returns-in_err-lay
returns-in_err-lay c =
    let told : c.from_residual.result ≡ Err c.in_err-lay.field-0.0 = search rules in (
      rw told (placed_twice (decode c.args.state.now) (parts_in c.args.parts) c.requires.module_sound c.requires.good.0.tidy.full c.next_address-base.ensures c.survey-extent.ensures.length_is c.if-end-gt-PROGRAM_WORDS.false c.in_err-lay.ensures),
      same_table c.in_err-lay.ensures.table_is c.requires.good.1,
    )

pub returns-then-bad_arguments : goal.returns-then-bad_arguments
returns-then-bad_arguments c = (
  bad_argument_lem (decode c.args.state.now) (parts_in c.args.parts) c.requires.module_sound c.requires.good.0.tidy.full c.next_address-base.ensures c.survey-extent.ensures.length_is c.if-end-gt-PROGRAM_WORDS.false c.in_ok-lay.ensures c.survey-extent.ensures.externals_is c.bad_arguments.ensures c.if-bad_arguments.true,
  same_table c.in_ok-lay.ensures.table_is c.requires.good.1,
)

pub returns-then-out_of_range : goal.returns-then-out_of_range
returns-then-out_of_range c = (
  over_range_lem (decode c.args.state.now) (parts_in c.args.parts) c.requires.module_sound c.requires.good.0.tidy.full c.next_address-base.ensures c.survey-extent.ensures.length_is c.if-end-gt-PROGRAM_WORDS.false c.in_ok-lay.ensures c.survey-extent.ensures.externals_is c.bad_arguments.ensures c.if-bad_arguments.false c.out_of_range.ensures c.if-out_of_range.true,
  same_table c.in_ok-lay.ensures.table_is c.requires.good.1,
)

pub returns-in_err-enter : goal.returns-in_err-enter
returns-in_err-enter c =
    let told : c.from_residual-in_err-enter.result ≡ Err c.in_err-enter.field-0.0 = search rules in (
      rw told (entry_fault (decode c.args.state.now) (parts_in c.args.parts) c.requires.module_sound c.requires.good.0.tidy.full c.next_address-base.ensures c.survey-extent.ensures.length_is c.if-end-gt-PROGRAM_WORDS.false c.in_ok-lay.ensures c.survey-extent.ensures.externals_is c.bad_arguments.ensures c.if-bad_arguments.false c.out_of_range.ensures c.if-out_of_range.false c.in_err-enter.ensures.0),
      c.in_err-enter.ensures.1,
    )

pub returns-in_err-at : goal.returns-in_err-at
returns-in_err-at c =
    let told : c.from_residual-in_err-at.result ≡ Err c.in_err-at.field-0.0 = search rules in (
      rw told (table_full_lem (decode c.args.state.now) (parts_in c.args.parts) c.requires.module_sound c.requires.good.0.tidy.full c.next_address-base.ensures c.survey-extent.ensures.length_is c.if-end-gt-PROGRAM_WORDS.false c.in_ok-lay.ensures c.survey-extent.ensures.externals_is c.bad_arguments.ensures c.if-bad_arguments.false c.out_of_range.ensures c.if-out_of_range.false c.in_ok-enter.ensures.0 c.in_err-at.ensures.0),
      c.in_err-at.ensures.1,
    )

pub link-requires-clause-linkable : goal.link-requires-clause-linkable
link-requires-clause-linkable c =
    can_link (decode c.args.state.now) (parts_in c.args.parts) c.requires.module_sound c.requires.good.0.tidy.full c.next_address-base.ensures c.survey-extent.ensures.length_is c.if-end-gt-PROGRAM_WORDS.false c.in_ok-lay.ensures c.survey-extent.ensures.externals_is c.bad_arguments.ensures c.if-bad_arguments.false c.out_of_range.ensures c.if-out_of_range.false c.in_ok-enter.ensures.0 c.in_ok-at.ensures.0 c.requires.module_sound.few_externals

pub returns : goal.returns
returns c = (
  all_done (decode c.args.state.now) (parts_in c.args.parts) c.requires.module_sound c.requires.good.0.tidy.full c.next_address-base.ensures c.survey-extent.ensures.length_is c.if-end-gt-PROGRAM_WORDS.false c.in_ok-lay.ensures c.survey-extent.ensures.externals_is c.bad_arguments.ensures c.if-bad_arguments.false c.out_of_range.ensures c.if-out_of_range.false c.in_ok-enter.ensures.0 c.in_ok-at.ensures.0 c.link.ensures c.set_next.ensures,
  same_table (ap (λ (v : State). v.symbols) c.set_next.ensures.is ∙ ap (λ (v : State). v.symbols) c.link.ensures.is) c.in_ok-at.ensures.1,
)
