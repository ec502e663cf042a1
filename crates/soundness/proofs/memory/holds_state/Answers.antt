use Rattle.soundness.proofs.SoundLaws.{fails, last_decides, header_few, header_from, names_from_lem, values_from, symbols_from_lem, differ_from}
use mathlib.Core.Path.{◌∙◌}
use Rattle.state.proofs.BoolLaws.{refused, passed}
use native.Mathlib.Omega.{arith}
use mathlib.Core.Bool.{not}
use mathlib.Core.Path.{ap}
use Rattle.soundness.proofs.memory.holds_state.Goals as goal

pub returns-then-not-header_sound : goal.returns-then-not-header_sound
returns-then-not-header_sound c = fails c.args.state.now _ (header_from _) (refused _ _ c.header_sound.ensures (ap not c.if-not-header_sound.true))

pub overflow_add-n : goal.overflow_add-n
overflow_add-n c = omega (arith, header_few _ (passed _ _ c.header_sound.ensures (ap not c.if-not-header_sound.false)))

pub returns-then-not-zero_between : goal.returns-then-not-zero_between
returns-then-not-zero_between c = fails _ _ (names_from_lem _) (refused _ _ c.zero_between.ensures (ap not c.if-not-zero_between.true))

pub overflow_add-n-2 : goal.overflow_add-n-2
overflow_add-n-2 c = omega (arith, header_few c.args.state.now (passed _ _ c.header_sound.ensures (ap not c.if-not-header_sound.false)))

pub returns-then-not-zero_between-2 : goal.returns-then-not-zero_between-2
returns-then-not-zero_between-2 c = fails c.args.state.now _ (values_from _) (refused _ _ c.zero_between-2.ensures (ap not c.if-not-zero_between-2.true))

pub symbols_sound-requires : goal.symbols_sound-requires
symbols_sound-requires c = record { state_len = omega (arith, header_few _ (passed _ _ c.header_sound.ensures (ap not c.if-not-header_sound.false))); n_le_most_symbols = omega (arith, header_few _ (passed _ _ c.header_sound.ensures (ap not c.if-not-header_sound.false))) }

pub returns-then-not-symbols_sound : goal.returns-then-not-symbols_sound
returns-then-not-symbols_sound c = fails c.args.state.now _ (symbols_from_lem _) (refused _ _ c.symbols_sound.ensures (ap not c.if-not-symbols_sound.true))

pub names_differ-requires : goal.names_differ-requires
names_differ-requires c = record { state_len = omega (arith, header_few _ (passed _ _ c.header_sound.ensures (ap not c.if-not-header_sound.false))); n_le_most_symbols = omega (arith, header_few _ (passed _ _ c.header_sound.ensures (ap not c.if-not-header_sound.false))) }

pub returns-then-not-names_differ : goal.returns-then-not-names_differ
returns-then-not-names_differ c = fails c.args.state.now _ (differ_from _) (refused _ _ c.names_differ.ensures (ap not c.if-not-names_differ.true))

pub words_sound-requires : goal.words_sound-requires
words_sound-requires c = record { state_len = omega (arith, header_few c.args.state.now (passed _ _ c.header_sound.ensures (ap not c.if-not-header_sound.false))); n_le_most_symbols = omega (arith, header_few c.args.state.now (passed _ _ c.header_sound.ensures (ap not c.if-not-header_sound.false))) }

pub returns : goal.returns
returns c =
    c.words_sound.ensures
    ∙ last_decides _ c.requires c.shared_slice_known-1.given
    (passed _ _ c.header_sound.ensures (ap not c.if-not-header_sound.false))
    (passed _ _ c.zero_between.ensures (ap not c.if-not-zero_between.false))
    (passed _ _ c.zero_between-2.ensures (ap not c.if-not-zero_between-2.false))
    (passed _ _ c.symbols_sound.ensures (ap not c.if-not-symbols_sound.false))
    (passed _ _ c.names_differ.ensures (ap not c.if-not-names_differ.false))
