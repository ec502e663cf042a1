use Prim.Native.Nat.{ℕ}
use native.Mathlib.Omega.{arith}
use lib.ListN.{replicate, length-replicate}
use Rattle.state.proofs.BoolLaws.{refused}
use Rattle.soundness.proofs.MetLaws.{behind_start, behind_has, behind_step, behind_end, fails_at}
use mathlib.Core.Bool.{not}
use mathlib.Core.Path.{ap}
use Rattle.soundness.proofs.cells.names_differ.Goals as goal

pub loop-i-init : goal.loop-i-init
loop-i-init c = behind_start c.args.state.now c.args.n (replicate {A = ℕ} 4096 0) (length-replicate {A = ℕ} 4096 0)

pub stands_alone-requires : goal.stands_alone-requires
stands_alone-requires c = record { state_len = c.requires.state_len; i_lt_n = (omega (arith, c.loop-i.invariant.within), c.requires.n_le_most_symbols); has_met = behind_has c.args.state.now c.args.n c.loop-i.met c.loop-i.i c.loop-i.invariant c.loop-i-test.true }

pub returns-then-not-stands_alone : goal.returns-then-not-stands_alone
returns-then-not-stands_alone c = fails_at c.args.state.now c.args.n _ (omega (arith, c.loop-i.invariant.within)) (refused _ _ c.stands_alone.ensures.is (ap not c.if-not-stands_alone.true))

pub loop-i-preserved : goal.loop-i-preserved
loop-i-preserved c = behind_step c.args.state.now c.args.n c.loop-i.met c.loop-i.i c.loop-i.invariant c.loop-i-test.true _ c.stands_alone.result c.stands_alone.ensures c.if-not-stands_alone.false

pub returns : goal.returns
returns c = behind_end c.args.state.now c.args.n c.loop-i.met c.loop-i.i c.loop-i.invariant c.loop-i-test.false
