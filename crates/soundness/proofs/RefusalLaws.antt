-- Memory that is not sound refuses every call alike.
use Prim.Native.Nat.{ℕ}
use native.Mathlib.Omega.{arith}
use mathlib.Core.List.{List}
use mathlib.Core.Logic.{◌≢◌}
use mathlib.Core.Path.{◌≡◌, sym, ap, ◌∙◌}
use Rattle.rules.specs.Answers.{reason_number}
use Rattle.rules.specs.Calls.{LentOf, Lent, wrong_length, damaged, holding}
use Rattle.rules.specs.declared.answer.Reason.{Reason}
use Rattle.rules.specs.declared.answer.Reason.TheVariants.{Buffer, Damaged, Reset, Frozen, TooLong, Line, Place, List as TheList, Room, Overlap, Arg, Range, Duplicate, Table, Name, Out, Fields, Number, Symbol, Marker, «Type», Feed}
use Rattle.state.specs.Layout.{lent}
use Rattle.soundness.specs.Checks.{refused_by, Refusal}

-- no reason is DONE
pub reason_refuses : (e : Reason) → reason_number e ≢ 0
reason_refuses Buffer = omega arith
reason_refuses Damaged = omega arith
reason_refuses Reset = omega arith
reason_refuses Frozen = omega arith
reason_refuses TooLong = omega arith
reason_refuses Line = omega arith
reason_refuses Place = omega arith
reason_refuses TheList = omega arith
reason_refuses Room = omega arith
reason_refuses Overlap = omega arith
reason_refuses Arg = omega arith
reason_refuses Range = omega arith
reason_refuses Duplicate = omega arith
reason_refuses Table = omega arith
reason_refuses Name = omega arith
reason_refuses Out = omega arith
reason_refuses Fields = omega arith
reason_refuses Number = omega arith
reason_refuses Symbol = omega arith
reason_refuses Marker = omega arith
reason_refuses «Type» = omega arith
reason_refuses Feed = omega arith

module _ {A X : Type 0} (F : LentOf A → X) (stop : ℕ → X) (short : F wrong_length ≡ stop 1) (broke : F damaged ≡ stop 2) where
  pub refused_by_lem : (l : LentOf A) (e : Reason) → reason_number e ≡ refused_by l → F l ≡ stop (reason_number e)
  unfolding refused_by
  refused_by_lem wrong_length e q = short ∙ ap stop (sym q)
  refused_by_lem damaged e q = broke ∙ ap stop (sym q)
  refused_by_lem (holding s) e q = absurd (reason_refuses e q)

module _ {X : Type 0} (F : Lent → X) (stop : ℕ → X) (short : F wrong_length ≡ stop 1) (broke : F damaged ≡ stop 2) where
  pub refused : {cells : List ℕ} (e : Reason) → Refusal cells (reason_number e) → F (lent cells) ≡ stop (reason_number e)
  refused {cells} e r = refused_by_lem F stop short broke (lent cells) e r.is
