-- `text::names::pack_name` meets its contract: six bytes, each behind the ones before.
-- Assumes nothing.
use Rattle.std.proofs.Common.{rules, ◌≡◌, arith, get_or}
use Rattle.std.proofs.lemmas.Option.{unwrap_or-slice_get}
use Rattle.text.proofs.NameLaws.{packed_start, packed_room, packed_step, packed_end}
use Rattle.text.proofs.names.pack_name.Goals as goal

pub loop-k-init : goal.loop-k-init
loop-k-init c = packed_start _

pub overflow_mul-name : goal.overflow_mul-name
overflow_mul-name c = omega (arith, packed_room c.loop-k.invariant c.loop-k-test.true)

pub overflow_add-name : goal.overflow_add-name
overflow_add-name c = omega (arith, packed_room c.loop-k.invariant c.loop-k-test.true)

pub loop-k-preserved : goal.loop-k-preserved
loop-k-preserved c =
    let byte : c.from.result ≡ get_or c.args.field.now c.loop-k.k 0 = search (rules, unwrap_or-slice_get) in
    packed_step c.loop-k.invariant byte (omega arith)

pub returns : goal.returns
returns c =
    let last : c.loop-k.k ≡ 6 = omega arith in
    packed_end (rw last at c.loop-k.invariant)
