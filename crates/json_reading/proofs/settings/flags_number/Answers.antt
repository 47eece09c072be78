-- A flag that was not seen ends the count; one that is set adds its worth.
use Rattle.std.proofs.Common.{sym, arith}
use Rattle.json_reading.proofs.Flags.{counting_start, counting_room, counting_set, counting_unset, counting_done, flags_unseen}
use Rattle.json_reading.proofs.settings.flags_number.Lts.{then-set-i, else-set-i}
use Rattle.json_reading.proofs.settings.flags_number.Goals as goal

pub loop-i-init : goal.loop-i-init
loop-i-init c = counting_start _ _

pub returns-then-not-seen-i : goal.returns-then-not-seen-i
returns-then-not-seen-i c =
    let a = c.args in
    sym (flags_unseen a.seen a.set a.next c.loop-i.i c.loop-i-test.true (c.if-not-seen-i.true))

pub overflow_add-flags : goal.overflow_add-flags
overflow_add-flags c = omega (arith, (counting_room c.loop-i.invariant).0, (counting_room c.loop-i.invariant).1)

pub loop-i-preserved : goal.loop-i-preserved
loop-i-preserved c =
    let loop = c.loop-i in
    let inside = c.loop-i-test.true in
    let seen = c.if-not-seen-i.false in
    elim c.if-set-i.branch [
      | then-set-i w ↦ rw w.flags-is (counting_set loop.invariant inside seen w.if-set-i.true)
      | else-set-i w ↦ rw w.flags-is (counting_unset loop.invariant inside seen w.if-set-i.false)
    ]

pub returns : goal.returns
returns c = sym (counting_done c.args.next c.loop-i.invariant c.loop-i-test.false)
