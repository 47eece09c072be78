-- A number with a comma behind it is one more of the list; the closing mark ends it; anything else, and a 33rd number, is no list.
use Rattle.std.proofs.Common.{arith}
use Rattle.json_reading.proofs.Lists.{listing_start, listing_missed, listing_full, listing_broken, listing_more, listing_done}
use Rattle.json_reading.proofs.numbers.read_items.Goals as goal

pub loop-count-init : goal.loop-count-init
loop-count-init c = listing_start _ _ _ _

pub loop-count-preserved : goal.loop-count-preserved
loop-count-preserved c =
    let read = c.in_ok-n.ensures in
    let says = rw c.in-More.is at c.in_ok-next.ensures in
    listing_more c.loop-count.invariant _ _ read.0 c.requires c.loop-count-test.true _ (omega arith) says.0

pub returns-in-Done : goal.returns-in-Done
returns-in-Done c =
    let read = c.in_ok-n.ensures in
    let says = rw c.in-Done.is at c.in_ok-next.ensures in
    listing_done c.loop-count.invariant _ _ read.0 c.requires c.loop-count-test.true _ (omega arith) says.0 says.1.1

pub returns-in_err-next : goal.returns-in_err-next
returns-in_err-next c =
    rw c.from_residual-in_err-next.ensures (listing_broken c.loop-count.invariant _ _ c.in_ok-n.ensures.0 c.in_err-next.ensures)

pub returns-in_err-n : goal.returns-in_err-n
returns-in_err-n c = rw c.from_residual.ensures (listing_missed c.loop-count.invariant c.in_err-n.ensures)

pub returns : goal.returns
returns c = listing_full c.loop-count.invariant c.loop-count-test.false
