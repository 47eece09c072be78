-- `reason_finding::containers`: the answers to the goals that the check leaves open. Assumes nothing.
use Rattle.std.proofs.Common.{refl}
use Rattle.lists.specs.Fills.{filling_next}
use Rattle.reason_finding.proofs.Marking.{marking_none, marking_next, marking_done}
use Rattle.reason_finding.proofs.containers.Goals as goal

pub returns-then-top-spot : goal.returns-then-top-spot
returns-then-top-spot c = marking_none c.args.o c.args.spot c.min-top.ensures c.if-top-spot.true

pub loop-i-preserved : goal.loop-i-preserved
loop-i-preserved c =
    let a = c.args in
    filling_next c.loop-i.invariant _ c.loop-i-test.true
    (marking_next a.o a.spot c.min-top.ensures c.if-top-spot.false _ refl c.loop-i.i c.loop-i-test.true c.is_within.ensures)

pub returns : goal.returns
returns c =
    let a = c.args in
    marking_done a.o a.spot c.min-top.ensures c.if-top-spot.false c.loop-i.invariant c.loop-i-test.false
