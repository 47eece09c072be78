-- `coverage::gathering::ends` meets its contract: a claim's end is that behind its parent where one stands before it, and else that behind the end of
-- all moments (Ending). Assumes nothing.
use Rattle.std.proofs.Common.{arith}
use Rattle.coverage.proofs.Ending.{ending_start, ending_drawn, ending_root, ending_done}
use Rattle.coverage.proofs.gathering.ends.Goals as goal
use Rattle.coverage.proofs.gathering.ends.Goals.{then-up-i, else-up-i}

pub loop-i-init : goal.loop-i-init
loop-i-init c = ending_start (omega arith)

pub loop-i-preserved : goal.loop-i-preserved
loop-i-preserved c =
    elim c.if-up-i.branch [
      | then-up-i w ↦ ending_drawn c.loop-i.invariant c.loop-i-test.true w.if-up-i.true (cc (c.end_under.ensures, w.most-is))
      | else-up-i w ↦ ending_root c.loop-i.invariant c.loop-i-test.true w.if-up-i.false (cc (c.end_under.ensures, w.most-is))
    ]

pub returns : goal.returns
returns c = ending_done c.loop-i.invariant c.loop-i-test.false
