-- `plain_gate::hops_in`: the answers to the goals that the check leaves open. Assumes nothing.
use Rattle.lists.specs.Fills.{filling_next, filling_end}
use Rattle.plain_gate.specs.Cells.{cell_hops}
use Rattle.plain_gate.proofs.hops_in.Goals as goal

pub loop-i-preserved : goal.loop-i-preserved
loop-i-preserved c =
    filling_next c.loop-i.invariant _ c.loop-i-test.true c.hops_told.ensures

pub returns : goal.returns
unfolding cell_hops
returns c =
    rw (← c.min.ensures, ← c.min-top.ensures) (filling_end c.loop-i.invariant c.loop-i-test.false)
