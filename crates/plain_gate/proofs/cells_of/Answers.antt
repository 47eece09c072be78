-- `plain_gate::cells_of`: the answers to the goals that the check leaves open. Assumes nothing.
use Rattle.lists.specs.Fills.{filling_next, filling_end}
use Rattle.plain_gate.specs.Cells.{cells_of}
use Rattle.plain_gate.proofs.cells_of.Goals as goal

pub loop-i-preserved : goal.loop-i-preserved
loop-i-preserved c =
    filling_next c.loop-i.invariant _ c.loop-i-test.true c.cell_in.ensures

pub returns : goal.returns
unfolding cells_of
returns c = rw (← c.min-top.ensures) (filling_end c.loop-i.invariant c.loop-i-test.false)
