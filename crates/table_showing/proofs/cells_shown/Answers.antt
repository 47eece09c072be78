-- `table_showing::cells_shown`: the answers to the goals that the check leaves open. Assumes nothing.
use Rattle.lists.specs.Fills.{filling_next}
use Rattle.table_showing.proofs.cells_shown.Goals as goal

pub loop-i-preserved : goal.loop-i-preserved
loop-i-preserved c = filling_next c.loop-i.invariant _ c.loop-i-test.true c.cell_number.ensures
