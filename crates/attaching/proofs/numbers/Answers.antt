-- `attaching::numbers`: the answers to the goals that the check leaves open. Assumes nothing.
use Rattle.attaching.proofs.Columns.{filled_next}
use Rattle.attaching.proofs.numbers.Goals as goal

pub loop-i-preserved : goal.loop-i-preserved
loop-i-preserved c = filled_next c.loop-i.invariant _ c.loop-i-test.true
