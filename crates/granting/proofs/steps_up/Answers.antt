-- `granting::steps_up` meets its contract (Columns). Assumes nothing.
use Rattle.granting.proofs.Columns.{stepping_next, stepping_done}
use Rattle.granting.proofs.steps_up.Goals as goal

pub loop-up-preserved : goal.loop-up-preserved
loop-up-preserved c = stepping_next c.loop-up.invariant c.loop-up-test.true c.place_above-up-in-loop-up.ensures

pub returns : goal.returns
returns c = stepping_done c.loop-up.invariant c.loop-up-test.false
