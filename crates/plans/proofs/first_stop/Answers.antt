-- `plans::first_stop` meets its contract: the first action that is refused stops the plan (Stopping). Assumes nothing.
use Rattle.plans.specs.Stopping.{stopping_here, stopping_next, stopping_done}
use Rattle.plans.proofs.first_stop.Goals as goal

pub returns-in-Err : goal.returns-in-Err
returns-in-Err c =
    rw c.in-Err.is (stopping_here c.loop-position.invariant _ c.loop-position-test.true c.action_outcome-outcome.ensures c.in-Err.is)

pub loop-position-preserved : goal.loop-position-preserved
loop-position-preserved c =
    stopping_next c.loop-position.invariant _ c.loop-position-test.true c.action_outcome-outcome.ensures c.in_default.is

pub returns : goal.returns
returns c = stopping_done c.loop-position.invariant c.loop-position-test.false
