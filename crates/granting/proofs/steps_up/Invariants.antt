-- `granting::steps_up` meets its contract. The loop's invariant: the steps made and those still above are all that there are (Columns). Assumes
-- nothing.
use Rattle.granting.proofs.Columns.{Stepping}
use Rattle.granting.proofs.steps_up.Given as goal

abbrev pub invariant-loop-up : goal.invariant-loop-up
invariant-loop-up l = Stepping l.ups l.from l.member l.up l.steps

abbrev pub decreases-loop-up : goal.decreases-loop-up
decreases-loop-up l = l.member
