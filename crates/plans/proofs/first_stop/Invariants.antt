-- `plans::first_stop` meets its contract. The loop's invariant: what stops the plan is what stops it from there on (Stopping). Assumes nothing.
use Rattle.plans.specs.Stopping.{Stopping}
use Rattle.plans.proofs.first_stop.Given as goal

abbrev pub invariant-loop-position : goal.invariant-loop-position
invariant-loop-position l = Stopping l.names l.n l.fn.p l.position-end l.position
