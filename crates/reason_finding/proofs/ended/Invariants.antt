-- `reason_finding::ended` meets its contract. The loop's invariant: the answer is that of the places left (Looking). Assumes nothing.
use Rattle.reason_finding.proofs.Climbing.{Looking}
use Rattle.reason_finding.proofs.ended.Given as goal

abbrev pub invariant-loop-step : goal.invariant-loop-step
invariant-loop-step l = Looking l.sheet l.ups l.moment l.from l.at l._step
