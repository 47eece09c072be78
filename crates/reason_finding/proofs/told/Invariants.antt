-- `reason_finding::told` meets its contract. The loop's invariant: the ids of the claims passed stand in the array, and the walk goes on from the
-- place that it stands at (Climbing). The measure is that place, which goes down. Assumes nothing.
use Rattle.std.proofs.Common.{◌-◌}
use Rattle.reasons.specs.Uses.{chain_limit}
use Rattle.reason_finding.proofs.Climbing.{Climbing}
use Rattle.reason_finding.proofs.told.Given as goal

abbrev pub invariant-loop-up : goal.invariant-loop-up
invariant-loop-up l = Climbing l.sheet l.ups l.from l.chain l.keeper l.at l.up l.count

abbrev pub decreases-loop-up : goal.decreases-loop-up
decreases-loop-up l = chain_limit - l.count
