-- `coverage::gathering::spot` meets its contract. The loop's invariant: `at` is the place among the first `i`, of which there are as many in the
-- column. Assumes nothing.
use Rattle.std.proofs.Common.{◌≡◌, ◌≤◌}
use Rattle.coverage.specs.Gathering.{spot_in}
use Rattle.coverage.proofs.gathering.spot.Given as goal

abbrev pub invariant-loop-i : goal.invariant-loop-i
invariant-loop-i l = (l.i ≤ l.i-end) × (l.at ≡ spot_in l.reports l.i l.x)
