-- The invariant of the loop of `paths::walk_components`: at most three dots stand for the component so far, and the path climbs exactly when those
-- dots in front of what is left climb (`Dots`).
use Rattle.std.proofs.Common.{◌≡◌, ◌++◌, ◌≤◌, drop, replicate}
use Rattle.paths.specs.Containment.{dot, climbing}
use Rattle.paths.proofs.walk_components.Given as goal

abbrev pub invariant-loop-b : goal.invariant-loop-b
invariant-loop-b l = (l.dots ≤ 3) × (climbing l.p ≡ climbing (replicate l.dots dot ++ drop l.b-index l.p))
