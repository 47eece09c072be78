-- `coverage::gathering::ends` meets its contract. The loop's invariant: the ends of the claims passed are in their places (Ending), so the end of a
-- parent, which stands before its child, is read from among them. Assumes nothing.
use Rattle.coverage.proofs.Ending.{Ending}
use Rattle.coverage.proofs.gathering.ends.Given as goal

abbrev pub invariant-loop-i : goal.invariant-loop-i
invariant-loop-i l = Ending l.weights l.expiries l.ups l.n l.i-end l.i l.found
