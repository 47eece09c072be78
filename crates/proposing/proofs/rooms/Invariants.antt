-- `proposing::rooms` meets its contract. The loop's invariant: the rooms of the claims passed are in their places (Rooming), so that of a parent,
-- which stands before its child, is read from among them. Assumes nothing.
use Rattle.proposing.proofs.Rooming.{Rooming}
use Rattle.proposing.proofs.rooms.Given as goal

abbrev pub invariant-loop-i : goal.invariant-loop-i
invariant-loop-i l = Rooming l.step l.x l.ups l.grantors l.holders l.n l.i l.found
