-- `proposing::first_marked` meets its contract. The loop's invariant: what is looked for among all is what is looked for from `i` on (Passing).
-- Assumes nothing.
use Rattle.proposing.proofs.Passing.{Passing}
use Rattle.proposing.proofs.first_marked.Given as goal

abbrev pub invariant-loop-i : goal.invariant-loop-i
invariant-loop-i l = Passing l.holders l.marks l.n l.g l.i
