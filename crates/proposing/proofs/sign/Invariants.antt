-- `proposing::sign` meets its contract. The loop's invariant: what is answered of all signers is what is answered of those from `i` on (Answering).
-- Assumes nothing.
use Rattle.proposing.specs.Planned.{signing_by}
use Rattle.proposing.proofs.Answering.{Hearing}
use Rattle.proposing.proofs.sign.Given as goal

abbrev pub invariant-loop-g : goal.invariant-loop-g
invariant-loop-g l = Hearing (signing_by l.counts l.found l.sheet l.marks l.blank) l.fn.s l.top l.g-index
