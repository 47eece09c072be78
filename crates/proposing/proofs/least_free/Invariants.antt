-- `proposing::least_free` meets its contract. The loop's invariant: the numbers below `id` are all ids (Using). Assumes nothing.
use Rattle.proposing.proofs.Using.{Trying}
use Rattle.proposing.proofs.least_free.Given as goal

abbrev pub invariant-loop-id : goal.invariant-loop-id
invariant-loop-id l = Trying l.sheet l.n l.used l.id
