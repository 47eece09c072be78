-- The invariant of the loop of `rights::bars_machine`: `kept` is the sum of the worths before the row that are kept from machines (Kept).
use Rattle.rights.proofs.Kept.{Summing}
use Rattle.rights.proofs.bars_machine.Given as goal

abbrev pub invariant-loop-right : goal.invariant-loop-right
invariant-loop-right l = Summing l.kept l.right-index
