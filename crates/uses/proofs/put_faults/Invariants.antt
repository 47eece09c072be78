-- `uses::put_faults` meets its contract. The loop's invariant: what is left to be put is the violations of the uses left (Faulting). Assumes nothing.
use Rattle.uses.proofs.Faulting.{Faulting}
use Rattle.uses.proofs.put_faults.Given as goal

abbrev pub invariant-loop-i : goal.invariant-loop-i
invariant-loop-i l = Faulting l.relied l.theirs l.owned l.publics l.fn.uses l.i-end l.i l.initial.vs l.vs
