-- `plain_gate::put_faults` meets its contract. The loop's invariant: what is left to be put is the violations of the uses left (Faulting). Assumes
-- nothing.
use Rattle.plain_gate.proofs.Faulting.{Faulting}
use Rattle.plain_gate.proofs.put_faults.Given as goal

abbrev pub invariant-loop-i : goal.invariant-loop-i
invariant-loop-i l =
    Faulting l.own l.theirs l.owned l.top l.i l.initial.put l.put
