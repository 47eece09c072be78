-- The invariant of the loop of `soundness::actors::human_ids`: the array is filled from the front (Naming).
use Rattle.soundness.proofs.Naming.{Naming}
use Rattle.soundness.proofs.actors.human_ids.Given as goal

abbrev pub invariant-loop-i : goal.invariant-loop-i
invariant-loop-i l = Naming l.names l.kinds l.n l.top l.i l.humans
