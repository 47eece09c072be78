-- The invariant of the loop of `soundness::actors::actors_fit`: every actor fits where every one of what is left does (Judging).
use Rattle.soundness.proofs.Passing.{Judging}
use Rattle.soundness.proofs.actors.actors_fit.Given as goal

abbrev pub invariant-loop-i : goal.invariant-loop-i
invariant-loop-i l = Judging l.names l.kinds l.owners l.n l.top l.i
