-- `paper::walk` meets its contract. The loop's invariant: the claims before place `i` are remarked on and entered (Walking). Assumes nothing.
use Rattle.paper.proofs.Walking.{Walking}
use Rattle.paper.proofs.walk.Given as goal

abbrev pub invariant-loop-i : goal.invariant-loop-i
invariant-loop-i l =
    Walking l.fn.r l.sheet l.ups l.reports l.actor l.owner l.moment l.i l.own l.theirs l.hops l.lives
