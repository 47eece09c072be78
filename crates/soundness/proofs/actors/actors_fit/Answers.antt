-- `soundness::actors::actors_fit` meets its contract. Assumes nothing.
use Rattle.std.proofs.Common.{sym, arith}
use Rattle.soundness.proofs.Passing.{judging_start, judging_no, judging_next}
use Rattle.soundness.proofs.actors.actors_fit.Goals as goal

pub loop-i-init : goal.loop-i-init
loop-i-init c = judging_start (omega arith)

pub returns-then-not-actor_fits : goal.returns-then-not-actor_fits
returns-then-not-actor_fits c = sym (judging_no c.loop-i.invariant c.loop-i-test.true c.actor_fits.ensures c.if-not-actor_fits.true)

pub loop-i-preserved : goal.loop-i-preserved
loop-i-preserved c = judging_next c.loop-i.invariant c.loop-i-test.true c.actor_fits.ensures c.if-not-actor_fits.false
