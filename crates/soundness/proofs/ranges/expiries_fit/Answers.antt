-- `soundness::ranges::expiries_fit` meets its contract. Assumes nothing.
use Rattle.std.proofs.Common.{refl}
use Rattle.soundness.proofs.Asking.{asked_next}
use Rattle.soundness.proofs.ranges.expiries_fit.Goals as goal

pub loop-i-preserved : goal.loop-i-preserved
loop-i-preserved c = asked_next c.loop-i.invariant c.loop-i-test.true refl
