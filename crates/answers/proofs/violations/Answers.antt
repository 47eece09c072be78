-- One more violation has its numbers in its place (Filling).
use Rattle.answers.proofs.Filling.{filling_next}
use Rattle.answers.proofs.violations.Goals as goal

pub loop-i-preserved : goal.loop-i-preserved
loop-i-preserved c = filling_next c.loop-i.invariant _ c.loop-i-test.true c.violation.ensures
