-- One more verdict has its numbers in its place (Filling).
use Rattle.answers.proofs.Filling.{filling_next}
use Rattle.answers.proofs.judged.Goals as goal

pub loop-i-preserved : goal.loop-i-preserved
loop-i-preserved g c = filling_next c.loop-i.invariant _ c.loop-i-test.true c.judgement.ensures
