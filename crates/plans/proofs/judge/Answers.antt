-- `plans::judge` meets its contract: there are never more violations than places. Assumes nothing.
use Rattle.gate.specs.Laws.{judged_most}
use Rattle.plans.proofs.judge.Goals as goal

pub verdict_by-requires : goal.verdict_by-requires
verdict_by-requires c = rw c.judge-judged.ensures (judged_most _ _)
