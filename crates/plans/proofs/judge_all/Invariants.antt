-- `plans::judge_all` meets its contract. The loop's invariant: the verdicts on the actions passed are in their places, and those left follow
-- (Holding). Assumes nothing.
use Rattle.gate.specs.Judged.{lent_from}
use Rattle.plans.specs.Judgements.{judgements_by}
use Rattle.plans.specs.Holding.{Holding}
use Rattle.plans.proofs.judge_all.Given as goal

abbrev pub invariant-loop-i : goal.invariant-loop-i
invariant-loop-i l =
    Holding (judgements_by (lent_from l.fn.lent)) l.fn.p l.count l.list l.flagged l.i
