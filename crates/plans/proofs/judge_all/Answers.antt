-- `plans::judge_all` meets its contract: an action after the first with a flag set is cancelled, and any other is judged. Assumes nothing.
use Rattle.std.proofs.Common.{ap, ◌∙◌}
use Rattle.gate.specs.Laws.{judged_most}
use Rattle.plans.specs.Judgements.{judged_as}
use Rattle.plans.specs.Judging.{judging_next, judging_done}
use Rattle.plans.proofs.judge_all.Goals as goal
use Rattle.plans.proofs.judge_all.Goals.{then-cancelled, else-cancelled}

-- there are never more violations than places
pub verdict_by-what-requires : goal.verdict_by-what-requires
verdict_by-what-requires c = rw c.judge-judged.ensures (judged_most _ _)

pub loop-i-preserved : goal.loop-i-preserved
loop-i-preserved c =
    judging_next _ c.loop-i.invariant _ c.loop-i-test.true
    (elim c.if-cancelled.branch [
      | then-cancelled w ↦ rw (w.if-cancelled.true, w.what-is)
      | else-cancelled w ↦
          rw (w.if-cancelled.false, w.what-is) (w.verdict_by-what.ensures ∙ ap (λ y. judged_as y.violations.count) w.judge-judged.ensures)
    ])

pub returns : goal.returns
returns c = judging_done _ c.loop-i.invariant c.loop-i-test.false
