-- None of the actions passed stops the plan, their verdicts are in their places, and those left follow (Judging).
use Rattle.gate.specs.Judged.{lent_from}
use Rattle.nested_plans.proofs.Judging.{Judging}
use Rattle.nested_plans.proofs.judge_places.Given as goal

abbrev pub invariant-loop-i : goal.invariant-loop-i
invariant-loop-i l =
    Judging (lent_from l.lent) l.lent.found.now.actors.names l.lent.counts.actors l.text l.p l.list l.flagged l.i
