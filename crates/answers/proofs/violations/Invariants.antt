-- The numbers of the violations passed are in their places, and zeros past them (Filling).
use Rattle.actions.specs.Actions.{violation_limit}
use Rattle.answers.specs.Answers.{violation_numbers, no_violation}
use Rattle.answers.proofs.Filling.{Filling}
use Rattle.answers.proofs.violations.Given as goal

abbrev pub invariant-loop-i : goal.invariant-loop-i
invariant-loop-i l = Filling (λ e. violation_numbers e.what) no_violation violation_limit l.vs.count l.vs.list l.top l.list l.i
