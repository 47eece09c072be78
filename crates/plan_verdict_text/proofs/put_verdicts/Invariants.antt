-- Behind the line of their number the first verdicts are written (`Going`).
use Rattle.register_writing.specs.Sections.{Going}
use Rattle.plan_verdict_text.specs.PlanPrinted.{judgement_text}
use Rattle.plan_verdict_text.proofs.put_verdicts.Given as goal

abbrev pub invariant-loop-entry : goal.invariant-loop-entry
invariant-loop-entry l = Going judgement_text l.fn.v.list l.fn.v.count l.initial.end l.initial.buf l.entry-index l.end l.buf
