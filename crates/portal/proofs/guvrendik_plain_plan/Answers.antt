-- The plain gate's answer is the plan's (`plan_same`).
use Rattle.std.proofs.Common.{ap, ◌∙◌}
use Rattle.coverage_table.proofs.Sameness.{plan_same}
use Rattle.answers.specs.Answers.{plan_answer}
use Rattle.portal.proofs.guvrendik_plain_plan.Goals as goal

pub returns : goal.returns
returns c = c.plan_numbers.ensures ∙ ap plan_answer (c.plan.ensures ∙ plan_same _ _)
