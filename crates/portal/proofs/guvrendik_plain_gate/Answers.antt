-- The plain gate's answer is the gate's (`gate_same`).
use Rattle.std.proofs.Common.{ap, ◌∙◌}
use Rattle.coverage_table.proofs.Sameness.{gate_same}
use Rattle.answers.specs.Answers.{gate_answer}
use Rattle.portal.proofs.guvrendik_plain_gate.Goals as goal

pub returns : goal.returns
returns c = c.gate_numbers.ensures ∙ ap gate_answer (c.gate.ensures ∙ gate_same _ _)
