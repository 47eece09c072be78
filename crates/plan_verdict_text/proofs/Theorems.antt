-- What is proved of the text that the program for plan texts prints of a register's text and a plan's, over the definitions that the contract of
-- `plan_verdict_text` cites. Assumes nothing.
use Rattle.std.proofs.Common.{Err, Ok, ℕ, ◌≡◌, false, List, ◌++◌, length}
use Rattle.refusals.specs.declared.Refusal.{Refusal}
use Rattle.refusals.specs.declared.Refusal.TheVariants.{Absent}
use Rattle.gate_rules.specs.Plans.{judgements}
use Rattle.lines.specs.Lines.{decimal_line}
use Rattle.text_rules.specs.Records.{texts}
use Rattle.text_rules.specs.Registers.{register_read}
use Rattle.steps.specs.Judging.{plan_text_read, plan_text_judged}
use Rattle.steps.specs.Answers.{OfText}
use Rattle.plan_verdict_text.specs.PlanPrinted.{plan_judged_line, verdicts_key, line_key, position_key, judgement_text, plan_stopped_text, plan_printed}
use Rattle.plan_verdict_text.proofs.Answers as answers

module _ (register plan : List ℕ) where
  -- 1. A register's text that is refused stops the program with its number and no more, whatever the plan's text is.
  pub register_stops_plan : (why : Refusal) → (register_read register).outcome ≡ Err why → plan_printed register plan ≡ plan_stopped_text why
  register_stops_plan = answers.register_stops_plan register plan

  -- 2. Of a plan that is judged "plan=judged" is printed, the number of its actions, and the verdict on each in reading order.
  pub every_verdict_printed : (register_read register).outcome ≡ Ok tt → (plan_text_judged (register_read register).register plan).outcome ≡ Ok tt
      → plan_printed register plan
      ≡ plan_judged_line ++ (decimal_line verdicts_key (length (plan_text_read plan).actions)
      ++ texts judgement_text (judgements (register_read register).register false (plan_text_read plan).actions))
  every_verdict_printed = answers.every_verdict_printed register plan

  -- 3a. A refusal by a line of the plan's text names the line.
  pub line_printed : (why : Refusal) → (register_read register).outcome ≡ Ok tt
      → (plan_text_judged (register_read register).register plan).outcome ≡ Err why → OfText why
      → plan_printed register plan ≡ plan_stopped_text why ++ decimal_line line_key (plan_text_judged (register_read register).register plan).line
  line_printed = answers.line_printed register plan

  -- 3b. A refusal by an action names its position.
  pub position_printed : (register_read register).outcome ≡ Ok tt → (plan_text_judged (register_read register).register plan).outcome ≡ Err Absent
      → plan_printed register plan ≡ plan_stopped_text Absent ++ decimal_line position_key (plan_text_judged (register_read register).register plan).position
  position_printed = answers.position_printed register plan
