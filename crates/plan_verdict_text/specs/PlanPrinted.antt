-- Believed: The lines that the program for plan texts prints, of the register's text and the plan's.
use Rattle.std.specs.Prelude.{ℕ, cond, List, [], ◌++◌, eqb, Result, Err, Ok}
use Rattle.lists.specs.Bytes.{bytes}
use Rattle.refusals.specs.Refusals.{number_of}
use Rattle.refusals.specs.declared.Refusal.{Refusal}
use Rattle.refusals.specs.declared.Refusal.TheVariants.{Unsound, Absent}
use Rattle.actions.specs.declared.Judgement.{Judgement}
use Rattle.actions.specs.declared.Judgement.TheVariants.{Permitted, Refused, Cancelled}
use Rattle.lines.specs.Lines.{decimal_line}
use Rattle.text_rules.specs.Records.{texts}
use Rattle.text_rules.specs.Registers.{register_read}
use Rattle.steps.specs.Judging.{verdicts_in, plan_text_judged}
use Rattle.steps.specs.declared.PlanTextVerdict.{PlanTextVerdict}
use Rattle.verdict_printing.specs.Printed.{permitted_line, refused_line, violations_key, refusal_key, unless_refused}

-- the fixed lines, and the keys of the others, beside those of an action's verdict
abbrev pub plan_judged_line : List ℕ
plan_judged_line = bytes "plan=judged\n"

abbrev pub plan_stopped_line : List ℕ
plan_stopped_line = bytes "plan=stopped\n"

abbrev pub cancelled_line : List ℕ
cancelled_line = bytes "verdict=cancelled\n"

abbrev pub verdicts_key : List ℕ
verdicts_key = bytes "verdicts="

abbrev pub line_key : List ℕ
line_key = bytes "line="

abbrev pub position_key : List ℕ
position_key = bytes "position="

-- the verdict on an action: permitted, refused with its number of violations, or cancelled
abbrev pub judgement_text : Judgement → List ℕ
judgement_text Permitted = permitted_line
judgement_text (Refused violations) = refused_line ++ decimal_line violations_key violations
judgement_text Cancelled = cancelled_line

-- the number of verdicts, and each of them in reading order
unfoldable pub verdicts_text : PlanTextVerdict → List ℕ
verdicts_text v = decimal_line verdicts_key v.count ++ texts judgement_text (verdicts_in v)

-- a refusal prints `plan=stopped` and `refusal=` with its number
unfoldable pub plan_stopped_text : Refusal → List ℕ
plan_stopped_text why = plan_stopped_line ++ decimal_line refusal_key (number_of why)

-- what a refusal of the plan names: 3 the position of the action, 1 nothing, those of the text their line
unfoldable pub place_text : Refusal → ℕ → ℕ → List ℕ
place_text why line position =
    cond (eqb (number_of why) (number_of Absent)) (decimal_line position_key position)
    (cond (eqb (number_of why) (number_of Unsound)) [] (decimal_line line_key line))

abbrev pub plan_answer_lines : Result Unit Refusal → PlanTextVerdict → List ℕ
plan_answer_lines (Ok _) v = plan_judged_line ++ verdicts_text v
plan_answer_lines (Err why) v = plan_stopped_text why ++ place_text why v.line v.position

unfoldable pub plan_answer_text : PlanTextVerdict → List ℕ
plan_answer_text v = plan_answer_lines v.outcome v

-- what the program prints of a register's text, then a plan's; a register that is refused stops
unfoldable pub plan_printed : List ℕ → List ℕ → List ℕ
plan_printed register plan =
    unless_refused plan_stopped_text (register_read register).outcome (plan_answer_text (plan_text_judged (register_read register).register plan))
