-- Believed: How a text is read as a plan with plans inside it: the first failing line decides. The levels left fall from plan to sub-plan, the room for
-- actions from step to step.
use Rattle.std.specs.Prelude.{ℕ, zero, suc, ◌+◌, ◌-◌, List, cond, eqb, length}
use Rattle.refusals.specs.declared.Refusal.TheVariants.{Form, TooDeep, TooManyActions}
use Rattle.lines.specs.Lines.{Line, line, beyond, fault, action_step, parse_step}
use Rattle.lines.specs.Reading.{State, going, failed, Read, read_form, closed}
use Rattle.text_rules.specs.Actions.{read_action}
use Rattle.steps.specs.Steps.{Steps, no_step, action_then, plan_then, actions_in, plan_form, level_limit, text_action_limit}

-- what opens a step: an action is next, a sub-plan is next, or the reading has failed
pub data Opening : Type 0 where
  action_next : State → Opening
  plan_next : State → Opening
  barred : State → Opening

-- by what the step's line says, with so many levels and so much room left
abbrev pub opening : ℕ → ℕ → ℕ → Line ℕ → Opening
opening levels room l (line step rest) =
    cond (eqb step action_step) (cond (eqb room 0) (barred (failed TooManyActions l)) (action_next (going rest (l + 1))))
    (cond (eqb levels 0) (barred (failed TooDeep l)) (plan_next (going rest (l + 1))))
opening levels room l beyond = barred (failed Form l)
opening levels room l fault = barred (failed Form l)

-- the line that opens a step
unfoldable pub opened : ℕ → ℕ → State → Opening
opened levels room (going t l) = opening levels room l (parse_step t)
opened levels room (failed why l) = barred (failed why l)

unfoldable pub step_followed : Opening → (State → Read Steps) → (State → Read Steps) → Read Steps
step_followed (action_next st) action plan = action st
step_followed (plan_next st) action plan = plan st
step_followed (barred st) action plan = record { value = no_step; state = st }

-- k steps, where `plan` reads a sub-plan with the room that is left and so many levels are left below
unfoldable pub read_steps : (ℕ → State → Read Steps) → ℕ → ℕ → ℕ → State → Read Steps
read_steps plan levels zero room st = record { value = no_step; state = st }
read_steps plan levels (suc k) room st =
    step_followed (opened levels room st)
    (λ u.
    let one = read_action u in
    let more = read_steps plan levels k (room - 1) one.state in
    record { value = action_then one.value more.value; state = more.state })
    (λ u.
    let inner = plan room u in
    let more = read_steps plan levels k (room - length (actions_in inner.value)) inner.state in
    record { value = plan_then inner.value more.value; state = more.state })

-- a plan, with so many levels left: its count, then its steps. Where no level is left no plan is read: `opened` asks before
unfoldable pub read_plan : ℕ → ℕ → State → Read Steps
read_plan zero room st = record { value = no_step; state = failed TooDeep 1 }
read_plan (suc n) room st =
    let counted = read_form plan_form st in
    read_steps (λ r u. read_plan n r u) n counted.value room counted.state

-- the plan of a text; nothing follows it
unfoldable pub plan_of : List ℕ → Read Steps
plan_of t = let read = read_plan level_limit text_action_limit (going t 1) in record { value = read.value; state = closed read.state }
