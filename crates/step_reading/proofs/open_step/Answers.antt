-- An action needs room and a plan needs a level, and both are asked at the step's own line.
use Rattle.std.proofs.Common.{◌-◌, arith}
use Rattle.lines.specs.Answers.{state_of}
use Rattle.steps.specs.Steps.{text_action_limit}
use Rattle.step_reading.proofs.Opening.{opens_action, opens_many, opens_deep, opens_plan, opens_neither}
use Rattle.step_reading.proofs.open_step.Goals as goal
use Rattle.step_reading.proofs.open_step.Goals.{else-step-eq-PLAN_STEP-via-then-step-eq-PLAN_STEP+else-levels-eq0, else-step-eq-PLAN_STEP-via-else-step-eq-PLAN_STEP}

pub returns-then-count-ge-TEXT_ACTIONS : goal.returns-then-count-ge-TEXT_ACTIONS
returns-then-count-ge-TEXT_ACTIONS c =
    let a = c.args in
    let step = c.read_step-step in
    let full = c.if-count-ge-TEXT_ACTIONS.true in
    opens_many a.s.now a.levels (text_action_limit - a.count) step.result (state_of a.s.now a.c) c.refused.result step.ensures
    c.if-step-eq-ACTION_STEP.true (omega arith) c.refused.ensures

pub returns-then-step-eq-ACTION_STEP : goal.returns-then-step-eq-ACTION_STEP
returns-then-step-eq-ACTION_STEP c =
    let a = c.args in
    let step = c.read_step-step in
    let some = c.if-count-ge-TEXT_ACTIONS.false in
    opens_action a.s.now a.levels (text_action_limit - a.count) step.result (state_of a.s.now a.c) step.ensures c.if-step-eq-ACTION_STEP.true (omega arith)

pub returns-then-levels-eq0 : goal.returns-then-levels-eq0
returns-then-levels-eq0 c =
    let a = c.args in
    let step = c.read_step-step in
    opens_deep a.s.now a.levels (text_action_limit - a.count) step.result (state_of a.s.now a.c) c.refused-then-levels-eq0.result step.ensures
    c.if-step-eq-PLAN_STEP.true c.if-levels-eq0.true c.refused-then-levels-eq0.ensures

pub returns : goal.returns
returns c =
    let a = c.args in
    let step = c.read_step-step in
    let room = text_action_limit - a.count in
    elim c.else-step-eq-PLAN_STEP.branch [
      | else-step-eq-PLAN_STEP-via-then-step-eq-PLAN_STEP+else-levels-eq0 w ↦
          opens_plan a.s.now a.levels room step.result (state_of a.s.now a.c) step.ensures w.if-step-eq-PLAN_STEP.true w.if-levels-eq0.false
      | else-step-eq-PLAN_STEP-via-else-step-eq-PLAN_STEP w ↦
          opens_neither a.s.now a.levels room step.result (state_of a.s.now a.c) step.ensures c.if-step-eq-ACTION_STEP.false w.if-step-eq-PLAN_STEP.false
    ]
