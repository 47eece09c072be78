-- What a step opens, and what is found behind it, by the walk's lemmas.
use Rattle.std.proofs.Common.{◌-◌, sym, ap, arith, subst}
use Rattle.lines.specs.Answers.{state_of}
use Rattle.steps.specs.Steps.{text_action_limit}
use Rattle.steps.specs.Nesting.{read_steps, read_plan}
use Rattle.steps.specs.Shrinking.{remaining, form_shrinks}
use Rattle.step_reading.specs.Finding.{Finds}
use Rattle.step_reading.proofs.Opening.{action_opens, plan_opens, neither_opens}
use Rattle.step_reading.proofs.Walking.{walking_action, walking_plan, walking_barred, walking_done, finds_counted}
use Rattle.step_reading.proofs.+read_plan_read_steps.Goals as goal
use Rattle.step_reading.proofs.+read_plan_read_steps.Goals.{read_steps-then-next-eq-ACTION_STEP, read_steps-else-next-eq-ACTION_STEP+then-next-eq-PLAN_STEP}

pub read_plan-read_steps-requires : goal.read_plan-read_steps-requires
read_plan-read_steps-requires t c =
    let a = c.args in
    let same = ap (λ p. p.count) c.moved.ensures in
    let moved = ap (λ p. remaining (state_of a.s.now p.cursor)) c.moved.ensures in
    let left = ap remaining c.read_count-counted.ensures.state in
    (omega (arith, c.decreases, moved, left, form_shrinks (state_of a.s.now a.p.cursor), c.requires.0), omega (arith, same, c.requires.1))

pub read_plan-returns : goal.read_plan-returns
read_plan-returns t c =
    let a = c.args in
    let counted = c.read_count-counted in
    finds_counted a.s.now a.levels a.p c.read_steps.result counted.result c.requires.0 counted.ensures
    (subst (λ p. Finds a.s.now p c.read_steps.result
    (read_steps (read_plan (a.levels - 1)) (a.levels - 1) counted.result.value (text_action_limit - p.count) (state_of a.s.now p.cursor)))
    c.moved.ensures c.read_steps.ensures)

pub read_steps-take_action-found-requires : goal.read_steps-take_action-found-requires
read_steps-take_action-found-requires t c =
    let a = c.args in
    let found = c.loop-i.found in
    let some = (action_opens a.s.now a.levels (text_action_limit - found.count) (state_of a.s.now found.cursor) c.open_step-next.result
    c.open_step-next.ensures c.if-next-eq-ACTION_STEP.true).some in
    omega arith

pub read_steps-read_plan-found-requires : goal.read_steps-read_plan-found-requires
read_steps-read_plan-found-requires t c =
    let a = c.args in
    let found = c.loop-i.found in
    let step = c.open_step-next in
    let opens = plan_opens a.s.now a.levels (text_action_limit - found.count) (state_of a.s.now found.cursor) step.result step.ensures c.if-next-eq-PLAN_STEP.true in
    let same = ap (λ p. p.count) c.moved.ensures in
    let moved = ap (λ p. remaining (state_of a.s.now p.cursor)) c.moved.ensures in
    (omega (arith, c.decreases, moved, opens.shrinks, c.loop-i.invariant.shrinks), (opens.some, omega (arith, same, c.loop-i.invariant.room)))

pub read_steps-returns-else-next-eq-PLAN_STEP : goal.read_steps-returns-else-next-eq-PLAN_STEP
read_steps-returns-else-next-eq-PLAN_STEP t c =
    let a = c.args in
    let found = c.loop-i.found in
    let step = c.open_step-next in
    let read = read_steps (read_plan a.levels) a.levels a.k (text_action_limit - a.p.count) (state_of a.s.now a.p.cursor) in
    subst (λ r. Finds a.s.now a.p r read) (sym c.moved-else-next-eq-PLAN_STEP.ensures)
    (walking_barred c.loop-i.invariant step.result.cursor c.loop-i-test.true
    (neither_opens a.s.now a.levels (text_action_limit - found.count) (state_of a.s.now found.cursor) step.result step.ensures
    c.if-next-eq-ACTION_STEP.false c.if-next-eq-PLAN_STEP.false))

pub read_steps-loop-i-preserved : goal.read_steps-loop-i-preserved
read_steps-loop-i-preserved t c =
    let a = c.args in
    let found = c.loop-i.found in
    let step = c.open_step-next in
    elim c.if-next-eq-ACTION_STEP.branch [
      | read_steps-then-next-eq-ACTION_STEP w ↦
          let taken = w.take_action-found in
          rw w.found-is
          (walking_action c.loop-i.invariant taken.result step.result.cursor c.loop-i-test.true
          (action_opens a.s.now a.levels (text_action_limit - found.count) (state_of a.s.now found.cursor) step.result step.ensures w.if-next-eq-ACTION_STEP.true)
          taken.ensures.list taken.ensures.count taken.ensures.state)
      | read_steps-else-next-eq-ACTION_STEP+then-next-eq-PLAN_STEP w ↦
          let plan = w.read_plan-found in
          rw w.found-is
          (walking_plan c.loop-i.invariant plan.result step.result.cursor c.loop-i-test.true
          (plan_opens a.s.now a.levels (text_action_limit - found.count) (state_of a.s.now found.cursor) step.result step.ensures w.if-next-eq-PLAN_STEP.true)
          (subst (λ p. Finds a.s.now p plan.result (read_plan a.levels (text_action_limit - p.count) (state_of a.s.now p.cursor))) w.moved.ensures plan.ensures))
    ]

pub read_steps-returns : goal.read_steps-returns
read_steps-returns t c = walking_done c.loop-i.invariant c.loop-i-test.false
