-- What is proved of plans inside plans, of steps within 8 levels, 64 steps to a plan and 64 actions, each in its ranges (`PlanFits`). Assumes nothing.
use Rattle.std.proofs.Common.{Err, Ok, ℕ, ◌+◌, ◌≤◌, ◌≡◌, List, ◌∷◌, ◌++◌, map, length, replicate}
use Rattle.lists.specs.Lists.{All}
use Rattle.register.specs.declared.Register.{Register}
use Rattle.refusals.specs.declared.Refusal.{Refusal}
use Rattle.refusals.specs.declared.Refusal.TheVariants.{TooDeep, TooManyActions}
use Rattle.actions.specs.Actions.{action_limit}
use Rattle.actions.specs.declared.Action.{Action}
use Rattle.actions.specs.declared.Plan.{Plan}
use Rattle.actions.specs.declared.Judgement.TheVariants.{Cancelled}
use Rattle.lines.specs.Lines.{action_step_line, plan_step_line}
use Rattle.lines.specs.Reading.{failed}
use Rattle.gate_rules.specs.Gate.{violations_of}
use Rattle.gate_rules.specs.Plans.{SameActions, actions_of, judged, planned}
use Rattle.steps.specs.Steps.{Steps, actions_in, plan_text, SameSteps, PlanFits, text_action_limit}
use Rattle.steps.specs.Nesting.{plan_of}
use Rattle.steps.specs.Judging.{plan_text_read, stopped_plan, verdicts_in, flat_judged, plan_text_judged}
use Rattle.steps.specs.Answers.{PlanTextOf, AsPlanned, Refusing}
use Rattle.steps.specs.Opens.{Open, open_text, open_lines, open_actions, bottom, OpenFits}
use Rattle.steps.proofs.Judged as answers
use Rattle.steps.proofs.Halting as halting
use Rattle.steps.proofs.OneText as one
use Rattle.steps.proofs.Barring as barring

-- 1a. The text of steps reads, and gives their actions in reading order.
pub plan_accepted : (s : Steps) → PlanFits s
    → ((plan_text_read (plan_text s)).outcome ≡ Ok tt) × ((plan_text_read (plan_text s)).line ≡ 0) × SameActions (plan_text_read (plan_text s)).actions (actions_in s)
plan_accepted = answers.plan_accepted

-- 1b. And the same steps.
pub plan_read_written : (s : Steps) → PlanFits s → SameSteps (plan_of (plan_text s)).value s
plan_read_written = one.plan_read_written

-- 2. An accepted text is that of such steps, and its actions are theirs.
pub accepted_plan : (t : List ℕ) → (plan_text_read t).outcome ≡ Ok tt → PlanTextOf t
accepted_plan = answers.accepted_plan

-- 3a. Steps with one text have one shape and the same actions one by one.
pub plan_one_text : (s q : Steps) → PlanFits s → PlanFits q → plan_text s ≡ plan_text q → SameSteps s q
plan_one_text = one.plan_one_text

-- 3b. And back.
pub one_plan_text : (s q : Steps) → SameSteps s q → plan_text s ≡ plan_text q
one_plan_text = one.one_plan_text

-- 4a. The answer for the text of steps is that of the flat list of their actions with the limit 64.
pub nested_flat : (r : Register) (s : Steps) → PlanFits s → plan_text_judged r (plan_text s) ≡ flat_judged 64 r (actions_in s)
nested_flat = answers.nested_flat

-- 4b. So is that for any accepted text.
pub accepted_flat : (r : Register) (t : List ℕ) → (plan_text_read t).outcome ≡ Ok tt → plan_text_judged r t ≡ flat_judged text_action_limit r (plan_text_read t).actions
accepted_flat = answers.accepted_flat

-- 5. With at most 16 actions outcome, position, count and the verdicts below the count are those of the flat plan call.
pub nested_sixteen : (r : Register) (s : Steps) (p : Plan) → PlanFits s → SameActions (actions_in s) (actions_of p) → p.count ≤ action_limit → length (actions_of p) ≤ action_limit
    → AsPlanned (plan_text_judged r (plan_text s)) (planned r p)
nested_sixteen = answers.nested_sixteen

-- 6. The same actions in reading order, however grouped, get the same answer.
pub regrouped_same : (r : Register) (s q : Steps) → PlanFits s → PlanFits q → SameActions (actions_in s) (actions_in q) → plan_text_judged r (plan_text s) ≡ plan_text_judged r (plan_text q)
regrouped_same = answers.regrouped_same

-- 7. All behind the first action with a flag are cancelled, in whatever sub-plans they stand.
pub cancelled_across : (r : Register) (s : Steps) → PlanFits s → (plan_text_judged r (plan_text s)).outcome ≡ Ok tt
    → (before : List Action) (a : Action) (after : List Action) → actions_in s ≡ before ++ a ∷ after → All (λ b. b.flags ≡ 0) before → (a.flags ≡ 0 → ⊥)
    → verdicts_in (plan_text_judged r (plan_text s))
    ≡ (map (λ b. judged (violations_of r b)) before ++ (judged (violations_of r a) ∷ replicate (length after) Cancelled))
cancelled_across = halting.cancelled_across

-- 8. A sub-plan that would open level 9 is refused with 22 at its `step=plan` line, whatever follows.
pub deep_refused : (r : Register) (o : Open) (t : List ℕ) → OpenFits 7 o → open_actions o ≤ text_action_limit → bottom 7 o ≡ 0
    → plan_text_judged r (open_text o (plan_step_line ++ t)) ≡ stopped_plan TooDeep (1 + open_lines o) 0
deep_refused = barring.deep_refused

-- 9. The 65th action is refused with 23 at its `step=action` line, whatever follows.
pub many_refused : (r : Register) (o : Open) (t : List ℕ) → OpenFits 7 o → open_actions o ≡ 64
    → plan_text_judged r (open_text o (action_step_line ++ t)) ≡ stopped_plan TooManyActions (1 + open_lines o) 0
many_refused = barring.many_refused

-- 10a. A refusal is 19, 20, 22 or 23 at a line from 1 and position 0, or 1 with 0 and 0, or 3 with line 0 and an action's position; without verdicts.
pub refused_told : (r : Register) (t : List ℕ) (why : Refusal) → (plan_text_judged r t).outcome ≡ Err why
    → Refusing why (plan_text_judged r t) (plan_text_read t).actions
refused_told = halting.refused_told

-- 10b. The text comes before the register: what a line is refused with does not depend on it.
pub text_first : (r q : Register) (t : List ℕ) (why : Refusal) → (plan_text_read t).outcome ≡ Err why → plan_text_judged r t ≡ plan_text_judged q t
text_first = halting.text_first

-- 10c. What the failing line is refused with, and its number, is what is answered.
pub plan_refused_number : (r : Register) (t : List ℕ) (why : Refusal) (l : ℕ) → (plan_of t).state ≡ failed why l
    → ((plan_text_judged r t).outcome ≡ Err why) × ((plan_text_judged r t).line ≡ l)
plan_refused_number = halting.plan_refused_number
