-- Believed: What is answered of a plan text: the text first, then the register, then the actions as one flat list with the limit 64.
use Rattle.std.specs.Prelude.{ℕ, ◌-◌, false, cond, List, [], ◌++◌, leb, length, take, replicate, Result, Err, Ok}
use Rattle.register.specs.declared.Register.{Register}
use Rattle.soundness_rules.specs.Sound.{sound}
use Rattle.refusals.specs.declared.Refusal.{Refusal}
use Rattle.refusals.specs.declared.Refusal.TheVariants.{Unsound, Range}
use Rattle.actions.specs.declared.Action.{Action}
use Rattle.actions.specs.declared.Judgement.{Judgement}
use Rattle.actions.specs.declared.Judgement.TheVariants.{Permitted}
use Rattle.lines.specs.Reading.{State, going, failed}
use Rattle.gate_rules.specs.Plans.{Halt, runs, halts, first_halt, judgements}
use Rattle.steps.specs.Steps.{Steps, actions_in, text_action_limit}
use Rattle.steps.specs.Nesting.{plan_of}
use Rattle.steps.specs.declared.PlanTextVerdict.{PlanTextVerdict}

-- the reading of a plan text: accepted with the actions in reading order, or the refusal with its line and no actions
pub record PlanTextRead : Type 0 where
  pub actions : List Action
  pub outcome : Result Unit Refusal
  pub line : ℕ

abbrev pub plan_text_ending : Steps → State → PlanTextRead
plan_text_ending s (going t l) = record { actions = actions_in s; outcome = Ok tt; line = 0 }
plan_text_ending s (failed why l) = record { actions = []; outcome = Err why; line = l }

unfoldable pub plan_text_read : List ℕ → PlanTextRead
plan_text_read t = let read = plan_of t in plan_text_ending read.value read.state

-- verdicts as the answer holds them, and an answer without verdicts
abbrev pub held_text : List Judgement → PlanTextVerdict
held_text vs = record {
  outcome = Ok tt;
  line = 0;
  position = 0;
  list = vs ++ replicate (text_action_limit - length vs) Permitted;
  count = length vs;
}

abbrev pub stopped_plan : Refusal → ℕ → ℕ → PlanTextVerdict
stopped_plan why line position = record {
  outcome = Err why;
  line = line;
  position = position;
  list = replicate text_action_limit Permitted;
  count = 0;
}

-- the verdicts of an answer: entries past its count are ignored
abbrev pub verdicts_in : PlanTextVerdict → List Judgement
verdicts_in v = take v.count v.list

-- what stops a flat list of actions under a limit: test 1, then 2 on the count, then the actions
unfoldable pub halt_under : ℕ → Register → List Action → Halt
halt_under limit r actions =
    cond (sound r) (cond (leb (length actions) limit) (first_halt r 0 actions) (halts Range 0)) (halts Unsound 0)

abbrev pub text_verdict : Halt → List Judgement → PlanTextVerdict
text_verdict runs vs = held_text vs
text_verdict (halts why n) vs = stopped_plan why 0 n

-- the answer for a flat list under a limit
unfoldable pub flat_judged : ℕ → Register → List Action → PlanTextVerdict
flat_judged limit r actions = text_verdict (halt_under limit r actions) (judgements r false actions)

abbrev pub plan_text_verdict : Register → Steps → State → PlanTextVerdict
plan_text_verdict r s (going t l) = flat_judged text_action_limit r (actions_in s)
plan_text_verdict r s (failed why l) = stopped_plan why l 0

-- the answer for a plan text
unfoldable pub plan_text_judged : Register → List ℕ → PlanTextVerdict
plan_text_judged r t = let read = plan_of t in plan_text_verdict r read.value read.state
