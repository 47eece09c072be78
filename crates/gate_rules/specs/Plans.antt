-- Believed: The gate for a plan, in 01's words: what stops it, and the verdict on each action.
use Rattle.std.specs.Prelude.{Bool, false, not, ◌||◌, cond, List, [], ◌∷◌, ◌++◌, ℕ, suc, ◌-◌, eqb, leb, length, take, replicate, ◌≡◌, Result, Err, Ok}
use Rattle.register.specs.declared.Register.{Register}
use Rattle.soundness_rules.specs.Sound.{sound}
use Rattle.refusals.specs.Refusals.{outcome_of}
use Rattle.refusals.specs.declared.Refusal.{Refusal}
use Rattle.refusals.specs.declared.Refusal.TheVariants.{Unsound, Range}
use Rattle.actions.specs.Actions.{action_limit, SameAction}
use Rattle.actions.specs.declared.Action.{Action}
use Rattle.actions.specs.declared.Violation.{Violation}
use Rattle.actions.specs.declared.Plan.{Plan}
use Rattle.actions.specs.declared.Judgement.{Judgement}
use Rattle.actions.specs.declared.Judgement.TheVariants.{Permitted, Refused, Cancelled}
use Rattle.actions.specs.declared.PlanVerdict.{PlanVerdict}
use Rattle.gate_rules.specs.Gate.{action_tests, violations_of}

-- the actions of a plan: entries past its count are ignored
abbrev pub actions_of : Plan → List Action
actions_of p = take p.count p.actions

-- Two plans are the same when their counts are, and their actions one by one.
abbrev pub SameActions : List Action → List Action → Type 0
SameActions [] [] = Unit {0}
SameActions [] (b ∷ others) = ⊥
SameActions (a ∷ actions) [] = ⊥
SameActions (a ∷ actions) (b ∷ others) = SameAction a b × SameActions actions others

pub record SamePlan (p q : Plan) : Type 0 where
  pub count : p.count ≡ q.count
  pub actions : SameActions (actions_of p) (actions_of q)

-- the verdict on an action that is not cancelled: permitted, or refused with its number of violations
abbrev pub judged : List Violation → Judgement
judged [] = Permitted
judged (v ∷ vs) = Refused (length (v ∷ vs))

-- the verdicts in order: every action after the first with a flag set is cancelled
unfoldable pub judgements : Register → Bool → List Action → List Judgement
judgements r cancelled [] = []
judgements r cancelled (a ∷ actions) =
    cond cancelled Cancelled (judged (violations_of r a)) ∷ judgements r (cancelled || not (eqb a.flags 0)) actions

-- what stops a plan: the refusal and the position from 0
pub data Halt : Type 0 where
  runs : Halt
  halts : Refusal → ℕ → Halt

abbrev pub halt_on : Result Unit Refusal → ℕ → Halt → Halt
halt_on (Ok _) n more = more
halt_on (Err why) n more = halts why n

-- the first action with 2 or 3, by its position from n
unfoldable pub first_halt : Register → ℕ → List Action → Halt
first_halt r n [] = runs
first_halt r n (a ∷ actions) = halt_on (outcome_of (action_tests r a)) n (first_halt r (suc n) actions)

-- test 1, then 2 on the count, then the actions
unfoldable pub halt_of : Register → Plan → Halt
halt_of r p = cond (sound r) (cond (leb p.count action_limit) (first_halt r 0 (actions_of p)) (halts Range 0)) (halts Unsound 0)

-- verdicts as the answer holds them
abbrev pub held : List Judgement → PlanVerdict
held vs = record {
  outcome = Ok tt;
  position = 0;
  list = vs ++ replicate (action_limit - length vs) Permitted;
  count = length vs;
}

abbrev pub stopped : Refusal → ℕ → PlanVerdict
stopped why n = record {
  outcome = Err why;
  position = n;
  list = replicate action_limit Permitted;
  count = 0;
}

abbrev pub plan_verdict : Halt → Register → Plan → PlanVerdict
plan_verdict runs r p = held (judgements r false (actions_of p))
plan_verdict (halts why n) r p = stopped why n

-- the answer for a plan
unfoldable pub planned : Register → Plan → PlanVerdict
planned r p = plan_verdict (halt_of r p) r p
