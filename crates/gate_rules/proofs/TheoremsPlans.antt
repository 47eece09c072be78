-- What is proved of the plan's answer `planned`. Assumes nothing.
use Rattle.std.proofs.Common.{Err, Ok, ◌≡◌, true, false, List, ◌∷◌, ◌++◌, map, ◌≤◌, ◌<◌, length, replicate}
use Rattle.lists.specs.Lists.{All}
use Rattle.refusals.specs.Refusals.{outcome_of}
use Rattle.refusals.specs.declared.Refusal.{Refusal}
use Rattle.refusals.specs.declared.Refusal.TheVariants.{Unsound, Range}
use Rattle.register.specs.declared.Register.{Register}
use Rattle.soundness_rules.specs.Sound.{sound}
use Rattle.actions.specs.Actions.{action_limit}
use Rattle.actions.specs.declared.Action.{Action}
use Rattle.actions.specs.declared.Plan.{Plan}
use Rattle.actions.specs.declared.Decision.TheVariants.{Permitted, Refused}
use Rattle.actions.specs.declared.Judgement.TheVariants.{Permitted as Agreed, Refused as Denied, Cancelled}
use Rattle.gate_rules.specs.Gate.{violations_of, hop_counts, action_tests, listed, padded, decided, gated}
use Rattle.gate_rules.specs.Plans.{actions_of, judged, held, stopped, planned}
use Rattle.gate_rules.proofs.Cancelling as cancelling
use Rattle.gate_rules.specs.Authority.{IsIn}

-- 9a. Up to and with the first flagged action the verdicts of a plan are the judgements of the violations, and every later one is cancelled.
pub plan_flagged : (r : Register) (p : Plan) → (planned r p).outcome ≡ Ok tt → (before : List Action) (a : Action) (after : List Action)
    → actions_of p ≡ before ++ a ∷ after → All (λ b. b.flags ≡ 0) before → (a.flags ≡ 0 → ⊥)
    → planned r p ≡ held (map (λ b. judged (violations_of r b)) before ++ (judged (violations_of r a) ∷ replicate (length after) Cancelled))
plan_flagged = cancelling.plan_flagged

-- 9b. Where no action is flagged, all verdicts are the judgements of the violations.
pub plan_unflagged : (r : Register) (p : Plan) → (planned r p).outcome ≡ Ok tt → All (λ b. b.flags ≡ 0) (actions_of p)
    → planned r p ≡ held (map (λ b. judged (violations_of r b)) (actions_of p))
plan_unflagged = cancelling.plan_unflagged

-- 9c. Where the gate permits an action, that judgement is permitted.
pub judged_permitted : (r : Register) (a : Action) → (gated r a).decision ≡ Permitted → judged (violations_of r a) ≡ Agreed
judged_permitted = cancelling.judged_permitted

-- 9d. Where the gate refuses an action, that judgement is refused with the number of violations that the gate lists.
pub judged_refused : (r : Register) (a : Action) → (gated r a).decision ≡ Refused → judged (violations_of r a) ≡ Denied (gated r a).violations.count
judged_refused = cancelling.judged_refused

-- 9e. The gate stops no action of a plan that is not stopped.
pub plan_gated : (r : Register) (p : Plan) → (planned r p).outcome ≡ Ok tt → (a : Action) → IsIn (actions_of p) a
    → gated r a ≡ record { decision = decided (violations_of r a); violations = listed (violations_of r a); hops = padded (hop_counts r a) }
plan_gated = cancelling.plan_gated

-- 9f. A plan over a register that is not sound is stopped with 1 and position 0.
pub plan_unsound : (r : Register) (p : Plan) → sound r ≡ false → planned r p ≡ stopped Unsound 0
plan_unsound = cancelling.plan_unsound

-- 9g. Otherwise a plan of more than 16 actions is stopped with 2 and position 0.
pub plan_too_many : (r : Register) (p : Plan) → sound r ≡ true → action_limit < p.count → planned r p ≡ stopped Range 0
plan_too_many = cancelling.plan_too_many

-- 9h. Otherwise the first action that fails 2 or 3 stops the plan, by its position.
pub plan_stopped_at : (r : Register) (p : Plan) → sound r ≡ true → p.count ≤ action_limit → (before : List Action) (a : Action) (after : List Action) (why : Refusal)
    → actions_of p ≡ before ++ a ∷ after → All (λ b. outcome_of (action_tests r b) ≡ Ok tt) before → outcome_of (action_tests r a) ≡ Err why
    → planned r p ≡ stopped why (length before)
plan_stopped_at = cancelling.plan_stopped_at

-- 9i. A stopped plan has no verdicts.
pub stopped_count : (r : Register) (p : Plan) (why : Refusal) → (planned r p).outcome ≡ Err why → (planned r p).count ≡ 0
stopped_count = cancelling.stopped_count

-- 9j. An empty plan has no verdicts.
pub empty_count : (r : Register) (p : Plan) → p.count ≡ 0 → (planned r p).count ≡ 0
empty_count = cancelling.empty_count
