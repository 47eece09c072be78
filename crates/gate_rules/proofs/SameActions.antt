-- Actions that are the same get the same answer of the gate, and plans that are the same the same answer. Assumes nothing.
use Rattle.std.proofs.Common.{Result, Err, Ok, ◌≡◌, refl, ap, ◌∙◌, false}
use Rattle.refusals.specs.declared.Refusal.{Refusal}
use Rattle.register.specs.declared.Register.{Register}
use Rattle.refusals.specs.Refusals.{outcome_of}
use Rattle.actions.specs.Actions.{SameAction}
use Rattle.actions.specs.declared.Action.{Action}
use Rattle.actions.specs.declared.Plan.{Plan}
use Rattle.gate_rules.specs.Gate.{hop_counts, gate_tests, verdict_on, gated}
use Rattle.gate_rules.specs.Plans.{actions_of, SamePlan, Halt, runs, halts, halt_of, held, plan_verdict, planned}
use Rattle.gate_rules.specs.SameActions.{same_violations, same_action_tests, same_judgements, same_halt}

module _ (r : Register) where
  hop_counts_same : (a b : Action) → SameAction a b → hop_counts r a ≡ hop_counts r b
  hop_counts_same a b same = rw (same.uses, same.actor, same.now)

  gate_tests_same : (a b : Action) → SameAction a b → gate_tests r a ≡ gate_tests r b
  unfolding gate_tests
  gate_tests_same a b same = rw (same_action_tests r a b same)

  verdict_same : (o : Result Unit Refusal) (a b : Action) → SameAction a b → verdict_on o r a ≡ verdict_on o r b
  verdict_same (Ok _) a b same = rw (same_violations r a b same, hop_counts_same a b same)
  verdict_same (Err why) a b same = refl

  -- the gate
  pub gated_same_action : (a b : Action) → SameAction a b → gated r a ≡ gated r b
  unfolding gated
  gated_same_action a b same =
      ap (λ tests. verdict_on (outcome_of tests) r a) (gate_tests_same a b same) ∙ verdict_same (outcome_of (gate_tests r b)) a b same

  halt_same : (p q : Plan) → SamePlan p q → halt_of r p ≡ halt_of r q
  unfolding halt_of
  halt_same p q same = rw (same_halt r 0 (actions_of p) (actions_of q) same.actions, same.count)

  plan_verdict_same : (h : Halt) (p q : Plan) → SamePlan p q → plan_verdict h r p ≡ plan_verdict h r q
  plan_verdict_same runs p q same = ap held (same_judgements r false (actions_of p) (actions_of q) same.actions)
  plan_verdict_same (halts why n) p q same = refl

  -- the plan
  pub planned_same_plan : (p q : Plan) → SamePlan p q → planned r p ≡ planned r q
  unfolding planned
  planned_same_plan p q same = ap (λ h. plan_verdict h r p) (halt_same p q same) ∙ plan_verdict_same (halt_of r q) p q same
