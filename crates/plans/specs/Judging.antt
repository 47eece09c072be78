-- Laws: The verdicts on the actions of a plan by what is lent, and the whole answer. Assumes nothing.
use Rattle.std.specs.Prelude.{◌≡◌, Bool, false, not, ◌||◌, cond, List, ◌∷◌, ℕ, ◌+◌, ◌≤◌, ◌<◌, eqb, length, drop, get_or, set, Ok}
use Rattle.std.proofs.Common.{sym, ap, ◌∙◌}
use Rattle.register.specs.Limits.{claim_limit}
use Rattle.register.specs.Register.{Shaped}
use Rattle.register.specs.declared.Register.{Register}
use Rattle.actions.specs.declared.Action.{Action}
use Rattle.actions.specs.declared.Judgement.{Judgement}
use Rattle.actions.specs.declared.Judgement.TheVariants.{Cancelled}
use Rattle.actions.specs.declared.Plan.{Plan}
use Rattle.actions.specs.declared.PlanVerdict.{PlanVerdict}
use Rattle.gate_rules.specs.Plans.{actions_of, runs, halt_of, held, planned}
use Rattle.gate_rules.proofs.Cancelling.{halt_runs, planned_runs}
use Rattle.gate_rules.proofs.Sameness.{planned_same}
use Rattle.gate.specs.Judged.{Lent, lent_in, lent_judged}
use Rattle.gate.specs.Sheets.{sheeted, sheeted_same}
use Rattle.plans.specs.Judgements.{judged_as, judgements_by}
use Rattle.plans.specs.Holding.{Holding, holding_next, holding_done}
use Rattle.plans.specs.Laws.{judgements_by_nil, judgements_by_cons, judgements_natural}

-- a loop over the actions that holds the verdict on each by what is lent
module _ (l : Lent) {p : Plan} {top : ℕ} {list : List Judgement} {cancelled : Bool} {i : ℕ} (s : Holding (judgements_by l) p top list cancelled i) where
  pub judging_next : (d : Action) → i < top → {v : Judgement} → v ≡ cond cancelled Cancelled (judged_as (lent_judged l (get_or p.actions i d)).violations.count)
      → Holding (judgements_by l) p top (set list i v) (cancelled || not (eqb (get_or p.actions i d).flags 0)) (i + 1)
  judging_next d h e =
      let a = get_or p.actions i d in
      let rest = drop (i + 1) (actions_of p) in
      holding_next s d h (judgements_by_cons l cancelled a rest ∙ ap (λ w. w ∷ judgements_by l (cancelled || not (eqb a.flags 0)) rest) (sym e))

  -- after the loop the verdicts are held
  pub judging_done : top ≤ i
      → ◌≡◌ {A = PlanVerdict} (record { outcome = Ok tt; position = 0; list = list; count = top }) (held (judgements_by l false (actions_of p)))
  judging_done h = holding_done s h (judgements_by_nil l cancelled)

-- the verdicts by what is lent of a register are those of the plan
pub planned_lent : (r : Register) (p : Plan) → Shaped r → halt_of (sheeted r) p ≡ runs → {l : Lent} → l ≡ lent_in r → {answer : PlanVerdict}
    → answer ≡ held (judgements_by l false (actions_of p)) → answer ≡ planned (sheeted r) p
planned_lent r p shaped e same answered =
    let passed = halt_runs (sheeted r) p e in
    answered
    ∙ ap (λ l. held (judgements_by l false (actions_of p))) same
    ∙ ap held (judgements_natural r shaped passed.soundly false (actions_of p) passed.fit) ∙ sym (planned_runs (sheeted r) p e)

-- a register whose claims are read from their sheet gets the same verdicts
pub planned_sheeted : (r : Register) → length r.claims.list ≡ claim_limit → (p : Plan) → planned (sheeted r) p ≡ planned r p
planned_sheeted r long p = planned_same (sheeted r) r (sheeted_same r long) p
