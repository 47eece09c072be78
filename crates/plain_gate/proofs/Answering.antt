-- The answers of the plain gate: what is known of a register that was examined, what stops an action or a plan, and what is answered
-- otherwise. Assumes nothing.
use Rattle.std.proofs.Common.{Result, Err, Ok, ◌≡◌, refl, sym, ap, ◌∙◌, Bool, true, false, not, ◌||◌, cond, List, [], ◌∷◌, map, ℕ, zero, suc, ◌+◌, ◌≤◌, ◌<◌, arith, eqb, length, drop, get_or, set, length-take, get_or-take}
use Rattle.lists.specs.Lists.{All}
use Rattle.register.specs.Limits.{claim_limit}
use Rattle.register.specs.declared.Register.{Register}
use Rattle.soundness_rules.specs.Sound.{sound}
use Rattle.refusals.specs.Refusals.{outcome_of}
use Rattle.refusals.proofs.Laws.{outcome_pass, outcome_fail}
use Rattle.refusals.specs.declared.Refusal.{Refusal}
use Rattle.refusals.specs.declared.Refusal.TheVariants.{Unsound}
use Rattle.columns.specs.Columns.{actor_id}
use Rattle.columns.specs.Sheet.{sheet_of}
use Rattle.soundness.specs.Judged.{findings_by}
use Rattle.soundness.specs.Laws.{examined, judged_sound, judged_ups, judged_actors, judged_resources}
use Rattle.soundness.specs.declared.Findings.{Findings}
use Rattle.actions.specs.Actions.{action_limit}
use Rattle.actions.specs.declared.Action.{Action}
use Rattle.actions.specs.declared.Plan.{Plan}
use Rattle.actions.specs.declared.Decision.TheVariants.{Permitted, Refused, Stopped}
use Rattle.actions.specs.declared.Judgement.{Judgement}
use Rattle.actions.specs.declared.Judgement.TheVariants.{Cancelled}
use Rattle.actions.specs.declared.Verdict.{Verdict}
use Rattle.gate_rules.specs.Gate.{listed, padded, action_tests, gate_tests}
use Rattle.gate_rules.specs.Fitting.{Fit}
use Rattle.gate_rules.specs.Plans.{actions_of, judged, runs, halts, first_halt, halt_of, held, stopped}
use Rattle.gate_rules.proofs.Cancelling.{halt_runs}
use Rattle.gate.specs.Judged.{lent_tests}
use Rattle.gate.specs.Laws.{decided_natural}
use Rattle.plans.specs.Stops.{stop_of, halt_by}
use Rattle.plans.specs.StopsLaws.{halt_actions}
use Rattle.plans.specs.Holding.{Holding, holding_next}
use Rattle.plans.specs.declared.Stop.{Stop}
use Rattle.coverage_table.specs.Table.{plain_violations, plain_hops, plain_verdict, plainly_gated, plain_judgements, plain_plan_verdict, plainly_planned}
use Rattle.plain_gate.specs.Known.{Known}
use Rattle.plain_gate.specs.declared.PlainlyJudged.{PlainlyJudged}
use Rattle.plain_gate.proofs.Owners.{actors_standing, tests_standing}

-- ---- a register that was examined
module _ (r : Register) (long : length r.claims.list ≡ claim_limit) {s : List ℕ} {found : Findings}
    (told : (s ≡ sheet_of r.claims) × (found ≡ findings_by r.version r.actors r.resources s r.claims.count)) where
  pub unsound_examined : found.sound ≡ false → sound r ≡ false
  unsound_examined e = sym (judged_sound r (examined r told) long) ∙ e

  pub known_examined : found.sound ≡ true → Known r s found
  known_examined e = record {
    soundly = sym (judged_sound r (examined r told) long) ∙ e;
    claims = told.0;
    parents = judged_ups r (examined r told);
    actors = judged_actors r (examined r told);
    resources = judged_resources r (examined r told);
  }

-- tests 2 and 3 by what is known
pub tests_known : (r : Register) {s : List ℕ} (found : Findings) → Known r s found → (a : Action) {outcome : Result Unit Refusal}
    → outcome ≡ outcome_of (lent_tests found.actors.names r.actors.count a) → outcome ≡ outcome_of (action_tests r a)
tests_known r found known a e =
    e ∙ ap (λ w. outcome_of (lent_tests w.names r.actors.count a)) known.actors ∙ ap outcome_of (tests_standing r a)

-- ---- an action
abbrev stopping : Refusal → Verdict
stopping why = record { decision = Stopped why; violations = listed []; hops = padded [] }

module _ (r : Register) (a : Action) where
  pub plain_unsound : sound r ≡ false → stopping Unsound ≡ plainly_gated r a
  unfolding plainly_gated gate_tests
  plain_unsound fails = sym (ap (λ o. plain_verdict o r a) (outcome_fail _ _ fails))

  module _ (h : sound r ≡ true) where
    pub plain_stopped : (why : Refusal) → outcome_of (action_tests r a) ≡ Err why → stopping why ≡ plainly_gated r a
    unfolding plainly_gated gate_tests
    plain_stopped why e = sym (ap (λ o. plain_verdict o r a) (outcome_pass _ _ h ∙ e))

    pub plain_judged : outcome_of (action_tests r a) ≡ Ok tt → (found : PlainlyJudged)
        → found ≡ record { violations = listed (plain_violations r a); hops = padded (plain_hops r a) }
        → ◌≡◌ {A = Verdict} (record { decision = cond (eqb found.violations.count 0) Permitted Refused; violations = found.violations; hops = found.hops })
        (plainly_gated r a)
    unfolding plainly_gated gate_tests
    plain_judged passed found e =
        rw (e, decided_natural (plain_violations r a)) (sym (ap (λ o. plain_verdict o r a) (outcome_pass _ _ h ∙ passed)))

-- ---- a plan
module _ (r : Register) (p : Plan) where
  pub plain_halts : (why : Refusal) (n : ℕ) → halt_of r p ≡ halts why n → stopped why n ≡ plainly_planned r p
  unfolding plainly_planned
  plain_halts why n e = sym (ap (λ h. plain_plan_verdict h r p) e)

  pub plain_runs : halt_of r p ≡ runs → held (plain_judgements r false (actions_of p)) ≡ plainly_planned r p
  unfolding plainly_planned
  plain_runs e = sym (ap (λ h. plain_plan_verdict h r p) e)

-- what stops the actions, by the names of the actors that stand
halt_standing : (r : Register) (i : ℕ) (actions : List Action) → halt_by (map actor_id (actors_standing r)) r.actors.count i actions ≡ first_halt r i actions
unfolding halt_by first_halt
halt_standing r i [] = refl
halt_standing r i (a ∷ actions) = rw (tests_standing r a, halt_standing r (suc i) actions)

-- what is found to stop a plan stops it
pub stop_known : (r : Register) {s : List ℕ} (found : Findings) → Known r s found → (p : Plan) → p.count ≤ action_limit → {stop : Stop}
    → stop ≡ stop_of (halt_by found.actors.names r.actors.count 0 (actions_of p)) → stop ≡ stop_of (halt_of r p)
stop_known r found known p few e =
    e ∙ ap (λ w. stop_of (halt_by w.names r.actors.count 0 (actions_of p))) known.actors
    ∙ ap stop_of (halt_standing r 0 (actions_of p) ∙ sym (halt_actions r p known.soundly few))

-- what holds of each holds at each place
all_at : {C : Type 0} (Q : C → Type 0) (L : List C) → All Q L → (d : C) (k : ℕ) → k < length L → Q (get_or L k d)
all_at Q [] h d k below = absurd (omega arith)
all_at Q (c ∷ L) h d zero below = h.0
all_at Q (c ∷ L) h d (suc k) below = all_at Q L h.1 d k (omega arith)

-- each action of a plan that nothing stops passes tests 2 and 3
pub fit_at : (r : Register) (p : Plan) → halt_of r p ≡ runs → length p.actions ≡ action_limit → (d : Action) (i : ℕ) → i < p.count → Fit r (get_or p.actions i d)
fit_at r p e long d i below =
    let told = halt_runs r p e in
    let inside : i < length (actions_of p) = omega (arith, length-take p.count p.actions, told.most, long, below) in
    rw (get_or-take p.count p.actions i d below) at (all_at (λ a. Fit r a) (actions_of p) told.fit d i inside)

-- a loop over the actions that holds the verdict on each
module _ (r : Register) {p : Plan} {top : ℕ} {list : List Judgement} {cancelled : Bool} {i : ℕ} (s : Holding (plain_judgements r) p top list cancelled i) where
  pub plainly_next : (d : Action) → i < top → {v : Judgement} → v ≡ cond cancelled Cancelled (judged (plain_violations r (get_or p.actions i d)))
      → Holding (plain_judgements r) p top (set list i v) (cancelled || not (eqb (get_or p.actions i d).flags 0)) (i + 1)
  plainly_next d h e =
      let later = cancelled || not (eqb (get_or p.actions i d).flags 0) in
      holding_next s d h (ap (λ w. w ∷ plain_judgements r later (drop (i + 1) (actions_of p))) (sym e))
