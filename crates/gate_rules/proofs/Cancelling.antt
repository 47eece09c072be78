-- Laws: What a plan answers: the gate's own verdicts up to and with the first flagged action, then cancelled; nothing where it is stopped. Assumes
-- nothing.
use Rattle.std.specs.Prelude.{◌≡◌, Bool, true, false, not, ◌||◌, cond, List, [], ◌∷◌, ◌++◌, map, ℕ, suc, ◌+◌, ◌≤◌, ◌<◌, eqb, leb, length, replicate, Err, Ok}
use Rattle.std.proofs.Math.Path.{refl, ap}
use Rattle.std.proofs.Common.{sym, ◌∙◌, add-zero, zero-add, arith, eq-eqb, ne_eqb, leb-true, le-leb}
use Rattle.std.proofs.lemmas.Bool.{lt-leb}
use Rattle.lists.specs.Lists.{All}
use Rattle.register.specs.declared.Register.{Register}
use Rattle.soundness_rules.specs.Sound.{sound}
use Rattle.refusals.specs.Refusals.{outcome_of}
use Rattle.refusals.proofs.Laws.{outcome_cases, outcome_clash}
use Rattle.refusals.specs.declared.Refusal.{Refusal}
use Rattle.refusals.specs.declared.Refusal.TheVariants.{Unsound, Range}
use Rattle.actions.specs.Actions.{action_limit}
use Rattle.actions.specs.declared.Action.{Action}
use Rattle.actions.specs.declared.Plan.{Plan}
use Rattle.actions.specs.declared.Judgement.TheVariants.{Permitted as Agreed, Refused as Denied, Cancelled}
use Rattle.actions.specs.declared.Violation.{Violation}
use Rattle.actions.specs.declared.Decision.TheVariants.{Permitted, Refused, Stopped}
use Rattle.gate_rules.specs.Gate.{action_tests, gate_tests, violations_of, hop_counts, listed, padded, decided, gated}
use Rattle.gate_rules.specs.Plans.{actions_of, judged, judgements, Halt, runs, halts, halt_on, first_halt, halt_of, held, stopped, plan_verdict, planned}
use Rattle.gate_rules.proofs.Laws.{action_tests_out, gate_tests_in, gated_judged, gated_stopped, permitted_out, violations_none_in}
use Rattle.gate_rules.specs.Fitting.{Fit}
use Rattle.gate_rules.specs.Places.{all_place}
use Rattle.gate_rules.specs.Authority.{IsIn}

module _ (r : Register) where
  pub judgements_nil : (cancelled : Bool) → judgements r cancelled [] ≡ []
  unfolding judgements
  judgements_nil cancelled = refl

  pub judgements_cons : (cancelled : Bool) (a : Action) (actions : List Action)
      → judgements r cancelled (a ∷ actions) ≡ cond cancelled Cancelled (judged (violations_of r a)) ∷ judgements r (cancelled || not (eqb a.flags 0)) actions
  unfolding judgements
  judgements_cons cancelled a actions = refl

  -- there is a verdict for each action
  pub judgements_length : (cancelled : Bool) (actions : List Action) → length (judgements r cancelled actions) ≡ length actions
  judgements_length cancelled [] = ap length (judgements_nil cancelled)
  judgements_length cancelled (a ∷ actions) =
      ap length (judgements_cons cancelled a actions) ∙ ap suc (judgements_length (cancelled || not (eqb a.flags 0)) actions)

  -- once cancelled, every action is
  pub judgements_cancelled : (actions : List Action) → judgements r true actions ≡ replicate (length actions) Cancelled
  judgements_cancelled [] = judgements_nil true
  judgements_cancelled (a ∷ actions) = judgements_cons true a actions ∙ ap (λ l. Cancelled ∷ l) (judgements_cancelled actions)

  -- actions without a flag are judged as the gate judges them, and what follows them is not changed
  pub judgements_flagless : (before after : List Action) → All (λ b. b.flags ≡ 0) before
      → judgements r false (before ++ after) ≡ map (λ b. judged (violations_of r b)) before ++ judgements r false after
  judgements_flagless [] after h = refl
  judgements_flagless (b ∷ before) after h =
      judgements_cons false b (before ++ after) ∙ rw (eq-eqb b.flags 0 h.0, judgements_flagless before after h.1)

  -- the first with a flag is judged too, and every later one is cancelled
  pub judgements_flagged : (before : List Action) (a : Action) (after : List Action) → All (λ b. b.flags ≡ 0) before → (a.flags ≡ 0 → ⊥)
      → judgements r false (before ++ a ∷ after) ≡ map (λ b. judged (violations_of r b)) before ++ (judged (violations_of r a) ∷ replicate (length after) Cancelled)
  judgements_flagged before a after h set =
      judgements_flagless before (a ∷ after) h
      ∙ rw (judgements_cons false a after, ne_eqb a.flags 0 set, judgements_cancelled after)

  pub judgements_unflagged : (actions : List Action) → All (λ b. b.flags ≡ 0) actions → judgements r false actions ≡ map (λ b. judged (violations_of r b)) actions
  judgements_unflagged [] h = judgements_nil false
  judgements_unflagged (a ∷ actions) h =
      judgements_cons false a actions ∙ rw (eq-eqb a.flags 0 h.0, judgements_unflagged actions h.1)

halt_clash : {A : Type 0} {why : Refusal} {n : ℕ} → halts why n ≡ runs → A
halt_clash e = let never : ◌≡◌ {A = ℕ} 0 1 = cc in absurd (omega arith)

module _ (r : Register) where
  pub first_halt_pass : (n : ℕ) (a : Action) (actions : List Action) → outcome_of (action_tests r a) ≡ Ok tt
      → first_halt r n (a ∷ actions) ≡ first_halt r (suc n) actions
  unfolding first_halt
  first_halt_pass n a actions e = ap (λ o. halt_on o n (first_halt r (suc n) actions)) e

  pub first_halt_fail : (n : ℕ) (a : Action) (actions : List Action) (why : Refusal) → outcome_of (action_tests r a) ≡ Err why
      → first_halt r n (a ∷ actions) ≡ halts why n
  unfolding first_halt
  first_halt_fail n a actions why e = ap (λ o. halt_on o n (first_halt r (suc n) actions)) e

  -- a plan runs where each action passes tests 2 and 3
  pub first_halt_runs : (n : ℕ) (actions : List Action) → first_halt r n actions ≡ runs → All (λ a. Fit r a) actions
  first_halt_runs n [] h = tt
  first_halt_runs n (a ∷ actions) h =
      outcome_cases (outcome_of (action_tests r a))
      (λ e. (action_tests_out r a e, first_halt_runs (suc n) actions (sym (first_halt_pass n a actions e) ∙ h)))
      (λ why e. halt_clash (sym (first_halt_fail n a actions why e) ∙ h))

  -- the first action that fails 2 or 3 stops a plan, by its position
  pub first_halt_at : (n : ℕ) (before : List Action) (a : Action) (after : List Action) (why : Refusal)
      → All (λ b. outcome_of (action_tests r b) ≡ Ok tt) before → outcome_of (action_tests r a) ≡ Err why
      → first_halt r n (before ++ a ∷ after) ≡ halts why (n + length before)
  first_halt_at n [] a after why h e = rw (add-zero n) (first_halt_fail n a after why e)
  first_halt_at n (b ∷ before) a after why h e =
      first_halt_pass n b (before ++ a ∷ after) h.0 ∙ first_halt_at (suc n) before a after why h.1 e
      ∙ ap (λ k. halts why k) (omega arith)

-- a plan that runs: the register is sound, the count within its limit, and each action passes 2 and 3
pub record Runs (r : Register) (p : Plan) : Type 0 where
  pub soundly : sound r ≡ true
  pub most : p.count ≤ action_limit
  pub fit : All (λ a. Fit r a) (actions_of p)

halt_choice : {A : Type 0} (s c : Bool) (h : Halt) → cond s (cond c h (halts Range 0)) (halts Unsound 0) ≡ runs
    → (s ≡ true → c ≡ true → h ≡ runs → A) → A
halt_choice true true h e f = f refl refl e
halt_choice true false h e f = halt_clash e
halt_choice false c h e f = halt_clash e

pub halt_runs : (r : Register) (p : Plan) → halt_of r p ≡ runs → Runs r p
unfolding halt_of
halt_runs r p h =
    halt_choice (sound r) (leb p.count action_limit) (first_halt r 0 (actions_of p)) h
    (λ s c e. record { soundly = s; most = leb-true p.count action_limit c; fit = first_halt_runs r 0 (actions_of p) e })

-- the answer of a plan that runs, and of one that is stopped
pub planned_runs : (r : Register) (p : Plan) → halt_of r p ≡ runs → planned r p ≡ held (judgements r false (actions_of p))
unfolding planned
planned_runs r p e = ap (λ h. plan_verdict h r p) e

pub planned_stopped : (r : Register) (p : Plan) (why : Refusal) (n : ℕ) → halt_of r p ≡ halts why n → planned r p ≡ stopped why n
unfolding planned
planned_stopped r p why n e = ap (λ h. plan_verdict h r p) e

-- test 1 comes first, then 2 on the count, both with position 0; then the first action that fails 2 or 3, with its position
pub plan_unsound : (r : Register) (p : Plan) → sound r ≡ false → planned r p ≡ stopped Unsound 0
unfolding halt_of
plan_unsound r p e = planned_stopped r p Unsound 0 (rw e)

pub plan_too_many : (r : Register) (p : Plan) → sound r ≡ true → action_limit < p.count → planned r p ≡ stopped Range 0
unfolding halt_of
plan_too_many r p e many = planned_stopped r p Range 0 (rw (e, lt-leb p.count action_limit many))

pub plan_stopped_at : (r : Register) (p : Plan) → sound r ≡ true → p.count ≤ action_limit → (before : List Action) (a : Action) (after : List Action) (why : Refusal)
    → actions_of p ≡ before ++ a ∷ after → All (λ b. outcome_of (action_tests r b) ≡ Ok tt) before → outcome_of (action_tests r a) ≡ Err why
    → planned r p ≡ stopped why (length before)
unfolding halt_of
plan_stopped_at r p e few before a after why split h fails =
    planned_stopped r p why (length before)
    (rw (e, le-leb p.count action_limit few) (ap (λ l. first_halt r 0 l) split ∙ first_halt_at r 0 before a after why h fails ∙ rw (zero-add (length before))))

halt_cases : {A : Type 0} (h : Halt) → (h ≡ runs → A) → ((why : Refusal) (n : ℕ) → h ≡ halts why n → A) → A
halt_cases runs f g = f refl
halt_cases (halts why n) f g = g why n refl

-- a plan whose answer is no refusal runs
pub accepted_runs : (r : Register) (p : Plan) → (planned r p).outcome ≡ Ok tt → halt_of r p ≡ runs
accepted_runs r p h =
    halt_cases (halt_of r p) (λ e. e) (λ why n e. outcome_clash (sym (ap (λ v. v.outcome) (planned_stopped r p why n e)) ∙ h))

-- up to and with the first flagged action its verdicts are the gate's own, and every later one is cancelled
pub plan_flagged : (r : Register) (p : Plan) → (planned r p).outcome ≡ Ok tt → (before : List Action) (a : Action) (after : List Action)
    → actions_of p ≡ before ++ a ∷ after → All (λ b. b.flags ≡ 0) before → (a.flags ≡ 0 → ⊥)
    → planned r p ≡ held (map (λ b. judged (violations_of r b)) before ++ (judged (violations_of r a) ∷ replicate (length after) Cancelled))
plan_flagged r p h before a after split flagless set =
    planned_runs r p (accepted_runs r p h)
    ∙ ap held (ap (λ l. judgements r false l) split ∙ judgements_flagged r before a after flagless set)

pub plan_unflagged : (r : Register) (p : Plan) → (planned r p).outcome ≡ Ok tt → All (λ b. b.flags ≡ 0) (actions_of p)
    → planned r p ≡ held (map (λ b. judged (violations_of r b)) (actions_of p))
plan_unflagged r p h flagless =
    planned_runs r p (accepted_runs r p h) ∙ ap held (judgements_unflagged r (actions_of p) flagless)

-- the gate stops no action of a plan that is not stopped
pub plan_gated : (r : Register) (p : Plan) → (planned r p).outcome ≡ Ok tt → (a : Action) → IsIn (actions_of p) a
    → gated r a ≡ record { decision = decided (violations_of r a); violations = listed (violations_of r a); hops = padded (hop_counts r a) }
plan_gated r p h a at =
    let told = halt_runs r p (accepted_runs r p h) in
    let fit = all_place (λ a. Fit r a) (actions_of p) told.fit a at in
    gated_judged r a (gate_tests_in r a record { soundly = told.soundly; fits = fit.fits; known = fit.known })

-- the verdict on an action is permitted where the gate permits it, and refused with the gate's count where the gate refuses it
judged_some : (vs : List Violation) → (vs ≡ [] → ⊥) → judged vs ≡ Denied (length vs)
judged_some [] h = absurd (h refl)
judged_some (v ∷ vs) h = refl

pub judged_permitted : (r : Register) (a : Action) → (gated r a).decision ≡ Permitted → judged (violations_of r a) ≡ Agreed
judged_permitted r a h = ap judged (violations_none_in r a (permitted_out r a h).clean)

pub judged_refused : (r : Register) (a : Action) → (gated r a).decision ≡ Refused → judged (violations_of r a) ≡ Denied (gated r a).violations.count
judged_refused r a h =
    outcome_cases (outcome_of (gate_tests r a))
    (λ e. judged_some (violations_of r a) (λ none. permitted_clash (sym (ap (λ v. v.decision) (gated_judged r a e) ∙ ap decided none) ∙ h))
    ∙ ap (λ n. Denied n) (sym (ap (λ v. v.violations.count) (gated_judged r a e))))
    (λ why e. stopped_clash (sym (ap (λ v. v.decision) (gated_stopped r a why e)) ∙ h))
  where
    permitted_clash : {A : Type 0} → Permitted ≡ Refused → A
    permitted_clash e = let never : ◌≡◌ {A = ℕ} 0 1 = cc in absurd (omega arith)

    stopped_clash : {A : Type 0} {why : Refusal} → Stopped why ≡ Refused → A
    stopped_clash e = let never : ◌≡◌ {A = ℕ} 0 1 = cc in absurd (omega arith)

-- a stopped plan has no verdicts
pub stopped_count : (r : Register) (p : Plan) (why : Refusal) → (planned r p).outcome ≡ Err why → (planned r p).count ≡ 0
stopped_count r p why h =
    halt_cases (halt_of r p)
    (λ e. outcome_clash (sym h ∙ ap (λ v. v.outcome) (planned_runs r p e)))
    (λ other n e. ap (λ v. v.count) (planned_stopped r p other n e))

-- an empty plan has no verdicts
pub empty_count : (r : Register) (p : Plan) → p.count ≡ 0 → (planned r p).count ≡ 0
empty_count r p h =
    halt_cases (halt_of r p)
    (λ e. ap (λ v. v.count) (planned_runs r p e) ∙ judgements_length r false (actions_of p) ∙ rw h)
    (λ why n e. ap (λ v. v.count) (planned_stopped r p why n e))
