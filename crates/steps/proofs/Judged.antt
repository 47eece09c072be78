-- The theorems of plan texts: read what was written, judged as the flat list. Assumes nothing.
use Rattle.std.proofs.Common.{Err, Ok, ℕ, ◌-◌, ◌≤◌, ◌≡◌, refl, sym, ap, subst, ◌∙◌, true, false, List, [], ◌++◌, map, append-nil, arith, le-leb, length, take, replicate}
use lib.ListN.{length-map}
use lib.Seq.{take-append_seam}
use Rattle.lists.specs.Lists.{All}
use Rattle.lists.specs.Each.{all_imp}
use Rattle.register.specs.declared.Register.{Register}
use Rattle.refusals.proofs.Laws.{outcome_clash}
use Rattle.refusals.specs.declared.Refusal.{Refusal}
use Rattle.actions.specs.Actions.{action_fits, action_limit}
use Rattle.actions.specs.declared.Action.{Action}
use Rattle.actions.specs.declared.Plan.{Plan}
use Rattle.actions.specs.declared.Judgement.{Judgement}
use Rattle.actions.specs.declared.Judgement.TheVariants.{Permitted}
use Rattle.lines.specs.Reading.{State, going, failed, Read, closed}
use Rattle.text_rules.specs.Actions.{ShapedAction}
use Rattle.text_rules.specs.Telling.{going_same, closed_going}
use Rattle.text_rules.proofs.ActionTexts.{ReadFine, cleaned_action}
use Rattle.gate_rules.specs.Plans.{SameActions, actions_of, judgements, Halt, runs, halts, halt_of, plan_verdict, planned}
use Rattle.steps.specs.Steps.{Steps, actions_in, plan_text, step_limit, level_limit, text_action_limit, PlanFits}
use Rattle.steps.specs.Nesting.{plan_of, read_plan}
use Rattle.steps.specs.Judging.{PlanTextRead, plan_text_ending, plan_text_read, stopped_plan, halt_under, text_verdict, flat_judged, plan_text_verdict, plan_text_judged}
use Rattle.steps.specs.Answers.{PlanTextOf, AsPlanned}
use Rattle.steps.specs.declared.PlanTextVerdict.{PlanTextVerdict}
use Rattle.steps.proofs.Reading.{plan_reads, plan_stood}
use Rattle.steps.proofs.Same.{flat_same}
use Rattle.steps.proofs.Cleaning.{clean_steps, clean_count, clean_plan_text, clean_flat, clean_nested, all_clean, clean_same}

-- the plan of a written text
pub record WrittenPlan (s : Steps) : Type 0 where
  pub at : ℕ
  pub value : (plan_of (plan_text s)).value ≡ clean_steps s
  pub state : (plan_of (plan_text s)).state ≡ going [] at

pub written_plan : (s : Steps) → PlanFits s → WrittenPlan s
unfolding plan_of
written_plan s h =
    let few = h.few in
    let lengths : length (actions_in (clean_steps s)) ≡ length (actions_in s) = ap length (clean_flat s) ∙ length-map (actions_in s) cleaned_action in
    let reads = plan_reads (clean_steps s) 7 text_action_limit [] 1 (subst (λ (k : ℕ). k ≤ step_limit) (sym (clean_count s)) h.size)
    (clean_nested 7 s h.nested) (omega arith) (subst (All ReadFine) (sym (clean_flat s)) (all_clean (actions_in s) h.fine h.shaped)) in
    let text : plan_text s ≡ plan_text (clean_steps s) ++ [] = sym (clean_plan_text s) ∙ sym (append-nil (plan_text (clean_steps s))) in
    let e = ap (λ (t : List ℕ). read_plan level_limit text_action_limit (going t 1)) text in
    record {
      at = reads.next;
      value = ap (λ (x : Read Steps). x.value) e ∙ reads.value;
      state = ap closed (ap (λ (x : Read Steps). x.state) e ∙ reads.state);
    }

-- what a reading that goes on gives, and is judged as
pub read_ending : (t : List ℕ) (rest : List ℕ) (m : ℕ) → (plan_of t).state ≡ going rest m → plan_text_read t ≡ record { actions = actions_in (plan_of t).value; outcome = Ok tt; line = 0 }
unfolding plan_text_read
read_ending t rest m e = ap (plan_text_ending (plan_of t).value) e

judged_ending : (r : Register) (t : List ℕ) (rest : List ℕ) (m : ℕ) → (plan_of t).state ≡ going rest m → plan_text_judged r t ≡ flat_judged text_action_limit r (actions_in (plan_of t).value)
unfolding plan_text_judged
judged_ending r t rest m e = ap (plan_text_verdict r (plan_of t).value) e

pub plan_read : (s : Steps) → PlanFits s → plan_text_read (plan_text s) ≡ record { actions = map cleaned_action (actions_in s); outcome = Ok tt; line = 0 }
plan_read s h =
    let w = written_plan s h in
    read_ending (plan_text s) [] w.at w.state
    ∙ ap (λ (l : List Action). record { actions = l; outcome = Ok tt; line = 0 }) (ap actions_in w.value ∙ clean_flat s)

pub plan_accepted : (s : Steps) → PlanFits s
    → ((plan_text_read (plan_text s)).outcome ≡ Ok tt) × ((plan_text_read (plan_text s)).line ≡ 0) × SameActions (plan_text_read (plan_text s)).actions (actions_in s)
plan_accepted s h =
    let e = plan_read s h in (
      ap (λ (x : PlanTextRead). x.outcome) e,
      ap (λ (x : PlanTextRead). x.line) e,
      subst (λ (x : PlanTextRead). SameActions x.actions (actions_in s)) (sym e) (clean_same (actions_in s) h.fine h.shaped),
    )

-- a reading that is accepted goes on
pub state_cases : {A : Type 0} (st : State) → ((t : List ℕ) (l : ℕ) → st ≡ going t l → A) → ((why : Refusal) (l : ℕ) → st ≡ failed why l → A) → A
state_cases (going t l) f g = f t l refl
state_cases (failed why l) f g = g why l refl

pub failed_read : (t : List ℕ) (why : Refusal) (l : ℕ) → (plan_of t).state ≡ failed why l → plan_text_read t ≡ record { actions = []; outcome = Err why; line = l }
unfolding plan_text_read
failed_read t why l e = ap (plan_text_ending (plan_of t).value) e

pub failed_judged : (r : Register) (t : List ℕ) (why : Refusal) (l : ℕ) → (plan_of t).state ≡ failed why l
    → plan_text_judged r t ≡ stopped_plan why l 0
unfolding plan_text_judged
failed_judged r t why l e = ap (plan_text_verdict r (plan_of t).value) e

pub goes_on : {A : Type 0} (t : List ℕ) → (plan_text_read t).outcome ≡ Ok tt → ((rest : List ℕ) (m : ℕ) → (plan_of t).state ≡ going rest m → A) → A
goes_on t h f =
    state_cases (plan_of t).state f
    (λ why l e. outcome_clash (sym (ap (λ (x : PlanTextRead). x.outcome) (failed_read t why l e)) ∙ h))

-- an accepted text is that of fitting steps
fine_fits : (a : Action) → ReadFine a → action_fits a ≡ true
fine_fits a h = h.fine

fine_shaped : (a : Action) → ReadFine a → ShapedAction a
fine_shaped a h = h.shaped

going_plan : (t rest : List ℕ) (m : ℕ) → (plan_of t).state ≡ going rest m → (plan_text_read t).actions ≡ actions_in (plan_of t).value → PlanTextOf t
unfolding plan_of
going_plan t rest m e k =
    let read = read_plan level_limit text_action_limit (going t 1) in
    let stood = plan_stood level_limit text_action_limit (going t 1) [] m (closed_going read.state rest m e) in
    let same = going_same t (plan_text read.value ++ []) 1 stood.at stood.before in
    record {
      steps = read.value;
      text = same ∙ append-nil (plan_text read.value);
      fits = record {
        size = stood.within.0;
        nested = stood.within.1;
        few = stood.few;
        fine = all_imp ReadFine (λ a. action_fits a ≡ true) fine_fits (actions_in read.value) stood.each;
        shaped = all_imp ReadFine ShapedAction fine_shaped (actions_in read.value) stood.each;
      };
      actions = k;
    }

pub accepted_plan : (t : List ℕ) → (plan_text_read t).outcome ≡ Ok tt → PlanTextOf t
accepted_plan t h =
    goes_on t h (λ rest m e. going_plan t rest m e (ap (λ (x : PlanTextRead). x.actions) (read_ending t rest m e)))

-- judged as the flat list
pub accepted_flat : (r : Register) (t : List ℕ) → (plan_text_read t).outcome ≡ Ok tt → plan_text_judged r t ≡ flat_judged text_action_limit r (plan_text_read t).actions
accepted_flat r t h =
    goes_on t h (λ rest m e. judged_ending r t rest m e ∙ ap (flat_judged text_action_limit r) (sym (ap (λ (x : PlanTextRead). x.actions) (read_ending t rest m e))))

pub nested_flat : (r : Register) (s : Steps) → PlanFits s → plan_text_judged r (plan_text s) ≡ flat_judged text_action_limit r (actions_in s)
nested_flat r s h =
    let told = plan_accepted s h in
    accepted_flat r (plan_text s) told.0 ∙ flat_same r text_action_limit (plan_text_read (plan_text s)).actions (actions_in s) told.2

pub regrouped_same : (r : Register) (s q : Steps) → PlanFits s → PlanFits q → SameActions (actions_in s) (actions_in q) → plan_text_judged r (plan_text s) ≡ plan_text_judged r (plan_text q)
regrouped_same r s q h k same = nested_flat r s h ∙ flat_same r text_action_limit (actions_in s) (actions_in q) same ∙ sym (nested_flat r q k)

pub texts_regrouped : (r : Register) (t u : List ℕ) → (plan_text_read t).outcome ≡ Ok tt → (plan_text_read u).outcome ≡ Ok tt
    → SameActions (plan_text_read t).actions (plan_text_read u).actions → plan_text_judged r t ≡ plan_text_judged r u
texts_regrouped r t u h k same =
    accepted_flat r t h ∙ flat_same r text_action_limit (plan_text_read t).actions (plan_text_read u).actions same ∙ sym (accepted_flat r u k)

-- sixteen actions: as the flat plan call answers
planned_by : (r : Register) (p : Plan) → planned r p ≡ plan_verdict (halt_of r p) r p
unfolding planned
planned_by r p = refl

pub judged_by : (limit : ℕ) (r : Register) (l : List Action) → flat_judged limit r l ≡ text_verdict (halt_under limit r l) (judgements r false l)
unfolding flat_judged
judged_by limit r l = refl

halt_few : (limit : ℕ) (r : Register) (p : Plan) → length (actions_of p) ≤ limit → p.count ≤ action_limit → halt_under limit r (actions_of p) ≡ halt_of r p
unfolding halt_under halt_of
halt_few limit r p few most = rw (le-leb (length (actions_of p)) limit few, le-leb p.count action_limit most)

pub held_front : (vs : List Judgement) (n : ℕ) (fill : Judgement) → take (length vs) (vs ++ replicate n fill) ≡ vs
held_front vs n fill = take-append_seam vs (replicate n fill)

as_halted : (r : Register) (p : Plan) (h : Halt) → halt_of r p ≡ h → AsPlanned (text_verdict h (judgements r false (actions_of p))) (planned r p)
as_halted r p runs e =
    let vs = judgements r false (actions_of p) in
    let same = planned_by r p ∙ ap (λ (h : Halt). plan_verdict h r p) e in
    subst (AsPlanned _) (sym same) (record {
      outcome = refl;
      line = refl;
      position = refl;
      count = refl;
      verdicts = held_front vs (text_action_limit - length vs) Permitted ∙ sym (held_front vs (action_limit - length vs) Permitted);
    })
as_halted r p (halts why n) e =
    let same = planned_by r p ∙ ap (λ (h : Halt). plan_verdict h r p) e in
    subst (AsPlanned _) (sym same) (record { outcome = refl; line = refl; position = refl; count = refl; verdicts = refl })

pub nested_sixteen : (r : Register) (s : Steps) (p : Plan) → PlanFits s → SameActions (actions_in s) (actions_of p) → p.count ≤ action_limit → length (actions_of p) ≤ action_limit
    → AsPlanned (plan_text_judged r (plan_text s)) (planned r p)
nested_sixteen r s p h same most few =
    let e = nested_flat r s h ∙ flat_same r text_action_limit (actions_in s) (actions_of p) same ∙ judged_by text_action_limit r (actions_of p)
    ∙ ap (λ (x : Halt). text_verdict x (judgements r false (actions_of p))) (halt_few text_action_limit r p (omega arith) most) in
    subst (λ (v : PlanTextVerdict). AsPlanned v (planned r p)) (sym e) (as_halted r p (halt_of r p) refl)
