-- What stops the flat list of an accepted plan text, how a plan text is refused, and what a flag cancels. Assumes nothing.
use Rattle.std.proofs.Common.{Err, Ok, ℕ, suc, ◌+◌, ◌-◌, ◌≤◌, ◌<◌, ◌≡◌, refl, sym, ap, subst, ◌∙◌, true, false, List, [], ◌∷◌, ◌++◌, map, arith, le-leb, eqb, length, replicate}
use Rattle.lists.specs.Tests.{cases}
use Rattle.lists.specs.Lists.{All, any}
use Rattle.register.specs.Register.{actors_of}
use Rattle.register.specs.declared.Register.{Register}
use Rattle.soundness_rules.specs.Sound.{sound}
use Rattle.refusals.specs.Refusals.{outcome_of}
use Rattle.refusals.proofs.Laws.{outcome_pass, outcome_fail, outcome_nil, outcome_clash, refused_same}
use Rattle.refusals.specs.declared.Refusal.{Refusal}
use Rattle.refusals.specs.declared.Refusal.TheVariants.{Unsound, Range, Absent}
use Rattle.actions.specs.Actions.{action_fits}
use Rattle.actions.specs.declared.Action.{Action}
use Rattle.actions.specs.declared.Judgement.TheVariants.{Permitted, Cancelled}
use Rattle.lines.specs.Reading.{failed}
use Rattle.text_rules.specs.Telling.{Told}
use Rattle.gate_rules.specs.Gate.{action_tests, violations_of}
use Rattle.gate_rules.specs.Plans.{judged, judgements, Halt, runs, halts, first_halt}
use Rattle.gate_rules.proofs.Cancelling.{first_halt_pass, first_halt_fail, judgements_flagged}
use Rattle.steps.specs.Steps.{Steps, actions_in, plan_text, text_action_limit, PlanFits}
use Rattle.steps.specs.Nesting.{plan_of}
use Rattle.steps.specs.Judging.{PlanTextRead, plan_text_read, verdicts_in, halt_under, text_verdict, flat_judged, plan_text_judged}
use Rattle.steps.specs.Answers.{OfText, Refusing, by_line, by_register, by_action}
use Rattle.steps.specs.declared.PlanTextVerdict.{PlanTextVerdict}
use Rattle.steps.proofs.Telling.{text_told}
use Rattle.steps.proofs.Judged.{accepted_plan, accepted_flat, nested_flat, judged_by, state_cases, failed_judged, read_ending, held_front}

-- an action in its ranges passes, or its actor does not stand
action_outcome : {A : Type 0} (r : Register) (a : Action) → action_fits a ≡ true
    → (outcome_of (action_tests r a) ≡ Ok tt → A) → (outcome_of (action_tests r a) ≡ Err Absent → A) → A
unfolding action_tests
action_outcome r a h f g =
    let known = any (λ b. eqb a.actor b.id) (actors_of r.actors) in
    let fits = outcome_pass (record { passed = action_fits a; refusal = Range }) (record { passed = known; refusal = Absent } ∷ []) h in
    cases known
    (λ e. f (fits ∙ outcome_pass (record { passed = known; refusal = Absent }) [] e ∙ outcome_nil))
    (λ e. g (fits ∙ outcome_fail (record { passed = known; refusal = Absent }) [] e))

halt_nil : (r : Register) (n : ℕ) → first_halt r n [] ≡ runs
unfolding first_halt
halt_nil r n = refl

-- actions in their ranges: the list runs, or one of them stops it with 3
halt_known : {A : Type 0} (r : Register) (n : ℕ) (l : List Action) → All (λ a. action_fits a ≡ true) l
    → (first_halt r n l ≡ runs → A) → ((m : ℕ) → n ≤ m → m < n + length l → first_halt r n l ≡ halts Absent m → A) → A
halt_known r n [] h f g = f (halt_nil r n)
halt_known r n (a ∷ l) h f g =
    action_outcome r a h.0
    (λ e. halt_known r (suc n) l h.1 (λ k. f (first_halt_pass r n a l e ∙ k)) (λ m low high k. g m (omega arith) (omega arith) (first_halt_pass r n a l e ∙ k)))
    (λ e. g n (omega arith) (omega arith) (first_halt_fail r n a l Absent e))

halt_sound : (r : Register) (l : List Action) → sound r ≡ true → length l ≤ text_action_limit → halt_under text_action_limit r l ≡ first_halt r 0 l
unfolding halt_under
halt_sound r l s few = rw (s, le-leb (length l) text_action_limit few)

halt_unsound : (r : Register) (l : List Action) → sound r ≡ false → halt_under text_action_limit r l ≡ halts Unsound 0
unfolding halt_under
halt_unsound r l s = rw s

flat_refusing : (r : Register) (l : List Action) (why : Refusal) → length l ≤ text_action_limit → All (λ a. action_fits a ≡ true) l
    → (flat_judged text_action_limit r l).outcome ≡ Err why → Refusing why (flat_judged text_action_limit r l) l
flat_refusing r l why few fine h =
    let verdict : (Halt → PlanTextVerdict) = λ x. text_verdict x (judgements r false l) in
    let by : (x : Halt) → halt_under text_action_limit r l ≡ x → flat_judged text_action_limit r l ≡ verdict x = λ x e. judged_by text_action_limit r l ∙ ap verdict e in
    cases (sound r)
    (λ s. halt_known r 0 l fine
    (λ e.
    let same = by runs (halt_sound r l s few ∙ e) in
    outcome_clash (sym h ∙ ap (λ (v : PlanTextVerdict). v.outcome) same))
    (λ m low high e.
    let same = by (halts Absent m) (halt_sound r l s few ∙ e) in
    subst (λ (v : PlanTextVerdict). Refusing why v l) (sym same)
    (by_action (sym (refused_same (sym (ap (λ (v : PlanTextVerdict). v.outcome) same) ∙ h))) refl (omega arith) refl)))
    (λ s.
    let same = by (halts Unsound 0) (halt_unsound r l s) in
    subst (λ (v : PlanTextVerdict). Refusing why v l) (sym same)
    (by_register (sym (refused_same (sym (ap (λ (v : PlanTextVerdict). v.outcome) same) ∙ h))) refl refl refl))

pub refused_told : (r : Register) (t : List ℕ) (why : Refusal) → (plan_text_judged r t).outcome ≡ Err why
    → Refusing why (plan_text_judged r t) (plan_text_read t).actions
refused_told r t why h =
    state_cases (plan_of t).state
    (λ rest m e.
    let accepted : (plan_text_read t).outcome ≡ (Ok tt) = ap (λ (x : PlanTextRead). x.outcome) (read_ending t rest m e) in
    let of = accepted_plan t accepted in
    let same = accepted_flat r t accepted in
    let few : length (plan_text_read t).actions ≤ text_action_limit = subst (λ (l : List Action). length l ≤ text_action_limit) (sym of.actions) of.fits.few in
    let fine = subst (All (λ a. action_fits a ≡ true)) (sym of.actions) of.fits.fine in
    subst (λ (v : PlanTextVerdict). Refusing why v (plan_text_read t).actions) (sym same)
    (flat_refusing r (plan_text_read t).actions why few fine (sym (ap (λ (v : PlanTextVerdict). v.outcome) same) ∙ h)))
    (λ fault l e.
    let told = subst (Told OfText) e (text_told t) in
    let same = failed_judged r t fault l e in
    subst (λ (v : PlanTextVerdict). Refusing why v (plan_text_read t).actions) (sym same)
    (by_line (subst OfText (refused_same (sym (ap (λ (v : PlanTextVerdict). v.outcome) same) ∙ h)) told.1) told.0 refl refl))

-- the text comes before the register: a line's refusal does not depend on it
pub text_first : (r q : Register) (t : List ℕ) (why : Refusal) → (plan_text_read t).outcome ≡ Err why → plan_text_judged r t ≡ plan_text_judged q t
text_first r q t why h =
    state_cases (plan_of t).state
    (λ rest m e. outcome_clash (sym h ∙ ap (λ (x : PlanTextRead). x.outcome) (read_ending t rest m e)))
    (λ fault l e. failed_judged r t fault l e ∙ sym (failed_judged q t fault l e))

-- what the failing line is refused with, and its line, is what is answered
pub plan_refused_number : (r : Register) (t : List ℕ) (why : Refusal) (l : ℕ) → (plan_of t).state ≡ failed why l
    → ((plan_text_judged r t).outcome ≡ Err why) × ((plan_text_judged r t).line ≡ l)
plan_refused_number r t why l e =
    let same = failed_judged r t why l e in
    (ap (λ (v : PlanTextVerdict). v.outcome) same, ap (λ (v : PlanTextVerdict). v.line) same)

-- an accepted list has its judgements
runs_verdicts : (r : Register) (l : List Action) → (flat_judged text_action_limit r l).outcome ≡ Ok tt
    → verdicts_in (flat_judged text_action_limit r l) ≡ judgements r false l
runs_verdicts r l h = go (halt_under text_action_limit r l) (sym (ap (λ (v : PlanTextVerdict). v.outcome) (judged_by text_action_limit r l)) ∙ h)
    (ap verdicts_in (judged_by text_action_limit r l))
  where
    go : (x : Halt) → (text_verdict x (judgements r false l)).outcome ≡ Ok tt → verdicts_in (flat_judged text_action_limit r l) ≡ verdicts_in (text_verdict x (judgements r false l))
        → verdicts_in (flat_judged text_action_limit r l) ≡ judgements r false l
    go runs z e =
        let vs = judgements r false l in e ∙ held_front vs (text_action_limit - length vs) Permitted
    go (halts why n) z e = outcome_clash z

pub cancelled_across : (r : Register) (s : Steps) → PlanFits s → (plan_text_judged r (plan_text s)).outcome ≡ Ok tt
    → (before : List Action) (a : Action) (after : List Action) → actions_in s ≡ before ++ a ∷ after → All (λ b. b.flags ≡ 0) before → (a.flags ≡ 0 → ⊥)
    → verdicts_in (plan_text_judged r (plan_text s))
    ≡ (map (λ b. judged (violations_of r b)) before ++ (judged (violations_of r a) ∷ replicate (length after) Cancelled))
cancelled_across r s h accepted before a after split flagless set =
    let same = nested_flat r s h in
    ap verdicts_in same
    ∙ runs_verdicts r (actions_in s) (sym (ap (λ (v : PlanTextVerdict). v.outcome) same) ∙ accepted)
    ∙ ap (λ l. judgements r false l) split
    ∙ judgements_flagged r before a after flagless set
