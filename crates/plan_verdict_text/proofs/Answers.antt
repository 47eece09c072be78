-- What is printed of a plan text that is judged, and of one that is refused. Assumes nothing.
use Rattle.std.proofs.Common.{Err, Ok, ℕ, ◌-◌, ◌≡◌, refl, sym, ap, ◌∙◌, false, List, [], ◌∷◌, ◌++◌, map, inl, inr, arith, length}
use Rattle.register.specs.declared.Register.{Register}
use Rattle.refusals.specs.Refusals.{number_of}
use Rattle.refusals.proofs.Laws.{outcome_clash}
use Rattle.refusals.specs.declared.Refusal.{Refusal}
use Rattle.refusals.specs.declared.Refusal.TheVariants.{Absent}
use Rattle.actions.specs.declared.Action.{Action}
use Rattle.actions.specs.declared.Judgement.{Judgement}
use Rattle.actions.specs.declared.Judgement.TheVariants.{Permitted}
use Rattle.gate_rules.specs.Plans.{judgements, Halt, runs, halts}
use Rattle.gate_rules.proofs.Cancelling.{judgements_length}
use Rattle.lines.specs.Lines.{decimal_line}
use Rattle.text_rules.specs.Records.{texts}
use Rattle.text_rules.specs.Registers.{register_read}
use Rattle.steps.specs.Steps.{text_action_limit}
use Rattle.steps.specs.Nesting.{plan_of}
use Rattle.steps.specs.Judging.{PlanTextRead, plan_text_read, held_text, halt_under, text_verdict, flat_judged, plan_text_judged}
use Rattle.steps.specs.Answers.{OfText}
use Rattle.steps.specs.declared.PlanTextVerdict.{PlanTextVerdict}
use Rattle.steps.proofs.Judged.{state_cases, read_ending, failed_judged, accepted_flat, judged_by, held_front}
use Rattle.plan_verdict_text.specs.PlanPrinted.{plan_judged_line, verdicts_key, line_key, position_key, judgement_text, verdicts_text, plan_stopped_text, place_text, plan_answer_text, plan_printed}
use Rattle.plan_verdict_text.proofs.Joining.{answer_lines, place_position, place_line}
use Rattle.plan_verdict_text.proofs.Composing as composing

-- the verdicts as the answer holds them
held_text_lem : (vs : List Judgement) → verdicts_text (held_text vs) ≡ decimal_line verdicts_key (length vs) ++ texts judgement_text vs
unfolding verdicts_text
held_text_lem vs =
    ap (λ (es : List Judgement). decimal_line verdicts_key (length vs) ++ texts judgement_text es) (held_front vs (text_action_limit - length vs) Permitted)

-- a plan text that is judged is read, and has the verdicts of its actions
halted_held : (h : Halt) (vs : List Judgement) → (text_verdict h vs).outcome ≡ Ok tt → text_verdict h vs ≡ held_text vs
halted_held runs vs e = refl
halted_held (halts why n) vs e = outcome_clash e

flat_held : (r : Register) (actions : List Action) → (flat_judged text_action_limit r actions).outcome ≡ Ok tt
    → flat_judged text_action_limit r actions ≡ held_text (judgements r false actions)
flat_held r actions e =
    let by = judged_by text_action_limit r actions in
    by ∙ halted_held (halt_under text_action_limit r actions) (judgements r false actions) (sym (ap (λ (v : PlanTextVerdict). v.outcome) by) ∙ e)

judged_held : (r : Register) (t : List ℕ) → (plan_text_judged r t).outcome ≡ Ok tt → plan_text_judged r t ≡ held_text (judgements r false (plan_text_read t).actions)
judged_held r t e =
    state_cases (plan_of t).state
    (λ rest m s.
    let flat = accepted_flat r t (ap (λ (x : PlanTextRead). x.outcome) (read_ending t rest m s)) in
    flat ∙ flat_held r (plan_text_read t).actions (sym (ap (λ (v : PlanTextVerdict). v.outcome) flat) ∙ e))
    (λ why l s. outcome_clash (sym (ap (λ (v : PlanTextVerdict). v.outcome) (failed_judged r t why l s)) ∙ e))

-- 19, 20, 22 and 23 are neither 3 nor 1
not_absent : (why : Refusal) → OfText why → number_of why ≡ 3 → ⊥
not_absent why (inl e) n = let k = ap number_of e in omega arith
not_absent why (inr (inl e)) n = let k = ap number_of e in omega arith
not_absent why (inr (inr (inl e))) n = let k = ap number_of e in omega arith
not_absent why (inr (inr (inr e))) n = let k = ap number_of e in omega arith

not_unsound : (why : Refusal) → OfText why → number_of why ≡ 1 → ⊥
not_unsound why (inl e) n = let k = ap number_of e in omega arith
not_unsound why (inr (inl e)) n = let k = ap number_of e in omega arith
not_unsound why (inr (inr (inl e))) n = let k = ap number_of e in omega arith
not_unsound why (inr (inr (inr e))) n = let k = ap number_of e in omega arith

module _ (register plan : List ℕ) where
  -- the answer for the plan's text by what the register's is read as
  abbrev pub answered : PlanTextVerdict
  answered = plan_text_judged (register_read register).register plan

  pub register_stops_plan : (why : Refusal) → (register_read register).outcome ≡ Err why → plan_printed register plan ≡ plan_stopped_text why
  register_stops_plan = composing.refused_printed register plan

  pub every_verdict_printed : (register_read register).outcome ≡ Ok tt → answered.outcome ≡ Ok tt
      → plan_printed register plan
      ≡ plan_judged_line ++ (decimal_line verdicts_key (length (plan_text_read plan).actions)
      ++ texts judgement_text (judgements (register_read register).register false (plan_text_read plan).actions))
  every_verdict_printed heard e =
      let r = (register_read register).register in
      let actions = (plan_text_read plan).actions in
      let vs = judgements r false actions in
      composing.accepted_printed register plan heard refl
      ∙ ap plan_answer_text (judged_held r plan e)
      ∙ answer_lines (held_text vs) (Ok tt) refl
      ∙ ap (λ (t : List ℕ). plan_judged_line ++ t) (held_text_lem vs)
      ∙ ap (λ (n : ℕ). plan_judged_line ++ (decimal_line verdicts_key n ++ texts judgement_text vs)) (judgements_length r false actions)

  stopped_printed : (why : Refusal) → (register_read register).outcome ≡ Ok tt → answered.outcome ≡ Err why
      → plan_printed register plan ≡ plan_stopped_text why ++ place_text why answered.line answered.position
  stopped_printed why heard e = composing.accepted_printed register plan heard refl ∙ answer_lines answered (Err why) e

  pub line_printed : (why : Refusal) → (register_read register).outcome ≡ Ok tt → answered.outcome ≡ Err why → OfText why
      → plan_printed register plan ≡ plan_stopped_text why ++ decimal_line line_key answered.line
  line_printed why heard e of =
      stopped_printed why heard e
      ∙ ap (λ (t : List ℕ). plan_stopped_text why ++ t) (place_line why answered.line answered.position (not_absent why of) (not_unsound why of))

  pub position_printed : (register_read register).outcome ≡ Ok tt → answered.outcome ≡ Err Absent
      → plan_printed register plan ≡ plan_stopped_text Absent ++ decimal_line position_key answered.position
  position_printed heard e =
      stopped_printed Absent heard e
      ∙ ap (λ (t : List ℕ). plan_stopped_text Absent ++ t) (place_position Absent answered.line answered.position refl)
