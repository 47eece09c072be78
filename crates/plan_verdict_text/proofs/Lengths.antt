-- How long a printed text can be: an accepted plan has at most 64 verdicts and each names at most 51 violations, so none is longer than 1,944 bytes; a
-- refusal's is shorter, with a line of 64 bits. Assumes nothing.
use Rattle.std.proofs.Common.{ℕ, ◌-◌, ◌≤◌, ◌<◌, ◌≡◌, refl, sym, ap, subst, Bool, true, false, cond, not, ◌||◌, List, [], ◌∷◌, map, arith, leb-true, eqb, leb, length, length-append}
use lib.ListN.{length-map}
use Rattle.lists.specs.Each.{all_map}
use Rattle.lists.specs.Lists.{All}
use Rattle.register.specs.declared.Register.{Register}
use Rattle.soundness_rules.specs.Sound.{sound}
use Rattle.refusals.specs.Refusals.{number_of}
use Rattle.refusals.proofs.Laws.{number_bounds}
use Rattle.refusals.specs.declared.Refusal.{Refusal}
use Rattle.refusals.specs.declared.Refusal.TheVariants.{Unsound, Range}
use Rattle.actions.specs.Actions.{violation_limit}
use Rattle.actions.specs.declared.Action.{Action}
use Rattle.actions.specs.declared.Violation.{Violation}
use Rattle.actions.specs.declared.Judgement.{Judgement}
use Rattle.actions.specs.declared.Judgement.TheVariants.{Permitted, Cancelled}
use Rattle.gate_rules.specs.Gate.{violations_of}
use Rattle.gate_rules.specs.Plans.{judged, judgements, Halt, runs, halts, first_halt}
use Rattle.gate_rules.specs.Fitting.{Fit}
use Rattle.gate_rules.proofs.Bounds.{violations_most}
use Rattle.gate_rules.proofs.Cancelling.{judgements_nil, judgements_cons, judgements_length, first_halt_runs}
use Rattle.decimals.specs.Walk.{length_under}
use Rattle.lines.specs.Lines.{decimal_line}
use Rattle.lines.proofs.Laws.{decimal_line_length}
use Rattle.lines.specs.Reading.{State, going, failed}
use Rattle.text_rules.specs.Records.{texts}
use Rattle.text_rules.proofs.Lengths.{texts_length}
use Rattle.steps.specs.Steps.{Steps, actions_in, text_action_limit}
use Rattle.steps.specs.Nesting.{plan_of}
use Rattle.steps.specs.Judging.{held_text, stopped_plan, verdicts_in, halt_under, text_verdict, flat_judged, plan_text_verdict, plan_text_judged}
use Rattle.steps.specs.declared.PlanTextVerdict.{PlanTextVerdict}
use Rattle.steps.proofs.Judged.{held_front}
use Rattle.verdict_printing.specs.Printed.{refused_line, violations_key, refusal_key}
use Rattle.plan_verdict_text.specs.PlanPrinted.{plan_judged_line, plan_stopped_line, verdicts_key, line_key, position_key, judgement_text, verdicts_text, plan_stopped_text, place_text, plan_answer_text}
use Rattle.plan_verdict_text.specs.Bounds.{plan_printed_limit}

-- a number of 64 bits is below it
abbrev pub number_end : ℕ
number_end = 18446744073709551616

-- a verdict's lines are short
abbrev Short : Judgement → Type 0
Short j = length (judgement_text j) ≤ 30

judged_short : (vs : List Violation) → length vs ≤ violation_limit → Short (judged vs)
judged_short [] h = omega arith
judged_short (v ∷ vs) h =
    omega (
      arith,
      length-append refused_line (decimal_line violations_key (length (v ∷ vs))),
      decimal_line_length violations_key (length (v ∷ vs)),
      length_under 1 (length (v ∷ vs)) (omega arith),
    )

chosen_short : (cancelled : Bool) (j : Judgement) → Short j → Short (cond cancelled Cancelled j)
chosen_short true j h = omega arith
chosen_short false j h = h

judgements_short : (r : Register) (cancelled : Bool) (actions : List Action) → All (λ a. Fit r a) actions → All Short (judgements r cancelled actions)
judgements_short r cancelled [] h = rw (judgements_nil r cancelled) tt
judgements_short r cancelled (a ∷ actions) h =
    rw (judgements_cons r cancelled a actions) (
      chosen_short cancelled (judged (violations_of r a)) (judged_short (violations_of r a) (violations_most r a h.0.fits)),
      judgements_short r (cancelled || not (eqb a.flags 0)) actions h.1,
    )

verdicts_length : (vs : List Judgement) → length vs ≤ text_action_limit → All Short vs → length (verdicts_text (held_text vs)) ≤ 1932
unfolding verdicts_text
verdicts_length vs few short =
    let front : verdicts_in (held_text vs) ≡ vs = held_front vs (text_action_limit - length vs) Permitted in
    omega (
      arith,
      length-append (decimal_line verdicts_key (length vs)) (texts judgement_text (verdicts_in (held_text vs))),
      ap (λ (es : List Judgement). length (texts judgement_text es)) front,
      decimal_line_length verdicts_key (length vs),
      length_under 1 (length vs) (omega arith),
      texts_length judgement_text 30 text_action_limit vs few short,
    )

pub stopped_length : (why : Refusal) → length (plan_stopped_text why) ≤ 24
unfolding plan_stopped_text
stopped_length why =
    omega (
      arith,
      length-append plan_stopped_line (decimal_line refusal_key (number_of why)),
      decimal_line_length refusal_key (number_of why),
      length_under 1 (number_of why) (omega (arith, (number_bounds why).1)),
    )

one_of_three : (absent unsound : Bool) (line position : ℕ) → line < number_end → position < number_end
    → length (cond absent (decimal_line position_key position) (cond unsound [] (decimal_line line_key line))) ≤ 30
one_of_three true unsound line position l p = omega (arith, decimal_line_length position_key position, length_under 19 position (omega arith))
one_of_three false true line position l p = omega arith
one_of_three false false line position l p = omega (arith, decimal_line_length line_key line, length_under 19 line (omega arith))

place_length : (why : Refusal) (line position : ℕ) → line < number_end → position < number_end → length (place_text why line position) ≤ 30
unfolding place_text
place_length why line position = one_of_three (eqb (number_of why) 3) (eqb (number_of why) 1) line position

-- an answer's text fits, and so do its verdicts
pub record PlanFitting (v : PlanTextVerdict) : Type 0 where
  pub text : length (plan_answer_text v) ≤ plan_printed_limit
  pub few : v.count ≤ text_action_limit

stopped_fitting : (why : Refusal) (line position : ℕ) → line < number_end → position < number_end → PlanFitting (stopped_plan why line position)
unfolding plan_answer_text
stopped_fitting why line position l p = record {
  text = omega (arith, length-append (plan_stopped_text why) (place_text why line position), stopped_length why, place_length why line position l p);
  few = omega arith;
}

held_fitting : (vs : List Judgement) → length vs ≤ text_action_limit → All Short vs → PlanFitting (held_text vs)
unfolding plan_answer_text
held_fitting vs few short = record {
  text = omega (arith, length-append plan_judged_line (verdicts_text (held_text vs)), verdicts_length vs few short);
  few = few;
}

-- a list that runs is within its limit, and each action passes 2 and 3
halt_clash : {A : Type 0} {why : Refusal} {n : ℕ} → halts why n ≡ runs → A
halt_clash e = let never : ◌≡◌ {A = ℕ} 0 1 = cc in absurd (omega arith)

runs_choice : (s c : Bool) (h : Halt) → cond s (cond c h (halts Range 0)) (halts Unsound 0) ≡ runs → (c ≡ true) × (h ≡ runs)
runs_choice true true h e = (refl, e)
runs_choice true false h e = halt_clash e
runs_choice false c h e = halt_clash e

runs_out : (r : Register) (actions : List Action) → halt_under text_action_limit r actions ≡ runs → (length actions ≤ text_action_limit) × All (λ a. Fit r a) actions
unfolding halt_under
runs_out r actions e =
    let told = runs_choice (sound r) (leb (length actions) text_action_limit) (first_halt r 0 actions) e in
    (leb-true (length actions) text_action_limit told.0, first_halt_runs r 0 actions told.1)

halt_fitting : (r : Register) (actions : List Action) (h : Halt) → halt_under text_action_limit r actions ≡ h
    → (text_verdict h (judgements r false actions)).position < number_end → PlanFitting (text_verdict h (judgements r false actions))
halt_fitting r actions runs e p =
    let told = runs_out r actions e in
    held_fitting (judgements r false actions) (omega (arith, judgements_length r false actions, told.0)) (judgements_short r false actions told.1)
halt_fitting r actions (halts why n) e p = stopped_fitting why 0 n (omega arith) p

flat_fitting : (r : Register) (actions : List Action) → (flat_judged text_action_limit r actions).position < number_end → PlanFitting (flat_judged text_action_limit r actions)
unfolding flat_judged
flat_fitting r actions p = halt_fitting r actions (halt_under text_action_limit r actions) refl p

state_fitting : (r : Register) (s : Steps) (st : State) → (plan_text_verdict r s st).line < number_end → (plan_text_verdict r s st).position < number_end
    → PlanFitting (plan_text_verdict r s st)
state_fitting r s (going t l) line position = flat_fitting r (actions_in s) position
state_fitting r s (failed why l) line position = stopped_fitting why l 0 line position

text_fitting : (r : Register) (t : List ℕ) → (plan_text_judged r t).line < number_end → (plan_text_judged r t).position < number_end → PlanFitting (plan_text_judged r t)
unfolding plan_text_judged
text_fitting r t = state_fitting r (plan_of t).value (plan_of t).state

-- the answer for a plan text fits
pub judged_fitting : (r : Register) (t : List ℕ) {v : PlanTextVerdict} → v ≡ plan_text_judged r t → v.line < number_end → v.position < number_end → PlanFitting v
judged_fitting r t {v} e l p =
    subst PlanFitting (sym e)
    (text_fitting r t (subst (λ (w : PlanTextVerdict). w.line < number_end) e l) (subst (λ (w : PlanTextVerdict). w.position < number_end) e p))
