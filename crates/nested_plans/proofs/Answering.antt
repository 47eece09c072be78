-- The answer for a plan text, by where its reading ended, and by what is lent of a register. Assumes nothing.
use Rattle.std.proofs.Common.{◌≡◌, refl, sym, ap, ◌∙◌, true, false, List, ℕ, ◌≤◌, arith, le-leb, length}
use Rattle.register.specs.Limits.{claim_limit}
use Rattle.register.specs.Register.{Shaped}
use Rattle.register.specs.declared.Register.{Register}
use Rattle.soundness_rules.specs.Sound.{sound}
use Rattle.soundness_rules.proofs.Sameness.{same_alike}
use Rattle.refusals.specs.declared.Refusal.{Refusal}
use Rattle.refusals.specs.declared.Refusal.TheVariants.{Unsound}
use Rattle.actions.specs.declared.Action.{Action}
use Rattle.lines.specs.Reading.{going, failed}
use Rattle.lines.specs.Answers.{state_of}
use Rattle.gate_rules.specs.Plans.{judgements, Halt, runs, halts, first_halt}
use Rattle.gate_rules.proofs.Cancelling.{first_halt_runs}
use Rattle.gate.specs.Judged.{Lent, lent_in}
use Rattle.gate.specs.Sheets.{sheeted, sheeted_same}
use Rattle.plans.specs.Stops.{halt_by}
use Rattle.plans.specs.Judgements.{judgements_by}
use Rattle.plans.specs.Laws.{halt_natural, judgements_natural}
use Rattle.steps.specs.Steps.{text_action_limit}
use Rattle.steps.specs.Nesting.{plan_of}
use Rattle.steps.proofs.Sameness.{flat_alike}
use Rattle.steps.specs.Judging.{stopped_plan, halt_under, text_verdict, flat_judged, plan_text_verdict, plan_text_judged}
use Rattle.steps.specs.declared.PlanTextVerdict.{PlanTextVerdict}
use Rattle.step_reading.specs.Finding.{TextFound, actions_at}
use Rattle.step_reading.specs.declared.Places.{Places}

-- a text that fails, and one that is read
module _ (r : Register) (s : List ℕ) (p : Places) (found : TextFound s p (plan_of s)) where
  pub text_fails : (why : Refusal) (l : ℕ) → state_of s p.cursor ≡ failed why l → stopped_plan why l 0 ≡ plan_text_judged r s
  unfolding plan_text_judged
  text_fails why l e = sym (ap (plan_text_verdict r (plan_of s).value) (sym found.state ∙ e))

  pub text_reads : (rest : List ℕ) (l : ℕ) → state_of s p.cursor ≡ going rest l → plan_text_judged r s ≡ flat_judged text_action_limit r (actions_at s p)
  unfolding plan_text_judged
  text_reads rest l e =
      let goes = sym found.state ∙ e in
      ap (plan_text_verdict r (plan_of s).value) goes ∙ ap (flat_judged text_action_limit r) (sym (found.actions rest l goes))

  pub text_few : (rest : List ℕ) (l : ℕ) → state_of s p.cursor ≡ going rest l → length (actions_at s p) ≤ text_action_limit
  text_few rest l e =
      let goes = sym found.state ∙ e in
      let same = ap length (found.actions rest l goes) in
      let count = found.count rest l goes in
      let room = found.room in
      omega arith

-- the register whose claims are read from their sheet
module _ (r : Register) (long : length r.claims.list ≡ claim_limit) (actions : List Action) where
  sheeted_judged : flat_judged text_action_limit (sheeted r) actions ≡ flat_judged text_action_limit r actions
  sheeted_judged = flat_alike (sheeted r) r (same_alike (sheeted r) r (sheeted_same r long)) text_action_limit actions

  flat_unsound : sound (sheeted r) ≡ false → stopped_plan Unsound 0 0 ≡ flat_judged text_action_limit (sheeted r) actions
  unfolding flat_judged halt_under
  flat_unsound fails = rw fails

  pub stop_unsound : sound (sheeted r) ≡ false → stopped_plan Unsound 0 0 ≡ flat_judged text_action_limit r actions
  stop_unsound fails = flat_unsound fails ∙ sheeted_judged

  flat_sound : sound (sheeted r) ≡ true → length actions ≤ text_action_limit
      → text_verdict (first_halt (sheeted r) 0 actions) (judgements (sheeted r) false actions) ≡ flat_judged text_action_limit (sheeted r) actions
  unfolding flat_judged halt_under
  flat_sound h few = rw (h, le-leb (length actions) text_action_limit few)

  -- what is lent of the register gives its answer
  pub judged_lent : Shaped r → sound (sheeted r) ≡ true → length actions ≤ text_action_limit → {l : Lent} → l ≡ lent_in r → {answer : PlanTextVerdict}
      → answer ≡ text_verdict (halt_by l.names l.actors 0 actions) (judgements_by l false actions)
      → answer ≡ flat_judged text_action_limit r actions
  judged_lent shaped h few lent answered =
      answered
      ∙ rw lent
      (ap (λ x. text_verdict x (judgements_by (lent_in r) false actions)) (halt_natural r 0 actions)
      ∙ go (first_halt (sheeted r) 0 actions) refl ∙ flat_sound h few)
      ∙ sheeted_judged
    where
      go : (x : Halt) → first_halt (sheeted r) 0 actions ≡ x
          → text_verdict (first_halt (sheeted r) 0 actions) (judgements_by (lent_in r) false actions)
          ≡ text_verdict (first_halt (sheeted r) 0 actions) (judgements (sheeted r) false actions)
      go runs e = ap (text_verdict (first_halt (sheeted r) 0 actions)) (judgements_natural r shaped h false actions (first_halt_runs (sheeted r) 0 actions e))
      go (halts why n) e = rw e
