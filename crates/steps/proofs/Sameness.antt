-- Laws: Registers that are alike, whatever their claims hold as left, get the same answer for a plan text. Assumes nothing.
use Rattle.std.specs.Prelude.{◌≡◌, refl, List, ℕ}
use Rattle.std.proofs.Math.Bool.{false}
use Rattle.register.specs.declared.Register.{Register}
use Rattle.soundness_rules.proofs.Sameness.{Alike}
use Rattle.actions.specs.declared.Action.{Action}
use Rattle.lines.specs.Reading.{State, going, failed}
use Rattle.gate_rules.proofs.Sameness.{judgements_alike, first_halt_alike}
use Rattle.steps.specs.Steps.{Steps, actions_in, text_action_limit}
use Rattle.steps.specs.Nesting.{plan_of}
use Rattle.steps.specs.Judging.{halt_under, flat_judged, plan_text_verdict, plan_text_judged}

module _ (r s : Register) (same : Alike r s) where
  pub flat_alike : (limit : ℕ) (actions : List Action) → flat_judged limit r actions ≡ flat_judged limit s actions
  unfolding flat_judged halt_under
  flat_alike limit actions = rw (same.judged, first_halt_alike r s same 0 actions, judgements_alike r s same false actions)

  verdict_alike : (q : Steps) (st : State) → plan_text_verdict r q st ≡ plan_text_verdict s q st
  verdict_alike q (going t l) = flat_alike text_action_limit (actions_in q)
  verdict_alike q (failed why l) = refl

  pub plan_text_alike : (t : List ℕ) → plan_text_judged r t ≡ plan_text_judged s t
  unfolding plan_text_judged
  plan_text_alike t = verdict_alike (plan_of t).value (plan_of t).state
