-- A register that is not sound stops the gate before anything is asked of the action. Assumes nothing.
use Rattle.std.proofs.Common.{Err, ◌≡◌, false, []}
use Rattle.register.specs.declared.Register.{Register}
use Rattle.soundness_rules.specs.Sound.{sound}
use Rattle.refusals.specs.Refusals.{outcome_of}
use Rattle.refusals.proofs.Laws.{outcome_fail}
use Rattle.refusals.specs.declared.Refusal.TheVariants.{Unsound}
use Rattle.actions.specs.declared.Action.{Action}
use Rattle.actions.specs.declared.Decision.TheVariants.{Stopped}
use Rattle.gate_rules.specs.Gate.{action_tests, gate_tests, listed, padded, gated}
use Rattle.gate_rules.proofs.Laws.{gated_stopped}

module _ (r : Register) (a : Action) (broken : sound r ≡ false) where
  unsound_first : outcome_of (gate_tests r a) ≡ Err Unsound
  unfolding gate_tests
  unsound_first = outcome_fail (record { passed = sound r; refusal = Unsound }) (action_tests r a) broken

  pub gate_unsound : gated r a ≡ record { decision = Stopped Unsound; violations = listed []; hops = padded [] }
  gate_unsound = gated_stopped r a Unsound unsound_first
