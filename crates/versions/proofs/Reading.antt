-- What is read from the text of a register of version 1 as version 2 has it gives the verdicts of the register. Assumes nothing.
use Rattle.std.proofs.Common.{Ok, ◌≡◌, ◌∙◌, true}
use Rattle.register.specs.Limits.{version_one}
use Rattle.register.specs.Register.{Same, Shaped}
use Rattle.register.specs.declared.Register.{Register}
use Rattle.soundness_rules.specs.Sound.{sound}
use Rattle.actions.specs.declared.Action.{Action}
use Rattle.actions.specs.declared.Plan.{Plan}
use Rattle.gate_rules.specs.Gate.{gated}
use Rattle.gate_rules.specs.Plans.{planned}
use Rattle.gate_rules.proofs.Sameness.{gated_same, gated_alike, planned_same, planned_alike}
use Rattle.text_rules.specs.Registers.{register_text, register_read}
use Rattle.text_rules.proofs.Theorems.{register_accepted, register_read_written}
use Rattle.versions.specs.Versions.{as_two}
use Rattle.versions.proofs.Rewriting.{as_two_sound, as_two_alike, as_two_shaped}

module _ (r : Register) (one : r.version ≡ version_one) (fine : sound r ≡ true) (shaped : Shaped r) where
  two_fine : sound (as_two r) ≡ true
  two_fine = as_two_sound r one ∙ fine

  pub two_accepted : (register_read (register_text (as_two r))).outcome ≡ Ok tt
  two_accepted = register_accepted (as_two r) two_fine (as_two_shaped r shaped)

  pub two_read : Same (register_read (register_text (as_two r))).register (as_two r)
  two_read = register_read_written (as_two r) two_fine (as_two_shaped r shaped)

  pub two_read_gated : (a : Action) → gated (register_read (register_text (as_two r))).register a ≡ gated r a
  two_read_gated a = gated_same (register_read (register_text (as_two r))).register (as_two r) two_read a ∙ gated_alike (as_two r) r (as_two_alike r one) a

  pub two_read_planned : (p : Plan) → planned (register_read (register_text (as_two r))).register p ≡ planned r p
  two_read_planned p = planned_same (register_read (register_text (as_two r))).register (as_two r) two_read p ∙ planned_alike (as_two r) r (as_two_alike r one) p
