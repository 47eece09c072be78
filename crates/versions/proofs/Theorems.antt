-- What is proved of a register of version 1 and the same as version 2 has it: the verdicts are the same. Assumes nothing.
use Rattle.std.proofs.Common.{Ok, ◌≡◌, true, List, ℕ}
use Rattle.register.specs.Limits.{version_one}
use Rattle.register.specs.Register.{Same, Shaped}
use Rattle.register.specs.declared.Register.{Register}
use Rattle.soundness_rules.specs.Sound.{sound}
use Rattle.actions.specs.declared.Action.{Action}
use Rattle.actions.specs.declared.Plan.{Plan}
use Rattle.gate_rules.specs.Gate.{gated}
use Rattle.gate_rules.specs.Plans.{planned}
use Rattle.gate_rules.proofs.Sameness.{gated_alike, planned_alike}
use Rattle.text_rules.specs.Registers.{register_text, register_read}
use Rattle.steps.specs.Judging.{plan_text_judged}
use Rattle.steps.proofs.Sameness.{plan_text_alike}
use Rattle.versions.specs.Versions.{as_two}
use Rattle.versions.proofs.Rewriting as rewriting
use Rattle.versions.proofs.Reading as reading

-- 1a. It is sound exactly where the register is.
pub as_two_sound : (r : Register) → r.version ≡ version_one → sound (as_two r) ≡ sound r
as_two_sound = rewriting.as_two_sound

-- 1b. The gate answers the same of every action.
pub as_two_gated : (r : Register) → r.version ≡ version_one → (a : Action) → gated (as_two r) a ≡ gated r a
as_two_gated r one = gated_alike (as_two r) r (rewriting.as_two_alike r one)

-- 1c. The plan answers the same of every plan.
pub as_two_planned : (r : Register) → r.version ≡ version_one → (p : Plan) → planned (as_two r) p ≡ planned r p
as_two_planned r one = planned_alike (as_two r) r (rewriting.as_two_alike r one)

-- 1d. And so does the plan of every plan text.
pub as_two_plan_text : (r : Register) → r.version ≡ version_one → (t : List ℕ) → plan_text_judged (as_two r) t ≡ plan_text_judged r t
as_two_plan_text r one = plan_text_alike (as_two r) r (rewriting.as_two_alike r one)

-- 2a. The text of a sound register as version 2 has it is accepted, and what is read from it is the register as version 2 has it.
pub as_two_read : (r : Register) → r.version ≡ version_one → sound r ≡ true → Shaped r
    → ((register_read (register_text (as_two r))).outcome ≡ Ok tt) × Same (register_read (register_text (as_two r))).register (as_two r)
as_two_read r one fine shaped = (reading.two_accepted r one fine shaped, reading.two_read r one fine shaped)

-- 2b. Of what is read from it the gate answers as of the register.
pub as_two_read_gated : (r : Register) → r.version ≡ version_one → sound r ≡ true → Shaped r
    → (a : Action) → gated (register_read (register_text (as_two r))).register a ≡ gated r a
as_two_read_gated = reading.two_read_gated

-- 2c. So does the plan.
pub as_two_read_planned : (r : Register) → r.version ≡ version_one → sound r ≡ true → Shaped r
    → (p : Plan) → planned (register_read (register_text (as_two r))).register p ≡ planned r p
as_two_read_planned = reading.two_read_planned
