-- What is proved of the list of violations, sentence by sentence. Assumes nothing.
use Rattle.register.specs.declared.Register.{Register}
use Rattle.actions.specs.declared.Action.{Action}
use Rattle.actions.specs.declared.Violation.{Violation}
use Rattle.gate_rules.specs.Gate.{violations_of}
use Rattle.gate_rules.specs.Listing.{Violates, Ascends}
use Rattle.gate_rules.specs.Authority.{IsIn}
use Rattle.gate_rules.proofs.ListedWhole as whole

-- 10a. A violation that is listed is one that the action has: its sentence holds of its flag, actor or position.
pub listed_violates : (r : Register) (a : Action) (v : Violation) → IsIn (violations_of r a) v → Violates r a v
listed_violates = whole.listed_violates

-- 10b. A violation that the action has is listed.
pub violates_listed : (r : Register) (a : Action) (v : Violation) → Violates r a v → IsIn (violations_of r a) v
violates_listed = whole.violates_listed

-- 10c. The list ascends by kind and then by value, kinds 4 and 5 together by position; so none is listed twice.
pub violations_ascend : (r : Register) (a : Action) → Ascends (violations_of r a)
violations_ascend = whole.violations_ascend
