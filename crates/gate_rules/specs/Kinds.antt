-- Laws: The kinds of violations. Assumes nothing.
use Rattle.std.specs.Prelude.{◌≤◌}
use Rattle.std.proofs.Common.{arith}
use Rattle.actions.specs.Actions.{kind_of}
use Rattle.actions.specs.declared.Violation.{Violation}
use Rattle.actions.specs.declared.Violation.TheVariants.{FlagSet, NoOwner, MachineGoverns, NotCovered, OwnerNotCovering}

-- a kind is 1 to 5
pub kinds_five : (v : Violation) → (1 ≤ kind_of v) × (kind_of v ≤ 5)
kinds_five (FlagSet i) = (omega arith, omega arith)
kinds_five (NoOwner id) = (omega arith, omega arith)
kinds_five (MachineGoverns at) = (omega arith, omega arith)
kinds_five (NotCovered at) = (omega arith, omega arith)
kinds_five (OwnerNotCovering at) = (omega arith, omega arith)
