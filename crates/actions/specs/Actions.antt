-- Believed: An action as it stands, its ranges, the paper's number and value of each violation, and those of each verdict of a plan.
use Rattle.std.specs.Prelude.{◌≡◌, Bool, true, false, ◌&&◌, List, [], ◌∷◌, ℕ, ◌^◌, ◌-◌, leb, ltb, take, replicate}
use Rattle.lists.specs.Lists.{every, ands}
use Rattle.rights.specs.Rights.{is_right}
use Rattle.register.specs.Limits.{id_limit, moment_end}
use Rattle.actions.specs.declared.Usage.{Usage}
use Rattle.actions.specs.declared.Action.{Action}
use Rattle.actions.specs.declared.Decision.{Decision}
use Rattle.actions.specs.declared.Decision.TheVariants.{Permitted as PermittedWhole, Refused as RefusedWhole, Stopped}
use Rattle.actions.specs.declared.Violation.{Violation}
use Rattle.actions.specs.declared.Violation.TheVariants.{FlagSet, NoOwner, MachineGoverns, NotCovered, OwnerNotCovering}
use Rattle.actions.specs.declared.Judgement.{Judgement}
use Rattle.actions.specs.declared.Judgement.TheVariants.{Permitted, Refused, Cancelled}

-- how many uses, governed entries and actions there are at most; how many flags there are; how many violations there can be
abbrev pub use_limit : ℕ
use_limit = 32

abbrev pub govern_limit : ℕ
govern_limit = 8

abbrev pub action_limit : ℕ
action_limit = 16

abbrev pub flag_count : ℕ
flag_count = 10

abbrev pub violation_limit : ℕ
violation_limit = 51

-- what stands at a place that no use was put into: all zeros
abbrev pub no_use : Usage
no_use = record { resource = 0; right = 0 }

-- the action of all zeros
abbrev pub no_action : Action
no_action = record { actor = 0; flags = 0; now = 0; uses = replicate use_limit no_use; used = 0; governs = replicate govern_limit 0; governed = 0 }

-- the action of an actor, a use and a moment alone: no flag set, nothing governed
abbrev pub one_use : ℕ → Usage → ℕ → Action
one_use actor usage moment = record {
  actor = actor;
  flags = 0;
  now = moment;
  uses = usage ∷ replicate (use_limit - 1) no_use;
  used = 1;
  governs = replicate govern_limit 0;
  governed = 0;
}

-- whether a decision is the permission
abbrev pub is_permitted : Decision → Bool
is_permitted PermittedWhole = true
is_permitted RefusedWhole = false
is_permitted (Stopped why) = false

-- entries past a count are ignored
abbrev pub uses_of : Action → List Usage
uses_of a = take a.used a.uses

abbrev pub governs_of : Action → List ℕ
governs_of a = take a.governed a.governs

-- Two actions are the same when their numbers and their two lists are: entries past a count are ignored.
pub record SameAction (a b : Action) : Type 0 where
  pub actor : a.actor ≡ b.actor
  pub flags : a.flags ≡ b.flags
  pub now : a.now ≡ b.now
  pub used : a.used ≡ b.used
  pub uses : uses_of a ≡ uses_of b
  pub governed : a.governed ≡ b.governed
  pub governs : governs_of a ≡ governs_of b

-- An action has an actor number 0 to 65,535, a moment, flags 0 to 1,023, up to 32 uses (a resource number 0 to 65,535 with a right 0 to 16)
-- and up to 8 governed actor numbers 0 to 65,535.
unfoldable pub action_fits : Action → Bool
action_fits a = ands (
    leb a.actor id_limit
    ∷ ltb a.now moment_end
    ∷ ltb a.flags (2 ^ flag_count)
    ∷ leb a.used use_limit
    ∷ every (λ u. leb u.resource id_limit && is_right u.right) (uses_of a)
    ∷ leb a.governed govern_limit
    ∷ every (λ g. leb g id_limit) (governs_of a)
    ∷ [])

-- the paper's number of a violation's kind, and the flag, actor or position that it is about
abbrev pub kind_of : Violation → ℕ
kind_of (FlagSet i) = 1
kind_of (NoOwner id) = 2
kind_of (MachineGoverns at) = 3
kind_of (NotCovered at) = 4
kind_of (OwnerNotCovering at) = 5

abbrev pub value_of : Violation → ℕ
value_of (FlagSet i) = i
value_of (NoOwner id) = id
value_of (MachineGoverns at) = at
value_of (NotCovered at) = at
value_of (OwnerNotCovering at) = at

-- the number of a plan's verdict on an action, in the order in which the paper names them, and its value: permitted, refused with its number of
-- violations, or cancelled. 0 is no verdict's number, so that memory that was never written permits nothing; nor is 3, a stopped call's.
abbrev pub judgement_number : Judgement → ℕ
judgement_number Permitted = 1
judgement_number (Refused violations) = 2
judgement_number Cancelled = 4

abbrev pub judgement_value : Judgement → ℕ
judgement_value Permitted = 0
judgement_value (Refused violations) = violations
judgement_value Cancelled = 0
