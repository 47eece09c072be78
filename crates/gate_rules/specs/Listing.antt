-- Believed: The list of violations in plain words: what each violation says of an action, and the
-- order in which they are listed.
use Rattle.std.specs.Prelude.{◌≡◌, true, false, List, ◌⊎◌, ℕ, ◌<◌, ◌/◌, ◌%◌, ◌^◌, length, get_or}
use Rattle.lists.specs.Lists.{Each, All}
use Rattle.register.specs.Register.{actors_of}
use Rattle.register.specs.declared.Register.{Register}
use Rattle.soundness_rules.specs.Sound.{is_machine}
use Rattle.actions.specs.Actions.{flag_count, no_use, uses_of, governs_of, value_of}
use Rattle.actions.specs.declared.Action.{Action}
use Rattle.actions.specs.declared.Usage.{Usage}
use Rattle.actions.specs.declared.Violation.{Violation}
use Rattle.actions.specs.declared.Violation.TheVariants.{FlagSet, NoOwner, MachineGoverns, NotCovered, OwnerNotCovering}
use Rattle.gate_rules.specs.Gate.{covers, is_ownerless, owner_lacks}

-- the use at a position
abbrev pub use_at : Action → ℕ → Usage
use_at a n = get_or (uses_of a) n no_use

-- the sentence of each violation: flag i is set; the actor is a machine without an owner; a machine
-- governs, at a position of its list; the actor does not cover the use at a position; it covers it
-- and its owner does not
abbrev pub Violates : Register → Action → Violation → Type 0
Violates r a (FlagSet i) = (i < flag_count) × (a.flags / 2 ^ i % 2 ≡ 1)
Violates r a (NoOwner id) = (id ≡ a.actor) × (is_ownerless r a.actor ≡ true)
Violates r a (MachineGoverns at) = (at < length (governs_of a)) × (is_machine (actors_of r.actors) a.actor ≡ true)
Violates r a (NotCovered at) = (at < length (uses_of a)) × (covers r a.now a.actor (use_at a at) ≡ false)
Violates r a (OwnerNotCovering at) =
    (at < length (uses_of a)) × (covers r a.now a.actor (use_at a at) ≡ true) × (owner_lacks r a.now a.actor (use_at a at) ≡ true)

-- the kind by which a violation is placed: 5 stands among 4
abbrev pub rank_of : Violation → ℕ
rank_of (OwnerNotCovering at) = 4
rank_of (FlagSet i) = 1
rank_of (NoOwner id) = 2
rank_of (MachineGoverns at) = 3
rank_of (NotCovered at) = 4

-- one comes before another by its kind, and among those of one kind by its flag or position
abbrev pub Precedes : Violation → Violation → Type 0
Precedes v w = (rank_of v < rank_of w) ⊎ ((rank_of v ≡ rank_of w) × (value_of v < value_of w))

-- each comes before all that follow it
abbrev pub Ascends : List Violation → Type 0
Ascends vs = Each (λ later v. All (Precedes v) later) vs
