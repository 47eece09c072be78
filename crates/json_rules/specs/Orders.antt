-- Believed: The order in which a reading holds the uses of an action, and lists that differ in their order only.
use Rattle.std.specs.Prelude.{ℕ, ◌-◌, ◌≡◌, List, [], ◌∷◌, ◌++◌, length, replicate, eqb}
use Rattle.lists.specs.Lists.{filter}
use Rattle.actions.specs.Actions.{no_use, use_limit, govern_limit, uses_of}
use Rattle.actions.specs.declared.Usage.{Usage}
use Rattle.actions.specs.declared.Action.{Action}

-- the uses of a right, in their order
abbrev pub uses_with : ℕ → List Usage → List Usage
uses_with b us = filter (λ u. eqb u.right b) us

-- uses of right 0, then 1, then 2, each in their order
unfoldable pub ordered : List Usage → List Usage
ordered us = uses_with 0 us ++ (uses_with 1 us ++ uses_with 2 us)

-- an action with its uses ordered, as a reading at a moment holds it: zeros behind the uses, and nothing governed
unfoldable pub ordered_at : ℕ → Action → Action
ordered_at moment a = record {
  actor = a.actor;
  flags = a.flags;
  now = moment;
  uses = ordered (uses_of a) ++ replicate (use_limit - length (ordered (uses_of a))) no_use;
  used = length (ordered (uses_of a));
  governs = replicate govern_limit 0;
  governed = 0;
}

-- the same at its own clock
abbrev pub ordered_action : Action → Action
ordered_action a = ordered_at a.now a

-- What a text tells: two actions with their ids and kinds are the same in the builder's form when these are, and actor, flags and ordered uses.
pub record SameJson (a b : Action) (id other : List ℕ) (kind right : ℕ) : Type 0 where
  pub ids : id ≡ other
  pub kinds : kind ≡ right
  pub actors : a.actor ≡ b.actor
  pub flags : a.flags ≡ b.flags
  pub uses : ordered (uses_of a) ≡ ordered (uses_of b)

-- two lists that differ in their order only
pub data Shuffled {A : Type 0} : List A → List A → Type 0 where
  none : Shuffled [] []
  same_first : {a : A} {l m : List A} → Shuffled l m → Shuffled (a ∷ l) (a ∷ m)
  swapped : {a b : A} {l : List A} → Shuffled (a ∷ b ∷ l) (b ∷ a ∷ l)
  twice : {l m n : List A} → Shuffled l m → Shuffled m n → Shuffled l n
