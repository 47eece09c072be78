-- Believed: What an actor sees of a register, and when two registers look alike to the actor of an action.
use Rattle.std.specs.Prelude.{◌≡◌, Bool, true, not, ◌&&◌, ◌||◌, List, [], ◌∷◌, map, ◌⊎◌, ℕ, eqb}
use Rattle.lists.specs.Lists.{any, filter, All}
use Rattle.register.specs.Register.{actors_of, resources_of, claims_of, Standing, resource_standing}
use Rattle.register.specs.Chain.{latest, hops_of, live}
use Rattle.register.specs.declared.Actor.{Actor}
use Rattle.register.specs.declared.Claim.{Claim}
use Rattle.register.specs.declared.Register.{Register}
use Rattle.soundness_rules.specs.Sound.{sound}
use Rattle.actions.specs.Actions.{uses_of}
use Rattle.actions.specs.declared.Action.{Action}
use Rattle.gate_rules.specs.Gate.{first_of, contains, path_by}

-- the actor numbered x, alone in a list, or none
abbrev pub record_of : Register → ℕ → List Actor
record_of r x = first_of (λ a. eqb x a.id) (actors_of r.actors)

-- the owner's number in such a record, 0 for none
abbrev pub owner_in : List Actor → ℕ
owner_in [] = 0
owner_in (a ∷ more) = a.owner

abbrev pub owner_of : Register → ℕ → ℕ
owner_of r x = owner_in (record_of r x)

-- the claims held by x or by its owner, in register order, the dead among them; no claim of a sound register has the holder 0
abbrev pub held_by : Register → ℕ → List Claim
held_by r x = filter (λ c. eqb c.holder x || eqb c.holder (owner_of r x)) (claims_of r.claims)

-- what is seen of a claim: these fields, its hop count, whether it is live at the moment, and the path of its resource
pub record Seen : Type 0 where
  pub holder : ℕ
  pub resource : ℕ
  pub rights : ℕ
  pub hops : ℕ
  pub lives : Bool
  pub path : List ℕ

abbrev pub seen_of : Register → ℕ → Claim → Seen
seen_of r moment c = record {
  holder = c.holder;
  resource = c.resource;
  rights = c.rights;
  hops = hops_of (latest (claims_of r.claims)) c;
  lives = live moment (latest (claims_of r.claims)) c;
  path = path_by r c.resource;
}

abbrev pub seen : Register → ℕ → ℕ → List Seen
seen r moment x = map (seen_of r moment) (held_by r x)

-- a number is hidden from x where no resource has it, or where that is not public and no resource of those claims contains it
unfoldable pub hidden : Register → ℕ → ℕ → Bool
hidden r x n =
    not (any (λ o. eqb n o.id) (resources_of r.resources))
    || (not (any (λ o. eqb n o.id && eqb o.public 1) (resources_of r.resources)) && not (any (λ c. contains r c.resource n) (held_by r x)))

-- the resource numbered n as it stands, alone in a list, or none
abbrev pub standing_of : Register → ℕ → List Standing
standing_of r n = map resource_standing (first_of (λ o. eqb n o.id) (resources_of r.resources))

-- of a used number: the same record in both, or hidden in both
abbrev pub UseAlike : Register → Register → ℕ → ℕ → Type 0
UseAlike r s x n = (standing_of r n ≡ standing_of s n) ⊎ ((hidden r x n ≡ true) × (hidden s x n ≡ true))

-- two registers look alike to the actor of an action
pub record LooksAlike (r s : Register) (a : Action) : Type 0 where
  pub first_sound : sound r ≡ true
  pub second_sound : sound s ≡ true
  pub version : r.version ≡ s.version
  pub actors : record_of r a.actor ≡ record_of s a.actor
  pub owners : record_of r (owner_of r a.actor) ≡ record_of s (owner_of s a.actor)
  pub claims : seen r a.now a.actor ≡ seen s a.now a.actor
  pub uses : All (λ u. UseAlike r s a.actor u.resource) (uses_of a)
