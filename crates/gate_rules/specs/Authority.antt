-- Believed: Traceable authority: what is permitted rests, use by use, on a chain of claims that ends with the keeper of the resource.
use Rattle.std.specs.Prelude.{◌≡◌, List, ◌∷◌, ◌++◌, [], true, Bool, ◌⊎◌, ℕ, ◌≤◌, ◌<◌, eqb}
use Rattle.lists.specs.Lists.{any, All}
use Rattle.rights.specs.Rights.{reading, has_right, has_rights}
use Rattle.paths.specs.Containment.{contained}
use Rattle.register.specs.Register.{actors_of, claims_of, resources_of, path_of}
use Rattle.register.specs.Chain.{latest, above, hops_of, live}
use Rattle.register.specs.Limits.{machine_kind, hop_limit}
use Rattle.register.specs.declared.Register.{Register}
use Rattle.register.specs.declared.Claim.{Claim}
use Rattle.register.specs.declared.Actor.{Actor}
use Rattle.register.specs.declared.Resource.{Resource}
use Rattle.soundness_rules.specs.Sound.{sound, human}
use Rattle.soundness_rules.specs.Roots.{DrawnFrom, Climbs, root_of}
use Rattle.actions.specs.Actions.{action_fits}
use Rattle.actions.specs.declared.Action.{Action}
use Rattle.actions.specs.declared.Usage.{Usage}
use Rattle.gate_rules.specs.Gate.{nearest_of}

-- a place of a list: what stands before and after
pub record IsIn {C : Type 0} (L : List C) (c : C) : Type 0 where
  pub before : List C
  pub after : List C
  pub split : L ≡ before ++ c ∷ after

-- tests 1, 2 and 3, passed
pub record Passed (r : Register) (a : Action) : Type 0 where
  pub soundly : sound r ≡ true
  pub fits : action_fits a ≡ true
  pub known : any (λ b. eqb a.actor b.id) (actors_of r.actors) ≡ true

-- the chain above a claim that stands in a register
abbrev pub higher_than : Register → Claim → List Claim
higher_than r c = above (latest (claims_of r.claims)) c

-- each claim of a chain is drawn from the next: held by the grantor, on the same resource, with DELEGATE, with every right and at least
-- the weight
abbrev pub Attenuates : Claim → List Claim → Type 0
Attenuates c [] = Unit {0}
Attenuates c (p ∷ higher) = DrawnFrom p c × Attenuates p higher

-- the authority of x for a use: a claim that stands, held by x, live, with the right, on a resource whose path contains the used one's; and
-- its chain, each claim of which is current, stands and is drawn from the next, of at most 16 hops, up to a root granted by that resource's
-- keeper
pub record Traced (r : Register) (moment x : ℕ) (u : Usage) : Type 0 where
  pub claim : Claim
  pub standing : IsIn (claims_of r.claims) claim
  pub held : claim.holder ≡ x
  pub lives : live moment (latest (claims_of r.claims)) claim ≡ true
  pub right : has_right claim.rights u.right ≡ true
  pub outer : Resource
  pub outer_standing : IsIn (resources_of r.resources) outer
  pub outer_claimed : outer.id ≡ claim.resource
  pub inner : Resource
  pub inner_standing : IsIn (resources_of r.resources) inner
  pub inner_used : inner.id ≡ u.resource
  pub containing : contained (path_of outer) (path_of inner) ≡ true
  pub climbing : Climbs claim.parent (higher_than r claim)
  pub higher_standing : All (λ d. IsIn (claims_of r.claims) d) (higher_than r claim)
  pub attenuating : Attenuates claim (higher_than r claim)
  pub hops : hops_of (latest (claims_of r.claims)) claim ≤ hop_limit
  pub root : Claim
  pub root_last : root ≡ root_of claim (higher_than r claim)
  pub root_parent : root.parent ≡ 0
  pub root_resource : root.resource ≡ claim.resource
  pub root_rights : has_rights root.rights claim.rights ≡ true
  pub root_weight : claim.weight ≤ root.weight
  pub root_keeper : root.grantor ≡ outer.keeper

-- a public resource that is read
pub record PublicRead (r : Register) (u : Usage) : Type 0 where
  pub reads : u.right ≡ reading
  pub resource : Resource
  pub standing : IsIn (resources_of r.resources) resource
  pub used : resource.id ≡ u.resource
  pub is_public : resource.public ≡ 1

-- what a use by x rests on
abbrev pub Rests : Register → ℕ → ℕ → Usage → Type 0
Rests r moment x u = PublicRead r u ⊎ Traced r moment x u

-- of a machine: it has an owner, who is a human of the register and for whom the use rests on the same
pub record Owned (r : Register) (moment : ℕ) (machine : Actor) (u : Usage) : Type 0 where
  pub owned : machine.owner ≡ 0 → ⊥
  pub owner_human : human (actors_of r.actors) machine.owner ≡ true
  pub owner_rests : Rests r moment machine.owner u

-- the authority for a use of an action
pub record Authority (r : Register) (a : Action) (u : Usage) : Type 0 where
  pub actor_rests : Rests r a.now a.actor u
  pub machine_owned : (b : Actor) → IsIn (actors_of r.actors) b → b.id ≡ a.actor → b.kind ≡ machine_kind → Owned r a.now b u

-- the nearest: it stands and passes, none that passes exceeds it, and all that pass before it fall short of it
pub record Nearest {C : Type 0} (p : C → Bool) (f : C → ℕ) (L : List C) (c : C) : Type 0 where
  pub place : IsIn L c
  pub passes : p c ≡ true
  pub most : All (λ d. p d ≡ true → f d ≤ f c) L
  pub further : All (λ d. p d ≡ true → f d < f c) place.before
  pub alone : nearest_of p f L ≡ c ∷ []
