-- Believed: The three lists of a register, its version, when two registers are the same, the empty register, and the shape that
-- every register has by its type.
use Rattle.std.specs.Prelude.{◌≡◌, cond, List, map, ℕ, length, take, replicate}
use Rattle.lists.specs.Lists.{All}
use Rattle.register.specs.Limits.{actor_limit, resource_limit, claim_limit, path_limit, version_one, tells_left}
use Rattle.register.specs.declared.Actor.{Actor}
use Rattle.register.specs.declared.Resource.{Resource}
use Rattle.register.specs.declared.Claim.{Claim}
use Rattle.register.specs.declared.Actors.{Actors}
use Rattle.register.specs.declared.Resources.{Resources}
use Rattle.register.specs.declared.Claims.{Claims}
use Rattle.register.specs.declared.Register.{Register}

-- the actors, resources and claims that stand: entries past a count are ignored
abbrev pub actors_of : Actors → List Actor
actors_of r = take r.count r.list

abbrev pub resources_of : Resources → List Resource
resources_of r = take r.count r.list

abbrev pub claims_of : Claims → List Claim
claims_of r = take r.count r.list

-- a resource's path: bytes past its length are ignored
abbrev pub path_of : Resource → List ℕ
path_of o = take o.len o.path

-- a resource as it stands, without the bytes past its path
pub record Standing : Type 0 where
  pub id : ℕ
  pub public : ℕ
  pub keeper : ℕ
  pub len : ℕ
  pub path : List ℕ

abbrev pub resource_standing : Resource → Standing
resource_standing o = record { id = o.id; public = o.public; keeper = o.keeper; len = o.len; path = path_of o }

-- the claim with another number of hands left
abbrev pub with_left : ℕ → Claim → Claim
with_left n c = record {
  id = c.id;
  parent = c.parent;
  grantor = c.grantor;
  holder = c.holder;
  resource = c.resource;
  rights = c.rights;
  weight = c.weight;
  left = n;
  expiry = c.expiry;
}

-- a claim as it counts in a version: outside version 2 what it holds as left is ignored
abbrev pub claim_as : ℕ → Claim → Claim
claim_as version c = with_left (cond (tells_left version) c.left 0) c

-- Two registers are the same when their versions and their three lists are, each with its count: a count above its limit is told from the limit.
pub record Same (r s : Register) : Type 0 where
  pub actor_count : r.actors.count ≡ s.actors.count
  pub actors : actors_of r.actors ≡ actors_of s.actors
  pub resource_count : r.resources.count ≡ s.resources.count
  pub resources : map resource_standing (resources_of r.resources) ≡ map resource_standing (resources_of s.resources)
  pub claim_count : r.claims.count ≡ s.claims.count
  pub claims : map (claim_as r.version) (claims_of r.claims) ≡ map (claim_as s.version) (claims_of s.claims)
  pub version : r.version ≡ s.version

-- what stands at a place that nothing was put into: all zeros
abbrev pub no_actor : Actor
no_actor = record { id = 0; kind = 0; owner = 0 }

abbrev pub no_resource : Resource
no_resource = record { id = 0; public = 0; keeper = 0; len = 0; path = replicate path_limit 0 }

abbrev pub no_claim : Claim
no_claim = record { id = 0; parent = 0; grantor = 0; holder = 0; resource = 0; rights = 0; weight = 0; left = 0; expiry = 0 }

-- the empty register, of version 1
unfoldable pub empty_register : Register
empty_register = record {
  actors = record { list = replicate actor_limit no_actor; count = 0 };
  resources = record { list = replicate resource_limit no_resource; count = 0 };
  claims = record { list = replicate claim_limit no_claim; count = 0 };
  version = version_one;
}

-- the register with other claims
abbrev pub with_claims : Register → Claims → Register
with_claims r claims = record { actors = r.actors; resources = r.resources; claims = claims; version = r.version }

-- The arrays of a register have as many places as the limits say. Every register of the program has this by its type.
pub record Shaped (r : Register) : Type 0 where
  pub actors : length r.actors.list ≡ actor_limit
  pub resources : length r.resources.list ≡ resource_limit
  pub paths : All (λ o. length o.path ≡ path_limit) r.resources.list
  pub claims : length r.claims.list ≡ claim_limit
