-- Believed: When a register is sound, rule by rule in 01's words.
use Rattle.std.specs.Prelude.{Bool, true, false, not, ◌&&◌, ◌||◌, cond, List, [], ◌∷◌, map, ℕ, ◌-◌, eqb, leb, ltb, length}
use Rattle.lists.specs.Lists.{any, every, ands, distinct}
use Rattle.rights.specs.Rights.{delegating, is_rights, has_right, has_rights, bars_machine}
use Rattle.register.specs.Limits.{actor_limit, resource_limit, claim_limit, path_limit, id_limit, weight_limit, left_limit, version_one, version_two, tells_left, moment_end, path_byte_least, path_byte_greatest, human_kind, machine_kind, ranged, is_id}
use Rattle.register.specs.Register.{actors_of, resources_of, claims_of, path_of, with_left}
use Rattle.register.specs.Chain.{latest, above, circling}
use Rattle.register.specs.declared.Actor.{Actor}
use Rattle.register.specs.declared.Actors.{Actors}
use Rattle.register.specs.declared.Resource.{Resource}
use Rattle.register.specs.declared.Resources.{Resources}
use Rattle.register.specs.declared.Claim.{Claim}
use Rattle.register.specs.declared.Register.{Register}

-- whether x is a human of the register; whether it is a machine
abbrev pub human : List Actor → ℕ → Bool
human actors x = any (λ a. eqb x a.id && eqb human_kind a.kind) actors

abbrev pub is_machine : List Actor → ℕ → Bool
is_machine actors x = any (λ a. eqb x a.id && eqb machine_kind a.kind) actors

-- What claims are judged among: whether a number is an actor's, a machine's, that of an actor without an owner, a resource's; and
-- whether the first keeps the second; and the register's version.
pub record World : Type 0 where
  pub known : ℕ → Bool
  pub machine : ℕ → Bool
  pub ownerless : ℕ → Bool
  pub listed : ℕ → Bool
  pub keeps : ℕ → ℕ → Bool
  pub version : ℕ

-- the world of a register's version, actors and resources
abbrev pub world_of : ℕ → List Actor → List Resource → World
world_of version actors resources = record {
  known = λ x. any (λ a. eqb x a.id) actors;
  machine = is_machine actors;
  ownerless = λ x. any (λ a. eqb x a.id && eqb 0 a.owner) actors;
  listed = λ x. any (λ o. eqb x o.id) resources;
  keeps = λ g x. any (λ o. eqb x o.id && eqb g o.keeper) resources;
  version = version;
}

-- Actor: id 1 to 65,535; human or machine; owner 0 to 65,535. A machine's owner is a human of the register, or 0 for none; a human's
-- owner is 0. The first argument is whether a number is a human's.
unfoldable pub actor_fits : (ℕ → Bool) → Actor → Bool
actor_fits human a = ands (
    is_id a.id
    ∷ (eqb a.kind human_kind || eqb a.kind machine_kind)
    ∷ leb a.owner id_limit
    ∷ (eqb a.owner 0 || (eqb a.kind machine_kind && human a.owner))
    ∷ [])

-- Resource: id 1 to 65,535; public or not; keeper, a human of the register; a path of 0 to 64 bytes, each 0x21 to 0x7E.
unfoldable pub resource_fits : (ℕ → Bool) → Resource → Bool
resource_fits human o = ands (
    is_id o.id
    ∷ leb o.public 1
    ∷ is_id o.keeper
    ∷ human o.keeper
    ∷ leb o.len path_limit
    ∷ every (ranged path_byte_least path_byte_greatest) (path_of o)
    ∷ [])

-- Claim: id 1 to 65,535; parent 0 to 65,535; grantor, holder and resource 1 to 65,535; rights 1 to 131,071; weight 0 to 1,000; in version 2
-- left 0 to 16; expiry below 2^32.
unfoldable pub claim_fits : ℕ → Claim → Bool
claim_fits version c = ands (
    is_id c.id
    ∷ leb c.parent id_limit
    ∷ is_id c.grantor
    ∷ is_id c.holder
    ∷ is_id c.resource
    ∷ is_rights c.rights
    ∷ leb c.weight weight_limit
    ∷ (not (tells_left version) || leb c.left left_limit)
    ∷ ltb c.expiry moment_end
    ∷ [])

-- every actor and resource that the claim names stands
unfoldable pub names_stand : World → Claim → Bool
names_stand w c = ands (w.known c.grantor ∷ w.known c.holder ∷ w.listed c.resource ∷ [])

-- (a) a root's grantor is its resource's keeper
unfoldable pub root_kept : World → Claim → Bool
root_kept w c = not (eqb c.parent 0) || w.keeps c.grantor c.resource

-- (b) otherwise the parent is held by the grantor, is on the same resource, has DELEGATE, contains every right of the claim and has at
-- least its weight
unfoldable pub drawn_from : Claim → Claim → Bool
drawn_from p c = ands (
    eqb p.holder c.grantor
    ∷ eqb p.resource c.resource
    ∷ has_right p.rights delegating
    ∷ has_rights p.rights c.rights
    ∷ leb c.weight p.weight
    ∷ [])

-- (c) a machine grantor has an owner, and the claim has none of the rights a machine may not grant
unfoldable pub machine_may : World → Claim → Bool
machine_may w c = not (w.machine c.grantor) || (not (w.ownerless c.grantor) && not (bars_machine c.rights))

-- how many more hands a claim may pass through, with the claims above it on its chain: in version 2 what it tells, otherwise 16 less its hops
abbrev pub hands_left : ℕ → List Claim → Claim → ℕ
hands_left version higher c = cond (tells_left version) c.left (left_limit - length higher)

-- (d) a claim has fewer hands left than its parent, which has the claims higher above it: in version 1 this says at most 16 hops
abbrev pub fewer_left : ℕ → Claim → List Claim → Claim → Bool
fewer_left version p higher c = ltb (hands_left version (p ∷ higher) c) (hands_left version higher p)

-- (b), (d) and (e) of a claim with a parent, over the chain above it, whose first member is the parent: there is a parent, the claim is
-- drawn from it, it has fewer hands left, and the claim's holder holds no claim higher on the chain and isn't the root's grantor
unfoldable pub over_chain : ℕ → List Claim → Claim → Bool
over_chain version [] c = false
over_chain version (p ∷ higher) c = ands (
    drawn_from p c
    ∷ fewer_left version p higher c
    ∷ not (circling (λ d. d.grantor) (λ d. d.holder) (p ∷ higher) c.holder)
    ∷ [])

-- a claim is a root, or stands over its chain among the earlier claims, latest first: so its parent stands earlier in the list
unfoldable pub drawn : ℕ → List Claim → Claim → Bool
drawn version earlier c = eqb c.parent 0 || over_chain version (above earlier c) c

-- whether a claim's id is that of no earlier claim
unfoldable pub fresh : List Claim → Claim → Bool
fresh earlier c = not (any (λ d. eqb c.id d.id) earlier)

-- what a claim is asked by itself
unfoldable pub alone : World → Claim → Bool
alone w c = ands (claim_fits w.version c ∷ names_stand w c ∷ root_kept w c ∷ machine_may w c ∷ [])

-- what a claim is asked over the earlier claims, latest first
unfoldable pub over : ℕ → List Claim → Claim → Bool
over version earlier c = fresh earlier c && drawn version earlier c

-- the next claim is acceptable behind the earlier ones, latest first
unfoldable pub acceptable : World → List Claim → Claim → Bool
acceptable w earlier c = alone w c && over w.version earlier c

-- each claim is acceptable behind those that stand earlier; latest first
unfoldable pub sound_claims : World → List Claim → Bool
sound_claims w [] = true
sound_claims w (c ∷ earlier) = acceptable w earlier c && sound_claims w earlier

-- a claim as it is put into a register behind the earlier claims, latest first: it holds as left how many more hands it may pass through
abbrev pub stored : ℕ → List Claim → Claim → Claim
stored version earlier c = with_left (hands_left version (above earlier c) c) c

-- each claim so, latest first
unfoldable pub each_stored : ℕ → List Claim → List Claim
each_stored version [] = []
each_stored version (c ∷ earlier) = stored version earlier c ∷ each_stored version earlier

-- the actors and the resources are as they should be, with distinct ids
unfoldable pub sound_actors : List Actor → Bool
sound_actors actors = every (actor_fits (human actors)) actors && distinct (map (λ a. a.id) actors)

unfoldable pub sound_resources : List Actor → List Resource → Bool
sound_resources actors resources = every (resource_fits (human actors)) resources && distinct (map (λ o. o.id) resources)

-- the counts are within their limits
unfoldable pub within_limits : Register → Bool
within_limits r = ands (
    leb r.actors.count actor_limit
    ∷ leb r.resources.count resource_limit
    ∷ leb r.claims.count claim_limit
    ∷ [])

-- A register is sound when its version is 1 or 2, the limits, ranges and field rules hold, ids are distinct within each list, every actor and
-- resource that a claim names stands, and (a) to (e) hold of each claim.
unfoldable pub sound : Register → Bool
sound r = ands (
    ranged version_one version_two r.version
    ∷ within_limits r
    ∷ sound_actors (actors_of r.actors)
    ∷ sound_resources (actors_of r.actors) (resources_of r.resources)
    ∷ sound_claims (world_of r.version (actors_of r.actors) (resources_of r.resources)) (latest (claims_of r.claims))
    ∷ [])

-- whether the register of a version, actors, resources and the claims of a table, all of them, is sound
abbrev pub table_sound : ℕ → Actors → Resources → List Claim → Bool
table_sound version a o cs = sound (record { actors = a; resources = o; claims = record { list = cs; count = length cs }; version = version })
