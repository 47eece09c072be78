-- Laws: What soundness says of a register's counts, actors and resources, part by part: from the judgement to its parts (`-out`) and back (`-in`).
-- Assumes nothing.
use Rattle.std.specs.Prelude.{◌≡◌, Bool, true, ◌&&◌, ◌||◌, List, [], ◌∷◌, map, ◌⊎◌, ℕ, ◌≤◌, eqb, leb}
use Rattle.std.proofs.Common.{inl, inr, eqb-true, leb-true, ne_eqb, le-leb}
use Rattle.lists.specs.Tests.{cases, and_left, and_right, and_both, or_other}
use Rattle.lists.specs.Lists.{every, distinct}
use Rattle.lists.specs.Each.{ands_out}
use Rattle.register.specs.Limits.{is_id, ranged, actor_limit, resource_limit, claim_limit, path_limit, id_limit, version_one, version_two, path_byte_least, path_byte_greatest, human_kind, machine_kind}
use Rattle.register.specs.Register.{actors_of, resources_of, claims_of, path_of}
use Rattle.register.specs.Chain.{latest}
use Rattle.register.specs.declared.Actor.{Actor}
use Rattle.register.specs.declared.Resource.{Resource}
use Rattle.register.specs.declared.Register.{Register}
use Rattle.soundness_rules.specs.Sound.{world_of, human, actor_fits, resource_fits, sound_claims, sound_actors, sound_resources, within_limits, sound}
use Rattle.soundness_rules.proofs.Laws.{ranged_least, ranged_greatest}

-- an actor's fields are as they should be, where `human` tells the humans of the register
pub record ActorFits (human : ℕ → Bool) (a : Actor) : Type 0 where
  pub id_least : 1 ≤ a.id
  pub id_greatest : a.id ≤ id_limit
  pub kinds : (a.kind ≡ human_kind) ⊎ (a.kind ≡ machine_kind)
  pub owner_greatest : a.owner ≤ id_limit
  pub owned_machine : (a.owner ≡ 0 → ⊥) → a.kind ≡ machine_kind
  pub owner_human : (a.owner ≡ 0 → ⊥) → human a.owner ≡ true

pub actor_fits_out : (human : ℕ → Bool) (a : Actor) → actor_fits human a ≡ true → ActorFits human a
unfolding actor_fits
actor_fits_out human a h =
    let told = ands_out (is_id a.id ∷ (eqb a.kind human_kind || eqb a.kind machine_kind) ∷ leb a.owner id_limit
    ∷ (eqb a.owner 0 || (eqb a.kind machine_kind && human a.owner)) ∷ []) h in
    let owned : ((a.owner ≡ 0 → ⊥) → eqb a.kind machine_kind && human a.owner ≡ true) =
    λ some. or_other (eqb a.owner 0) (eqb a.kind machine_kind && human a.owner) told.1.1.1.0 (ne_eqb a.owner 0 some) in
    record {
      id_least = ranged_least 1 id_limit a.id told.0;
      id_greatest = ranged_greatest 1 id_limit a.id told.0;
      kinds =
          cases (eqb a.kind human_kind) (λ e. inl (eqb-true a.kind human_kind e))
          (λ e. inr (eqb-true a.kind machine_kind (or_other (eqb a.kind human_kind) (eqb a.kind machine_kind) told.1.0 e)));
      owner_greatest = leb-true a.owner id_limit told.1.1.0;
      owned_machine = λ some. eqb-true a.kind machine_kind (and_left (eqb a.kind machine_kind) (human a.owner) (owned some));
      owner_human = λ some. and_right (eqb a.kind machine_kind) (human a.owner) (owned some);
    }

-- a resource's fields are as they should be
pub record ResourceFits (human : ℕ → Bool) (o : Resource) : Type 0 where
  pub id_least : 1 ≤ o.id
  pub id_greatest : o.id ≤ id_limit
  pub public_greatest : o.public ≤ 1
  pub keeper_least : 1 ≤ o.keeper
  pub keeper_greatest : o.keeper ≤ id_limit
  pub keeper_human : human o.keeper ≡ true
  pub len_greatest : o.len ≤ path_limit
  pub bytes : every (ranged path_byte_least path_byte_greatest) (path_of o) ≡ true

pub resource_fits_out : (human : ℕ → Bool) (o : Resource) → resource_fits human o ≡ true → ResourceFits human o
unfolding resource_fits
resource_fits_out human o h =
    let told = ands_out (is_id o.id ∷ leb o.public 1 ∷ is_id o.keeper ∷ human o.keeper ∷ leb o.len path_limit
    ∷ every (ranged path_byte_least path_byte_greatest) (path_of o) ∷ []) h in
    record {
      id_least = ranged_least 1 id_limit o.id told.0;
      id_greatest = ranged_greatest 1 id_limit o.id told.0;
      public_greatest = leb-true o.public 1 told.1.0;
      keeper_least = ranged_least 1 id_limit o.keeper told.1.1.0;
      keeper_greatest = ranged_greatest 1 id_limit o.keeper told.1.1.0;
      keeper_human = told.1.1.1.0;
      len_greatest = leb-true o.len path_limit told.1.1.1.1.0;
      bytes = told.1.1.1.1.1.0;
    }

-- the actors are as they should be, with distinct ids
pub record SoundActors (actors : List Actor) : Type 0 where
  pub fit : every (actor_fits (human actors)) actors ≡ true
  pub apart : distinct (map (λ a. a.id) actors) ≡ true

pub sound_actors_out : (actors : List Actor) → sound_actors actors ≡ true → SoundActors actors
unfolding sound_actors
sound_actors_out actors h =
    record {
      fit = and_left (every (actor_fits (human actors)) actors) (distinct (map (λ a. a.id) actors)) h;
      apart = and_right (every (actor_fits (human actors)) actors) (distinct (map (λ a. a.id) actors)) h;
    }

pub sound_actors_in : (actors : List Actor) → SoundActors actors → sound_actors actors ≡ true
unfolding sound_actors
sound_actors_in actors h = and_both (every (actor_fits (human actors)) actors) (distinct (map (λ a. a.id) actors)) h.fit h.apart

-- the resources are as they should be, with distinct ids
pub record SoundResources (actors : List Actor) (resources : List Resource) : Type 0 where
  pub fit : every (resource_fits (human actors)) resources ≡ true
  pub apart : distinct (map (λ o. o.id) resources) ≡ true

pub sound_resources_out : (actors : List Actor) (resources : List Resource) → sound_resources actors resources ≡ true → SoundResources actors resources
unfolding sound_resources
sound_resources_out actors resources h =
    record {
      fit = and_left (every (resource_fits (human actors)) resources) (distinct (map (λ o. o.id) resources)) h;
      apart = and_right (every (resource_fits (human actors)) resources) (distinct (map (λ o. o.id) resources)) h;
    }

pub sound_resources_in : (actors : List Actor) (resources : List Resource) → SoundResources actors resources → sound_resources actors resources ≡ true
unfolding sound_resources
sound_resources_in actors resources h =
    and_both (every (resource_fits (human actors)) resources) (distinct (map (λ o. o.id) resources)) h.fit h.apart

-- the counts are within their limits
pub record Within (r : Register) : Type 0 where
  pub actor_count : r.actors.count ≤ actor_limit
  pub resource_count : r.resources.count ≤ resource_limit
  pub claim_count : r.claims.count ≤ claim_limit

pub within_limits_out : (r : Register) → within_limits r ≡ true → Within r
unfolding within_limits
within_limits_out r h =
    let told = ands_out (leb r.actors.count actor_limit ∷ leb r.resources.count resource_limit ∷ leb r.claims.count claim_limit ∷ []) h in
    record {
      actor_count = leb-true r.actors.count actor_limit told.0;
      resource_count = leb-true r.resources.count resource_limit told.1.0;
      claim_count = leb-true r.claims.count claim_limit told.1.1.0;
    }

pub within_limits_in : (r : Register) → Within r → within_limits r ≡ true
unfolding within_limits
within_limits_in r h = rw (
  le-leb r.actors.count actor_limit h.actor_count,
  le-leb r.resources.count resource_limit h.resource_count,
  le-leb r.claims.count claim_limit h.claim_count,
)

-- a sound register
pub record SoundRegister (r : Register) : Type 0 where
  pub version : ranged version_one version_two r.version ≡ true
  pub limits : Within r
  pub actors : SoundActors (actors_of r.actors)
  pub resources : SoundResources (actors_of r.actors) (resources_of r.resources)
  pub claims : sound_claims (world_of r.version (actors_of r.actors) (resources_of r.resources)) (latest (claims_of r.claims)) ≡ true

pub sound_out : (r : Register) → sound r ≡ true → SoundRegister r
unfolding sound
sound_out r h =
    let told = ands_out (ranged version_one version_two r.version ∷ within_limits r ∷ sound_actors (actors_of r.actors)
    ∷ sound_resources (actors_of r.actors) (resources_of r.resources) ∷ sound_claims (world_of r.version (actors_of r.actors) (resources_of r.resources)) (latest (claims_of r.claims)) ∷ []) h in
    record {
      version = told.0;
      limits = within_limits_out r told.1.0;
      actors = sound_actors_out (actors_of r.actors) told.1.1.0;
      resources = sound_resources_out (actors_of r.actors) (resources_of r.resources) told.1.1.1.0;
      claims = told.1.1.1.1.0;
    }

pub sound_in : (r : Register) → SoundRegister r → sound r ≡ true
unfolding sound
sound_in r h = rw (
  h.version,
  within_limits_in r h.limits,
  sound_actors_in (actors_of r.actors) h.actors,
  sound_resources_in (actors_of r.actors) (resources_of r.resources) h.resources,
  h.claims,
)
