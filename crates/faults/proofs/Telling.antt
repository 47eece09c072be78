-- Laws: Every fault with what it comes from; each list is sound where each of its records passes, and the register with fewer claims. Assumes nothing.
use Rattle.std.proofs.Common.{◌≡◌, Bool, true, false, ℕ, ◌≤◌, ◌<◌, leb, take, sym, ◌∙◌, List, [], ◌∷◌, append-nil, leb-true, leb-false}
use Rattle.lists.specs.Tests.{cases}
use Rattle.lists.specs.Distinct.{distinct_nil}
use Rattle.lists.specs.Each.{cons_clash}
use Rattle.register.specs.Limits.{actor_limit, resource_limit, claim_limit, version_one, version_two, ranged}
use Rattle.register.specs.Register.{actors_of, resources_of, claims_of}
use Rattle.register.specs.Chain.{latest}
use Rattle.register.specs.declared.Actor.{Actor}
use Rattle.register.specs.declared.Resource.{Resource}
use Rattle.register.specs.declared.Claim.{Claim}
use Rattle.register.specs.declared.Register.{Register}
use Rattle.soundness_rules.specs.Sound.{human, actor_fits, resource_fits, sound_claims, sound}
use Rattle.soundness_rules.proofs.Registers.{Within, SoundActors, SoundResources, sound_in}
use Rattle.soundness_rules.proofs.Places.{sound_claims_nil}
use Rattle.refusals.specs.Refusals.{Test}
use Rattle.change_rules.specs.Changes.{world_in}
use Rattle.faults.specs.Faults.{Broken, broken_in, each_passes, actor_tests, resource_tests, claim_tests, FirstFault, no_fault, bad_version, many_actors, many_resources, many_claims, of_actor, of_resource, of_claim, broken_actors, broken_resources, broken_claims, record_fault, first_fault, first_claims}
use Rattle.faults.proofs.Faulting.{in_cases}
use Rattle.faults.proofs.Records.{passing_fits, passing_distinct, distinct_passing, actor_asks, resource_asks}
use Rattle.faults.proofs.Claiming.{passing_sound, sound_passing}

-- where none is told of a list, each record of it passes
pub none_passing : {A : Type 0} (tests : List A → A → List Test) (cs : List A) → broken_in tests 0 [] cs ≡ [] → each_passes tests [] cs ≡ true
none_passing tests cs h = in_cases tests 0 [] cs (λ none passes. passes) (λ b told found. cons_clash (sym told ∙ h))

module _ (r : Register) where
  abbrev pub people : ℕ → Bool
  people = human (actors_of r.actors)

  pub actors_in_lem : each_passes (actor_tests people) [] (actors_of r.actors) ≡ true → SoundActors (actors_of r.actors)
  actors_in_lem h = record {
    fit = passing_fits (actor_tests people) (actor_fits people) (λ a. a.id) (actor_asks people) [] (actors_of r.actors) h;
    apart = passing_distinct (actor_tests people) (actor_fits people) (λ a. a.id) (actor_asks people) [] (actors_of r.actors) h distinct_nil;
  }

  pub actors_out : SoundActors (actors_of r.actors) → each_passes (actor_tests people) [] (actors_of r.actors) ≡ true
  actors_out h = distinct_passing (actor_tests people) (actor_fits people) (λ a. a.id) (actor_asks people) [] (actors_of r.actors) h.fit h.apart

  pub resources_in : each_passes (resource_tests people) [] (resources_of r.resources) ≡ true → SoundResources (actors_of r.actors) (resources_of r.resources)
  resources_in h = record {
    fit = passing_fits (resource_tests people) (resource_fits people) (λ o. o.id) (resource_asks people) [] (resources_of r.resources) h;
    apart = passing_distinct (resource_tests people) (resource_fits people) (λ o. o.id) (resource_asks people) [] (resources_of r.resources) h distinct_nil;
  }

  pub resources_out : SoundResources (actors_of r.actors) (resources_of r.resources) → each_passes (resource_tests people) [] (resources_of r.resources) ≡ true
  resources_out h =
      distinct_passing (resource_tests people) (resource_fits people) (λ o. o.id) (resource_asks people) [] (resources_of r.resources) h.fit h.apart

  pub claims_in_lem : (cs : List Claim) → each_passes (claim_tests (world_in r)) [] cs ≡ true → sound_claims (world_in r) (latest cs) ≡ true
  claims_in_lem cs h = rw (append-nil (latest cs)) at (passing_sound (world_in r) [] cs (sound_claims_nil (world_in r)) h)

  pub claims_out : (cs : List Claim) → sound_claims (world_in r) (latest cs) ≡ true → each_passes (claim_tests (world_in r)) [] cs ≡ true
  claims_out cs h = sound_passing (world_in r) [] cs (rw (append-nil (latest cs)) h)

  -- ---- every fault with what it comes from

  record_elim : (Q : FirstFault → Type 0) → (broken_actors r ≡ [] → broken_resources r ≡ [] → broken_claims r ≡ [] → Q no_fault)
      → ((b : Broken Actor) → broken_actors r ≡ b ∷ [] → Q (of_actor b))
      → ((b : Broken Resource) → broken_actors r ≡ [] → broken_resources r ≡ b ∷ [] → Q (of_resource b))
      → ((b : Broken Claim) → broken_actors r ≡ [] → broken_resources r ≡ [] → broken_claims r ≡ b ∷ [] → Q (of_claim b)) → Q (record_fault r)
  unfolding record_fault
  record_elim Q none a o c =
      in_cases (actor_tests people) 0 [] (actors_of r.actors)
      (λ no_actor passes. rw no_actor (in_cases (resource_tests people) 0 [] (resources_of r.resources)
      (λ no_resource fine. rw no_resource (in_cases (claim_tests (world_in r)) 0 [] (claims_of r.claims)
      (λ no_claim whole. rw no_claim (none no_actor no_resource no_claim))
      (λ b told found. rw told (c b no_actor no_resource told))))
      (λ b told found. rw told (o b no_actor told))))
      (λ b told found. rw told (a b told))

  abbrev Versioned : Type 0
  Versioned = ranged version_one version_two r.version ≡ true

  pub fault_elim : (Q : FirstFault → Type 0) → (Versioned → Within r → broken_actors r ≡ [] → broken_resources r ≡ [] → broken_claims r ≡ [] → Q no_fault)
      → (ranged version_one version_two r.version ≡ false → Q bad_version)
      → (Versioned → actor_limit < r.actors.count → Q many_actors)
      → (Versioned → r.actors.count ≤ actor_limit → resource_limit < r.resources.count → Q many_resources)
      → (Versioned → r.actors.count ≤ actor_limit → r.resources.count ≤ resource_limit → claim_limit < r.claims.count → Q many_claims)
      → ((b : Broken Actor) → Versioned → Within r → broken_actors r ≡ b ∷ [] → Q (of_actor b))
      → ((b : Broken Resource) → Versioned → Within r → broken_actors r ≡ [] → broken_resources r ≡ b ∷ [] → Q (of_resource b))
      → ((b : Broken Claim) → Versioned → Within r → broken_actors r ≡ [] → broken_resources r ≡ [] → broken_claims r ≡ b ∷ [] → Q (of_claim b)) → Q (first_fault r)
  unfolding first_fault
  fault_elim Q none bv ma mo mc a o c =
      cases (ranged version_one version_two r.version)
      (λ versioned. rw versioned (cases (leb r.actors.count actor_limit)
      (λ few_actors. rw few_actors (cases (leb r.resources.count resource_limit)
      (λ few_resources. rw few_resources (cases (leb r.claims.count claim_limit)
      (λ few_claims. rw few_claims (
      let within : Within r = record {
        actor_count = leb-true r.actors.count actor_limit few_actors;
        resource_count = leb-true r.resources.count resource_limit few_resources;
        claim_count = leb-true r.claims.count claim_limit few_claims;
      } in
      record_elim Q (none versioned within) (λ b. a b versioned within) (λ b. o b versioned within) (λ b. c b versioned within)))
      (λ many. rw many
      (mc versioned (leb-true r.actors.count actor_limit few_actors) (leb-true r.resources.count resource_limit few_resources) (leb-false r.claims.count claim_limit many)))))
      (λ many. rw many (mo versioned (leb-true r.actors.count actor_limit few_actors) (leb-false r.resources.count resource_limit many)))))
      (λ many. rw many (ma versioned (leb-false r.actors.count actor_limit many)))))
      (λ other. rw other (bv other))

  -- the register with the first n of its claims
  pub first_claims_in : (n : ℕ) → Versioned → Within r → n ≤ claim_limit → SoundActors (actors_of r.actors) → SoundResources (actors_of r.actors) (resources_of r.resources)
      → sound_claims (world_in r) (latest (take n r.claims.list)) ≡ true → sound (first_claims r n) ≡ true
  first_claims_in n versioned within few a o c = sound_in (first_claims r n) record {
    version = versioned;
    limits = record { actor_count = within.actor_count; resource_count = within.resource_count; claim_count = few };
    actors = a;
    resources = o;
    claims = c;
  }
