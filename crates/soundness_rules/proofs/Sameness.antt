-- Laws: Registers that are the same are judged alike: what stands past a count or past a path never matters, nor outside version 2 what claims
-- hold as left. Assumes nothing.
use Rattle.std.specs.Prelude.{◌≡◌, refl, Bool, ◌&&◌, List, [], ◌∷◌, map, ℕ, eqb, leb}
use Rattle.std.proofs.Common.{ap, sym, ◌∙◌}
use Rattle.std.proofs.Math.Path.{fun_ext}
use Rattle.lists.specs.Tests.{cases}
use Rattle.lists.specs.Lists.{any, every, ands}
use Rattle.lists.specs.Each.{any_map, every_map, reverse_map}
use Rattle.register.specs.Limits.{is_id, ranged, path_limit, version_one, version_two, tells_left, path_byte_least, path_byte_greatest}
use Rattle.register.specs.Register.{actors_of, resources_of, claims_of, claim_as, Standing, resource_standing, Same}
use Rattle.register.specs.Chain.{latest}
use Rattle.register.specs.Laws.{bare, claims_told, claims_untold, same_bare}
use Rattle.register.specs.declared.Actor.{Actor}
use Rattle.register.specs.declared.Resource.{Resource}
use Rattle.register.specs.declared.Claim.{Claim}
use Rattle.register.specs.declared.Register.{Register}
use Rattle.soundness_rules.specs.Sound.{World, world_of, human, resource_fits, sound_claims, sound_actors, sound_resources, within_limits, sound}
use Rattle.soundness_rules.proofs.Alike.{sound_claims_untold}

-- a resource is judged as it stands
standing_fits : (ℕ → Bool) → Standing → Bool
standing_fits human o = ands (
    is_id o.id
    ∷ leb o.public 1
    ∷ is_id o.keeper
    ∷ human o.keeper
    ∷ leb o.len path_limit
    ∷ every (ranged path_byte_least path_byte_greatest) o.path
    ∷ [])

fits_standing : (human : ℕ → Bool) (resources : List Resource) → every (resource_fits human) resources ≡ every (standing_fits human) (map resource_standing resources)
unfolding resource_fits standing_fits
fits_standing human resources = sym (every_map resource_standing (standing_fits human) resources)

ids_standing : (resources : List Resource) → map (λ o. o.id) resources ≡ map (λ o. o.id) (map resource_standing resources)
ids_standing [] = refl
ids_standing (o ∷ resources) = rw (ids_standing resources)

listed_standing : (resources : List Resource) (x : ℕ) → any (λ o. eqb x o.id) resources ≡ any (λ o. eqb x o.id) (map resource_standing resources)
listed_standing resources x = sym (any_map resource_standing (λ o. eqb x o.id) resources)

keeps_standing : (resources : List Resource) (g x : ℕ)
    → any (λ o. eqb x o.id && eqb g o.keeper) resources ≡ any (λ o. eqb x o.id && eqb g o.keeper) (map resource_standing resources)
keeps_standing resources g x = sym (any_map resource_standing (λ o. eqb x o.id && eqb g o.keeper) resources)

world_with : ℕ → List Actor → (ℕ → Bool) → (ℕ → ℕ → Bool) → World
world_with version actors listed keeps = record {
  known = (world_of version actors []).known;
  machine = (world_of version actors []).machine;
  ownerless = (world_of version actors []).ownerless;
  listed = listed;
  keeps = keeps;
  version = version;
}

-- the world of resources is that of the resources as they stand
pub world_same : (version : ℕ) (actors : List Actor) (resources others : List Resource) → map resource_standing resources ≡ map resource_standing others
    → world_of version actors resources ≡ world_of version actors others
unfolding world_with
world_same version actors resources others e =
    ap (λ f. world_with version actors f (world_of version actors resources).keeps) (fun_ext (λ x. listed_standing resources x
    ∙ ap (λ l. any (λ o. eqb x o.id) l) e ∙ sym (listed_standing others x)))
    ∙ ap (λ f. world_with version actors (world_of version actors others).listed f) (fun_ext (λ g. fun_ext (λ x. keeps_standing resources g x
    ∙ ap (λ l. any (λ o. eqb x o.id && eqb g o.keeper) l) e ∙ sym (keeps_standing others g x))))

pub sound_resources_same : (actors : List Actor) (resources others : List Resource) → map resource_standing resources ≡ map resource_standing others
    → sound_resources actors resources ≡ sound_resources actors others
unfolding sound_resources
sound_resources_same actors resources others e =
    rw (fits_standing (human actors) resources, ids_standing resources, e, ← ids_standing others, ← fits_standing (human actors) others)

within_limits_same : (r s : Register) → Same r s → within_limits r ≡ within_limits s
unfolding within_limits
within_limits_same r s same = rw (same.actor_count, same.resource_count, same.claim_count)

five_same : (a b c d e f g h i j : Bool) → a ≡ f → b ≡ g → c ≡ h → d ≡ i → e ≡ j → ands (a ∷ b ∷ c ∷ d ∷ e ∷ []) ≡ ands (f ∷ g ∷ h ∷ i ∷ j ∷ [])
five_same a b c d e f g h i j p q r s t = rw (p, q, r, s, t)

-- claims that count alike in a version are judged alike in it
pub sound_claims_same : (w : World) (cs ds : List Claim) → map (claim_as w.version) cs ≡ map (claim_as w.version) ds
    → sound_claims w (latest cs) ≡ sound_claims w (latest ds)
sound_claims_same w cs ds e =
    cases (tells_left w.version)
    (λ told. ap (λ l. sound_claims w (latest l)) (sym (claims_told w.version told cs) ∙ e ∙ claims_told w.version told ds))
    (λ untold. sound_claims_untold w untold (latest cs) (latest ds) (sym (reverse_map bare cs)
    ∙ ap latest (sym (claims_untold w.version untold cs) ∙ e ∙ claims_untold w.version untold ds) ∙ reverse_map bare ds))

pub world_of_same : (r s : Register) → Same r s
    → world_of r.version (actors_of r.actors) (resources_of r.resources) ≡ world_of s.version (actors_of s.actors) (resources_of s.resources)
world_of_same r s same =
    ap (λ v. world_of v (actors_of r.actors) (resources_of r.resources)) same.version
    ∙ ap (λ l. world_of s.version l (resources_of r.resources)) same.actors
    ∙ world_same s.version (actors_of s.actors) (resources_of r.resources) (resources_of s.resources) same.resources

-- registers that are the same are judged alike
pub sound_same : (r s : Register) → Same r s → sound r ≡ sound s
unfolding sound
sound_same r s same = five_same _ _ _ _ _ _ _ _ _ _
    (ap (ranged version_one version_two) same.version)
    (within_limits_same r s same)
    (ap sound_actors same.actors)
    (ap (λ l. sound_resources l (resources_of r.resources)) same.actors
    ∙ sound_resources_same (actors_of s.actors) (resources_of r.resources) (resources_of s.resources) same.resources)
    (ap (λ w. sound_claims w (latest (claims_of r.claims))) (world_of_same r s same)
    ∙ sound_claims_same (world_of s.version (actors_of s.actors) (resources_of s.resources)) (claims_of r.claims) (claims_of s.claims)
    (ap (λ v. map (claim_as v) (claims_of r.claims)) (sym same.version) ∙ same.claims))

-- Registers that hold the same actors, resources and claims but for what claims hold as left, and are both sound or neither: all that the gate
-- and the plan ask.
pub record Alike (r s : Register) : Type 0 where
  pub actors : actors_of r.actors ≡ actors_of s.actors
  pub resources : map resource_standing (resources_of r.resources) ≡ map resource_standing (resources_of s.resources)
  pub claims : map bare (claims_of r.claims) ≡ map bare (claims_of s.claims)
  pub judged : sound r ≡ sound s

pub same_alike : (r s : Register) → Same r s → Alike r s
same_alike r s same = record { actors = same.actors; resources = same.resources; claims = same_bare r s same; judged = sound_same r s same }
