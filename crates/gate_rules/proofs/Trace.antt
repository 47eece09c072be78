-- Laws: Chains of claims that stand in a sound register: each is drawn from the next, up to a root granted by the keeper of the resource. Assumes
-- nothing.
use Rattle.std.specs.Prelude.{◌≡◌, refl, true, not, ◌&&◌, List, [], ◌∷◌, ◌++◌, map, ℕ, ◌≤◌, eqb}
use Rattle.std.proofs.Common.{ap, sym, ◌∙◌, ⊎_elim, arith, eqb-true}
use Rattle.std.proofs.lemmas.Bool.{eqb-false, not-true}
use Rattle.lists.specs.Tests.{cases, and_left, and_right}
use Rattle.lists.specs.Lists.{any, All, distinct}
use Rattle.lists.specs.Each.{cons_clash, any_map}
use Rattle.lists.specs.Distinct.{distinct_cons}
use Rattle.rights.specs.Rights.{has_rights}
use Rattle.rights.specs.Laws.{has_rights_reflexive, has_rights_transitive}
use Rattle.register.specs.Limits.{hop_limit}
use Rattle.register.specs.Register.{actors_of, resources_of, claims_of}
use Rattle.register.specs.Chain.{latest, chain, above, hops_of}
use Rattle.register.specs.Laws.{chain_ind, chain_zero, all_chain}
use Rattle.register.specs.declared.Resource.{Resource}
use Rattle.register.specs.declared.Claim.{Claim}
use Rattle.register.specs.declared.Register.{Register}
use Rattle.soundness_rules.specs.Sound.{World, world_of, root_kept, sound_claims, sound}
use Rattle.soundness_rules.proofs.Laws.{acceptable_out, drawn_out, root_kept_out}
use Rattle.soundness_rules.proofs.Registers.{sound_out}
use Rattle.soundness_rules.proofs.Places.{latest_acceptable, earlier_sound, prefix_sound, place_hops}
use Rattle.soundness_rules.proofs.Chains.{place_climbs, place_root, place_above}
use Rattle.soundness_rules.specs.Roots.{Climbs, root_of}
use Rattle.gate_rules.specs.Places.{any_place, all_place, none_place, each_place, is_in_cases, all_latest, latest_split}
use Rattle.gate_rules.proofs.Coverage.{sound_place}
use Rattle.gate_rules.specs.Authority.{IsIn, higher_than, Attenuates}

-- numbers that are distinct tell elements apart
pub distinct_place : {C : Type 0} (f : C → ℕ) (L : List C) → distinct (map f L) ≡ true → (c d : C) → IsIn L c → IsIn L d → f c ≡ f d → c ≡ d
distinct_place {C} f [] h c d at by same = nowhere at.before at.split
  where
    nowhere : (K : List C) → [] ≡ K ++ c ∷ at.after → c ≡ d
    nowhere [] e = cons_clash (sym e)
    nowhere (b ∷ K) e = cons_clash (sym e)
distinct_place {C} f (b ∷ L) h c d at by same =
    let told = sym (distinct_cons (f b) (map f L)) ∙ h in
    let apart = rw (any_map f (eqb (f b)) L) at (not-true (any (eqb (f b)) (map f L)) (and_left (not (any (eqb (f b)) (map f L))) (distinct (map f L)) told)) in
    let other : ((e : C) → IsIn L e → f b ≡ f e → ⊥) = λ e in_rest. eqb-false (f b) (f e) (none_place (λ e. eqb (f b) (f e)) L apart e in_rest) in
    ⊎_elim
    (λ here. ⊎_elim (λ there. here ∙ sym there) (λ in_rest. absurd (other d in_rest (ap f (sym here) ∙ same))) (is_in_cases b L d by))
    (λ past. ⊎_elim (λ there. absurd (other c past (ap f (sym there) ∙ sym same)))
    (λ in_rest. distinct_place f L (and_right (not (any (eqb (f b)) (map f L))) (distinct (map f L)) told) c d past in_rest same) (is_in_cases b L d by))
    (is_in_cases b L c at)

-- who keeps a resource by its number is that resource's keeper
keeper_place : (resources : List Resource) → distinct (map (λ q. q.id) resources) ≡ true → (g x : ℕ)
    → any (λ q. eqb x q.id && eqb g q.keeper) resources ≡ true → (o : Resource) → IsIn resources o → o.id ≡ x → g ≡ o.keeper
keeper_place resources apart g x kept o at named =
    let found = any_place (λ q. eqb x q.id && eqb g q.keeper) resources kept in
    let number = eqb-true x found.0.id (and_left (eqb x found.0.id) (eqb g found.0.keeper) found.2) in
    let same : found.0 ≡ o = distinct_place (λ q. q.id) resources apart found.0 o found.1 at (sym number ∙ sym named) in
    eqb-true g found.0.keeper (and_right (eqb x found.0.id) (eqb g found.0.keeper) found.2) ∙ ap (λ q. q.keeper) same

-- a chain is of one resource, and its root has every right and at least the weight of each claim
pub root_resource_lem : (c : Claim) (higher : List Claim) → Attenuates c higher → (root_of c higher).resource ≡ c.resource
root_resource_lem c [] h = refl
root_resource_lem c (p ∷ higher) h = root_resource_lem p higher h.1 ∙ h.0.on_same

pub root_rights_lem : (c : Claim) (higher : List Claim) → Attenuates c higher → has_rights (root_of c higher).rights c.rights ≡ true
root_rights_lem c [] h = has_rights_reflexive c.rights
root_rights_lem c (p ∷ higher) h =
    has_rights_transitive (root_of p higher).rights p.rights c.rights (root_rights_lem p higher h.1) h.0.contains

pub root_weight_lem : (c : Claim) (higher : List Claim) → Attenuates c higher → c.weight ≤ (root_of c higher).weight
root_weight_lem c [] h = omega arith
root_weight_lem c (p ∷ higher) h = omega (arith, root_weight_lem p higher h.1, h.0.weighs)

root_all : (Q : Claim → Type 0) (c : Claim) (higher : List Claim) → Q c → All Q higher → Q (root_of c higher)
root_all Q c [] k h = k
root_all Q c (p ∷ higher) k h = root_all Q p higher h.0 h.1

-- what a chain's first claim is drawn from, if it has a first
abbrev Linked : List Claim → Type 0
Linked [] = Unit {0}
Linked (c ∷ higher) = Attenuates c higher

module _ (w : World) where
  link : (c : Claim) (L : List Claim) → sound_claims w (c ∷ L) ≡ true → Linked (above L c) → Attenuates c (above L c)
  link c L h linked =
      cases (eqb c.parent 0) (λ e. rw (eqb-true c.parent 0 e, chain_zero (λ d. d.id) (λ d. d.parent) L) tt)
      (λ e. let drawn = drawn_out w.version L c (acceptable_out w L c (latest_acceptable w c L h)).over_earlier.chained (eqb-false c.parent 0 e) in
      rw drawn.chained (drawn.over_it.drawn_from_parent, rw drawn.chained at linked))

  chain_linked : (L : List Claim) (p : ℕ) → sound_claims w L ≡ true → Linked (chain (λ d. d.id) (λ d. d.parent) L p)
  chain_linked = chain_ind (λ d. d.id) (λ d. d.parent) (λ L p H. sound_claims w L ≡ true → Linked H) (λ p h. tt)
      (λ c L p e ih h. link c L h (ih (earlier_sound w c L h))) (λ c L p e ih h. ih (earlier_sound w c L h))

  pub sound_kept : (L : List Claim) → sound_claims w L ≡ true → All (λ c. root_kept w c ≡ true) L
  sound_kept [] h = tt
  sound_kept (c ∷ L) h = ((acceptable_out w L c (latest_acceptable w c L h)).by_itself.kept, sound_kept L (earlier_sound w c L h))

-- a claim at its place in a sound register
module _ (r : Register) (h : sound r ≡ true) (c : Claim) (at : IsIn (claims_of r.claims) c) where
  abbrev surroundings : World
  surroundings = world_of r.version (actors_of r.actors) (resources_of r.resources)

  -- the chain above it is that among the earlier claims
  higher_earlier : higher_than r c ≡ above (latest at.before) c
  higher_earlier =
      ap (λ l. above l c) (ap latest at.split ∙ latest_split at.before c at.after)
      ∙ place_above surroundings (latest at.after) c (latest at.before) (sound_place r h c at)

  pub place_climbing : Climbs c.parent (higher_than r c)
  place_climbing = rw higher_earlier (place_climbs surroundings (latest at.after) c (latest at.before) (sound_place r h c at))

  pub place_higher : All (λ d. IsIn (claims_of r.claims) d) (higher_than r c)
  place_higher = all_chain (λ d. d.id) (λ d. d.parent) (λ d. IsIn (claims_of r.claims) d) (latest (claims_of r.claims)) c.parent
      (all_latest (λ d. IsIn (claims_of r.claims) d) (claims_of r.claims) (each_place (claims_of r.claims)))

  pub place_attenuating : Attenuates c (higher_than r c)
  place_attenuating =
      let behind = prefix_sound surroundings (latest at.after) (c ∷ latest at.before) (sound_place r h c at) in
      rw higher_earlier (link surroundings c (latest at.before) behind
      (chain_linked surroundings (latest at.before) c.parent (earlier_sound surroundings c (latest at.before) behind)))

  pub place_hops_most : hops_of (latest (claims_of r.claims)) c ≤ hop_limit
  place_hops_most = rw higher_earlier (place_hops surroundings (latest at.after) c (latest at.before) (sound_place r h c at))

  pub place_rooted : (root_of c (higher_than r c)).parent ≡ 0
  place_rooted = rw higher_earlier (place_root surroundings (latest at.after) c (latest at.before) (sound_place r h c at))

  -- its root is granted by the keeper of its resource
  pub place_keeper : (o : Resource) → IsIn (resources_of r.resources) o → o.id ≡ c.resource → (root_of c (higher_than r c)).grantor ≡ o.keeper
  place_keeper o by claimed =
      let root : Claim = root_of c (higher_than r c) in
      let all = sound_kept surroundings (latest (claims_of r.claims)) (sound_out r h).claims in
      let own = all_place (λ d. root_kept surroundings d ≡ true) (latest (claims_of r.claims)) all c
      record { before = latest at.after; after = latest at.before; split = ap latest at.split ∙ latest_split at.before c at.after } in
      let kept = root_all (λ d. root_kept surroundings d ≡ true) c (higher_than r c) own
      (all_chain (λ d. d.id) (λ d. d.parent) (λ d. root_kept surroundings d ≡ true) (latest (claims_of r.claims)) c.parent all) in
      keeper_place (resources_of r.resources) (sound_out r h).resources.apart root.grantor root.resource
      (root_kept_out surroundings root kept place_rooted) o by (claimed ∙ sym (root_resource_lem c (higher_than r c) place_attenuating))
