-- In a sound register, who covers a use and with how many hops is told by what is seen of the claims and by the used resource as it stands.
-- Assumes nothing.
use Rattle.std.proofs.Common.{◌≡◌, refl, ap, sym, ◌∙◌, Bool, true, not, ◌&&◌, ◌||◌, List, [], ◌∷◌, map, ◌⊎◌, ⊎_elim, ℕ, eqb-true, eq-eqb, eqb}
use mathlib.Core.Bool.{or-false}
use Rattle.lists.specs.Tests.{or_second}
use Rattle.lists.specs.Lists.{any, ands, All}
use Rattle.lists.specs.Each.{ands_out, any_map, all_imp}
use Rattle.lists.specs.Filters.{all_dropping}
use Rattle.rights.specs.Rights.{reading, has_right}
use Rattle.paths.specs.Containment.{contained, reached}
use Rattle.register.specs.Register.{actors_of, resources_of, claims_of, path_of, Standing, resource_standing}
use Rattle.register.specs.Chain.{latest, live}
use Rattle.register.specs.declared.Resource.{Resource}
use Rattle.register.specs.declared.Claim.{Claim}
use Rattle.register.specs.declared.Register.{Register}
use Rattle.soundness_rules.specs.Sound.{World, world_of, names_stand, sound}
use Rattle.soundness_rules.proofs.Registers.{sound_out}
use Rattle.soundness_rules.proofs.Places.{place_acceptable}
use Rattle.actions.specs.declared.Usage.{Usage}
use Rattle.gate_rules.specs.Gate.{public_read, contains, covering, covers, first_of, nearest_of, path_in, path_by, reach_of, hops_in, hops_for}
use Rattle.gate_rules.specs.Authority.{IsIn}
use Rattle.gate_rules.specs.Places.{each_place, first_found}
use Rattle.gate_rules.proofs.Coverage.{covering_out, sound_place}
use Rattle.guesses.specs.Alike.{owner_of, held_by, Seen, seen_of, seen, standing_of}
use Rattle.guesses.proofs.Firsts.{any_numbered, any_filter, nearest_filter, any_read, nearest_read}

-- the path of a resource as it stands, the empty path where none does
abbrev pub path_as : List Standing → List ℕ
path_as [] = []
path_as (o ∷ more) = o.path

-- what the gate asks of a claim, asked of what is seen of it: y the holder, b the right, os the used resource as it stands
abbrev pub covering_as : ℕ → ℕ → List Standing → Seen → Bool
covering_as y b os v = ands (eqb v.holder y ∷ v.lives ∷ has_right v.rights b ∷ any (λ i. contained v.path i.path) os ∷ [])

abbrev pub reach_as : List Standing → Seen → ℕ
reach_as os v = reached v.path (path_as os)

abbrev pub public_as : ℕ → List Standing → Bool
public_as b os = eqb b reading && any (λ o. eqb o.public 1) os

abbrev pub covers_as : ℕ → ℕ → List Standing → List Seen → Bool
covers_as y b os vs = public_as b os || any (covering_as y b os) vs

abbrev pub hops_as : List Seen → ℕ
hops_as [] = 0
hops_as (v ∷ vs) = v.hops

abbrev pub hops_for_as : ℕ → ℕ → List Standing → List Seen → ℕ
hops_for_as y b os vs = hops_as (nearest_of (covering_as y b os) (reach_as os) vs)

path_standing : (L : List Resource) → path_in L ≡ path_as (map resource_standing L)
path_standing [] = refl
path_standing (o ∷ L) = refl

-- x sees the claims of y: y is x, or its owner
abbrev pub Sees : Register → ℕ → ℕ → Type 0
Sees r x y = (y ≡ x) ⊎ (y ≡ owner_of r x)

-- a covering claim of x or of its owner is among those that x sees
pub covering_held : (r : Register) (moment x y : ℕ) → Sees r x y → (u : Usage) (c : Claim) → covering r moment y u c ≡ true
    → eqb c.holder x || eqb c.holder (owner_of r x) ≡ true
covering_held r moment x y who u c e =
    let held : c.holder ≡ y = eqb-true c.holder y (covering_out r moment y u c e).held in
    ⊎_elim (λ self. rw (eq-eqb c.holder x (held ∙ self)))
    (λ owner. or_second (eqb c.holder x) (eqb c.holder (owner_of r x)) (eq-eqb c.holder (owner_of r x) (held ∙ owner))) who

module _ (r : Register) (h : sound r ≡ true) where
  -- the resource of a claim stands
  pub claimed_stands : (c : Claim) → IsIn (claims_of r.claims) c → any (λ o. eqb c.resource o.id) (resources_of r.resources) ≡ true
  unfolding names_stand
  claimed_stands c at =
      let w : World = world_of r.version (actors_of r.actors) (resources_of r.resources) in
      let stands = (place_acceptable w (latest at.after) c (latest at.before) (sound_place r h c at)).by_itself.stands in
      (ands_out (w.known c.grantor ∷ w.known c.holder ∷ w.listed c.resource ∷ []) stands).1.1.0

  -- what a resource that stands contains is told by its path and by the other resource as it stands
  pub contains_paths : (x y : ℕ) → any (λ o. eqb x o.id) (resources_of r.resources) ≡ true
      → contains r x y ≡ any (λ i. contained (path_by r x) i.path) (standing_of r y)
  unfolding contains
  contains_paths x y stands =
      let resources = resources_of r.resources in
      let apart = (sound_out r h).resources.apart in
      let found = first_found (λ o. eqb x o.id) resources stands in
      let o : Resource = found.0 in
      any_numbered (λ o. o.id) x (λ o. any (λ i. eqb y i.id && contained (path_of o) (path_of i)) resources) resources apart
      ∙ ap (any (λ o. any (λ i. eqb y i.id && contained (path_of o) (path_of i)) resources)) found.1.alone
      ∙ or-false (any (λ i. eqb y i.id && contained (path_of o) (path_of i)) resources)
      ∙ any_numbered (λ i. i.id) y (λ i. contained (path_of o) (path_of i)) resources apart
      ∙ ap (λ p. any (λ i. contained p (path_of i)) (first_of (λ i. eqb y i.id) resources)) (sym (ap path_in found.1.alone))
      ∙ sym (any_map resource_standing (λ i. contained (path_by r x) i.path) (first_of (λ i. eqb y i.id) resources))

  pub public_standing : (u : Usage) → public_read r u ≡ public_as u.right (standing_of r u.resource)
  unfolding public_read
  public_standing u =
      let resources = resources_of r.resources in
      ap (λ b. eqb u.right reading && b)
      (any_numbered (λ o. o.id) u.resource (λ o. eqb o.public 1) resources (sound_out r h).resources.apart
      ∙ sym (any_map resource_standing (λ o. eqb o.public 1) (first_of (λ o. eqb u.resource o.id) resources)))

  -- a claim that stands covers where what is seen of it does, and reaches as far
  covering_seen : (moment y : ℕ) (u : Usage) (c : Claim) → IsIn (claims_of r.claims) c
      → covering r moment y u c ≡ covering_as y u.right (standing_of r u.resource) (seen_of r moment c)
  unfolding covering
  covering_seen moment y u c at =
      ap (λ b. ands (eqb c.holder y ∷ live moment (latest (claims_of r.claims)) c ∷ has_right c.rights u.right ∷ b ∷ []))
      (contains_paths c.resource u.resource (claimed_stands c at))

  reach_seen : (moment : ℕ) (u : Usage) (c : Claim) → reach_of r c.resource u.resource ≡ reach_as (standing_of r u.resource) (seen_of r moment c)
  unfolding reach_of
  reach_seen moment u c = ap (reached (path_by r c.resource)) (path_standing (first_of (λ o. eqb u.resource o.id) (resources_of r.resources)))

  hops_seen : (moment : ℕ) (cs : List Claim) → hops_in r cs ≡ hops_as (map (seen_of r moment) cs)
  hops_seen moment [] = refl
  hops_seen moment (c ∷ cs) = refl

  -- of the actor x, for x or its owner y
  module _ (moment x y : ℕ) (who : Sees r x y) (u : Usage) where
    agreeing : All (λ c. (covering r moment y u c ≡ covering_as y u.right (standing_of r u.resource) (seen_of r moment c))
        × (reach_of r c.resource u.resource ≡ reach_as (standing_of r u.resource) (seen_of r moment c))) (held_by r x)
    agreeing =
        all_imp (λ c. IsIn (claims_of r.claims) c) (λ c. (covering r moment y u c ≡ covering_as y u.right (standing_of r u.resource) (seen_of r moment c))
        × (reach_of r c.resource u.resource ≡ reach_as (standing_of r u.resource) (seen_of r moment c)))
        (λ c at. (covering_seen moment y u c at, reach_seen moment u c)) (held_by r x)
        (all_dropping (λ M c. not (eqb c.holder x || eqb c.holder (owner_of r x))) (λ c. IsIn (claims_of r.claims) c) (claims_of r.claims)
        (each_place (claims_of r.claims)))

    pub covers_seen : covers r moment y u ≡ covers_as y u.right (standing_of r u.resource) (seen r moment x)
    unfolding covers
    covers_seen =
        ap (λ b. b || any (covering r moment y u) (claims_of r.claims)) (public_standing u)
        ∙ ap (λ b. public_as u.right (standing_of r u.resource) || b)
        (any_filter (covering r moment y u) (λ c. eqb c.holder x || eqb c.holder (owner_of r x)) (covering_held r moment x y who u) (claims_of r.claims)
        ∙ any_read (seen_of r moment) (covering r moment y u) (covering_as y u.right (standing_of r u.resource)) (held_by r x)
        (all_imp (λ c. (covering r moment y u c ≡ covering_as y u.right (standing_of r u.resource) (seen_of r moment c))
        × (reach_of r c.resource u.resource ≡ reach_as (standing_of r u.resource) (seen_of r moment c)))
        (λ c. covering r moment y u c ≡ covering_as y u.right (standing_of r u.resource) (seen_of r moment c)) (λ c both. both.0) (held_by r x) agreeing))

    pub hops_for_seen : hops_for r moment y u ≡ hops_for_as y u.right (standing_of r u.resource) (seen r moment x)
    unfolding hops_for
    hops_for_seen =
        ap (hops_in r) (nearest_filter (covering r moment y u) (λ c. eqb c.holder x || eqb c.holder (owner_of r x)) (covering_held r moment x y who u)
        (λ c. reach_of r c.resource u.resource) (claims_of r.claims))
        ∙ hops_seen moment (nearest_of (covering r moment y u) (λ c. reach_of r c.resource u.resource) (held_by r x))
        ∙ ap hops_as (nearest_read (seen_of r moment) (covering r moment y u) (covering_as y u.right (standing_of r u.resource))
        (λ c. reach_of r c.resource u.resource) (reach_as (standing_of r u.resource)) (held_by r x) agreeing)
