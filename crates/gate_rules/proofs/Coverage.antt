-- Laws: Covering: what a covering claim is, a use that is not covered, and that in a sound register the parent of a claim stands. Assumes nothing.
use Rattle.std.specs.Prelude.{◌≡◌, Bool, true, false, ◌&&◌, [], ◌∷◌, ◌++◌, ℕ, eqb}
use Rattle.std.proofs.Common.{sym, ◌∙◌, ap, eqb-true}
use Rattle.std.proofs.Math.Bool.{and-false}
use Rattle.lists.specs.Tests.{cases, clash, and_left, or_right}
use Rattle.lists.specs.Lists.{any}
use Rattle.lists.specs.Each.{ands_out, all_none, none_weaken, each_all, any_append, any_reverse}
use Rattle.rights.specs.Rights.{reading, has_right}
use Rattle.paths.specs.Containment.{contained}
use Rattle.register.specs.Register.{actors_of, resources_of, claims_of, path_of}
use Rattle.register.specs.Chain.{latest, live, hops_of}
use Rattle.register.specs.declared.Claim.{Claim}
use Rattle.register.specs.declared.Register.{Register}
use Rattle.soundness_rules.specs.Sound.{World, world_of, sound_claims, sound}
use Rattle.soundness_rules.proofs.Registers.{sound_out}
use Rattle.soundness_rules.proofs.Places.{place_parent}
use Rattle.actions.specs.declared.Usage.{Usage}
use Rattle.actions.specs.declared.Violation.TheVariants.{NotCovered}
use Rattle.gate_rules.specs.Places.{any_place, latest_split}
use Rattle.gate_rules.specs.Nearest.{nearest_found, nearest_none}
use Rattle.gate_rules.specs.Gate.{public_read, contains, covering, covers, use_violation, hops_for, reach_of, hops_in}
use Rattle.gate_rules.specs.Authority.{IsIn, Nearest}

-- what a covering claim is
pub record Covering (r : Register) (moment x : ℕ) (u : Usage) (c : Claim) : Type 0 where
  pub held : eqb c.holder x ≡ true
  pub lives : live moment (latest (claims_of r.claims)) c ≡ true
  pub has : has_right c.rights u.right ≡ true
  pub containing : contains r c.resource u.resource ≡ true

pub covering_out : (r : Register) (moment x : ℕ) (u : Usage) (c : Claim) → covering r moment x u c ≡ true → Covering r moment x u c
unfolding covering
covering_out r moment x u c h =
    let told = ands_out (eqb c.holder x ∷ live moment (latest (claims_of r.claims)) c ∷ has_right c.rights u.right ∷ contains r c.resource u.resource ∷ []) h in
    record { held = told.0; lives = told.1.0; has = told.1.1.0; containing = told.1.1.1.0 }

pub covering_in : (r : Register) (moment x : ℕ) (u : Usage) (c : Claim) → Covering r moment x u c → covering r moment x u c ≡ true
unfolding covering
covering_in r moment x u c h = rw (h.held, h.lives, h.has, h.containing)

-- who covers a use either reads what is public or holds a covering claim
pub covers_cases : {A : Type 0} (r : Register) (moment x : ℕ) (u : Usage) → covers r moment x u ≡ true
    → (public_read r u ≡ true → A) → (any (covering r moment x u) (claims_of r.claims) ≡ true → A) → A
unfolding covers
covers_cases r moment x u h f g = cases (public_read r u) f (λ e. g (rw e at h))

pub covers_none : (r : Register) (moment x : ℕ) (u : Usage) → covers r moment x u ≡ false → any (covering r moment x u) (claims_of r.claims) ≡ false
unfolding covers
covers_none r moment x u h = or_right (public_read r u) (any (covering r moment x u) (claims_of r.claims)) h

-- a use that is not covered has kind 4 with its position, and hop count 0
pub not_covered_violation : (r : Register) (moment x n : ℕ) (u : Usage) → covers r moment x u ≡ false → use_violation r moment x n u ≡ NotCovered n ∷ []
unfolding use_violation
not_covered_violation r moment x n u h = rw h

pub not_covered_hops : (r : Register) (moment x : ℕ) (u : Usage) → covers r moment x u ≡ false → hops_for r moment x u ≡ 0
unfolding hops_for
not_covered_hops r moment x u h =
    ap (hops_in r) (nearest_none (covering r moment x u) (λ c. reach_of r c.resource u.resource) (claims_of r.claims) (covers_none r moment x u h))

-- where a claim covers, the hop count is that of the nearest covering claim
pub nearest : (r : Register) (moment x : ℕ) (u : Usage) → any (covering r moment x u) (claims_of r.claims) ≡ true
    → (c : Claim) × Nearest (covering r moment x u) (λ d. reach_of r d.resource u.resource) (claims_of r.claims) c
    × (hops_for r moment x u ≡ hops_of (latest (claims_of r.claims)) c)
unfolding hops_for
nearest r moment x u h =
    let found = nearest_found (covering r moment x u) (λ d. reach_of r d.resource u.resource) (claims_of r.claims) h in
    (found.0, found.1, ap (hops_in r) found.1.alone)

-- what does not stand is contained in nothing, and no one covers it
absent_uncontained : (r : Register) (x y : ℕ) → any (λ o. eqb y o.id) (resources_of r.resources) ≡ false → contains r x y ≡ false
unfolding contains
absent_uncontained r x y h =
    all_none (λ o. eqb x o.id && any (λ i. eqb y i.id && contained (path_of o) (path_of i)) (resources_of r.resources))
    (resources_of r.resources) (each_all (λ M o. eqb x o.id && any (λ i. eqb y i.id && contained (path_of o) (path_of i)) (resources_of r.resources) ≡ false)
    (λ M o. rw (none_weaken (λ i. eqb y i.id && contained (path_of o) (path_of i)) (λ i. eqb y i.id)
    (λ i. and_left (eqb y i.id) (contained (path_of o) (path_of i))) (resources_of r.resources) h)
    (and-false (eqb x o.id))) (resources_of r.resources))

absent_private : (r : Register) (u : Usage) → any (λ o. eqb u.resource o.id) (resources_of r.resources) ≡ false → public_read r u ≡ false
unfolding public_read
absent_private r u h =
    rw (none_weaken (λ o. eqb u.resource o.id && eqb o.public 1) (λ o. eqb u.resource o.id)
    (λ o. and_left (eqb u.resource o.id) (eqb o.public 1)) (resources_of r.resources) h)
    (and-false (eqb u.right reading))

pub absent_not_covered : (r : Register) (moment x : ℕ) (u : Usage) → any (λ o. eqb u.resource o.id) (resources_of r.resources) ≡ false
    → covers r moment x u ≡ false
unfolding covers
absent_not_covered r moment x u h =
    rw (absent_private r u h)
    (all_none (covering r moment x u) (claims_of r.claims) (each_all (λ M c. covering r moment x u c ≡ false) (λ M c. cases (covering r moment x u c)
    (λ e. clash (contains r c.resource u.resource) (covering_out r moment x u c e).containing
    (absent_uncontained r c.resource u.resource h)) (λ e. e)) (claims_of r.claims)))

-- so a use of what does not stand is answered as one of what is not held
pub absent_as_not_held : (r : Register) (moment x n : ℕ) (u v : Usage) → any (λ o. eqb u.resource o.id) (resources_of r.resources) ≡ false
    → covers r moment x v ≡ false → (use_violation r moment x n u ≡ use_violation r moment x n v) × (hops_for r moment x u ≡ hops_for r moment x v)
absent_as_not_held r moment x n u v absent lacks =
    let none = absent_not_covered r moment x u absent in
    (not_covered_violation r moment x n u none ∙ sym (not_covered_violation r moment x n v lacks), not_covered_hops r moment x u none ∙ sym (not_covered_hops r moment x v lacks))

-- the claims of a sound register are sound around each place
pub sound_place : (r : Register) → sound r ≡ true → (c : Claim) (at : IsIn (claims_of r.claims) c)
    → sound_claims (world_of r.version (actors_of r.actors) (resources_of r.resources)) (latest at.after ++ c ∷ latest at.before) ≡ true
sound_place r h c at =
    rw (← latest_split at.before c at.after) (rw at.split at (sound_out r h).claims)

-- the parent of a claim that stands in a sound register stands too
pub parent_stands : (r : Register) → sound r ≡ true → (c : Claim) → IsIn (claims_of r.claims) c → (c.parent ≡ 0 → ⊥)
    → (d : Claim) × IsIn (claims_of r.claims) d × (d.id ≡ c.parent)
parent_stands r h c at other =
    let w : World = world_of r.version (actors_of r.actors) (resources_of r.resources) in
    let named : Claim → Bool = λ d. eqb c.parent d.id in
    let earlier = sym (any_reverse named at.before) ∙ place_parent w (latest at.after) c (latest at.before) (sound_place r h c at) other in
    let found = any_place named (claims_of r.claims) (rw (at.split, any_append named at.before (c ∷ at.after), earlier)) in
    (found.0, found.1, sym (eqb-true c.parent found.0.id found.2))
