-- What the gate permits rests on traceable authority: each covering claim, its chain and its root. Assumes nothing.
use Rattle.std.proofs.Common.{◌≡◌, refl, sym, Bool, true, false, not, ◌&&◌, inl, inr, ℕ, eqb-true, eq-eqb, eqb}
use borrow.Author.Tests.{eqb-false, not-false}
use Rattle.lists.specs.Tests.{clash, and_left, and_right}
use Rattle.lists.specs.Lists.{any}
use Rattle.lists.specs.Each.{every_all}
use Rattle.rights.specs.Rights.{reading}
use Rattle.paths.specs.Containment.{contained}
use Rattle.register.specs.Limits.{machine_kind}
use Rattle.register.specs.Register.{actors_of, resources_of, claims_of, path_of}
use Rattle.register.specs.declared.Actor.{Actor}
use Rattle.register.specs.declared.Resource.{Resource}
use Rattle.register.specs.declared.Claim.{Claim}
use Rattle.register.specs.declared.Register.{Register}
use Rattle.soundness_rules.specs.Sound.{human, actor_fits, sound}
use Rattle.soundness_rules.proofs.Registers.{sound_out, actor_fits_out}
use Rattle.soundness_rules.specs.Roots.{root_of}
use Rattle.actions.specs.Actions.{uses_of}
use Rattle.actions.specs.declared.Usage.{Usage}
use Rattle.actions.specs.declared.Action.{Action}
use Rattle.actions.specs.declared.Decision.TheVariants.{Permitted}
use Rattle.gate_rules.specs.Gate.{public_read, contains, covering, covers, is_ownerless, owner_lacks, gated}
use Rattle.gate_rules.specs.Places.{any_place, all_place, none_place}
use Rattle.gate_rules.proofs.Laws.{UseClean, permitted_out, use_violations_out}
use Rattle.gate_rules.proofs.Trace.{root_resource_lem, root_rights_lem, root_weight_lem, place_climbing, place_higher, place_attenuating, place_hops_most, place_rooted, place_keeper}
use Rattle.gate_rules.proofs.Coverage.{covering_out, covers_cases}
use Rattle.gate_rules.specs.Authority.{IsIn, higher_than, Traced, PublicRead, Rests, Owned, Authority}

-- containment, by the two resources
pub record Contains (r : Register) (x y : ℕ) : Type 0 where
  pub outer : Resource
  pub outer_standing : IsIn (resources_of r.resources) outer
  pub outer_named : outer.id ≡ x
  pub inner : Resource
  pub inner_standing : IsIn (resources_of r.resources) inner
  pub inner_named : inner.id ≡ y
  pub containing : contained (path_of outer) (path_of inner) ≡ true

pub contains_out : (r : Register) (x y : ℕ) → contains r x y ≡ true → Contains r x y
unfolding contains
contains_out r x y h =
    let outer = any_place (λ o. eqb x o.id && any (λ i. eqb y i.id && contained (path_of o) (path_of i)) (resources_of r.resources))
    (resources_of r.resources) h in
    let within = any (λ i. eqb y i.id && contained (path_of outer.0) (path_of i)) (resources_of r.resources) in
    let inner = any_place (λ i. eqb y i.id && contained (path_of outer.0) (path_of i)) (resources_of r.resources)
    (and_right (eqb x outer.0.id) within outer.2) in
    let both = contained (path_of outer.0) (path_of inner.0) in
    record {
      outer = outer.0;
      outer_standing = outer.1;
      outer_named = sym (eqb-true x outer.0.id (and_left (eqb x outer.0.id) within outer.2));
      inner = inner.0;
      inner_standing = inner.1;
      inner_named = sym (eqb-true y inner.0.id (and_left (eqb y inner.0.id) both inner.2));
      containing = and_right (eqb y inner.0.id) both inner.2;
    }

pub public_read_out : (r : Register) (u : Usage) → public_read r u ≡ true → PublicRead r u
unfolding public_read
public_read_out r u h =
    let some = any (λ o. eqb u.resource o.id && eqb o.public 1) (resources_of r.resources) in
    let found = any_place (λ o. eqb u.resource o.id && eqb o.public 1) (resources_of r.resources) (and_right (eqb u.right reading) some h) in
    record {
      reads = eqb-true u.right reading (and_left (eqb u.right reading) some h);
      resource = found.0;
      standing = found.1;
      used = sym (eqb-true u.resource found.0.id (and_left (eqb u.resource found.0.id) (eqb found.0.public 1) found.2));
      is_public = eqb-true found.0.public 1 (and_right (eqb u.resource found.0.id) (eqb found.0.public 1) found.2);
    }

-- a covering claim is authority
pub covering_traced : (r : Register) → sound r ≡ true → (moment x : ℕ) (u : Usage) (c : Claim) → IsIn (claims_of r.claims) c → covering r moment x u c ≡ true
    → Traced r moment x u
covering_traced r h moment x u c at e =
    let told = covering_out r moment x u c e in
    let resources = contains_out r c.resource u.resource told.containing in
    record {
      claim = c;
      standing = at;
      held = eqb-true c.holder x told.held;
      lives = told.lives;
      right = told.has;
      outer = resources.outer;
      outer_standing = resources.outer_standing;
      outer_claimed = resources.outer_named;
      inner = resources.inner;
      inner_standing = resources.inner_standing;
      inner_used = resources.inner_named;
      containing = resources.containing;
      climbing = place_climbing r h c at;
      higher_standing = place_higher r h c at;
      attenuating = place_attenuating r h c at;
      hops = place_hops_most r h c at;
      root = root_of c (higher_than r c);
      root_last = refl;
      root_parent = place_rooted r h c at;
      root_resource = root_resource_lem c (higher_than r c) (place_attenuating r h c at);
      root_rights = root_rights_lem c (higher_than r c) (place_attenuating r h c at);
      root_weight = root_weight_lem c (higher_than r c) (place_attenuating r h c at);
      root_keeper = place_keeper r h c at resources.outer resources.outer_standing resources.outer_named;
    }

-- who covers a use rests on what is public or on authority
pub covers_rests : (r : Register) → sound r ≡ true → (moment x : ℕ) (u : Usage) → covers r moment x u ≡ true → Rests r moment x u
covers_rests r h moment x u e =
    covers_cases r moment x u e (λ public. inl (public_read_out r u public))
    (λ some. let found = any_place (covering r moment x u) (claims_of r.claims) some in
    inr (covering_traced r h moment x u found.0 found.1 found.2))

and_false_right : (a b : Bool) → a && b ≡ false → a ≡ true → b ≡ false
and_false_right true b h e = h
and_false_right false b h e = clash true refl (sym e)

-- a machine for whose use there is no violation has an owner who covers the use
owner_covers_lem : (r : Register) (moment x : ℕ) (u : Usage) → is_ownerless r x ≡ false → owner_lacks r moment x u ≡ false → (b : Actor) → IsIn (actors_of r.actors) b
    → b.id ≡ x → b.kind ≡ machine_kind → (b.owner ≡ 0 → ⊥) × (covers r moment b.owner u ≡ true)
unfolding is_ownerless owner_lacks
owner_covers_lem r moment x u owned covered b at named machine =
    let here = eq-eqb x b.id (sym named) in
    let kind = eq-eqb machine_kind b.kind (sym machine) in
    let some = and_false_right (eqb machine_kind b.kind) (eqb b.owner 0) (and_false_right (eqb x b.id) (eqb machine_kind b.kind && eqb b.owner 0)
    (none_place (λ a. eqb x a.id && (eqb machine_kind a.kind && eqb a.owner 0)) (actors_of r.actors) owned b at) here) kind in
    let lacks = and_false_right (eqb machine_kind b.kind) (not (eqb b.owner 0) && not (covers r moment b.owner u))
    (and_false_right (eqb x b.id) (eqb machine_kind b.kind && (not (eqb b.owner 0) && not (covers r moment b.owner u)))
    (none_place (λ a. eqb x a.id && (eqb machine_kind a.kind && (not (eqb a.owner 0) && not (covers r moment a.owner u)))) (actors_of r.actors) covered b at)
    here) kind in
    (eqb-false b.owner 0 some, not-false (covers r moment b.owner u) (and_false_right (not (eqb b.owner 0)) (not (covers r moment b.owner u)) lacks (rw some)))

machine_owned_lem : (r : Register) → sound r ≡ true → (moment x : ℕ) (u : Usage) → is_ownerless r x ≡ false → owner_lacks r moment x u ≡ false
    → (b : Actor) → IsIn (actors_of r.actors) b → b.id ≡ x → b.kind ≡ machine_kind → Owned r moment b u
machine_owned_lem r h moment x u owned covered b at named machine =
    let told = owner_covers_lem r moment x u owned covered b at named machine in
    let fits = actor_fits_out (human (actors_of r.actors)) b
    (all_place (λ a. actor_fits (human (actors_of r.actors)) a ≡ true) (actors_of r.actors)
    (every_all (actor_fits (human (actors_of r.actors))) (actors_of r.actors) (sound_out r h).actors.fit) b at) in
    record { owned = told.0; owner_human = fits.owner_human told.0; owner_rests = covers_rests r h moment b.owner u told.1 }

-- whatever the gate permits rests, use by use, on traceable authority
pub permitted_authority : (r : Register) (a : Action) → (gated r a).decision ≡ Permitted → (u : Usage) → IsIn (uses_of a) u → Authority r a u
permitted_authority r a h u at =
    let told = permitted_out r a h in
    let clean = all_place (λ u. UseClean r a.now a.actor u) (uses_of a)
    (use_violations_out r a.now a.actor 0 (uses_of a) told.clean.covered) u at in
    record {
      actor_rests = covers_rests r told.passed.soundly a.now a.actor u clean.covered;
      machine_owned = machine_owned_lem r told.passed.soundly a.now a.actor u told.clean.owned clean.owner_covers;
    }

-- and its actor stands
pub permitted_actor : (r : Register) (a : Action) → (gated r a).decision ≡ Permitted → (b : Actor) × IsIn (actors_of r.actors) b × (b.id ≡ a.actor)
permitted_actor r a h =
    let found = any_place (λ b. eqb a.actor b.id) (actors_of r.actors) (permitted_out r a h).passed.known in
    (found.0, found.1, sym (eqb-true a.actor found.0.id found.2))
