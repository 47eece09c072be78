-- Traceable authority is enough: an action that has it for each use, and is otherwise without violation, is permitted. Assumes nothing.
use Rattle.std.proofs.Common.{◌≡◌, sym, Bool, true, false, not, ◌&&◌, [], ⊎_elim, ℕ, eqb-true, eq-eqb, eqb}
use borrow.Author.Tests.{not-true}
use Rattle.lists.specs.Tests.{cases, clash, and_left, and_right, and_both, or_second}
use Rattle.lists.specs.Lists.{any}
use Rattle.lists.specs.Each.{all_imp, all_none}
use Rattle.rights.specs.Rights.{reading}
use Rattle.paths.specs.Containment.{contained}
use Rattle.register.specs.Limits.{machine_kind}
use Rattle.register.specs.Register.{actors_of, resources_of, claims_of, path_of}
use Rattle.register.specs.declared.Actor.{Actor}
use Rattle.register.specs.declared.Register.{Register}
use Rattle.soundness_rules.specs.Sound.{is_machine}
use Rattle.actions.specs.Actions.{uses_of, governs_of}
use Rattle.actions.specs.declared.Usage.{Usage}
use Rattle.actions.specs.declared.Action.{Action}
use Rattle.actions.specs.declared.Decision.TheVariants.{Permitted}
use Rattle.gate_rules.specs.Gate.{public_read, contains, covering, covers, is_ownerless, owner_lacks, gated}
use Rattle.gate_rules.specs.Places.{place_any, each_place}
use Rattle.gate_rules.proofs.Laws.{UseClean, use_violations_in, permitted_in}
use Rattle.gate_rules.proofs.Flags.{flags_zero}
use Rattle.gate_rules.proofs.Coverage.{covering_in}
use Rattle.gate_rules.specs.Authority.{IsIn, Passed, PublicRead, Traced, Rests, Owned, Authority}
use Rattle.gate_rules.proofs.Tracing.{Contains}

pub contains_in_lem : (r : Register) (x y : ℕ) → Contains r x y → contains r x y ≡ true
unfolding contains
contains_in_lem r x y h =
    place_any (λ o. eqb x o.id && any (λ i. eqb y i.id && contained (path_of o) (path_of i)) (resources_of r.resources))
    (resources_of r.resources) h.outer h.outer_standing
    (and_both (eqb x h.outer.id) (any (λ i. eqb y i.id && contained (path_of h.outer) (path_of i)) (resources_of r.resources))
    (eq-eqb x h.outer.id (sym h.outer_named))
    (place_any (λ i. eqb y i.id && contained (path_of h.outer) (path_of i)) (resources_of r.resources) h.inner h.inner_standing
    (and_both (eqb y h.inner.id) (contained (path_of h.outer) (path_of h.inner)) (eq-eqb y h.inner.id (sym h.inner_named)) h.containing)))

pub public_read_in : (r : Register) (u : Usage) → PublicRead r u → public_read r u ≡ true
unfolding public_read
public_read_in r u h =
    and_both (eqb u.right reading) (any (λ o. eqb u.resource o.id && eqb o.public 1) (resources_of r.resources))
    (eq-eqb u.right reading h.reads)
    (place_any (λ o. eqb u.resource o.id && eqb o.public 1) (resources_of r.resources) h.resource h.standing
    (and_both (eqb u.resource h.resource.id) (eqb h.resource.public 1) (eq-eqb u.resource h.resource.id (sym h.used))
    (eq-eqb h.resource.public 1 h.is_public)))

traced_covering : (r : Register) (moment x : ℕ) (u : Usage) (h : Traced r moment x u) → covering r moment x u h.claim ≡ true
traced_covering r moment x u h =
    covering_in r moment x u h.claim record {
      held = eq-eqb h.claim.holder x h.held;
      lives = h.lives;
      has = h.right;
      containing = contains_in_lem r h.claim.resource u.resource record {
        outer = h.outer;
        outer_standing = h.outer_standing;
        outer_named = h.outer_claimed;
        inner = h.inner;
        inner_standing = h.inner_standing;
        inner_named = h.inner_used;
        containing = h.containing;
      };
    }

-- who rests on what is public or on authority covers the use
pub rests_covers : (r : Register) (moment x : ℕ) (u : Usage) → Rests r moment x u → covers r moment x u ≡ true
unfolding covers
rests_covers r moment x u =
    ⊎_elim (λ h. rw (public_read_in r u h))
    (λ h. or_second (public_read r u) (any (covering r moment x u) (claims_of r.claims))
    (place_any (covering r moment x u) (claims_of r.claims) h.claim h.standing (traced_covering r moment x u h)))

owner_not_lacking : (r : Register) (moment x : ℕ) (u : Usage)
    → ((b : Actor) → IsIn (actors_of r.actors) b → b.id ≡ x → b.kind ≡ machine_kind → Owned r moment b u) → owner_lacks r moment x u ≡ false
unfolding owner_lacks
owner_not_lacking r moment x u owned =
    let lacks : Actor → Bool = λ a. eqb x a.id && (eqb machine_kind a.kind && (not (eqb a.owner 0) && not (covers r moment a.owner u))) in
    all_none lacks (actors_of r.actors) (all_imp (λ b. IsIn (actors_of r.actors) b) (λ b. lacks b ≡ false)
    (λ b at. cases (lacks b)
    (λ e. let rest = and_right (eqb x b.id) (eqb machine_kind b.kind && (not (eqb b.owner 0) && not (covers r moment b.owner u))) e in
    let machine = sym (eqb-true machine_kind b.kind (and_left (eqb machine_kind b.kind) (not (eqb b.owner 0) && not (covers r moment b.owner u)) rest)) in
    let named = sym (eqb-true x b.id (and_left (eqb x b.id) (eqb machine_kind b.kind && (not (eqb b.owner 0) && not (covers r moment b.owner u))) e)) in
    let last = and_right (eqb machine_kind b.kind) (not (eqb b.owner 0) && not (covers r moment b.owner u)) rest in
    clash (covers r moment b.owner u) (rests_covers r moment b.owner u (owned b at named machine).owner_rests)
    (not-true (covers r moment b.owner u) (and_right (not (eqb b.owner 0)) (not (covers r moment b.owner u)) last)))
    (λ e. e)) (actors_of r.actors) (each_place (actors_of r.actors)))

-- what permission asks of an action that no test stops
pub authority_permits : (r : Register) (a : Action) → Passed r a → a.flags ≡ 0 → is_ownerless r a.actor ≡ false
    → (is_machine (actors_of r.actors) a.actor ≡ true → governs_of a ≡ []) → ((u : Usage) → IsIn (uses_of a) u → Authority r a u) → (gated r a).decision ≡ Permitted
authority_permits r a passed flagless owned ungoverning rests =
    permitted_in r a record {
      passed = passed;
      clean = record {
        flagless = rw flagless flags_zero;
        owned = owned;
        ungoverning = ungoverning;
        covered = use_violations_in r a.now a.actor 0 (uses_of a) (all_imp (λ u. IsIn (uses_of a) u) (λ u. UseClean r a.now a.actor u)
            (λ u at. record {
              covered = rests_covers r a.now a.actor u (rests u at).actor_rests;
              owner_covers = owner_not_lacking r a.now a.actor u (rests u at).machine_owned;
            }) (uses_of a) (each_place (uses_of a)));
      };
    }
