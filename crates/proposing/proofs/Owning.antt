-- Whether a machine's owner is permitted the use, by the owner's number, and whether the used path contains itself, by its place. Assumes nothing.
use Rattle.std.proofs.Common.{Option, ℕ, None, Some, ◌≡◌, refl, sym, ap, ◌∙◌, Bool, true, false, not, ◌&&◌, List, map, ◌≤◌, ◌<◌, min, arith, eq-eqb, eqb-true, lt-ltb, le-ltb, eqb, take, get_or}
use borrow.Author.Tests.{eqb-false}
use lib.ListN.{get_or-map}
use Rattle.lists.specs.Tests.{cases, clash, and_left, and_right, and_both}
use Rattle.lists.specs.Lists.{any, distinct}
use Rattle.lists.specs.Each.{none_weaken}
use Rattle.paths.specs.Containment.{contained}
use Rattle.register.specs.Limits.{resource_limit, machine_kind}
use Rattle.register.specs.Register.{actors_of, resources_of, path_of, no_actor, no_resource}
use Rattle.register.specs.declared.Actor.{Actor}
use Rattle.register.specs.declared.Resource.{Resource}
use Rattle.register.specs.declared.Register.{Register}
use Rattle.columns.specs.Columns.{actor_id, actor_owner, resource_id, actors_to, resources_to, latest_place, beside}
use Rattle.columns.specs.Laws.{up_to_first, up_to_at, place_cases, place_found_lem}
use Rattle.lookup.specs.Asked.{asked_at, asked_natural}
use Rattle.soundness_rules.specs.Sound.{sound}
use Rattle.soundness_rules.proofs.Registers.{sound_out}
use Rattle.change_rules.specs.Changes.{world_in}
use Rattle.actions.specs.Actions.{one_use, is_permitted}
use Rattle.actions.specs.declared.Action.{Action}
use Rattle.actions.specs.declared.Verdict.{Verdict}
use Rattle.actions.specs.declared.Usage.{Usage}
use Rattle.gate_rules.specs.Gate.{is_ownerless, owner_lacks, contains, gated}
use Rattle.gate_rules.specs.Authority.{IsIn}
use Rattle.gate_rules.specs.Places.{any_place, place_any}
use Rattle.soundness.specs.Opened.{Opened}
use Rattle.soundness.specs.Laws.{judged_actors, judged_resources}
use Rattle.soundness.specs.declared.Findings.{Findings}
use Rattle.claim_judging.specs.AloneLaws.{world_natural}
use Rattle.coverage.specs.Gathering.{spot_in}
use Rattle.uses.specs.Sights.{owner_at}
use Rattle.proposals.specs.Proposals.{permits}
use Rattle.proposals.specs.Asked.{Asked}
use Rattle.proposals.specs.Owners.{one_by_id}
use Rattle.proposals.proofs.Judging.{unlike_lacks, owner_own_use}
use Rattle.proposing.specs.Planned.{clean_at, owner_allows}

-- ---- the owner

-- who is no machine is no machine without owner
unlike_ownerless : (r : Register) (x : ℕ) → (world_in r).machine x ≡ false → is_ownerless r x ≡ false
unfolding is_ownerless
unlike_ownerless r x h =
    none_weaken (λ a. eqb x a.id && (eqb machine_kind a.kind && eqb a.owner 0)) (λ a. eqb x a.id && eqb machine_kind a.kind)
    (λ a e. and_both (eqb x a.id) (eqb machine_kind a.kind) (and_left (eqb x a.id) (eqb machine_kind a.kind && eqb a.owner 0) e)
    (and_left (eqb machine_kind a.kind) (eqb a.owner 0) (and_right (eqb x a.id) (eqb machine_kind a.kind && eqb a.owner 0) e)))
    (actors_of r.actors) h

module _ (r : Register) (h : sound r ≡ true) (x : ℕ) where
  abbrev people : List Actor
  people = (actors_to r.actors).list

  abbrev pub owner_found : ℕ
  owner_found = owner_at (map actor_owner people) (latest_place (map actor_id people) r.actors.count x)

  standing_people : take r.actors.count people ≡ actors_of r.actors
  standing_people = up_to_first no_actor r.actors.count r.actors.list

  people_apart : distinct (map actor_id (take r.actors.count people)) ≡ true
  people_apart = rw standing_people (sound_out r h).actors.apart

  -- at a place of x stands the owner's number of the actor numbered x
  owner_read : (b : Actor) (p : Option ℕ) → asked_at no_actor people (λ a. eqb b.owner a.owner) p ≡ true → owner_at (map actor_owner people) p ≡ b.owner
  owner_read b (Some j) e =
      get_or-map actor_owner people j no_actor ∙ sym (eqb-true b.owner (get_or people j no_actor).owner e)
  owner_read b None e = clash false e refl

  module _ (b : Actor) (at : IsIn (actors_of r.actors) b) (named : x ≡ b.id) where
    found_owner : owner_found ≡ b.owner
    found_owner =
        let p : (Option ℕ) = latest_place (map actor_id people) r.actors.count x in
        let test : Actor → Bool = λ a. eqb x a.id && eqb b.owner a.owner in
        let here : any test (take r.actors.count people) ≡ true =
        rw standing_people (place_any test (actors_of r.actors) b at
        (and_both (eqb x b.id) (eqb b.owner b.owner) (eq-eqb x b.id named) (eq-eqb b.owner b.owner refl))) in
        owner_read b p
        (sym (asked_natural actor_id no_actor refl people x (λ a. eqb b.owner a.owner) r.actors.count people_apart) ∙ here)

    -- a machine with an owner is none without
    owned_told : (b.owner ≡ 0 → ⊥) → is_ownerless r x ≡ false
    unfolding is_ownerless
    owned_told owned =
        let test : Actor → Bool = λ a. eqb x a.id && (eqb machine_kind a.kind && eqb a.owner 0) in
        cases (any test (actors_of r.actors))
        (λ some. let found = any_place test (actors_of r.actors) some in
        let a : Actor = found.0 in
        let first = and_left (eqb x a.id) (eqb machine_kind a.kind && eqb a.owner 0) found.2 in
        let rest = and_right (eqb x a.id) (eqb machine_kind a.kind && eqb a.owner 0) found.2 in
        let one : a ≡ b = one_by_id actor_id (actors_of r.actors) (sound_out r h).actors.apart a b found.1 at (sym (eqb-true x a.id first) ∙ named) in
        absurd (owned (ap actor_owner (sym one) ∙ eqb-true a.owner 0 (and_right (eqb machine_kind a.kind) (eqb a.owner 0) rest))))
        (λ none. none)

    unowned_told : b.kind ≡ machine_kind → b.owner ≡ 0 → is_ownerless r x ≡ true
    unfolding is_ownerless
    unowned_told machine none =
        place_any (λ a. eqb x a.id && (eqb machine_kind a.kind && eqb a.owner 0)) (actors_of r.actors) b at
        (and_both (eqb x b.id) _ (eq-eqb x b.id named)
        (and_both (eqb machine_kind b.kind) _ (eq-eqb machine_kind b.kind (sym machine)) (eq-eqb b.owner 0 none)))

-- the actor numbered x, where it is a machine
machine_named : (r : Register) (x : ℕ) → (world_in r).machine x ≡ true
    → (b : Actor) × IsIn (actors_of r.actors) b × (x ≡ b.id) × (b.kind ≡ machine_kind)
machine_named r x h =
    let found = any_place (λ a. eqb x a.id && eqb machine_kind a.kind) (actors_of r.actors) h in
    let b : Actor = found.0 in (
      b,
      found.1,
      eqb-true x b.id (and_left (eqb x b.id) (eqb machine_kind b.kind) found.2),
      sym (eqb-true machine_kind b.kind (and_right (eqb x b.id) (eqb machine_kind b.kind) found.2)),
    )

module _ (r : Register) (x : ℕ) (u : Usage) (moment : ℕ) (asked : Asked r x u moment) where
  abbrev owns : Bool
  owns = not (is_ownerless r x) && not (owner_lacks r moment x u)

  -- one who is no machine has no owner to ask
  owner_unasked : (world_in r).machine x ≡ false → true ≡ owns
  owner_unasked h = rw (unlike_ownerless r x h, unlike_lacks r moment x u h)

  owner_missing : (world_in r).machine x ≡ true → owner_found r asked.judged x ≡ 0 → false ≡ owns
  owner_missing h none =
      let b = machine_named r x h in
      rw (unowned_told r asked.judged x b.0 b.1 b.2 b.3 (sym (found_owner r asked.judged x b.0 b.1 b.2) ∙ none))

  owner_told : (world_in r).machine x ≡ true → (owner_found r asked.judged x ≡ 0 → ⊥) → permits r (one_use (owner_found r asked.judged x) u moment) ≡ owns
  owner_told h some =
      let b = machine_named r x h in
      let same = found_owner r asked.judged x b.0 b.1 b.2 in
      let owned : (b.0.owner ≡ 0 → ⊥) = λ none. some (same ∙ none) in
      rw (owned_told r asked.judged x b.0 b.1 b.2 owned, owner_own_use r x u moment asked b.0 b.1 b.2 b.3 owned, same)
      (twice (permits r (one_use b.0.owner u moment)))
    where
      twice : (b : Bool) → b ≡ not (not b)
      twice true = refl
      twice false = refl

-- whether an actor is a machine, by the columns that were found
pub machine_read : (r : Register) {s : List ℕ} {found : Findings} → Opened r s found → (x : ℕ)
    → beside (take r.actors.count found.actors.names) (take r.actors.count found.actors.kinds) x machine_kind ≡ (world_in r).machine x
machine_read r opened x =
    ap (λ w. w.machine x) (world_natural r.version r.actors r.resources (judged_actors r opened) (judged_resources r opened))

-- whether the gate permits the one use of an actor
pub permits_read : (r : Register) (u : Usage) (moment : ℕ) {a : Action} {v : Verdict} {y x : ℕ} → a ≡ one_use y u moment → v ≡ gated r a → y ≡ x
    → is_permitted v.decision ≡ permits r (one_use x u moment)
unfolding permits
permits_read r u moment e f same = ap (λ w. is_permitted w.decision) (f ∙ ap (gated r) (e ∙ ap (λ z. one_use z u moment) same))

-- so whether the owner allows, by the owner's number and whether the owner is permitted the use
pub owns_read : (r : Register) (x : ℕ) (u : Usage) (moment : ℕ) (asked : Asked r x u moment) {s : List ℕ} {found : Findings} → Opened r s found
    → {owner : ℕ} {permitted : Bool} → owner ≡ owner_at found.actors.owners (latest_place found.actors.names r.actors.count x)
    → permitted ≡ permits r (one_use owner u moment)
    → owner_allows found.actors r.actors.count x owner permitted ≡ not (is_ownerless r x) && not (owner_lacks r moment x u)
owns_read r x u moment asked opened {owner = owner} of_owner of-permitted =
    let same : owner ≡ owner_found r asked.judged x =
    of_owner ∙ ap (λ l. owner_at l.owners (latest_place l.names r.actors.count x)) (judged_actors r opened) in
    let machine = machine_read r opened x in
    cases ((world_in r).machine x)
    (λ t. cases (eqb (owner_found r asked.judged x) 0)
    (λ z. rw (machine ∙ t, same, z) (owner_missing r x u moment asked t (eqb-true (owner_found r asked.judged x) 0 z)))
    (λ z. rw (machine ∙ t, of-permitted, same, z) (owner_told r x u moment asked t (eqb-false (owner_found r asked.judged x) 0 z))))
    (λ t. rw (machine ∙ t) (owner_unasked r x u moment asked t))

-- ---- the used path

module _ (r : Register) (h : sound r ≡ true) (x : ℕ) where
  abbrev things : List Resource
  things = (resources_to r.resources).list

  abbrev place_found : Option ℕ
  place_found = latest_place (map resource_id things) r.resources.count x

  standing_things : take r.resources.count things ≡ resources_of r.resources
  standing_things = up_to_first no_resource r.resources.count r.resources.list

  thing_asked : (q : Resource → Bool) → any (λ o. eqb x o.id && q o) (resources_of r.resources) ≡ asked_at no_resource things q place_found
  thing_asked q =
      ap (any (λ o. eqb x o.id && q o)) (sym standing_things)
      ∙ asked_natural resource_id no_resource refl things x q r.resources.count (rw standing_things (sound_out r h).resources.apart)

  itself : Option ℕ → Bool
  itself p = asked_at no_resource things (λ o. asked_at no_resource things (λ i. contained (path_of o) (path_of i)) p) p

  contains_itself : contains r x x ≡ itself place_found
  unfolding contains itself
  contains_itself =
      thing_asked (λ o. any (λ i. eqb x i.id && contained (path_of o) (path_of i)) (resources_of r.resources))
      ∙ inner place_found
    where
      inner : (p : Option ℕ) → asked_at no_resource things (λ o. any (λ i. eqb x i.id && contained (path_of o) (path_of i)) (resources_of r.resources)) p
          ≡ asked_at no_resource things (λ o. asked_at no_resource things (λ i. contained (path_of o) (path_of i)) place_found) p
      inner (Some j) = thing_asked (λ i. contained (path_of (get_or things j no_resource)) (path_of i))
      inner None = refl

  -- the used path contains itself where it does so at its place
  pub clean_natural : clean_at r.resources (spot_in (map resource_id things) r.resources.count x) ≡ contains r x x
  unfolding itself
  clean_natural =
      let scarce : r.resources.count ≤ resource_limit = (sound_out r h).limits.resource_count in
      place_cases place_found
      (λ j e. let found = place_found_lem (map resource_id things) x r.resources.count j e in
      let inside : j < min r.resources.count resource_limit = omega (arith, found.0, scarce) in
      rw (e, lt-ltb j (min r.resources.count resource_limit) inside)
      (ap (λ o. contained (path_of o) (path_of o)) (sym (up_to_at no_resource r.resources.count r.resources.list j no_resource found.0))
      ∙ sym (contains_itself ∙ ap itself e)))
      (λ e. let past : min r.resources.count resource_limit ≤ resource_limit = omega arith in
      rw (e, le-ltb resource_limit (min r.resources.count resource_limit) past) (sym (contains_itself ∙ ap itself e)))

  -- it is told at the place where the resource is found
  pub clean_told : {s : List ℕ} {found : Findings} → Opened r s found → {spot : ℕ} {clean : Bool} → spot ≡ spot_in found.resources.reports r.resources.count x
      → clean ≡ clean_at r.resources spot → clean ≡ contains r x x
  clean_told opened of-spot of-clean =
      of-clean
      ∙ ap (clean_at r.resources) (of-spot ∙ ap (λ l. spot_in l.reports r.resources.count x) (judged_resources r opened))
      ∙ clean_natural
