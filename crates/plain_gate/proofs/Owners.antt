-- The actor of an action and its owner, by the columns of the actors that stand: what the tables ask of them. Assumes nothing.
use Rattle.std.proofs.Common.{Option, ℕ, None, Some, ◌≡◌, refl, sym, ap, ◌∙◌, Bool, true, false, not, ◌&&◌, List, map, arith, eqb-true, eqb, get_or, take}
use mathlib.Core.Bool.{and_assoc}
use borrow.Author.Tests.{eqb-false, not-true}
use lib.ListN.{get_or-map}
use Rattle.lists.specs.Tests.{cases, clash, and_left, and_right}
use Rattle.lists.specs.Lists.{any}
use Rattle.lists.specs.Each.{every_all}
use Rattle.register.specs.Limits.{human_kind, machine_kind}
use Rattle.register.specs.Register.{actors_of, no_actor}
use Rattle.register.specs.declared.Actor.{Actor}
use Rattle.register.specs.declared.Register.{Register}
use Rattle.soundness_rules.specs.Sound.{human, is_machine, actor_fits, sound}
use Rattle.soundness_rules.proofs.Registers.{sound_out, actor_fits_out}
use Rattle.columns.specs.Columns.{actor_id, actor_kind, actor_owner, actors_to, latest_place, beside}
use Rattle.columns.specs.Laws.{up_to_first, among_natural, beside_natural}
use Rattle.lookup.specs.Asked.{asked_at, asked_natural}
use Rattle.uses.specs.Sights.{owner_at}
use Rattle.actions.specs.declared.Action.{Action}
use Rattle.gate_rules.specs.Gate.{covers, is_ownerless, owner_lacks, action_tests}
use Rattle.gate_rules.specs.Places.{any_place, all_place}
use Rattle.gate.specs.Judged.{lent_tests}
use Rattle.actions.specs.declared.Usage.{Usage}

module _ (r : Register) where
  -- the actors that stand, with zeros behind them
  abbrev pub actors_standing : List Actor
  actors_standing = (actors_to r.actors).list

  first_standing : take r.actors.count actors_standing ≡ actors_of r.actors
  first_standing = up_to_first no_actor r.actors.count r.actors.list

  -- tests 2 and 3 by the names of the actors that stand
  pub tests_standing : (a : Action) → lent_tests (map actor_id actors_standing) r.actors.count a ≡ action_tests r a
  unfolding action_tests
  tests_standing a = rw (among_natural actor_id a.actor r.actors.count actors_standing, first_standing)

  -- a machine, by the columns of names and kinds
  pub machine_standing : (x : ℕ) → beside (take r.actors.count (map actor_id actors_standing)) (take r.actors.count (map actor_kind actors_standing)) x machine_kind
      ≡ is_machine (actors_of r.actors) x
  machine_standing x =
      beside_natural actor_id actor_kind x machine_kind r.actors.count actors_standing ∙ ap (λ l. is_machine l x) first_standing

  -- where the actor numbered x stands, and its owner's number
  abbrev place_standing : ℕ → Option ℕ
  place_standing x = latest_place (map actor_id actors_standing) r.actors.count x

  abbrev pub owner_standing : ℕ → ℕ
  owner_standing x = owner_at (map actor_owner actors_standing) (place_standing x)

  module _ (h : sound r ≡ true) (x : ℕ) where
    -- some actor has the number x and passes a test where the one at the place of x does
    asked_standing : (q : Actor → Bool) → any (λ a. eqb x a.id && q a) (actors_of r.actors) ≡ asked_at no_actor actors_standing q (place_standing x)
    asked_standing q =
        ap (any (λ a. eqb x a.id && q a)) (sym first_standing)
        ∙ asked_natural actor_id no_actor refl actors_standing x q r.actors.count (rw first_standing (sound_out r h).actors.apart)

    -- what is asked of a machine and of its owner, place by place
    owner_asked_lem : (f : ℕ → Bool) (p : Option ℕ)
        → asked_at no_actor actors_standing (λ a. eqb machine_kind a.kind && f a.owner) p
        ≡ asked_at no_actor actors_standing (λ a. eqb machine_kind a.kind) p && f (owner_at (map actor_owner actors_standing) p)
    owner_asked_lem f None = refl
    owner_asked_lem f (Some j) = rw (get_or-map actor_owner actors_standing j no_actor)

    -- so of the machine x and of its owner
    machine_asked : (f : ℕ → Bool) → any (λ a. eqb x a.id && (eqb machine_kind a.kind && f a.owner)) (actors_of r.actors)
        ≡ is_machine (actors_of r.actors) x && f (owner_standing x)
    machine_asked f =
        asked_standing (λ a. eqb machine_kind a.kind && f a.owner)
        ∙ owner_asked_lem f (place_standing x)
        ∙ ap (λ b. b && f (owner_standing x)) (sym (asked_standing (λ a. eqb machine_kind a.kind)))

    -- a machine without owner
    pub ownerless_standing : is_ownerless r x ≡ is_machine (actors_of r.actors) x && eqb (owner_standing x) 0
    unfolding is_ownerless
    ownerless_standing = machine_asked (λ y. eqb y 0)

    -- the owner lacks where x is a machine with an owner and the owner does not cover the use
    pub lacks_standing : (moment : ℕ) (u : Usage)
        → owner_lacks r moment x u ≡ (is_machine (actors_of r.actors) x && not (eqb (owner_standing x) 0)) && not (covers r moment (owner_standing x) u)
    unfolding owner_lacks
    lacks_standing moment u =
        machine_asked (λ y. not (eqb y 0) && not (covers r moment y u))
        ∙ sym (and_assoc (is_machine (actors_of r.actors) x) (not (eqb (owner_standing x) 0)) (not (covers r moment (owner_standing x) u)))

    -- the owner of a machine that has one is a human
    owner_human_lem : is_machine (actors_of r.actors) x && not (eqb (owner_standing x) 0) ≡ true → human (actors_of r.actors) (owner_standing x) ≡ true
    owner_human_lem owned =
        let actors : List Actor = actors_of r.actors in
        let machine = and_left (is_machine actors x) (not (eqb (owner_standing x) 0)) owned in
        let some = and_right (is_machine actors x) (not (eqb (owner_standing x) 0)) owned in
        let unfit : Actor → Bool = λ a. eqb x a.id && (eqb machine_kind a.kind && (not (eqb a.owner 0) && not (human actors a.owner))) in
        cases (human actors (owner_standing x)) (λ e. e)
        (λ e. let found = any_place unfit actors (machine_asked (λ y. not (eqb y 0) && not (human actors y)) ∙ rw (machine, some, e)) in
        let a : Actor = found.0 in
        let kept = and_right (eqb machine_kind a.kind) (not (eqb a.owner 0) && not (human actors a.owner))
        (and_right (eqb x a.id) (eqb machine_kind a.kind && (not (eqb a.owner 0) && not (human actors a.owner))) found.2) in
        let owns : (a.owner ≡ 0 → ⊥) = eqb-false a.owner 0 (not-true (eqb a.owner 0) (and_left (not (eqb a.owner 0)) (not (human actors a.owner)) kept)) in
        let fits = all_place (λ b. actor_fits (human actors) b ≡ true) actors (every_all (actor_fits (human actors)) actors (sound_out r h).actors.fit) a found.1 in
        clash (human actors a.owner) ((actor_fits_out (human actors) a fits).owner_human owns)
        (not-true (human actors a.owner) (and_right (not (eqb a.owner 0)) (not (human actors a.owner)) kept)))

    -- one place has not both kinds
    kinds_clash : (p : Option ℕ) → asked_at no_actor actors_standing (λ a. eqb machine_kind a.kind) p ≡ true
        → asked_at no_actor actors_standing (λ a. eqb human_kind a.kind) p ≡ true → ⊥
    kinds_clash None t k = clash {A = ⊥} false t refl
    kinds_clash (Some j) t k =
        let machine = eqb-true machine_kind (get_or actors_standing j no_actor).kind t in
        let person = eqb-true human_kind (get_or actors_standing j no_actor).kind k in
        omega (arith, machine, person)

    -- so it is another than the machine
    pub owner_other : is_machine (actors_of r.actors) x && not (eqb (owner_standing x) 0) ≡ true → x ≡ owner_standing x → ⊥
    owner_other owned same =
        kinds_clash (place_standing x)
        (sym (asked_standing (λ a. eqb machine_kind a.kind)) ∙ and_left (is_machine (actors_of r.actors) x) (not (eqb (owner_standing x) 0)) owned)
        (sym (asked_standing (λ a. eqb human_kind a.kind)) ∙ ap (human (actors_of r.actors)) same ∙ owner_human_lem owned)
