-- Registers that look alike to the actor of an action get one answer of the gate. Assumes nothing.
use Rattle.std.proofs.Common.{Result, Err, Ok, ◌≡◌, refl, ap, sym, ◌∙◌, Bool, true, false, not, ◌&&◌, List, [], ◌∷◌, map, inl, inr, ⊎_elim, ℕ, suc, eqb}
use Rattle.refusals.specs.declared.Refusal.{Refusal}
use mathlib.Core.Bool.{or-false}
use Rattle.lists.specs.Lists.{any, All}
use Rattle.register.specs.Limits.{machine_kind}
use Rattle.register.specs.Register.{actors_of}
use Rattle.register.specs.declared.Actor.{Actor}
use Rattle.register.specs.declared.Register.{Register}
use Rattle.soundness_rules.specs.Sound.{sound, is_machine}
use Rattle.soundness_rules.proofs.Registers.{sound_out}
use Rattle.refusals.specs.Refusals.{outcome_of}
use Rattle.actions.specs.Actions.{uses_of}
use Rattle.actions.specs.declared.Usage.{Usage}
use Rattle.actions.specs.declared.Action.{Action}
use Rattle.gate_rules.specs.Gate.{covers, is_ownerless, owner_lacks, use_violation, use_violations, violations_of, hops_for, hop_counts, action_tests, gate_tests, verdict_on, gated}
use Rattle.gate_rules.proofs.Coverage.{not_covered_hops}
use Rattle.guesses.specs.Alike.{record_of, owner_in, owner_of, seen, standing_of, UseAlike, LooksAlike}
use Rattle.guesses.proofs.Firsts.{any_first, any_numbered, first_cases}
use Rattle.guesses.proofs.Views.{Sees, covers_as, hops_for_as, covers_seen, hops_for_seen}
use Rattle.guesses.proofs.Hiding.{hidden_uncovered}

-- ---- what is asked of an actor is told by its record

-- the one of a record is a machine with an owner who fails a test
abbrev lacks_as : (ℕ → Bool) → List Actor → Bool
lacks_as f [] = false
lacks_as f (a ∷ more) = eqb machine_kind a.kind && (not (eqb a.owner 0) && not (f a.owner))

-- of the test only its answer on that owner counts
lacks_owner : (f g : ℕ → Bool) (L : List Actor) → f (owner_in L) ≡ g (owner_in L) → lacks_as f L ≡ lacks_as g L
lacks_owner f g [] e = refl
lacks_owner f g (a ∷ L) e = ap (λ b. eqb machine_kind a.kind && (not (eqb a.owner 0) && not b)) e

module _ (r : Register) (h : sound r ≡ true) where
  machine_record : (x : ℕ) → is_machine (actors_of r.actors) x ≡ any (λ a. eqb machine_kind a.kind) (record_of r x)
  machine_record x = any_numbered (λ a. a.id) x (λ a. eqb machine_kind a.kind) (actors_of r.actors) (sound_out r h).actors.apart

  ownerless_record : (x : ℕ) → is_ownerless r x ≡ any (λ a. eqb machine_kind a.kind && eqb a.owner 0) (record_of r x)
  unfolding is_ownerless
  ownerless_record x =
      any_numbered (λ a. a.id) x (λ a. eqb machine_kind a.kind && eqb a.owner 0) (actors_of r.actors) (sound_out r h).actors.apart

  lacks_record : (moment x : ℕ) (u : Usage) → owner_lacks r moment x u ≡ lacks_as (λ y. covers r moment y u) (record_of r x)
  unfolding owner_lacks
  lacks_record moment x u =
      let lacking : Actor → Bool = λ a. eqb machine_kind a.kind && (not (eqb a.owner 0) && not (covers r moment a.owner u)) in
      any_numbered (λ a. a.id) x lacking (actors_of r.actors) (sound_out r h).actors.apart
      ∙ first_cases (λ a. eqb x a.id) (actors_of r.actors)
      (λ e. ap (any lacking) e ∙ sym (ap (lacks_as (λ y. covers r moment y u)) e))
      (λ a passes e. ap (any lacking) e ∙ or-false (lacking a) ∙ sym (ap (lacks_as (λ y. covers r moment y u)) e))

-- ---- the gate

module _ (r s : Register) (a : Action) (alike : LooksAlike r s a) where
  owner_same : owner_of r a.actor ≡ owner_of s a.actor
  owner_same = ap owner_in alike.actors

  sees_same : (y : ℕ) → Sees r a.actor y → Sees s a.actor y
  sees_same y who = ⊎_elim (λ self. inl self) (λ owner. inr (owner ∙ owner_same)) who

  pub covers_blind : (y : ℕ) → Sees r a.actor y → (u : Usage) → UseAlike r s a.actor u.resource → covers r a.now y u ≡ covers s a.now y u
  covers_blind y who u agreed =
      ⊎_elim
      (λ same. covers_seen r alike.first_sound a.now a.actor y who u
      ∙ ap (λ os. covers_as y u.right os (seen r a.now a.actor)) same
      ∙ ap (covers_as y u.right (standing_of s u.resource)) alike.claims
      ∙ sym (covers_seen s alike.second_sound a.now a.actor y (sees_same y who) u))
      (λ both. hidden_uncovered r a.now a.actor y who u both.0 ∙ sym (hidden_uncovered s a.now a.actor y (sees_same y who) u both.1))
      agreed

  pub hops_blind : (u : Usage) → UseAlike r s a.actor u.resource → hops_for r a.now a.actor u ≡ hops_for s a.now a.actor u
  hops_blind u agreed =
      ⊎_elim
      (λ same. hops_for_seen r alike.first_sound a.now a.actor a.actor (inl refl) u
      ∙ ap (λ os. hops_for_as a.actor u.right os (seen r a.now a.actor)) same
      ∙ ap (hops_for_as a.actor u.right (standing_of s u.resource)) alike.claims
      ∙ sym (hops_for_seen s alike.second_sound a.now a.actor a.actor (inl refl) u))
      (λ both. not_covered_hops r a.now a.actor u (hidden_uncovered r a.now a.actor a.actor (inl refl) u both.0)
      ∙ sym (not_covered_hops s a.now a.actor u (hidden_uncovered s a.now a.actor a.actor (inl refl) u both.1)))
      agreed

  pub lacks_blind : (u : Usage) → UseAlike r s a.actor u.resource → owner_lacks r a.now a.actor u ≡ owner_lacks s a.now a.actor u
  lacks_blind u agreed =
      lacks_record r alike.first_sound a.now a.actor u
      ∙ lacks_owner (λ y. covers r a.now y u) (λ y. covers s a.now y u) (record_of r a.actor)
      (covers_blind (owner_of r a.actor) (inr refl) u agreed)
      ∙ ap (lacks_as (λ y. covers s a.now y u)) alike.actors
      ∙ sym (lacks_record s alike.second_sound a.now a.actor u)

  pub violation_blind : (n : ℕ) (u : Usage) → UseAlike r s a.actor u.resource → use_violation r a.now a.actor n u ≡ use_violation s a.now a.actor n u
  unfolding use_violation
  violation_blind n u agreed = rw (covers_blind a.actor (inl refl) u agreed, lacks_blind u agreed)

  use_violations_blind : (n : ℕ) (us : List Usage) → All (λ u. UseAlike r s a.actor u.resource) us
      → use_violations r a.now a.actor n us ≡ use_violations s a.now a.actor n us
  unfolding use_violations
  use_violations_blind n [] agreed = refl
  use_violations_blind n (u ∷ us) agreed = rw (violation_blind n u agreed.0, use_violations_blind (suc n) us agreed.1)

  pub machine_blind : is_machine (actors_of r.actors) a.actor ≡ is_machine (actors_of s.actors) a.actor
  machine_blind =
      machine_record r alike.first_sound a.actor ∙ ap (any (λ b. eqb machine_kind b.kind)) alike.actors
      ∙ sym (machine_record s alike.second_sound a.actor)

  pub ownerless_blind : is_ownerless r a.actor ≡ is_ownerless s a.actor
  ownerless_blind =
      ownerless_record r alike.first_sound a.actor ∙ ap (any (λ b. eqb machine_kind b.kind && eqb b.owner 0)) alike.actors
      ∙ sym (ownerless_record s alike.second_sound a.actor)

  pub violations_blind : violations_of r a ≡ violations_of s a
  unfolding violations_of
  violations_blind = rw (ownerless_blind, machine_blind, use_violations_blind 0 (uses_of a) alike.uses)

  counts_blind : (us : List Usage) → All (λ u. UseAlike r s a.actor u.resource) us
      → map (λ u. hops_for r a.now a.actor u) us ≡ map (λ u. hops_for s a.now a.actor u) us
  counts_blind [] agreed = refl
  counts_blind (u ∷ us) agreed = rw (hops_blind u agreed.0, counts_blind us agreed.1)

  pub hop_counts_blind : hop_counts r a ≡ hop_counts s a
  hop_counts_blind = counts_blind (uses_of a) alike.uses

  pub known_blind : any (λ b. eqb a.actor b.id) (actors_of r.actors) ≡ any (λ b. eqb a.actor b.id) (actors_of s.actors)
  known_blind =
      any_first (λ b. eqb a.actor b.id) (actors_of r.actors) ∙ ap (any (λ b. eqb a.actor b.id)) alike.actors
      ∙ sym (any_first (λ b. eqb a.actor b.id) (actors_of s.actors))

  pub action_tests_blind : action_tests r a ≡ action_tests s a
  unfolding action_tests
  action_tests_blind = rw known_blind

  tests_blind : gate_tests r a ≡ gate_tests s a
  unfolding gate_tests
  tests_blind = rw (alike.first_sound, alike.second_sound, action_tests_blind)

  verdict_blind : (o : Result Unit Refusal) → verdict_on o r a ≡ verdict_on o s a
  verdict_blind (Ok _) = rw (violations_blind, hop_counts_blind)
  verdict_blind (Err why) = refl

  pub guess_blind : gated r a ≡ gated s a
  unfolding gated
  guess_blind = ap (λ tests. verdict_on (outcome_of tests) r a) tests_blind ∙ verdict_blind (outcome_of (gate_tests s a))
