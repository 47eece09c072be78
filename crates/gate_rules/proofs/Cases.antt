-- The gate and a plan on a small register: every kind of violation once yes and once no, in 01's
-- order, with its flag, actor or position; the claim relied on; the tests in their order, and what a
-- plan answers. All by computing. Assumes nothing.
use Rattle.std.proofs.Common.{Result, Err, Ok, ◌≡◌, refl, true, false, List, [], ◌∷◌, map, ℕ, length, take, replicate}
use Rattle.refusals.specs.declared.Refusal.{Refusal}
use Rattle.lists.specs.Lists.{dropping, distinct, same}
use Rattle.rights.specs.Rights.{has_right, has_rights, bars_machine}
use Rattle.paths.specs.Containment.{components, climbing, trimmed, starting, contained, reached}
use Rattle.register.specs.Register.{no_actor, no_resource}
use Rattle.register.specs.Chain.{chain, root_granted, circling}
use Rattle.register.specs.declared.Claim.{Claim}
use Rattle.register.specs.declared.Register.{Register}
use Rattle.soundness_rules.specs.Sound.{actor_fits, resource_fits, claim_fits, names_stand, root_kept, drawn_from, machine_may, over_chain, drawn, fresh, alone, over, acceptable, sound_claims, sound_actors, sound_resources, within_limits, sound}
use Rattle.refusals.specs.Refusals.{outcome_of, number_of}
use Rattle.actions.specs.Actions.{kind_of, value_of, judgement_number, judgement_value, no_use, action_fits}
use Rattle.actions.specs.declared.Usage.{Usage}
use Rattle.actions.specs.declared.Action.{Action}
use Rattle.actions.specs.declared.Decision.{Decision}
use Rattle.actions.specs.declared.Decision.TheVariants.{Permitted, Refused, Stopped}
use Rattle.gate_rules.specs.Gate.{public_read, contains, covering, covers, is_ownerless, owner_lacks, first_of, reach_of, flags_set, governed, use_violation, use_violations, violations_of, hops_for, hop_counts, action_tests, gate_tests, gated}
use Rattle.gate_rules.specs.Plans.{judgements, first_halt, halt_of, planned}

abbrev claim : ℕ → ℕ → ℕ → ℕ → ℕ → ℕ → ℕ → Claim
claim id parent grantor holder resource rights expiry =
    record { id = id; parent = parent; grantor = grantor; holder = holder; resource = resource; rights = rights; weight = 600; left = 0; expiry = expiry }

-- A human who keeps `s`, `s/a` and a public `x`; a machine of hers, 2, and one without an owner, 4.
-- Claim 7 is the machine's, READ and WRITE on `s` until 2,000; 8 is hers, READ and DELEGATE on `s/a`;
-- 9 is drawn from it for the machine.
abbrev standing : List Claim → Register
standing claims = record {
  actors = record {
    list = record { id = 1; kind = 1; owner = 0 } ∷ record { id = 2; kind = 2; owner = 1 } ∷ record { id = 4; kind = 2; owner = 0 } ∷ replicate 61 no_actor;
    count = 3;
  };
  resources = record {
    list = record { id = 10; public = 0; keeper = 1; len = 1; path = 115 ∷ replicate 63 0 }
        ∷ record { id = 11; public = 0; keeper = 1; len = 3; path = 115 ∷ 47 ∷ 97 ∷ replicate 61 0 }
        ∷ record { id = 12; public = 1; keeper = 1; len = 1; path = 120 ∷ replicate 63 0 } ∷ replicate 61 no_resource;
    count = 3;
  };
  claims = record { list = claims; count = length claims };
  version = 1;
}

desk : Register
desk = standing (claim 7 0 1 2 10 3 2000 ∷ claim 8 0 1 1 11 17 0 ∷ claim 9 8 1 2 11 1 0 ∷ [])

-- a root that no keeper granted
spoilt : Register
spoilt = standing (claim 7 0 2 2 10 3 2000 ∷ [])

abbrev use_of_lem : ℕ → ℕ → Usage
use_of_lem resource right = record { resource = resource; right = right }

-- three uses, and the first of two governed actors
abbrev action : ℕ → ℕ → ℕ → Usage → Usage → Usage → ℕ → Action
action actor flags moment u v w governed = record {
  actor = actor;
  flags = flags;
  now = moment;
  uses = u ∷ v ∷ w ∷ replicate 29 no_use;
  used = 3;
  governs = 7 ∷ 8 ∷ replicate 6 0;
  governed = governed;
}

-- the hop counts, then kind and value of each violation
abbrev listing : Action → List (List ℕ)
listing a = hop_counts desk a ∷ map (λ v. kind_of v ∷ value_of v ∷ []) (violations_of desk a)

-- the machine without an owner, flags 1 and 9, two governed: of three uses the public READ is covered
ownerless_listed : listing (action 4 514 1999 (use_of_lem 10 0) (use_of_lem 12 0) (use_of_lem 99 0) 2)
    ≡ (0 ∷ 0 ∷ 0 ∷ []) ∷ (1 ∷ 1 ∷ []) ∷ (1 ∷ 9 ∷ []) ∷ (2 ∷ 4 ∷ []) ∷ (3 ∷ 0 ∷ []) ∷ (3 ∷ 1 ∷ []) ∷ (4 ∷ 0 ∷ []) ∷ (4 ∷ 2 ∷ []) ∷ []
unfolding desk violations_of flags_set governed use_violations use_violation covers covering contains public_read is_ownerless owner_lacks hops_for first_of reach_of reached contained climbing components trimmed starting same chain dropping has_right
ownerless_listed = refl

-- the machine with an owner, who has READ on `s/a` alone: before 7 runs out WRITE and `s` are covered
-- by the machine and not by her; then not by it either. READ on `s/a` rests on 9, which is nearer than 7
owned_listed : listing (action 2 0 1999 (use_of_lem 11 0) (use_of_lem 11 1) (use_of_lem 10 0) 0) ≡ (1 ∷ 0 ∷ 0 ∷ []) ∷ (5 ∷ 1 ∷ []) ∷ (5 ∷ 2 ∷ []) ∷ []
unfolding desk violations_of flags_set governed use_violations use_violation covers covering contains public_read is_ownerless owner_lacks hops_for first_of reach_of reached contained climbing components trimmed starting same chain dropping has_right
owned_listed = refl

owned_later : listing (action 2 0 2000 (use_of_lem 11 0) (use_of_lem 11 1) (use_of_lem 10 0) 0) ≡ (1 ∷ 0 ∷ 0 ∷ []) ∷ (4 ∷ 1 ∷ []) ∷ (4 ∷ 2 ∷ []) ∷ []
unfolding desk violations_of flags_set governed use_violations use_violation covers covering contains public_read is_ownerless owner_lacks hops_for first_of reach_of reached contained climbing components trimmed starting same chain dropping has_right
owned_later = refl

-- 4 and 5 together, by position: DELEGATE on `s` is not covered, READ there not by the owner
mixed_listed : listing (action 2 1 1999 (use_of_lem 10 4) (use_of_lem 10 0) (use_of_lem 12 1) 1)
    ≡ (0 ∷ 0 ∷ 0 ∷ []) ∷ (1 ∷ 0 ∷ []) ∷ (3 ∷ 0 ∷ []) ∷ (4 ∷ 0 ∷ []) ∷ (5 ∷ 1 ∷ []) ∷ (4 ∷ 2 ∷ []) ∷ []
unfolding desk violations_of flags_set governed use_violations use_violation covers covering contains public_read is_ownerless owner_lacks hops_for first_of reach_of reached contained climbing components trimmed starting same chain dropping has_right
mixed_listed = refl

-- the human, who may govern, with READ on `s/a` by her own claim: none of the kinds
human_listed : listing (action 1 0 1999 (use_of_lem 11 0) (use_of_lem 12 0) (use_of_lem 11 4) 2) ≡ (0 ∷ 0 ∷ 0 ∷ []) ∷ []
unfolding desk violations_of flags_set governed use_violations use_violation covers covering contains public_read is_ownerless owner_lacks hops_for first_of reach_of reached contained climbing components trimmed starting same chain dropping has_right
human_listed = refl

-- an actor of the kind, owned by the human, holds a claim that she does not: a machine's owner is
-- asked, and no other's
abbrev owning : ℕ → Register
owning kind = record {
  actors = record { list = record { id = 1; kind = 1; owner = 0 } ∷ record { id = 3; kind = kind; owner = 1 } ∷ []; count = 2 };
  resources = desk.resources;
  claims = record { list = claim 7 0 1 3 10 3 2000 ∷ []; count = 1 };
  version = 1;
}

owners_told : map (λ kind. owner_lacks (owning kind) 1999 3 (use_of_lem 10 0)) (1 ∷ 2 ∷ []) ≡ false ∷ true ∷ []
unfolding desk covers covering contains public_read owner_lacks contained climbing components trimmed starting same chain has_right
owners_told = refl

-- 0 for permitted, 100 for refused, else the number of the refusal that stops
abbrev told : Decision → ℕ
told Permitted = 0
told Refused = 100
told (Stopped why) = number_of why

abbrev reading : ℕ → ℕ → ℕ → Action
reading actor flags moment = action actor flags moment (use_of_lem 11 0) (use_of_lem 12 0) (use_of_lem 11 4) 0

-- permitted, refused, 2, 3; 2 before 3, 3 before any violation
gated_told : map (λ a. told (gated desk a).decision) (
    reading 1 0 1999
    ∷ reading 1 1 1999
    ∷ reading 1 0 4294967296
    ∷ reading 3 0 1999
    ∷ reading 3 1024 1999
    ∷ reading 3 1 1999
    ∷ [])
    ≡ 0 ∷ 100 ∷ 2 ∷ 3 ∷ 2 ∷ 3 ∷ []
unfolding gated gate_tests action_tests action_fits outcome_of desk violations_of flags_set governed use_violations use_violation covers covering contains public_read is_ownerless owner_lacks hops_for first_of reach_of reached contained climbing components trimmed starting same chain dropping has_right sound within_limits sound_actors sound_resources sound_claims acceptable alone over fresh drawn over_chain machine_may drawn_from root_kept names_stand claim_fits resource_fits actor_fits distinct circling root_granted has_rights bars_machine
gated_told = refl

-- 1 before 2
spoilt_told : map (λ a. told (gated spoilt a).decision) (reading 1 0 1999 ∷ reading 3 1024 1999 ∷ []) ≡ 1 ∷ 1 ∷ []
unfolding spoilt gated gate_tests action_tests action_fits outcome_of desk violations_of flags_set governed use_violations use_violation covers covering contains public_read is_ownerless owner_lacks hops_for first_of reach_of reached contained climbing components trimmed starting same chain dropping has_right sound within_limits sound_actors sound_resources sound_claims acceptable alone over fresh drawn over_chain machine_may drawn_from root_kept names_stand claim_fits resource_fits actor_fits distinct circling root_granted has_rights bars_machine
spoilt_told = refl

abbrev outcome_told : Result Unit Refusal → ℕ
outcome_told (Ok _) = 0
outcome_told (Err why) = number_of why

-- what stops a plan and at which position, then number and value of each verdict
abbrev answer : Register → ℕ → List Action → List (List ℕ)
answer r count actions =
    let v = planned r (record { count = count; actions = actions }) in
    (outcome_told v.outcome ∷ v.position ∷ []) ∷ map (λ e. judgement_number e ∷ judgement_value e ∷ []) (take v.count v.list)

-- permitted, refused with three violations, refused by a flag, cancelled; 3 at position 1, before 2 at
-- position 2; 2 at position 0 before 3 there; 17 actions before any of them; 1 before that
plans_told : (answer desk 4 (reading 1 0 1999 ∷ reading 4 0 1999 ∷ reading 1 2 1999 ∷ reading 1 0 1999 ∷ [])
    ≡ (0 ∷ 0 ∷ []) ∷ (1 ∷ 0 ∷ []) ∷ (2 ∷ 3 ∷ []) ∷ (2 ∷ 1 ∷ []) ∷ (4 ∷ 0 ∷ []) ∷ [])
    × (answer desk 3 (reading 1 0 1999 ∷ reading 3 0 1999 ∷ reading 1 1024 1999 ∷ []) ≡ (3 ∷ 1 ∷ []) ∷ [])
    × (answer desk 1 (reading 3 1024 1999 ∷ []) ≡ (2 ∷ 0 ∷ []) ∷ [])
    × (answer desk 17 (replicate 17 (reading 3 0 1999)) ≡ (2 ∷ 0 ∷ []) ∷ [])
    × (answer spoilt 17 (replicate 17 (reading 3 0 1999)) ≡ (1 ∷ 0 ∷ []) ∷ [])
unfolding spoilt planned halt_of first_halt judgements action_tests action_fits outcome_of desk violations_of flags_set governed use_violations use_violation covers covering contains public_read is_ownerless owner_lacks hops_for first_of reach_of reached contained climbing components trimmed starting same chain dropping has_right sound within_limits sound_actors sound_resources sound_claims acceptable alone over fresh drawn over_chain machine_may drawn_from root_kept names_stand claim_fits resource_fits actor_fits distinct circling root_granted has_rights bars_machine
plans_told = (refl, refl, refl, refl, refl)
