-- Believed: The first fault of a register: the version, the counts, then actors, resources and claims by place. Of a claim it is what a grant of it behind
-- the earlier ones would be refused with, were all of them live.
use Rattle.std.specs.Prelude.{◌≡◌, Bool, true, false, not, ◌&&◌, ◌||◌, cond, List, [], ◌∷◌, ◌++◌, ℕ, suc, ◌≤◌, ◌<◌, eqb, leb, length, take, Result, Err, Ok}
use Rattle.lists.specs.Lists.{any, every, ands, filter}
use Rattle.register.specs.Limits.{actor_limit, resource_limit, claim_limit, id_limit, path_limit, version_one, version_two, path_byte_least, path_byte_greatest, human_kind, machine_kind, ranged, is_id}
use Rattle.register.specs.Register.{actors_of, resources_of, claims_of, path_of, with_claims}
use Rattle.register.specs.Chain.{latest, above}
use Rattle.register.specs.declared.Actor.{Actor}
use Rattle.register.specs.declared.Resource.{Resource}
use Rattle.register.specs.declared.Claim.{Claim}
use Rattle.register.specs.declared.Register.{Register}
use Rattle.soundness_rules.specs.Sound.{World, claim_fits, names_stand, root_kept, machine_may, drawn, fresh, human, actor_fits, resource_fits, sound_actors, within_limits, sound}
use Rattle.refusals.specs.Refusals.{Test, outcome_of, number_of}
use Rattle.refusals.specs.declared.Refusal.{Refusal}
use Rattle.refusals.specs.declared.Refusal.TheVariants.{Range, NotLive, Doubled, BadOwner, BadKeeper}
use Rattle.change_rules.specs.Changes.{world_in, world_tests, parent_tests}
use Rattle.faults.specs.declared.Fault.{Fault}

-- a record that is broken: why, its place from 0, and the record
pub record Broken (A : Type 0) : Type 0 where
  pub why : Refusal
  pub place : ℕ
  pub what : A

-- the first record, from place n on and behind the earlier ones, latest first, that fails one of its tests
abbrev pub broken_at : {A : Type 0} → Result Unit Refusal → ℕ → A → List (Broken A) → List (Broken A)
broken_at (Ok _) n c more = more
broken_at (Err why) n c more = record { why = why; place = n; what = c } ∷ []

unfoldable pub broken_in : {A : Type 0} → (List A → A → List Test) → ℕ → List A → List A → List (Broken A)
broken_in tests n earlier [] = []
broken_in tests n earlier (c ∷ rest) = let more = broken_in tests (suc n) (c ∷ earlier) rest in broken_at (outcome_of (tests earlier c)) n c more

-- whether each record passes its tests, behind the earlier ones
abbrev pub each_passes : {A : Type 0} → (List A → A → List Test) → List A → List A → Bool
each_passes tests earlier [] = true
each_passes tests earlier (c ∷ rest) = let more = each_passes tests (c ∷ earlier) rest in cond (every (λ t. t.passed) (tests earlier c)) more false

-- whether an earlier record has the number x
abbrev pub id_taken : {A : Type 0} → (A → ℕ) → List A → ℕ → Bool
id_taken id earlier x = any (λ d. eqb x (id d)) earlier

-- of an actor: 2, 32, 31; `people` tells the humans of the register
unfoldable pub actor_tests : (ℕ → Bool) → List Actor → Actor → List Test
actor_tests people earlier a =
    record { passed = ands (is_id a.id ∷ (eqb a.kind human_kind || eqb a.kind machine_kind) ∷ leb a.owner id_limit ∷ []); refusal = Range }
    ∷ record { passed = eqb a.owner 0 || (eqb a.kind machine_kind && people a.owner); refusal = BadOwner }
    ∷ record { passed = not (id_taken (λ d. d.id) earlier a.id); refusal = Doubled }
    ∷ []

-- of a resource: 2, 33, 31
unfoldable pub resource_tests : (ℕ → Bool) → List Resource → Resource → List Test
resource_tests people earlier o =
    record {
      passed = ands (is_id o.id ∷ leb o.public 1 ∷ is_id o.keeper ∷ leb o.len path_limit ∷ every (ranged path_byte_least path_byte_greatest) (path_of o) ∷ []);
      refusal = Range;
    }
    ∷ record { passed = people o.keeper; refusal = BadKeeper }
    ∷ record { passed = not (id_taken (λ d. d.id) earlier o.id); refusal = Doubled }
    ∷ []

-- of a claim with a parent, over the chain above it: a grant's tests without 11
unfoldable pub higher_tests : ℕ → List Claim → Claim → List Test
higher_tests version higher c = filter (λ t. not (eqb (number_of t.refusal) (number_of NotLive))) (parent_tests version 0 higher c)

-- of a claim behind the earlier ones, latest first: 2, 3, 4, 6 to 8 and, with a parent, 9, 10 and 12 to 16; room is never wanting
unfoldable pub claim_tests : World → List Claim → Claim → List Test
claim_tests w earlier c =
    record { passed = claim_fits w.version c; refusal = Range }
    ∷ (world_tests w earlier 0 c ++ cond (eqb c.parent 0) [] (higher_tests w.version (above earlier c) c))

-- the first fault of a register: none; its version; a list whose count is above its limit; a record
pub data FirstFault : Type 0 where
  no_fault : FirstFault
  bad_version : FirstFault
  many_actors : FirstFault
  many_resources : FirstFault
  many_claims : FirstFault
  of_actor : Broken Actor → FirstFault
  of_resource : Broken Resource → FirstFault
  of_claim : Broken Claim → FirstFault

abbrev pub fault_from : {A : Type 0} → (Broken A → FirstFault) → List (Broken A) → FirstFault → FirstFault
fault_from of [] more = more
fault_from of (b ∷ bs) more = of b

-- the first broken record of each list
abbrev pub broken_actors : Register → List (Broken Actor)
broken_actors r = broken_in (actor_tests (human (actors_of r.actors))) 0 [] (actors_of r.actors)

abbrev pub broken_resources : Register → List (Broken Resource)
broken_resources r = broken_in (resource_tests (human (actors_of r.actors))) 0 [] (resources_of r.resources)

abbrev pub broken_claims : Register → List (Broken Claim)
broken_claims r = broken_in (claim_tests (world_in r)) 0 [] (claims_of r.claims)

unfoldable pub record_fault : Register → FirstFault
record_fault r = fault_from of_actor (broken_actors r) (fault_from of_resource (broken_resources r) (fault_from of_claim (broken_claims r) no_fault))

unfoldable pub first_fault : Register → FirstFault
first_fault r =
    cond (ranged version_one version_two r.version)
    (cond (leb r.actors.count actor_limit)
    (cond (leb r.resources.count resource_limit) (cond (leb r.claims.count claim_limit) (record_fault r) many_claims) many_resources)
    many_actors)
    bad_version

-- a fault as the call tells it, zeros where there is none: why, the list, the place and the id; a count is told at the first place too many
abbrev pub told_fault : Refusal → ℕ → ℕ → ℕ → Fault
told_fault why list place id = record { sound = 0; why = number_of why; list = list; id = id; place = place; line = 0 }

abbrev pub fault_numbers : FirstFault → Fault
fault_numbers no_fault = record { sound = 1; why = 0; list = 0; id = 0; place = 0; line = 0 }
fault_numbers bad_version = told_fault Range 0 0 0
fault_numbers many_actors = told_fault Range 1 actor_limit 0
fault_numbers many_resources = told_fault Range 2 resource_limit 0
fault_numbers many_claims = told_fault Range 3 claim_limit 0
fault_numbers (of_actor b) = told_fault b.why 1 b.place b.what.id
fault_numbers (of_resource b) = told_fault b.why 2 b.place b.what.id
fault_numbers (of_claim b) = told_fault b.why 3 b.place b.what.id

unfoldable pub fault_of : Register → Fault
fault_of r = fault_numbers (first_fault r)

-- the rule of soundness that a fault names: of an actor or a resource that its id is free, where 31 is told, and otherwise that it fits; of a
-- claim by the number of the refusal
abbrev pub record_rule : Refusal → Bool → Bool → Bool
record_rule why fits free = cond (eqb (number_of why) (number_of Doubled)) free fits

abbrev pub actor_rule : (ℕ → Bool) → Refusal → List Actor → Actor → Bool
actor_rule people why earlier a = record_rule why (actor_fits people a) (not (id_taken (λ d. d.id) earlier a.id))

abbrev pub resource_rule : (ℕ → Bool) → Refusal → List Resource → Resource → Bool
resource_rule people why earlier o = record_rule why (resource_fits people o) (not (id_taken (λ d. d.id) earlier o.id))

abbrev pub claim_rule : World → Refusal → List Claim → Claim → Bool
claim_rule w why earlier c =
    let n = number_of why in
    cond (eqb n 2) (claim_fits w.version c) (cond (eqb n 3) (names_stand w c) (cond (eqb n 4) (fresh earlier c)
    (cond (eqb n 6) (root_kept w c) (cond (eqb n 7 || eqb n 8) (machine_may w c) (drawn w.version earlier c)))))

-- the register with the first n of its claims
abbrev pub first_claims : Register → ℕ → Register
first_claims r n = with_claims r (record { list = r.claims.list; count = n })

-- a broken record at its place of a list: it stands behind as many as its place says, it fails the test that is told, and the rule named is broken
-- there; each record before it passes its tests
pub record BrokenThere {A : Type 0} (tests : List A → A → List Test) (rule : Refusal → List A → A → Bool) (cs : List A) (b : Broken A) : Type 0 where
  pub after : List A
  pub split : cs ≡ take b.place cs ++ b.what ∷ after
  pub inside : length (take b.place cs) ≡ b.place
  pub fails : outcome_of (tests (latest (take b.place cs)) b.what) ≡ Err b.why
  pub breaks : rule b.why (latest (take b.place cs)) b.what ≡ false
  pub passed : each_passes tests [] (take b.place cs) ≡ true

-- what a fault says of the register
abbrev pub Breaks : Register → FirstFault → Type 0
Breaks r no_fault = sound r ≡ true
Breaks r bad_version = ranged version_one version_two r.version ≡ false
Breaks r many_actors = actor_limit < r.actors.count
Breaks r many_resources = resource_limit < r.resources.count
Breaks r many_claims = claim_limit < r.claims.count
Breaks r (of_actor b) =
    BrokenThere (actor_tests (human (actors_of r.actors))) (actor_rule (human (actors_of r.actors))) (actors_of r.actors) b
Breaks r (of_resource b) =
    BrokenThere (resource_tests (human (actors_of r.actors))) (resource_rule (human (actors_of r.actors))) (resources_of r.resources) b
Breaks r (of_claim b) = BrokenThere (claim_tests (world_in r)) (claim_rule (world_in r)) (claims_of r.claims) b

-- what comes before a fault is as it should be; of a claim, the register with the claims before it is sound, and with the claim too it is not
abbrev pub WholeBefore : Register → FirstFault → Type 0
WholeBefore r no_fault = sound r ≡ true
WholeBefore r bad_version = Unit {0}
WholeBefore r many_actors = ranged version_one version_two r.version ≡ true
WholeBefore r many_resources = (ranged version_one version_two r.version ≡ true) × (r.actors.count ≤ actor_limit)
WholeBefore r many_claims = (ranged version_one version_two r.version ≡ true) × (r.actors.count ≤ actor_limit) × (r.resources.count ≤ resource_limit)
WholeBefore r (of_actor b) = (ranged version_one version_two r.version ≡ true) × (within_limits r ≡ true)
WholeBefore r (of_resource b) = (ranged version_one version_two r.version ≡ true) × (within_limits r ≡ true) × (sound_actors (actors_of r.actors) ≡ true)
WholeBefore r (of_claim b) = (sound (first_claims r b.place) ≡ true) × (sound (first_claims r (suc b.place)) ≡ false)
