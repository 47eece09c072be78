-- The tests of a grant and of the three withdrawals on a small register: each refuses once, by its
-- own number, and what passes them all is accepted. All by computing. Assumes nothing.
use Rattle.std.proofs.Common.{Result, Err, Ok, ◌≡◌, refl, List, [], ◌∷◌, map, ℕ, replicate}
use Rattle.refusals.specs.declared.Refusal.{Refusal}
use Rattle.lists.specs.Lists.{dropping, distinct}
use Rattle.rights.specs.Rights.{has_right, has_rights, bars_machine}
use Rattle.register.specs.Register.{claims_of, with_left, no_actor, no_resource, no_claim}
use Rattle.register.specs.Chain.{chain, root_granted, circling}
use Rattle.register.specs.declared.Claim.{Claim}
use Rattle.register.specs.declared.Register.{Register}
use Rattle.soundness_rules.specs.Sound.{actor_fits, resource_fits, claim_fits, names_stand, root_kept, drawn_from, machine_may, over_chain, drawn, fresh, alone, over, acceptable, sound_claims, sound_actors, sound_resources, within_limits, sound}
use Rattle.refusals.specs.Refusals.{outcome_of, number_of}
use Rattle.change_rules.specs.Changes.{source_live, parent_tests, world_tests, grant_tests, granted, revoke_tests, clear_resource_tests, clear_expired_tests, Withdrawal, revoke, clear_resource, clear_expired, withdrawn}

abbrev pub claim : ℕ → ℕ → ℕ → ℕ → ℕ → ℕ → ℕ → ℕ → Claim
claim id parent grantor holder resource rights weight expiry =
    record { id = id; parent = parent; grantor = grantor; holder = holder; resource = resource; rights = rights; weight = weight; left = 0; expiry = expiry }

-- Two humans, each with a resource to keep; a machine with an owner, and one without. Claim 7 is a root with READ, WRITE and DELEGATE until the
-- moment 2,000; 8 is drawn from it for the machine, without WRITE; 9 is drawn from 8, with READ alone.
unfoldable pub desk : Register
desk = record {
  actors = record {
    list = record { id = 1; kind = 1; owner = 0 } ∷ record { id = 2; kind = 2; owner = 1 } ∷ record { id = 3; kind = 1; owner = 0 }
        ∷ record { id = 4; kind = 2; owner = 0 } ∷ replicate 60 no_actor;
    count = 4;
  };
  resources = record {
    list = record { id = 10; public = 0; keeper = 1; len = 0; path = replicate 64 0 } ∷ record { id = 11; public = 0; keeper = 3; len = 0; path = replicate 64 0 }
        ∷ replicate 62 no_resource;
    count = 2;
  };
  claims = record {
    list = claim 7 0 1 1 10 19 600 2000 ∷ claim 8 7 1 2 10 17 500 0 ∷ claim 9 8 2 3 10 1 500 0 ∷ replicate 253 no_claim;
    count = 3;
  };
  version = 1;
}

-- a claim before its parent
unfoldable pub spoilt : Register
spoilt = record {
  actors = desk.actors;
  resources = desk.resources;
  claims = record { list = claim 8 7 1 2 10 17 500 0 ∷ claim 7 0 1 1 10 19 600 2000 ∷ replicate 254 no_claim; count = 2 };
  version = 1;
}

-- the same desk in version 2: 7 may pass through 5 more hands, 8 through 3, 9 through none
unfoldable pub desk_two : Register
desk_two = record {
  actors = desk.actors;
  resources = desk.resources;
  claims = record {
    list = with_left 5 (claim 7 0 1 1 10 19 600 2000) ∷ with_left 3 (claim 8 7 1 2 10 17 500 0) ∷ claim 9 8 2 3 10 1 500 0 ∷ replicate 253 no_claim;
    count = 3;
  };
  version = 2;
}

-- 0 for accepted, else the refusal's number
abbrev pub told : Result Unit Refusal → ℕ
told (Ok _) = 0
told (Err why) = number_of why

-- a claim to grant, at a moment
pub record Asked : Type 0 where
  pub asks : Claim
  pub moment : ℕ

abbrev pub asked : Claim → ℕ → Asked
asked c moment = record { asks = c; moment = moment }

grants : List Asked
grants =
    -- drawn from 8 with READ, and a root by the keeper
    asked (claim 20 8 2 3 10 1 500 0) 1999
    ∷ asked (claim 20 0 1 3 10 131071 1000 0) 0
    -- 2: no rights; a weight and a moment past their limits
    ∷ asked (claim 20 8 2 3 10 0 500 0) 0
    ∷ asked (claim 20 8 2 3 10 1 1001 0) 0
    ∷ asked (claim 20 8 2 3 10 1 500 0) 4294967296
    -- 3: a grantor, a holder and a resource that do not stand
    ∷ asked (claim 20 8 5 3 10 1 500 0) 0
    ∷ asked (claim 20 8 2 5 10 1 500 0) 0
    ∷ asked (claim 20 8 2 3 12 1 500 0) 0
    -- 4, 6, 7, 8
    ∷ asked (claim 9 8 2 3 10 1 500 0) 0
    ∷ asked (claim 20 0 3 3 10 1 500 0) 0
    ∷ asked (claim 20 8 4 3 10 1 500 0) 0
    ∷ asked (claim 20 8 2 3 10 8192 500 0) 0
    -- 9; 10: held by another, and on another resource; 11: at its parent's expiry, and at that of the
    -- claim which its parent is drawn from
    ∷ asked (claim 20 99 2 3 10 1 500 0) 0
    ∷ asked (claim 20 8 1 3 10 1 500 0) 0
    ∷ asked (claim 20 8 2 3 11 1 500 0) 0
    ∷ asked (claim 20 7 1 3 10 1 500 0) 2000
    ∷ asked (claim 20 8 2 3 10 1 500 0) 2000
    -- 12, 13, 14
    ∷ asked (claim 20 9 3 2 10 1 500 0) 0
    ∷ asked (claim 20 8 2 3 10 2 500 0) 0
    ∷ asked (claim 20 8 2 3 10 1 501 0) 0
    -- 16: to the holder of 7, and to that of 8
    ∷ asked (claim 20 8 2 1 10 1 500 0) 0
    ∷ asked (claim 20 8 2 2 10 1 500 0) 0
    ∷ []

grants_told : map (λ a. told (granted desk a.asks a.moment).outcome) grants
    ≡ 0 ∷ 0 ∷ 2 ∷ 2 ∷ 2 ∷ 3 ∷ 3 ∷ 3 ∷ 4 ∷ 6 ∷ 7 ∷ 8 ∷ 9 ∷ 10 ∷ 10 ∷ 11 ∷ 11 ∷ 12 ∷ 13 ∷ 14 ∷ 16 ∷ 16 ∷ []
unfolding desk grants granted grant_tests world_tests parent_tests source_live outcome_of sound within_limits sound_actors sound_resources sound_claims acceptable alone over fresh drawn over_chain machine_may drawn_from root_kept names_stand claim_fits resource_fits actor_fits distinct chain circling root_granted has_right has_rights bars_machine
grants_told = refl

-- In version 2 left is below the parent's, else it is 15, by one or by more; a root has any up to 16; above 16 it is 2. In version 1 it is not asked.
left_told : map (λ r. map (λ c. told (granted r c 0).outcome) (
    with_left 2 (claim 20 8 2 3 10 1 500 0)
    ∷ with_left 0 (claim 20 8 2 3 10 1 500 0)
    ∷ with_left 16 (claim 20 0 1 3 10 1 500 0)
    ∷ with_left 3 (claim 20 8 2 3 10 1 500 0)
    ∷ with_left 16 (claim 20 8 2 3 10 1 500 0)
    ∷ with_left 17 (claim 20 8 2 3 10 1 500 0)
    ∷ with_left 4294967295 (claim 20 0 1 3 10 1 500 0)
    ∷ [])) (desk_two ∷ desk ∷ [])
    ≡ (0 ∷ 0 ∷ 0 ∷ 15 ∷ 15 ∷ 2 ∷ 2 ∷ []) ∷ replicate 7 0 ∷ []
unfolding desk desk_two granted grant_tests world_tests parent_tests source_live outcome_of sound within_limits sound_actors sound_resources sound_claims acceptable alone over fresh drawn over_chain machine_may drawn_from root_kept names_stand claim_fits resource_fits actor_fits distinct chain circling root_granted has_right has_rights bars_machine
left_told = refl

-- what an accepted grant stores: in version 2 the left that was asked for, in version 1 16 less the hops
stored_told : map (λ r. map (λ c. c.left) (claims_of (granted r (with_left 1 (claim 20 8 2 3 10 1 500 0)) 0).register.claims)) (desk_two ∷ desk ∷ [])
    ≡ (5 ∷ 3 ∷ 0 ∷ 1 ∷ []) ∷ (0 ∷ 0 ∷ 0 ∷ 14 ∷ []) ∷ []
unfolding desk desk_two granted grant_tests world_tests parent_tests source_live outcome_of sound within_limits sound_actors sound_resources sound_claims acceptable alone over fresh drawn over_chain machine_may drawn_from root_kept names_stand claim_fits resource_fits actor_fits distinct chain circling root_granted has_right has_rights bars_machine
stored_told = refl

-- a grant and a revocation keep the version, accepted and refused
versions_told : map (λ r. (granted r (with_left 1 (claim 20 8 2 3 10 1 500 0)) 0).register.version ∷ (granted r (with_left 1 (claim 9 8 2 3 10 1 500 0)) 0).register.version
    ∷ (withdrawn r (revoke 1 8)).register.version ∷ (withdrawn r (revoke 2 8)).register.version ∷ []) (desk_two ∷ desk ∷ [])
    ≡ replicate 4 2 ∷ replicate 4 1 ∷ []
unfolding desk desk_two granted grant_tests world_tests parent_tests source_live withdrawn revoke_tests dropping outcome_of sound within_limits sound_actors sound_resources sound_claims acceptable alone over fresh drawn over_chain machine_may drawn_from root_kept names_stand claim_fits resource_fits actor_fits distinct chain circling root_granted has_right has_rights bars_machine
versions_told = refl

spoilt_told : told (granted spoilt (claim 20 0 1 3 10 1 500 0) 0).outcome ≡ 1
unfolding desk spoilt granted grant_tests outcome_of sound within_limits sound_actors sound_resources sound_claims acceptable alone over fresh drawn over_chain machine_may drawn_from root_kept names_stand claim_fits resource_fits actor_fits distinct chain circling root_granted has_right has_rights bars_machine
spoilt_told = refl

-- what is told, how many went and the ids that are left
abbrev pub answered : Register → Withdrawal → List ℕ
answered r w =
    let answer = withdrawn r w in
    told answer.outcome ∷ answer.removed ∷ map (λ c. c.id) (claims_of answer.register.claims)

revocations_told : map (answered desk) (
    -- a grantor on the chain, of the claim and higher
    revoke 2 9
    ∷ revoke 1 9
    ∷ revoke 1 8
    -- 3, 17; 18: the holder of the claim, and the holder of one drawn from it
    ∷ revoke 5 8
    ∷ revoke 1 99
    ∷ revoke 2 8
    ∷ revoke 3 8
    ∷ [])
    ≡ (0 ∷ 1 ∷ 7 ∷ 8 ∷ [])
    ∷ (0 ∷ 1 ∷ 7 ∷ 8 ∷ [])
    ∷ (0 ∷ 2 ∷ 7 ∷ [])
    ∷ (3 ∷ 0 ∷ 7 ∷ 8 ∷ 9 ∷ [])
    ∷ (17 ∷ 0 ∷ 7 ∷ 8 ∷ 9 ∷ [])
    ∷ (18 ∷ 0 ∷ 7 ∷ 8 ∷ 9 ∷ [])
    ∷ (18 ∷ 0 ∷ 7 ∷ 8 ∷ 9 ∷ [])
    ∷ []
unfolding desk withdrawn revoke_tests outcome_of dropping sound within_limits sound_actors sound_resources sound_claims acceptable alone over fresh drawn over_chain machine_may drawn_from root_kept names_stand claim_fits resource_fits actor_fits distinct chain circling root_granted has_right has_rights bars_machine
revocations_told = refl

clearings_told : map (answered desk) (
    -- the keeper clears her resource, and a resource without claims is cleared of none
    clear_resource 1 10
    ∷ clear_resource 3 11
    -- 3: who does not stand, and a resource that does not; 18: who keeps another, and a machine of
    -- the keeper's
    ∷ clear_resource 5 10
    ∷ clear_resource 1 12
    ∷ clear_resource 3 10
    ∷ clear_resource 2 10
    -- a human clears what is old with all that is drawn from it: nothing before the expiry of 7
    ∷ clear_expired 3 2000
    ∷ clear_expired 3 1999
    -- 2: a moment past its limit; 3; 18: a machine
    ∷ clear_expired 3 4294967296
    ∷ clear_expired 5 2000
    ∷ clear_expired 2 2000
    ∷ [])
    ≡ (0 ∷ 3 ∷ [])
    ∷ (0 ∷ 0 ∷ 7 ∷ 8 ∷ 9 ∷ [])
    ∷ (3 ∷ 0 ∷ 7 ∷ 8 ∷ 9 ∷ [])
    ∷ (3 ∷ 0 ∷ 7 ∷ 8 ∷ 9 ∷ [])
    ∷ (18 ∷ 0 ∷ 7 ∷ 8 ∷ 9 ∷ [])
    ∷ (18 ∷ 0 ∷ 7 ∷ 8 ∷ 9 ∷ [])
    ∷ (0 ∷ 3 ∷ [])
    ∷ (0 ∷ 0 ∷ 7 ∷ 8 ∷ 9 ∷ [])
    ∷ (2 ∷ 0 ∷ 7 ∷ 8 ∷ 9 ∷ [])
    ∷ (3 ∷ 0 ∷ 7 ∷ 8 ∷ 9 ∷ [])
    ∷ (18 ∷ 0 ∷ 7 ∷ 8 ∷ 9 ∷ [])
    ∷ []
unfolding desk withdrawn clear_resource_tests clear_expired_tests outcome_of dropping sound within_limits sound_actors sound_resources sound_claims acceptable alone over fresh drawn over_chain machine_may drawn_from root_kept names_stand claim_fits resource_fits actor_fits distinct chain circling root_granted has_right has_rights bars_machine
clearings_told = refl
