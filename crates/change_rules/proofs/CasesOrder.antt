-- The order of the tests of a grant and of the three withdrawals: where two faults meet, the lower
-- number is told. All by computing. Assumes nothing.
use Rattle.std.proofs.Common.{◌≡◌, refl, List, [], ◌∷◌, map, ℕ, ◌+◌, ◌-◌, replicate}
use Rattle.lists.specs.Lists.{counted, distinct}
use Rattle.rights.specs.Rights.{has_right, has_rights, bars_machine}
use Rattle.register.specs.Register.{with_left}
use Rattle.register.specs.Chain.{chain, root_granted, circling}
use Rattle.register.specs.declared.Claim.{Claim}
use Rattle.register.specs.declared.Register.{Register}
use Rattle.soundness_rules.specs.Sound.{actor_fits, resource_fits, claim_fits, names_stand, root_kept, drawn_from, machine_may, over_chain, drawn, fresh, alone, over, acceptable, sound_claims, sound_actors, sound_resources, within_limits, sound}
use Rattle.refusals.specs.Refusals.{outcome_of}
use Rattle.change_rules.specs.Changes.{source_live, parent_tests, world_tests, grant_tests, granted, revoke_tests, clear_resource_tests, clear_expired_tests, Withdrawal, revoke, clear_resource, clear_expired, withdrawn}
use Rattle.change_rules.proofs.Cases.{claim, desk, desk_two, spoilt, told, Asked, asked}

-- what a grant of each claim is told
abbrev grants : Register → List Asked → List ℕ
grants r l = map (λ a. told (granted r a.asks a.moment).outcome) l

-- 2 before 3, 3 before 4, 4 before 6, 6 before 7, 7 before 8, 8 before 9
first_told : grants desk (
    asked (claim 20 8 5 3 10 0 500 0) 0
    ∷ asked (claim 9 8 5 3 10 1 500 0) 0
    ∷ asked (claim 9 0 3 3 10 1 500 0) 0
    ∷ asked (claim 20 0 4 3 10 1 500 0) 0
    ∷ asked (claim 20 8 4 3 10 8192 500 0) 0
    ∷ asked (claim 20 99 2 3 10 8192 500 0) 0
    ∷ [])
    ≡ 2 ∷ 3 ∷ 4 ∷ 6 ∷ 7 ∷ 8 ∷ []
unfolding desk granted grant_tests world_tests parent_tests source_live outcome_of sound within_limits sound_actors sound_resources sound_claims acceptable alone over fresh drawn over_chain machine_may drawn_from root_kept names_stand claim_fits resource_fits actor_fits distinct chain circling root_granted has_right has_rights bars_machine
first_told = refl

-- 10 before 11, 11 before 12, 12 before 13, 13 before 14, 14 before 16
parent_told : grants desk (
    asked (claim 20 7 2 3 10 1 500 0) 2000
    ∷ asked (claim 20 9 3 2 10 1 500 0) 2000
    ∷ asked (claim 20 9 3 2 10 2 500 0) 0
    ∷ asked (claim 20 8 2 3 10 2 501 0) 0
    ∷ asked (claim 20 8 2 1 10 1 501 0) 0
    ∷ [])
    ≡ 10 ∷ 11 ∷ 12 ∷ 13 ∷ 14 ∷ []
unfolding desk granted grant_tests world_tests parent_tests source_live outcome_of sound within_limits sound_actors sound_resources sound_claims acceptable alone over fresh drawn over_chain machine_may drawn_from root_kept names_stand claim_fits resource_fits actor_fits distinct chain circling root_granted has_right has_rights bars_machine
parent_told = refl

-- 1 before 2: a register that is not sound, and a claim without rights
spoilt_first : grants spoilt (asked (claim 20 0 1 3 10 0 500 0) 0 ∷ []) ≡ 1 ∷ []
unfolding desk spoilt granted grant_tests world_tests parent_tests source_live outcome_of sound within_limits sound_actors sound_resources sound_claims acceptable alone over fresh drawn over_chain machine_may drawn_from root_kept names_stand claim_fits resource_fits actor_fits distinct chain circling root_granted has_right has_rights bars_machine
spoilt_first = refl

-- the claims of the register are these
abbrev claiming : List Claim → ℕ → Register
claiming claims count = record {
  actors = desk.actors;
  resources = desk.resources;
  claims = record { list = claims; count = count };
  version = 1;
}

-- 256 roots: 5; 4 before 5, and 5 before 6
full_told : grants (claiming (map (λ i. claim i 0 1 3 10 1 1 0) (counted 1 256)) 256) (
    asked (claim 300 0 1 3 10 1 1 0) 0
    ∷ asked (claim 9 0 1 3 10 1 1 0) 0
    ∷ asked (claim 300 0 3 3 10 1 1 0) 0
    ∷ [])
    ≡ 5 ∷ 4 ∷ 5 ∷ []
unfolding desk granted grant_tests world_tests parent_tests source_live outcome_of sound within_limits sound_actors sound_resources sound_claims acceptable alone over fresh drawn over_chain machine_may drawn_from root_kept names_stand claim_fits resource_fits actor_fits distinct chain circling root_granted has_right has_rights bars_machine
full_told = refl

-- 16: to who granted the root and holds no claim of the chain
lent_told : grants (claiming (claim 12 0 3 1 11 19 600 0 ∷ []) 1) (asked (claim 20 12 1 3 11 1 500 0) 0 ∷ []) ≡ 16 ∷ []
unfolding desk granted grant_tests world_tests parent_tests source_live outcome_of sound within_limits sound_actors sound_resources sound_claims acceptable alone over fresh drawn over_chain machine_may drawn_from root_kept names_stand claim_fits resource_fits actor_fits distinct chain circling root_granted has_right has_rights bars_machine
lent_told = refl

-- n claims, each drawn from the one before it: the last has n - 1 hops
abbrev line : ℕ → Register
line n = record {
  actors = record { list = map (λ i. record { id = i; kind = 1; owner = 0 }) (counted 1 20); count = 20 };
  resources = desk.resources;
  claims = record { list = map (λ i. claim i (i - 1) i (i + 1) 10 16 600 0) (counted 1 n); count = n };
  version = 1;
}

-- 16 hops are accepted, with 17 it is 15; 14 before 15, 15 before 16
hops_told_lem : (grants (line 16) (asked (claim 20 16 17 18 10 16 600 0) 0 ∷ []) ≡ 0 ∷ []) × (
    grants (line 17) (
    asked (claim 20 17 18 19 10 16 600 0) 0
    ∷ asked (claim 20 17 18 19 10 16 601 0) 0
    ∷ asked (claim 20 17 18 1 10 16 600 0) 0
    ∷ [])
    ≡ 15 ∷ 14 ∷ 15 ∷ [])
unfolding desk granted grant_tests world_tests parent_tests source_live outcome_of sound within_limits sound_actors sound_resources sound_claims acceptable alone over fresh drawn over_chain machine_may drawn_from root_kept names_stand claim_fits resource_fits actor_fits distinct chain circling root_granted has_right has_rights bars_machine
hops_told_lem = (refl, refl)

-- the same in version 2, where left is not below the parent's: 2 before 15, 14 before 15, 15 before 16
left_told : grants desk_two (
    asked (with_left 17 (claim 20 8 2 3 10 1 500 0)) 0
    ∷ asked (with_left 3 (claim 20 8 2 3 10 1 501 0)) 0
    ∷ asked (with_left 3 (claim 20 8 2 1 10 1 500 0)) 0
    ∷ [])
    ≡ 2 ∷ 14 ∷ 15 ∷ []
unfolding desk desk_two granted grant_tests world_tests parent_tests source_live outcome_of sound within_limits sound_actors sound_resources sound_claims acceptable alone over fresh drawn over_chain machine_may drawn_from root_kept names_stand claim_fits resource_fits actor_fits distinct chain circling root_granted has_right has_rights bars_machine
left_told = refl

-- what a withdrawal is told
abbrev withdrawals : Register → List Withdrawal → List ℕ
withdrawals r l = map (λ w. told (withdrawn r w).outcome) l

-- a revocation: 3 before 17; a clearing of a resource: 3 before 18; a clearing of old claims: 2 before
-- 3 and before 18
withdrawn_told : withdrawals desk (
    revoke 5 99
    ∷ clear_resource 5 12
    ∷ clear_resource 2 12
    ∷ clear_expired 5 4294967296
    ∷ clear_expired 2 4294967296
    ∷ [])
    ≡ 3 ∷ 3 ∷ 3 ∷ 2 ∷ 2 ∷ []
unfolding desk withdrawn revoke_tests clear_resource_tests clear_expired_tests outcome_of sound within_limits sound_actors sound_resources sound_claims acceptable alone over fresh drawn over_chain machine_may drawn_from root_kept names_stand claim_fits resource_fits actor_fits distinct chain circling root_granted has_right has_rights bars_machine
withdrawn_told = refl

-- 1 before all of them
spoilt_withdrawn : withdrawals spoilt (revoke 5 99 ∷ clear_resource 5 12 ∷ clear_expired 5 4294967296 ∷ []) ≡ replicate 3 1
unfolding desk spoilt withdrawn revoke_tests clear_resource_tests clear_expired_tests outcome_of sound within_limits sound_actors sound_resources sound_claims acceptable alone over fresh drawn over_chain machine_may drawn_from root_kept names_stand claim_fits resource_fits actor_fits distinct chain circling root_granted has_right has_rights bars_machine
spoilt_withdrawn = refl
