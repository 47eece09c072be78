-- Calls on a small register: where they end, what is left and which grants are left to make again; clearings at their edges; and pairs of
-- withdrawals in both orders: what each call is told, how many go and what is left. All by computing. Assumes nothing.
use Rattle.std.proofs.Common.{Result, Err, Ok, ◌≡◌, refl, Bool, true, false, List, [], ◌∷◌, ◌++◌, map, ℕ, ◌+◌, replicate, length}
use Rattle.refusals.specs.declared.Refusal.{Refusal}
use Rattle.lists.specs.Fills.{all_replicate}
use Rattle.lists.specs.Lists.{dropping, distinct}
use Rattle.rights.specs.Rights.{has_right, has_rights, bars_machine}
use Rattle.register.specs.Register.{claims_of, with_left, no_actor, no_resource, no_claim, Shaped}
use Rattle.register.specs.Chain.{chain, root_granted, circling}
use Rattle.register.specs.declared.Claim.{Claim}
use Rattle.register.specs.declared.Register.{Register}
use Rattle.soundness_rules.specs.Sound.{actor_fits, resource_fits, claim_fits, names_stand, root_kept, drawn_from, machine_may, over_chain, drawn, fresh, alone, over, acceptable, sound_claims, sound_actors, sound_resources, within_limits, sound}
use Rattle.refusals.specs.Refusals.{outcome_of, number_of}
use Rattle.change_rules.specs.Changes.{source_live, parent_tests, world_tests, grant_tests, granted, revoke_tests, holding, Withdrawal, revoke, clear_resource, clear_expired, clear_resource_tests, clear_expired_tests, withdrawn}
use Rattle.change_rules.specs.declared.Revoked.{Revoked}
use Rattle.history.specs.History.{Change, grant, changed, took, register_after, accepts, started, kept, survivors, olds, grants, History, withdraw}
use Rattle.history.proofs.Replay.{history}

-- on the one resource, with READ, WRITE and DELEGATE, until the moment 2,000
abbrev claim : ℕ → ℕ → ℕ → ℕ → Claim
claim id parent grantor holder = record { id = id; parent = parent; grantor = grantor; holder = holder; resource = 10; rights = 19; weight = 600; left = 0; expiry = 2000 }

-- a human who keeps the resource, their machine, and another human; claim 7, and 8 drawn from it
desk : Register
desk = record {
  actors = record {
    list = record { id = 1; kind = 1; owner = 0 } ∷ record { id = 2; kind = 2; owner = 1 } ∷ record { id = 3; kind = 1; owner = 0 } ∷ replicate 61 no_actor;
    count = 3;
  };
  resources = record { list = record { id = 10; public = 0; keeper = 1; len = 0; path = replicate 64 0 } ∷ replicate 63 no_resource; count = 1 };
  claims = record { list = claim 7 0 1 1 ∷ claim 8 7 1 2 ∷ replicate 254 no_claim; count = 2 };
  version = 1;
}

calls : List Change
calls =
    grant (claim 1 0 1 1) 0
    ∷ grant (claim 2 1 1 2) 1999
    -- with 2, which is drawn from it
    ∷ withdraw (revoke 1 1)
    -- the id again, to another, at an earlier moment
    ∷ grant (claim 1 0 1 3) 5
    -- refused: the parent is not live
    ∷ grant (claim 2 1 3 2) 2000
    ∷ grant (claim 2 1 3 2) 4
    -- refused: no grantor on its chain
    ∷ withdraw (revoke 2 1)
    -- a claim of the start
    ∷ withdraw (revoke 1 8)
    -- refused: it does not stand any more
    ∷ withdraw (revoke 1 8)
    ∷ []

desk_shaped : Shaped desk
unfolding desk
desk_shaped = record { actors = refl; resources = refl; paths = (refl, all_replicate (λ o. length o.path ≡ 64) 63 no_resource refl); claims = refl }

desk_sound : sound desk ≡ true
unfolding desk sound within_limits sound_actors sound_resources sound_claims acceptable alone over fresh drawn over_chain machine_may drawn_from root_kept names_stand claim_fits resource_fits actor_fits distinct chain circling root_granted has_right has_rights bars_machine
desk_sound = refl

-- what was granted holds 16 less its hops as left
calls_end : claims_of (register_after desk calls).claims ≡ claim 7 0 1 1 ∷ with_left 16 (claim 1 0 1 3) ∷ with_left 15 (claim 2 1 3 2) ∷ []
unfolding desk calls register_after granted withdrawn grant_tests world_tests parent_tests revoke_tests source_live outcome_of dropping sound within_limits sound_actors sound_resources sound_claims acceptable alone over fresh drawn over_chain machine_may drawn_from root_kept names_stand claim_fits resource_fits actor_fits distinct chain circling root_granted has_right has_rights bars_machine
calls_end = refl

-- which calls are accepted
accepted : Register → List Change → List Bool
accepted r [] = []
accepted r (k ∷ ks) = took r k ∷ accepted (changed r k) ks

calls_accepted : accepted desk calls ≡ true ∷ true ∷ true ∷ true ∷ false ∷ true ∷ false ∷ true ∷ false ∷ []
unfolding desk calls accepted granted withdrawn grant_tests world_tests parent_tests revoke_tests source_live outcome_of dropping sound within_limits sound_actors sound_resources sound_claims acceptable alone over fresh drawn over_chain machine_may drawn_from root_kept names_stand claim_fits resource_fits actor_fits distinct chain circling root_granted has_right has_rights bars_machine
calls_accepted = refl

-- serial numbers 0 and 1 stood at the start, 2 and 3 are the first claims with the ids 1 and 2, 4 and 5 the second
calls_left : map (λ e. e.serial) (survivors desk calls) ≡ 0 ∷ 4 ∷ 5 ∷ []
unfolding desk calls register_after started kept granted withdrawn grant_tests world_tests parent_tests revoke_tests source_live outcome_of dropping sound within_limits sound_actors sound_resources sound_claims acceptable alone over fresh drawn over_chain machine_may drawn_from root_kept names_stand claim_fits resource_fits actor_fits distinct chain circling root_granted has_right has_rights bars_machine
calls_left = refl

calls_olds : olds (survivors desk calls) ≡ claim 7 0 1 1 ∷ []
unfolding desk calls register_after started kept granted withdrawn grant_tests world_tests parent_tests revoke_tests source_live outcome_of dropping sound within_limits sound_actors sound_resources sound_claims acceptable alone over fresh drawn over_chain machine_may drawn_from root_kept names_stand claim_fits resource_fits actor_fits distinct chain circling root_granted has_right has_rights bars_machine
calls_olds = refl

calls_grants : grants (survivors desk calls) ≡ grant (with_left 16 (claim 1 0 1 3)) 5 ∷ grant (with_left 15 (claim 2 1 3 2)) 4 ∷ []
unfolding desk calls register_after started kept granted withdrawn grant_tests world_tests parent_tests revoke_tests source_live outcome_of dropping sound within_limits sound_actors sound_resources sound_claims acceptable alone over fresh drawn over_chain machine_may drawn_from root_kept names_stand claim_fits resource_fits actor_fits distinct chain circling root_granted has_right has_rights bars_machine
calls_grants = refl

-- made again from claim 7 they are accepted, and end in the same claims
calls_again : accepts (holding desk (olds (survivors desk calls))) (grants (survivors desk calls)) ≡ true
unfolding desk calls register_after accepts started kept granted withdrawn grant_tests world_tests parent_tests revoke_tests source_live outcome_of dropping sound within_limits sound_actors sound_resources sound_claims acceptable alone over fresh drawn over_chain machine_may drawn_from root_kept names_stand claim_fits resource_fits actor_fits distinct chain circling root_granted has_right has_rights bars_machine
calls_again = refl

calls_same : claims_of (register_after (holding desk (olds (survivors desk calls))) (grants (survivors desk calls))).claims
    ≡ claim 7 0 1 1 ∷ with_left 16 (claim 1 0 1 3) ∷ with_left 15 (claim 2 1 3 2) ∷ []
unfolding desk calls register_after started kept granted withdrawn grant_tests world_tests parent_tests revoke_tests source_live outcome_of dropping sound within_limits sound_actors sound_resources sound_claims acceptable alone over fresh drawn over_chain machine_may drawn_from root_kept names_stand claim_fits resource_fits actor_fits distinct chain circling root_granted has_right has_rights bars_machine
calls_same = refl

-- the same desk in version 2
desk_two : Register
desk_two = record {
  actors = desk.actors;
  resources = desk.resources;
  claims = record { list = with_left 3 (claim 7 0 1 1) ∷ with_left 2 (claim 8 7 1 2) ∷ replicate 254 no_claim; count = 2 };
  version = 2;
}

calls_two : List Change
calls_two =
    grant (with_left 9 (claim 1 0 1 3)) 5
    -- refused: as many hands left as its parent
    ∷ grant (with_left 9 (claim 2 1 3 2)) 4
    ∷ grant (with_left 4 (claim 2 1 3 2)) 4
    ∷ withdraw (revoke 1 8)
    ∷ []

-- the version stays, and claims hold the left that was asked for; so do the grants that are left
calls_two_lem : ((register_after desk_two calls_two).version ≡ 2)
    × (claims_of (register_after desk_two calls_two).claims ≡ with_left 3 (claim 7 0 1 1) ∷ with_left 9 (claim 1 0 1 3) ∷ with_left 4 (claim 2 1 3 2) ∷ [])
    × (grants (survivors desk_two calls_two) ≡ grant (with_left 9 (claim 1 0 1 3)) 5 ∷ grant (with_left 4 (claim 2 1 3 2)) 4 ∷ [])
unfolding desk_two calls_two desk register_after started kept granted withdrawn grant_tests world_tests parent_tests revoke_tests source_live outcome_of dropping sound within_limits sound_actors sound_resources sound_claims acceptable alone over fresh drawn over_chain machine_may drawn_from root_kept names_stand claim_fits resource_fits actor_fits distinct chain circling root_granted has_right has_rights bars_machine
calls_two_lem = (refl, refl, refl)

-- as the theorem says of every list of calls
calls_history : History desk calls
calls_history = history desk desk_shaped desk_sound calls

-- the same actors and resource; claim 7, 8 drawn from it, 9 drawn from 8, and 10 drawn from 7; past the count claim 9 again, and a number
shelf : Register
shelf = record {
  actors = desk.actors;
  resources = desk.resources;
  claims = record {
    list = claim 7 0 1 1 ∷ claim 8 7 1 3 ∷ claim 9 8 3 2 ∷ claim 10 7 1 2 ∷ claim 9 8 3 2 ∷ claim 5 5 5 5 ∷ replicate 250 no_claim;
    count = 4;
  };
  version = 1;
}

-- claim 8 twice
spoilt : Register
spoilt = record {
  actors = desk.actors;
  resources = desk.resources;
  claims = record { list = claim 7 0 1 1 ∷ claim 8 7 1 3 ∷ claim 8 7 1 2 ∷ replicate 253 no_claim; count = 3 };
  version = 1;
}

-- one withdrawal and another
record Pair : Type 0 where
  one : Withdrawal
  other : Withdrawal

abbrev pair : Withdrawal → Withdrawal → Pair
pair v w = record { one = v; other = w }

abbrev turned : Pair → Pair
turned p = pair p.other p.one

-- 0 for accepted, else the refusal's number
abbrev told_number : Result Unit Refusal → ℕ
told_number (Ok _) = 0
told_number (Err why) = number_of why

abbrev first_of : Register → Pair → Revoked
first_of r p = withdrawn r p.one

abbrev second_of : Register → Pair → Revoked
second_of r p = withdrawn (first_of r p).register p.other

-- what the first call is told, what the second, how many go in all
abbrev in_turn : Register → Pair → List ℕ
in_turn r p = told_number (first_of r p).outcome ∷ told_number (second_of r p).outcome ∷ ((first_of r p).removed + (second_of r p).removed) ∷ []

-- so in the order given, and then in the other order
abbrev in_both_orders : Register → Pair → List ℕ
in_both_orders r p = in_turn r p ++ in_turn r (turned p)

pairs : List Pair
pairs =
    -- the same call twice
    pair (revoke 1 8) (revoke 1 8)
    -- two callers, one claim
    ∷ pair (revoke 1 9) (revoke 3 9)
    -- a claim, and one drawn from it
    ∷ pair (revoke 1 8) (revoke 3 9)
    -- two claims drawn from one
    ∷ pair (revoke 1 8) (revoke 1 10)
    -- a caller without standing on a claim, and the withdrawal of its parent
    ∷ pair (revoke 2 9) (revoke 1 8)
    -- a caller who does not stand, on the same claim
    ∷ pair (revoke 4 9) (revoke 1 8)
    -- no claim's number, and one out of range
    ∷ pair (revoke 1 0) (revoke 1 8)
    ∷ pair (revoke 1 65536) (revoke 1 8)
    -- neither accepted
    ∷ pair (revoke 3 10) (revoke 4 7)
    ∷ []

pairs_told : map (in_both_orders shelf) pairs ≡
    (0 ∷ 17 ∷ 2 ∷ 0 ∷ 17 ∷ 2 ∷ [])
    ∷ (0 ∷ 17 ∷ 1 ∷ 0 ∷ 17 ∷ 1 ∷ [])
    ∷ (0 ∷ 17 ∷ 2 ∷ 0 ∷ 0 ∷ 2 ∷ [])
    ∷ (0 ∷ 0 ∷ 3 ∷ 0 ∷ 0 ∷ 3 ∷ [])
    ∷ (18 ∷ 0 ∷ 2 ∷ 0 ∷ 17 ∷ 2 ∷ [])
    ∷ (3 ∷ 0 ∷ 2 ∷ 0 ∷ 3 ∷ 2 ∷ [])
    ∷ (17 ∷ 0 ∷ 2 ∷ 0 ∷ 17 ∷ 2 ∷ [])
    ∷ (17 ∷ 0 ∷ 2 ∷ 0 ∷ 17 ∷ 2 ∷ [])
    ∷ (18 ∷ 3 ∷ 0 ∷ 3 ∷ 18 ∷ 0 ∷ [])
    ∷ []
unfolding desk shelf pairs withdrawn revoke_tests outcome_of dropping sound within_limits sound_actors sound_resources sound_claims acceptable alone over fresh drawn over_chain machine_may drawn_from root_kept names_stand claim_fits resource_fits actor_fits distinct chain circling root_granted has_right has_rights bars_machine
pairs_told = refl

-- the ids that are left
abbrev ids_left : Register → Pair → List ℕ
ids_left r p = map (λ c. c.id) (claims_of (second_of r p).register.claims)

abbrev left_in_both_orders : Register → Pair → List (List ℕ)
left_in_both_orders r p = ids_left r p ∷ ids_left r (turned p) ∷ []

pairs_left : map (left_in_both_orders shelf) pairs ≡
    ((7 ∷ 10 ∷ []) ∷ (7 ∷ 10 ∷ []) ∷ [])
    ∷ ((7 ∷ 8 ∷ 10 ∷ []) ∷ (7 ∷ 8 ∷ 10 ∷ []) ∷ [])
    ∷ ((7 ∷ 10 ∷ []) ∷ (7 ∷ 10 ∷ []) ∷ [])
    ∷ ((7 ∷ []) ∷ (7 ∷ []) ∷ [])
    ∷ ((7 ∷ 10 ∷ []) ∷ (7 ∷ 10 ∷ []) ∷ [])
    ∷ ((7 ∷ 10 ∷ []) ∷ (7 ∷ 10 ∷ []) ∷ [])
    ∷ ((7 ∷ 10 ∷ []) ∷ (7 ∷ 10 ∷ []) ∷ [])
    ∷ ((7 ∷ 10 ∷ []) ∷ (7 ∷ 10 ∷ []) ∷ [])
    ∷ ((7 ∷ 8 ∷ 9 ∷ 10 ∷ []) ∷ (7 ∷ 8 ∷ 9 ∷ 10 ∷ []) ∷ [])
    ∷ []
unfolding desk shelf pairs withdrawn revoke_tests outcome_of dropping sound within_limits sound_actors sound_resources sound_claims acceptable alone over fresh drawn over_chain machine_may drawn_from root_kept names_stand claim_fits resource_fits actor_fits distinct chain circling root_granted has_right has_rights bars_machine
pairs_left = refl

-- past the count every place is cleared where either call is accepted, and kept where neither is
cleared_past : (second_of shelf (pair (revoke 2 9) (revoke 1 8))).register.claims.list ≡ claim 7 0 1 1 ∷ claim 10 7 1 2 ∷ replicate 254 no_claim
unfolding desk shelf withdrawn revoke_tests outcome_of dropping sound within_limits sound_actors sound_resources sound_claims acceptable alone over fresh drawn over_chain machine_may drawn_from root_kept names_stand claim_fits resource_fits actor_fits distinct chain circling root_granted has_right has_rights bars_machine
cleared_past = refl

kept_past : (second_of shelf (pair (revoke 3 10) (revoke 4 7))).register ≡ shelf
unfolding desk shelf withdrawn revoke_tests outcome_of dropping sound within_limits sound_actors sound_resources sound_claims acceptable alone over fresh drawn over_chain machine_may drawn_from root_kept names_stand claim_fits resource_fits actor_fits distinct chain circling root_granted has_right has_rights bars_machine
kept_past = refl

-- a register that is not sound tells 1 to both
spoilt_told : in_both_orders spoilt (pair (revoke 1 8) (revoke 1 7)) ≡ 1 ∷ 1 ∷ 0 ∷ 1 ∷ 1 ∷ 0 ∷ []
unfolding desk spoilt withdrawn revoke_tests outcome_of dropping sound within_limits sound_actors sound_resources sound_claims acceptable alone over fresh drawn over_chain machine_may drawn_from root_kept names_stand claim_fits resource_fits actor_fits distinct chain circling root_granted has_right has_rights bars_machine
spoilt_told = refl

-- until a moment on a resource, with READ, WRITE and DELEGATE
abbrev dated : ℕ → ℕ → ℕ → ℕ → ℕ → ℕ → ℕ → Claim
dated id parent grantor holder resource weight expiry = record {
  id = id;
  parent = parent;
  grantor = grantor;
  holder = holder;
  resource = resource;
  rights = 19;
  weight = weight;
  left = 0;
  expiry = expiry;
}

-- the same actors, and a second resource that the other human keeps: on the first a claim until 2,000 and one without end drawn from it, on the
-- second a claim of weight 0 without end and one until 2,001 drawn from it
cabinet : Register
cabinet = record {
  actors = desk.actors;
  resources = record {
    list = record { id = 10; public = 0; keeper = 1; len = 0; path = replicate 64 0 } ∷ record { id = 20; public = 0; keeper = 3; len = 0; path = replicate 64 0 }
        ∷ replicate 62 no_resource;
    count = 2;
  };
  claims = record {
    list = dated 7 0 1 1 10 600 2000 ∷ dated 8 7 1 3 10 600 0 ∷ dated 9 0 3 3 20 0 0 ∷ dated 11 9 3 2 20 0 2001 ∷ replicate 252 no_claim;
    count = 4;
  };
  version = 1;
}

clearings : List Withdrawal
clearings =
    -- at 0 nothing has expired, and at 1,999 nothing yet; at 2,000 what is drawn from it goes too
    clear_expired 1 0
    ∷ clear_expired 3 1999
    ∷ clear_expired 3 2000
    ∷ clear_expired 1 2001
    -- a moment out of range before a caller who is not known, and that before one who is not human
    ∷ clear_expired 4 4294967296
    ∷ clear_expired 4 2000
    ∷ clear_expired 2 2000
    -- a resource by its keeper; by the keeper of another, and by the keeper's machine
    ∷ clear_resource 1 10
    ∷ clear_resource 3 20
    ∷ clear_resource 1 20
    ∷ clear_resource 2 10
    -- neither caller nor resource is known; one of them
    ∷ clear_resource 4 30
    ∷ clear_resource 4 10
    ∷ clear_resource 1 30
    ∷ []

-- what the call is told, and how many go
clearings_told : map (λ w. told_number (withdrawn cabinet w).outcome ∷ (withdrawn cabinet w).removed ∷ []) clearings ≡
    (0 ∷ 0 ∷ [])
    ∷ (0 ∷ 0 ∷ [])
    ∷ (0 ∷ 2 ∷ [])
    ∷ (0 ∷ 3 ∷ [])
    ∷ (2 ∷ 0 ∷ [])
    ∷ (3 ∷ 0 ∷ [])
    ∷ (18 ∷ 0 ∷ [])
    ∷ (0 ∷ 2 ∷ [])
    ∷ (0 ∷ 2 ∷ [])
    ∷ (18 ∷ 0 ∷ [])
    ∷ (18 ∷ 0 ∷ [])
    ∷ (3 ∷ 0 ∷ [])
    ∷ (3 ∷ 0 ∷ [])
    ∷ (3 ∷ 0 ∷ [])
    ∷ []
unfolding desk cabinet clearings withdrawn revoke_tests clear_resource_tests clear_expired_tests outcome_of dropping sound within_limits sound_actors sound_resources sound_claims acceptable alone over fresh drawn over_chain machine_may drawn_from root_kept names_stand claim_fits resource_fits actor_fits distinct chain circling root_granted has_right has_rights bars_machine
clearings_told = refl

-- the kinds of pair that have a clearing
kinds : List Pair
kinds =
    pair (revoke 1 8) (clear_resource 1 10)
    -- a revoker without standing, whose claim goes with an old one
    ∷ pair (revoke 3 8) (clear_expired 3 2000)
    ∷ pair (clear_resource 1 10) (clear_resource 3 20)
    ∷ pair (clear_resource 3 20) (clear_expired 1 2001)
    ∷ pair (clear_expired 1 2000) (clear_expired 3 2001)
    -- neither accepted
    ∷ pair (clear_resource 1 20) (clear_expired 2 2000)
    ∷ []

kinds_told : map (in_both_orders cabinet) kinds ≡
    (0 ∷ 0 ∷ 2 ∷ 0 ∷ 17 ∷ 2 ∷ [])
    ∷ (18 ∷ 0 ∷ 2 ∷ 0 ∷ 17 ∷ 2 ∷ [])
    ∷ (0 ∷ 0 ∷ 4 ∷ 0 ∷ 0 ∷ 4 ∷ [])
    ∷ (0 ∷ 0 ∷ 4 ∷ 0 ∷ 0 ∷ 4 ∷ [])
    ∷ (0 ∷ 0 ∷ 3 ∷ 0 ∷ 0 ∷ 3 ∷ [])
    ∷ (18 ∷ 18 ∷ 0 ∷ 18 ∷ 18 ∷ 0 ∷ [])
    ∷ []
unfolding desk cabinet kinds withdrawn revoke_tests clear_resource_tests clear_expired_tests outcome_of dropping sound within_limits sound_actors sound_resources sound_claims acceptable alone over fresh drawn over_chain machine_may drawn_from root_kept names_stand claim_fits resource_fits actor_fits distinct chain circling root_granted has_right has_rights bars_machine
kinds_told = refl

kinds_left : map (left_in_both_orders cabinet) kinds ≡
    ((9 ∷ 11 ∷ []) ∷ (9 ∷ 11 ∷ []) ∷ [])
    ∷ ((9 ∷ 11 ∷ []) ∷ (9 ∷ 11 ∷ []) ∷ [])
    ∷ ([] ∷ [] ∷ [])
    ∷ ([] ∷ [] ∷ [])
    ∷ ((9 ∷ []) ∷ (9 ∷ []) ∷ [])
    ∷ ((7 ∷ 8 ∷ 9 ∷ 11 ∷ []) ∷ (7 ∷ 8 ∷ 9 ∷ 11 ∷ []) ∷ [])
    ∷ []
unfolding desk cabinet kinds withdrawn revoke_tests clear_resource_tests clear_expired_tests outcome_of dropping sound within_limits sound_actors sound_resources sound_claims acceptable alone over fresh drawn over_chain machine_may drawn_from root_kept names_stand claim_fits resource_fits actor_fits distinct chain circling root_granted has_right has_rights bars_machine
kinds_left = refl
