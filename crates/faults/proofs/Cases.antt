-- Case R of 01, as it is and with one thing wrong at a time: what is told of each number, and of a text. All by computing. Assumes nothing.
use Rattle.std.proofs.Common.{◌≡◌, refl, List, [], ◌∷◌, ◌++◌, map, ℕ, ◌-◌, replicate, length}
use Rattle.lists.specs.Lists.{counted, dropping}
use Rattle.rights.specs.Rights.{has_right, has_rights, bars_machine}
use Rattle.register.specs.Register.{no_actor, no_resource, no_claim}
use Rattle.register.specs.Chain.{chain, root_granted, circling}
use Rattle.register.specs.declared.Actor.{Actor}
use Rattle.register.specs.declared.Resource.{Resource}
use Rattle.register.specs.declared.Claim.{Claim}
use Rattle.register.specs.declared.Register.{Register}
use Rattle.soundness_rules.specs.Sound.{claim_fits, names_stand, root_kept, fresh}
use Rattle.refusals.specs.Refusals.{outcome_of}
use Rattle.change_rules.specs.Changes.{world_tests, parent_tests, source_live}
use Rattle.faults.specs.Faults.{broken_in, actor_tests, resource_tests, higher_tests, claim_tests, record_fault, first_fault, fault_of}
use Rattle.faults.specs.declared.Fault.{Fault}

-- a register of these, with zeros behind them
abbrev holding : List Actor → List Resource → List Claim → Register
holding actors resources claims = record {
  actors = record { list = actors ++ replicate (64 - length actors) no_actor; count = length actors };
  resources = record { list = resources ++ replicate (64 - length resources) no_resource; count = length resources };
  claims = record { list = claims ++ replicate (256 - length claims) no_claim; count = length claims };
  version = 1;
}

abbrev actor : ℕ → ℕ → ℕ → Actor
actor id kind owner = record { id = id; kind = kind; owner = owner }

-- a resource with the path site/a
abbrev resource : ℕ → ℕ → ℕ → Resource
resource id public keeper = record { id = id; public = public; keeper = keeper; len = 6; path = 115 ∷ 105 ∷ 116 ∷ 101 ∷ 47 ∷ 97 ∷ replicate 58 0 }

abbrev claim : ℕ → ℕ → ℕ → ℕ → ℕ → ℕ → ℕ → Claim
claim id parent grantor holder rights weight expiry = record {
  id = id;
  parent = parent;
  grantor = grantor;
  holder = holder;
  resource = 10;
  rights = rights;
  weight = weight;
  left = 0;
  expiry = expiry;
}

abbrev pair : List Actor
pair = actor 1 1 0 ∷ actor 2 2 1 ∷ []

abbrev reports : List Resource
reports = resource 10 0 1 ∷ []

-- the root of case R, and the register with these claims behind it
abbrev root : Claim
root = claim 1 0 1 1 19 1000 0

abbrev behind : List Claim → Register
behind more = holding pair reports (root ∷ more)

abbrev case_r : Register
case_r = behind (claim 2 1 1 2 1 600 2000 ∷ [])

-- the numbers of a fault
abbrev fault : ℕ → ℕ → ℕ → ℕ → Fault
fault why list place id = record { sound = 0; why = why; list = list; id = id; place = place; line = 0 }

abbrev none : Fault
none = record { sound = 1; why = 0; list = 0; id = 0; place = 0; line = 0 }

-- a register of no more than a version and counts
abbrev counting : ℕ → ℕ → ℕ → ℕ → Register
counting version h m n = record { actors = record { list = []; count = h }; resources = record { list = []; count = m }; claims = record { list = []; count = n }; version = version }

-- a claim of version 2, with hands left
abbrev telling : ℕ → ℕ → ℕ → ℕ → Claim
telling id parent holder left = record {
  id = id;
  parent = parent;
  grantor = 1;
  holder = holder;
  resource = 10;
  rights = 19;
  weight = 1000;
  left = left;
  expiry = 0;
}

abbrev second : List Claim → Register
second claims = record {
  actors = (holding pair reports claims).actors;
  resources = (holding pair reports claims).resources;
  claims = (holding pair reports claims).claims;
  version = 2;
}

-- 18 humans, each of whom but the last draws the next claim for the next
abbrev ladder : ℕ → Register
ladder n = holding (map (λ k. actor k 1 0) (counted 1 18)) reports (root ∷ map (λ k. claim k (k - 1) (k - 1) k 19 1000 0) (counted 2 n))

faults : (fault_of case_r ≡ none)
    -- claims: 2, 3, 4, 6 to 10, 12 to 16
    × (fault_of (holding pair reports (claim 1 0 1 1 19 1001 0 ∷ claim 2 1 1 2 1 600 2000 ∷ [])) ≡ fault 2 3 0 1)
    × (fault_of (behind (claim 2 1 1 3 1 600 2000 ∷ [])) ≡ fault 3 3 1 2)
    × (fault_of (behind (claim 1 1 1 2 1 600 2000 ∷ [])) ≡ fault 4 3 1 1)
    × (fault_of (behind (claim 2 0 2 2 1 600 2000 ∷ [])) ≡ fault 6 3 1 2)
    × (fault_of (holding (actor 1 1 0 ∷ actor 2 2 0 ∷ actor 3 1 0 ∷ []) reports (root ∷ claim 2 1 1 2 17 600 0 ∷ claim 3 2 2 3 1 600 0 ∷ [])) ≡ fault 7 3 2 3)
    × (fault_of (holding (actor 1 1 0 ∷ actor 2 2 1 ∷ actor 3 1 0 ∷ []) reports
    (claim 1 0 1 1 131071 1000 0 ∷ claim 2 1 1 2 131071 600 0 ∷ claim 3 2 2 3 8192 600 0 ∷ [])) ≡ fault 8 3 2 3)
    × (fault_of (behind (claim 2 5 1 2 1 600 2000 ∷ [])) ≡ fault 9 3 1 2)
    × (fault_of (behind (claim 2 1 2 2 1 600 2000 ∷ [])) ≡ fault 10 3 1 2)
    × (fault_of (holding pair reports (claim 1 0 1 1 3 1000 0 ∷ claim 2 1 1 2 1 600 2000 ∷ [])) ≡ fault 12 3 1 2)
    × (fault_of (behind (claim 2 1 1 2 4 600 2000 ∷ [])) ≡ fault 13 3 1 2)
    × (fault_of (holding pair reports (claim 1 0 1 1 19 500 0 ∷ claim 2 1 1 2 1 600 2000 ∷ [])) ≡ fault 14 3 1 2)
    × (fault_of (ladder 16) ≡ none)
    × (fault_of (ladder 17) ≡ fault 15 3 17 18)
    × (fault_of (behind (claim 2 1 1 1 1 600 2000 ∷ [])) ≡ fault 16 3 1 2)
    -- a parent that ends before its child is no fault, and neither is one without weight, which is live at no moment
    × (fault_of (holding pair reports (claim 1 0 1 1 19 1000 1 ∷ claim 2 1 1 2 1 600 2000 ∷ [])) ≡ none)
    × (fault_of (holding pair reports (claim 1 0 1 1 19 0 0 ∷ claim 2 1 1 2 1 0 2000 ∷ [])) ≡ none)
    -- the first of two
    × (fault_of (behind (claim 2 1 1 2 1 600 2000 ∷ claim 3 1 1 2 4 600 0 ∷ claim 2 1 1 2 4 1001 0 ∷ [])) ≡ fault 13 3 2 3)
    -- actors: 2, 32, 31
    × (fault_of (holding (actor 1 1 0 ∷ actor 2 3 1 ∷ []) reports []) ≡ fault 2 1 1 2)
    × (fault_of (holding (actor 1 1 0 ∷ actor 2 2 2 ∷ []) reports []) ≡ fault 32 1 1 2)
    × (fault_of (holding (actor 1 1 0 ∷ actor 2 1 1 ∷ []) reports []) ≡ fault 32 1 1 2)
    × (fault_of (holding (actor 1 1 0 ∷ actor 2 2 1 ∷ actor 1 1 0 ∷ []) reports []) ≡ fault 31 1 2 1)
    -- resources: 2, 33, 31
    × (fault_of (holding pair (resource 10 2 1 ∷ []) []) ≡ fault 2 2 0 10)
    × (fault_of (holding pair (resource 10 0 2 ∷ []) []) ≡ fault 33 2 0 10)
    × (fault_of (holding pair (resource 10 0 1 ∷ resource 10 1 1 ∷ []) []) ≡ fault 31 2 1 10)
    -- the version before the counts, and those in their order
    × (fault_of (counting 0 65 65 257) ≡ fault 2 0 0 0)
    × (fault_of (counting 3 0 0 0) ≡ fault 2 0 0 0)
    × (fault_of (counting 1 65 65 257) ≡ fault 2 1 64 0)
    × (fault_of (counting 2 0 65 257) ≡ fault 2 2 64 0)
    × (fault_of (counting 1 0 0 257) ≡ fault 2 3 256 0)
    -- version 2: left out of range, and not below the parent's
    × (fault_of (second (telling 1 0 1 16 ∷ telling 2 1 2 15 ∷ [])) ≡ none)
    × (fault_of (second (telling 1 0 1 17 ∷ telling 2 1 2 15 ∷ [])) ≡ fault 2 3 0 1)
    × (fault_of (second (telling 1 0 1 4 ∷ telling 2 1 2 4 ∷ [])) ≡ fault 15 3 1 2)
unfolding fault_of first_fault record_fault broken_in outcome_of actor_tests resource_tests higher_tests claim_tests world_tests parent_tests source_live dropping claim_fits names_stand root_kept fresh has_right has_rights bars_machine chain circling root_granted
faults = (refl, refl, refl, refl, refl, refl, refl, refl, refl, refl, refl, refl, refl, refl, refl, refl, refl, refl, refl, refl, refl, refl, refl, refl, refl, refl, refl, refl, refl, refl, refl, refl, refl)
