-- Case R of 01 at two moments: each kind of reason, who may, and what is told of an actor and its owner. All by computing. Assumes nothing.
use Rattle.std.proofs.Common.{Err, Ok, ◌≡◌, refl, List, [], ◌∷◌, ◌++◌, ℕ, ◌-◌, replicate, length}
use Rattle.lists.specs.Lists.{dropping, distinct, same}
use Rattle.rights.specs.Rights.{has_right, has_rights, bars_machine}
use Rattle.paths.specs.Containment.{components, climbing, trimmed, starting, contained, reached}
use Rattle.register.specs.Register.{no_actor, no_resource, no_claim}
use Rattle.register.specs.Chain.{chain, root_granted, circling}
use Rattle.register.specs.declared.Actor.{Actor}
use Rattle.register.specs.declared.Resource.{Resource}
use Rattle.register.specs.declared.Claim.{Claim}
use Rattle.register.specs.declared.Register.{Register}
use Rattle.soundness_rules.specs.Sound.{actor_fits, resource_fits, claim_fits, names_stand, root_kept, drawn_from, machine_may, over_chain, drawn, fresh, alone, over, acceptable, sound_claims, sound_actors, sound_resources, within_limits, sound}
use Rattle.refusals.specs.Refusals.{outcome_of}
use Rattle.refusals.specs.declared.Refusal.TheVariants.{Absent, Range}
use Rattle.actions.specs.declared.Usage.{Usage}
use Rattle.actions.specs.Actions.{action_fits}
use Rattle.gate_rules.specs.Gate.{gate_tests, action_tests, public_read, contains, covering, covers, first_of, reach_of}
use Rattle.reasons.specs.Uses.{why_use}
use Rattle.reasons.specs.Reasons.{reason_of, Telling, telling}
use Rattle.reasons.specs.Holders.{who_tests, may_use, who_may}

-- a register of these, with zeros behind them
abbrev holding : List Actor → List Resource → List Claim → Register
holding actors resources claims = record {
  actors = record { list = actors ++ replicate (64 - length actors) no_actor; count = length actors };
  resources = record { list = resources ++ replicate (64 - length resources) no_resource; count = length resources };
  claims = record { list = claims ++ replicate (256 - length claims) no_claim; count = length claims };
  version = 1;
}

abbrev actor : ℕ → ℕ → ℕ → Actor
actor id kind owner = record { id = id; kind = kind; owner = owner }

-- a resource with the path site/a
abbrev resource : ℕ → ℕ → ℕ → Resource
resource id public keeper = record { id = id; public = public; keeper = keeper; len = 6; path = 115 ∷ 105 ∷ 116 ∷ 101 ∷ 47 ∷ 97 ∷ replicate 58 0 }

abbrev claim : ℕ → ℕ → ℕ → ℕ → ℕ → ℕ → ℕ → Claim
claim id parent grantor holder rights weight expiry = record {
  id = id;
  parent = parent;
  grantor = grantor;
  holder = holder;
  resource = 10;
  rights = rights;
  weight = weight;
  left = 0;
  expiry = expiry;
}

abbrev pair : List Actor
pair = actor 1 1 0 ∷ actor 2 2 1 ∷ []

abbrev reports : List Resource
reports = resource 10 0 1 ∷ []

-- the root of case R, and the register with these claims behind it
abbrev root : Claim
root = claim 1 0 1 1 19 1000 0

abbrev behind : List Claim → Register
behind more = holding pair reports (root ∷ more)

abbrev case_r : Register
case_r = behind (claim 2 1 1 2 1 600 2000 ∷ [])

abbrev reads : ℕ → Usage
reads x = record { resource = x; right = 0 }

abbrev writes : ℕ → Usage
writes x = record { resource = x; right = 1 }

abbrev told : ℕ → List ℕ → ℕ → ℕ → Telling
told kind ids keeper ended = record { kind = kind; count = length ids; chain = ids; keeper = keeper; ended = ended }

abbrev public_r : Register
public_r = holding pair (resource 10 1 1 ∷ []) (root ∷ [])

reasons : (telling case_r 1999 (reason_of case_r 1999 2 (reads 10)) ≡ told 1 (2 ∷ 1 ∷ []) 1 0)
    × (telling case_r 1999 (reason_of case_r 1999 1 (writes 10)) ≡ told 1 (1 ∷ []) 1 0)
    × (telling public_r 1999 (reason_of public_r 1999 2 (reads 10)) ≡ told 2 [] 0 0)
    × (telling public_r 1999 (reason_of public_r 1999 1 (reads 10)) ≡ told 1 (1 ∷ []) 1 0)
    × (telling case_r 2000 (reason_of case_r 2000 2 (reads 10)) ≡ told 3 (2 ∷ 1 ∷ []) 1 2)
    × (telling case_r 1999 (reason_of case_r 1999 2 (writes 10)) ≡ told 4 (2 ∷ 1 ∷ []) 1 0)
    × (telling case_r 1999 (reason_of case_r 1999 2 (reads 11)) ≡ told 5 [] 0 0)
    × (telling public_r 1999 (reason_of public_r 1999 2 (writes 10)) ≡ told 5 [] 0 0)
unfolding reason_of public_read contains covering first_of reach_of has_right chain same components climbing trimmed starting contained reached
reasons = (refl, refl, refl, refl, refl, refl, refl, refl)

holders : (who_may case_r (reads 10) 1999 ≡ 1 ∷ 2 ∷ [])
    × (who_may case_r (reads 10) 2000 ≡ 1 ∷ [])
    × (who_may case_r (writes 10) 1999 ≡ 1 ∷ [])
    × (who_may case_r (reads 11) 1999 ≡ [])
    × (who_may public_r (reads 10) 1999 ≡ 1 ∷ 2 ∷ [])
    -- a machine with no owner, and one whose owner covers nothing
    × (who_may (holding (actor 1 1 0 ∷ actor 2 2 0 ∷ []) reports (root ∷ claim 2 1 1 2 1 600 2000 ∷ [])) (reads 10) 1999 ≡ 1 ∷ [])
    × (who_may (holding (actor 1 1 0 ∷ actor 2 2 3 ∷ actor 3 1 0 ∷ []) reports (root ∷ claim 2 1 1 2 1 600 2000 ∷ [])) (reads 10) 1999 ≡ 1 ∷ [])
    -- a right that is none, and a register that is not sound
    × (who_may case_r (record { resource = 10; right = 17 }) 1999 ≡ [])
    × (who_may (holding pair reports (claim 1 0 1 1 19 1001 0 ∷ [])) (reads 10) 1999 ≡ [])
unfolding who_may who_tests may_use covers outcome_of dropping sound within_limits sound_actors sound_resources sound_claims acceptable alone over claim_fits names_stand root_kept machine_may drawn fresh over_chain drawn_from actor_fits resource_fits distinct public_read contains covering first_of reach_of has_right has_rights bars_machine chain circling root_granted same components climbing trimmed starting contained reached
holders = (refl, refl, refl, refl, refl, refl, refl, refl, refl)

-- of machine 2 its owner is told beside it; of what the gate stops, nothing
answers : (why_use case_r 2 (reads 10) 1999 ≡ record { outcome = Ok tt; reason = told 1 (2 ∷ 1 ∷ []) 1 0; owner = 1; owner_reason = told 1 (1 ∷ []) 1 0 })
    × (why_use case_r 1 (reads 10) 1999 ≡ record { outcome = Ok tt; reason = told 1 (1 ∷ []) 1 0; owner = 0; owner_reason = told 0 [] 0 0 })
    × (why_use case_r 3 (reads 10) 1999 ≡ record { outcome = Err Absent; reason = told 0 [] 0 0; owner = 0; owner_reason = told 0 [] 0 0 })
    × (why_use case_r 2 (record { resource = 10; right = 17 }) 1999 ≡ record { outcome = Err Range; reason = told 0 [] 0 0; owner = 0; owner_reason = told 0 [] 0 0 })
unfolding why_use gate_tests action_tests action_fits reason_of outcome_of dropping sound within_limits sound_actors sound_resources sound_claims acceptable alone over claim_fits names_stand root_kept machine_may drawn fresh over_chain drawn_from actor_fits resource_fits distinct public_read contains covering first_of reach_of has_right has_rights bars_machine chain circling root_granted same components climbing trimmed starting contained reached
answers = (refl, refl, refl, refl)
