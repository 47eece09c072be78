-- Two small registers that look alike to a machine and differ in all that it does not see, and a third that does not look alike: what it is
-- answered in each. By computing, but for what the theorem gives. Assumes nothing.
use Rattle.std.proofs.Common.{◌≡◌, refl, ap, sym, ◌∙◌, true, false, List, [], ◌∷◌, map, inl, inr, ℕ, arith, replicate}
use Rattle.lists.specs.Lists.{dropping, distinct, same}
use Rattle.rights.specs.Rights.{has_right, has_rights, bars_machine}
use Rattle.paths.specs.Containment.{components, climbing, trimmed, starting, contained, reached}
use Rattle.register.specs.Register.{no_actor, no_resource, no_claim}
use Rattle.register.specs.Chain.{chain, root_granted, circling}
use Rattle.register.specs.declared.Actor.{Actor}
use Rattle.register.specs.declared.Resource.{Resource}
use Rattle.register.specs.declared.Claim.{Claim}
use Rattle.register.specs.declared.Register.{Register}
use Rattle.soundness_rules.specs.Sound.{actor_fits, resource_fits, claim_fits, names_stand, root_kept, drawn_from, machine_may, over_chain, drawn, fresh, alone, over, acceptable, sound_claims, sound_actors, sound_resources, within_limits, sound}
use Rattle.refusals.specs.Refusals.{outcome_of}
use Rattle.actions.specs.Actions.{kind_of, value_of, no_use, action_fits}
use Rattle.actions.specs.declared.Usage.{Usage}
use Rattle.actions.specs.declared.Action.{Action}
use Rattle.gate_rules.specs.Gate.{public_read, contains, covering, covers, is_ownerless, owner_lacks, first_of, reach_of, flags_set, governed, use_violation, use_violations, violations_of, hops_for, hop_counts, action_tests, gate_tests, gated}
use Rattle.guesses.specs.Alike.{seen, hidden, LooksAlike}
use Rattle.guesses.proofs.Theorems.{guess_blind}

abbrev actor : ℕ → ℕ → ℕ → Actor
actor id kind owner = record { id = id; kind = kind; owner = owner }

-- a resource whose path is one byte
abbrev resource : ℕ → ℕ → ℕ → ℕ → Resource
resource id public keeper byte = record { id = id; public = public; keeper = keeper; len = 1; path = byte ∷ replicate 63 0 }

abbrev claim : ℕ → ℕ → ℕ → ℕ → ℕ → ℕ → ℕ → Claim
claim id parent grantor holder on rights weight =
    record { id = id; parent = parent; grantor = grantor; holder = holder; resource = on; rights = rights; weight = weight; left = 0; expiry = 0 }

-- a human with `s`, her machine, which has READ of it from her, and another human with a claim on `x`, the resource 20
near : Register
near = record {
  actors = record { list = actor 1 1 0 ∷ actor 2 2 1 ∷ actor 3 1 0 ∷ replicate 61 no_actor; count = 3 };
  resources = record { list = resource 10 0 1 115 ∷ resource 20 0 3 120 ∷ replicate 62 no_resource; count = 2 };
  claims = record { list = claim 7 0 1 1 10 17 600 ∷ claim 8 7 1 2 10 1 500 ∷ claim 9 0 3 3 20 1 600 ∷ replicate 253 no_claim; count = 3 };
  version = 1;
}

-- the same of the two, with other ids and weights of their claims; others stand, in another order; 20 is absent, and 30 is there, with a claim on it
far : Register
far = record {
  actors = record { list = actor 5 2 0 ∷ actor 4 1 0 ∷ actor 2 2 1 ∷ actor 1 1 0 ∷ replicate 60 no_actor; count = 4 };
  resources = record { list = resource 30 0 4 122 ∷ resource 10 0 1 115 ∷ replicate 62 no_resource; count = 2 };
  claims = record { list = claim 1 0 4 4 30 17 600 ∷ claim 2 0 1 1 10 17 900 ∷ claim 3 1 4 5 30 1 600 ∷ claim 4 2 1 2 10 1 800 ∷ replicate 252 no_claim; count = 4 };
  version = 1;
}

-- the first, but that 20 is public
open_near : Register
open_near = record {
  actors = near.actors;
  resources = record { list = resource 10 0 1 115 ∷ resource 20 1 3 120 ∷ replicate 62 no_resource; count = 2 };
  claims = near.claims;
  version = 1;
}

abbrev reads : ℕ → Usage
reads n = record { resource = n; right = 0 }

-- the machine reads 10, 20 and 30
asked : Action
asked = record {
  actor = 2;
  flags = 0;
  now = 1999;
  uses = reads 10 ∷ reads 20 ∷ reads 30 ∷ replicate 29 no_use;
  used = 3;
  governs = replicate 8 0;
  governed = 0;
}

near_sound : sound near ≡ true
unfolding near sound within_limits sound_actors sound_resources sound_claims acceptable alone over fresh drawn over_chain machine_may drawn_from root_kept names_stand claim_fits resource_fits actor_fits distinct chain circling root_granted has_right has_rights bars_machine
near_sound = refl

far_sound : sound far ≡ true
unfolding far sound within_limits sound_actors sound_resources sound_claims acceptable alone over fresh drawn over_chain machine_may drawn_from root_kept names_stand claim_fits resource_fits actor_fits distinct chain circling root_granted has_right has_rights bars_machine
far_sound = refl

-- what the machine sees of the claims: its owner's and its own
near_seen : seen near 1999 2
    ≡ record { holder = 1; resource = 10; rights = 17; hops = 0; lives = true; path = 115 ∷ [] }
    ∷ record { holder = 2; resource = 10; rights = 1; hops = 1; lives = true; path = 115 ∷ [] } ∷ []
unfolding near first_of dropping chain
near_seen = refl

-- what is hidden from it: what is absent, and what is neither public nor inside; and not from the one whose claim it is
near_hidden : map (hidden near 2) (10 ∷ 20 ∷ 30 ∷ []) ≡ false ∷ true ∷ true ∷ []
unfolding near hidden first_of dropping contains contained climbing components trimmed starting same
near_hidden = refl

stranger_hidden : map (hidden near 3) (10 ∷ 20 ∷ 30 ∷ []) ≡ true ∷ false ∷ true ∷ []
unfolding near hidden first_of dropping contains contained climbing components trimmed starting same
stranger_hidden = refl

open_hidden : map (hidden open_near 2) (10 ∷ 20 ∷ 30 ∷ []) ≡ false ∷ false ∷ true ∷ []
unfolding near open_near hidden first_of dropping contains contained climbing components trimmed starting same
open_hidden = refl

-- the first two look alike
near_far : LooksAlike near far asked
unfolding near far asked hidden first_of dropping chain contains contained climbing components trimmed starting same
near_far = record {
  first_sound = near_sound;
  second_sound = far_sound;
  version = refl;
  actors = refl;
  owners = refl;
  claims = refl;
  uses = (inl refl, (inr (refl, refl), (inr (refl, refl), tt)));
}

-- and are answered alike, as the theorem says
near_far_gated : gated near asked ≡ gated far asked
near_far_gated = guess_blind near far asked near_far

-- hop counts, then kind and position of each violation
abbrev told : Register → List (List ℕ)
told r = hop_counts r asked ∷ map (λ v. kind_of v ∷ value_of v ∷ []) (violations_of r asked)

near_told : told near ≡ (1 ∷ 0 ∷ 0 ∷ []) ∷ (4 ∷ 1 ∷ []) ∷ (4 ∷ 2 ∷ []) ∷ []
unfolding near asked violations_of flags_set governed use_violations use_violation covers covering contains public_read is_ownerless owner_lacks hops_for first_of reach_of reached contained climbing components trimmed starting same chain dropping has_right
near_told = refl

far_told : told far ≡ (1 ∷ 0 ∷ 0 ∷ []) ∷ (4 ∷ 1 ∷ []) ∷ (4 ∷ 2 ∷ []) ∷ []
unfolding far asked violations_of flags_set governed use_violations use_violation covers covering contains public_read is_ownerless owner_lacks hops_for first_of reach_of reached contained climbing components trimmed starting same chain dropping has_right
far_told = refl

-- the third is answered otherwise: 20 may be read
open_told : told open_near ≡ (1 ∷ 0 ∷ 0 ∷ []) ∷ (4 ∷ 2 ∷ []) ∷ []
unfolding near open_near asked violations_of flags_set governed use_violations use_violation covers covering contains public_read is_ownerless owner_lacks hops_for first_of reach_of reached contained climbing components trimmed starting same chain dropping has_right
open_told = refl

near_count : (gated near asked).violations.count ≡ 2
unfolding near asked gated gate_tests action_tests action_fits outcome_of sound within_limits sound_actors sound_resources sound_claims acceptable alone over fresh drawn over_chain machine_may drawn_from root_kept names_stand claim_fits resource_fits actor_fits distinct circling root_granted has_rights bars_machine violations_of flags_set governed use_violations use_violation covers covering contains public_read is_ownerless owner_lacks contained climbing components trimmed starting same chain dropping has_right
near_count = refl

open_count : (gated open_near asked).violations.count ≡ 1
unfolding near open_near asked gated gate_tests action_tests action_fits outcome_of sound within_limits sound_actors sound_resources sound_claims acceptable alone over fresh drawn over_chain machine_may drawn_from root_kept names_stand claim_fits resource_fits actor_fits distinct circling root_granted has_rights bars_machine violations_of flags_set governed use_violations use_violation covers covering contains public_read is_ownerless owner_lacks contained climbing components trimmed starting same chain dropping has_right
open_count = refl

-- so it does not look alike
near_open : LooksAlike near open_near asked → ⊥
near_open alike =
    let never = sym near_count ∙ ap (λ v. v.violations.count) (guess_blind near open_near asked alike) ∙ open_count in absurd (omega (arith, never))
