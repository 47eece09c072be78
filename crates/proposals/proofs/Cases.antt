-- The planner and the check on case R, actor 2 at the moment 1,999: WRITE with signer 1, a root; WRITE with signer 2, 26; READ, no grant; what is out of
-- range; proposals that the check takes and refuses. On a register of version 2: a claim below another's. A path with `..`. All by computing. Assumes
-- nothing.
use Rattle.std.proofs.Common.{Ok, ◌≡◌, refl, ◌∷◌, ◌++◌, ℕ, replicate}
use Rattle.lists.specs.Bytes.{bytes}
use Rattle.lists.specs.Lists.{dropping, distinct, same}
use Rattle.rights.specs.Rights.{has_right, has_rights, bars_machine}
use Rattle.paths.specs.Containment.{components, climbing, trimmed, starting, contained}
use Rattle.register.specs.Register.{no_actor, no_resource, no_claim}
use Rattle.register.specs.Chain.{chain, root_granted, circling}
use Rattle.register.specs.declared.Claim.{Claim}
use Rattle.register.specs.declared.Register.{Register}
use Rattle.soundness_rules.specs.Sound.{actor_fits, resource_fits, claim_fits, names_stand, root_kept, drawn_from, machine_may, over_chain, drawn, fresh, alone, over, acceptable, sound_claims, sound_actors, sound_resources, within_limits, sound}
use Rattle.refusals.specs.Refusals.{outcome_of}
use Rattle.refusals.specs.declared.Refusal.TheVariants.{Range, Absent, NoProposal}
use Rattle.change_rules.specs.Changes.{source_live, parent_tests, world_tests, grant_tests, granted}
use Rattle.actions.specs.Actions.{action_fits}
use Rattle.actions.specs.declared.Usage.{Usage}
use Rattle.gate_rules.specs.Gate.{public_read, contains, covering, covers, is_ownerless, owner_lacks, first_of, flags_set, governed, use_violation, use_violations, violations_of, action_tests, gate_tests, gated}
use Rattle.proposals.specs.Proposals.{asks_fit, ask_tests, permits, of_form, helping, passing, free_from, no_grant, a_grant, proposes, unproposed, proposed, checked}
use Rattle.proposals.specs.declared.Signers.{Signers}
use Rattle.proposals.specs.declared.Checked.TheVariants.{Passes, Fails, Stopped}

abbrev claim : ℕ → ℕ → ℕ → ℕ → ℕ → ℕ → ℕ → ℕ → Claim
claim id parent grantor holder rights weight left expiry =
    record { id = id; parent = parent; grantor = grantor; holder = holder; resource = 10; rights = rights; weight = weight; left = left; expiry = expiry }

case_r : Register
case_r = record {
  actors = record { list = record { id = 1; kind = 1; owner = 0 } ∷ record { id = 2; kind = 2; owner = 1 } ∷ replicate 62 no_actor; count = 2 };
  resources = record {
    list = record { id = 10; public = 0; keeper = 1; len = 6; path = bytes "site/a" ++ replicate 58 0 } ∷ replicate 63 no_resource;
    count = 1;
  };
  claims = record { list = claim 1 0 1 1 19 1000 0 0 ∷ claim 2 1 1 2 1 600 0 2000 ∷ replicate 254 no_claim; count = 2 };
  version = 1;
}

abbrev signer : ℕ → Signers
signer g = record { list = g ∷ replicate 7 0; count = 1 }

abbrev asked : ℕ → Usage
asked right = record { resource = 10; right = right }

-- WRITE for the machine: a root of weight 1,000 by the keeper, which the check takes
write_by_keeper : proposed case_r 2 (asked 1) 1999 (signer 1) ≡ proposes (a_grant (claim 3 0 1 2 2 1000 0 0))
unfolding case_r proposed checked passing ask_tests asks_fit permits of_form helping free_from gated gate_tests action_tests outcome_of action_fits violations_of flags_set dropping is_ownerless governed use_violations use_violation covers covering public_read contains owner_lacks first_of contained climbing components same trimmed starting granted grant_tests world_tests parent_tests source_live sound within_limits sound_actors sound_resources sound_claims acceptable alone over fresh drawn over_chain machine_may drawn_from root_kept names_stand claim_fits resource_fits actor_fits distinct chain circling root_granted has_right has_rights bars_machine
write_by_keeper = refl

-- nothing by the machine itself
write_by_itself : proposed case_r 2 (asked 1) 1999 (signer 2) ≡ unproposed NoProposal
unfolding case_r proposed checked passing ask_tests asks_fit permits of_form helping free_from gated gate_tests action_tests outcome_of action_fits violations_of flags_set dropping is_ownerless governed use_violations use_violation covers covering public_read contains owner_lacks first_of contained climbing components same trimmed starting granted grant_tests world_tests parent_tests source_live sound within_limits sound_actors sound_resources sound_claims acceptable alone over fresh drawn over_chain machine_may drawn_from root_kept names_stand claim_fits resource_fits actor_fits distinct chain circling root_granted has_right has_rights bars_machine
write_by_itself = refl

-- READ it may already
read_already : proposed case_r 2 (asked 0) 1999 (signer 2) ≡ proposes no_grant
unfolding case_r proposed checked passing ask_tests asks_fit permits of_form helping free_from gated gate_tests action_tests outcome_of action_fits violations_of flags_set dropping is_ownerless governed use_violations use_violation covers covering public_read contains owner_lacks first_of contained climbing components same trimmed starting granted grant_tests world_tests parent_tests source_live sound within_limits sound_actors sound_resources sound_claims acceptable alone over fresh drawn over_chain machine_may drawn_from root_kept names_stand claim_fits resource_fits actor_fits distinct chain circling root_granted has_right has_rights bars_machine
read_already = refl

-- an actor out of range does not stand, a right out of range is out of range, and so are nine signers
out_of_range : (proposed case_r 65536 (asked 0) 1999 (signer 2) ≡ unproposed Absent) × (proposed case_r 2 (asked 17) 1999 (signer 2) ≡ unproposed Range)
    × (checked case_r 2 (asked 0) 1999 (record { list = replicate 8 2; count = 9 }) no_grant ≡ Stopped Range)
unfolding case_r proposed checked passing ask_tests asks_fit permits of_form helping free_from gated gate_tests action_tests outcome_of action_fits violations_of flags_set dropping is_ownerless governed use_violations use_violation covers covering public_read contains owner_lacks first_of contained climbing components same trimmed starting granted grant_tests world_tests parent_tests source_live sound within_limits sound_actors sound_resources sound_claims acceptable alone over fresh drawn over_chain machine_may drawn_from root_kept names_stand claim_fits resource_fits actor_fits distinct chain circling root_granted has_right has_rights bars_machine
out_of_range = (refl, refl, refl)

-- A dead grant passes where the use is permitted already, and not elsewhere. A kind that is neither never does, nor does a grant by one who is not
-- among the signers, or stands past their count.
told : (checked case_r 2 (asked 0) 1999 (signer 1) (a_grant (claim 9 0 1 2 1 0 0 0)) ≡ Passes)
    × (checked case_r 2 (asked 1) 1999 (signer 1) (a_grant (claim 9 0 1 2 2 0 0 0)) ≡ Fails)
    × (checked case_r 2 (asked 0) 1999 (signer 1) (record { kind = 0; claim = no_claim }) ≡ Fails)
    × (checked case_r 2 (asked 1) 1999 (signer 1) (a_grant (claim 9 0 1 2 2 500 0 0)) ≡ Passes)
    × (checked case_r 2 (asked 1) 1999 (signer 2) (a_grant (claim 9 0 1 2 2 500 0 0)) ≡ Fails)
    × (checked case_r 2 (asked 1) 1999 (record { list = 2 ∷ 1 ∷ replicate 6 0; count = 1 }) (a_grant (claim 9 0 1 2 2 500 0 0)) ≡ Fails)
unfolding case_r proposed checked passing ask_tests asks_fit permits of_form helping free_from gated gate_tests action_tests outcome_of action_fits violations_of flags_set dropping is_ownerless governed use_violations use_violation covers covering public_read contains owner_lacks first_of contained climbing components same trimmed starting granted grant_tests world_tests parent_tests source_live sound within_limits sound_actors sound_resources sound_claims acceptable alone over fresh drawn over_chain machine_may drawn_from root_kept names_stand claim_fits resource_fits actor_fits distinct chain circling root_granted has_right has_rights bars_machine
told = (refl, refl, refl, refl, refl, refl)

-- In version 2 a third actor holds a claim of weight 700. Where it may pass through one more hand, one of that weight is drawn below it, which may pass
-- through none; where it may pass through none, there is nothing to propose.
lent : ℕ → Register
lent left = record {
  actors = record {
    list = record { id = 1; kind = 1; owner = 0 } ∷ record { id = 2; kind = 2; owner = 1 } ∷ record { id = 3; kind = 1; owner = 0 } ∷ replicate 61 no_actor;
    count = 3;
  };
  resources = case_r.resources;
  claims = record { list = claim 1 0 1 1 19 1000 0 0 ∷ claim 3 0 1 3 19 700 left 0 ∷ replicate 254 no_claim; count = 2 };
  version = 2;
}

below_told : (proposed (lent 1) 2 (asked 1) 1999 (signer 3) ≡ proposes (a_grant (claim 2 3 3 2 2 700 0 0)))
    × (proposed (lent 0) 2 (asked 1) 1999 (signer 3) ≡ unproposed NoProposal)
unfolding lent case_r proposed checked passing ask_tests asks_fit permits of_form helping free_from gated gate_tests action_tests outcome_of action_fits violations_of flags_set dropping is_ownerless governed use_violations use_violation covers covering public_read contains owner_lacks first_of contained climbing components same trimmed starting granted grant_tests world_tests parent_tests source_live sound within_limits sound_actors sound_resources sound_claims acceptable alone over fresh drawn over_chain machine_may drawn_from root_kept names_stand claim_fits resource_fits actor_fits distinct chain circling root_granted has_right has_rights bars_machine
below_told = (refl, refl)

-- on a path with `..` the keeper's root to itself is accepted and helps nothing, so nothing is proposed
dotted : Register
dotted = record {
  actors = case_r.actors;
  resources = record {
    list = record { id = 10; public = 0; keeper = 1; len = 6; path = bytes "a/../b" ++ replicate 58 0 } ∷ replicate 63 no_resource;
    count = 1;
  };
  claims = case_r.claims;
  version = 1;
}

dotted_told : ((granted dotted (claim 3 0 1 1 2 1000 0 0) 1999).outcome ≡ Ok tt) × (proposed dotted 1 (asked 1) 1999 (signer 1) ≡ unproposed NoProposal)
unfolding dotted case_r proposed checked passing ask_tests asks_fit permits of_form helping free_from gated gate_tests action_tests outcome_of action_fits violations_of flags_set dropping is_ownerless governed use_violations use_violation covers covering public_read contains owner_lacks first_of contained climbing components same trimmed starting granted grant_tests world_tests parent_tests source_live sound within_limits sound_actors sound_resources sound_claims acceptable alone over fresh drawn over_chain machine_may drawn_from root_kept names_stand claim_fits resource_fits actor_fits distinct chain circling root_granted has_right has_rights bars_machine
dotted_told = (refl, refl)
