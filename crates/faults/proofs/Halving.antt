-- Laws: The first broken claim stands behind the greatest number of claims with which the register is sound. Assumes nothing.
use Rattle.std.proofs.Common.{◌≡◌, true, false, [], ◌∷◌, List, ◌++◌, ℕ, suc, ◌≤◌, ◌<◌, length, take, get_or, drop, Err, ap, sym, ◌∙◌, append-nil, zero-add, arith, length-take, take-append-drop, take-suc, take-take, drop-cons, get_or-take, length-take-le, le-leb}
use Rattle.lists.specs.Tests.{clash}
use Rattle.register.specs.Limits.{claim_limit, actor_limit, resource_limit, version_one, version_two, ranged}
use Rattle.register.specs.Register.{no_claim, actors_of, resources_of, claims_of}
use Rattle.register.specs.Chain.{latest}
use Rattle.register.specs.declared.Claim.{Claim}
use Rattle.register.specs.declared.Register.{Register}
use Rattle.soundness_rules.specs.Sound.{sound}
use Rattle.soundness_rules.proofs.Registers.{Within, sound_out}
use Rattle.soundness_rules.proofs.Places.{append_sound}
use Rattle.refusals.specs.Refusals.{outcome_of}
use Rattle.refusals.proofs.Laws.{outcome_cases}
use Rattle.refusals.specs.declared.Refusal.{Refusal}
use Rattle.change_rules.specs.Changes.{world_in}
use Rattle.faults.specs.Faults.{Broken, claim_tests, of_claim, first_fault, first_claims, broken_in, actor_tests, resource_tests, broken_actors, broken_resources, broken_claims, record_fault}
use Rattle.faults.proofs.Telling.{people, actors_out, resources_out, claims_out, first_claims_in}
use Rattle.faults.proofs.Faulting.{accepted_every, in_none, in_found}
use Rattle.faults.proofs.Claiming.{claim_asks}

module _ (r : Register) where
  -- where all but the claims is as it should be, the fault is that of the first broken claim
  fault_told_lem : ranged version_one version_two r.version ≡ true → Within r → broken_actors r ≡ [] → broken_resources r ≡ [] → (b : Broken Claim) → broken_claims r ≡ b ∷ [] → first_fault r ≡ of_claim b
  unfolding first_fault record_fault
  fault_told_lem versioned within a o b told =
      rw (
        versioned,
        le-leb r.actors.count actor_limit within.actor_count,
        le-leb r.resources.count resource_limit within.resource_count,
        le-leb r.claims.count claim_limit within.claim_count,
        a,
        o,
        told,
      )

  -- where the first n claims are sound and the first n + 1 are not, the fault is that of the claim between
  pub between_found : (n : ℕ) → r.claims.count ≤ claim_limit → n < r.claims.count → n < length r.claims.list
      → sound (first_claims r n) ≡ true → sound (first_claims r (suc n)) ≡ false
      → (why : Refusal) × (outcome_of (claim_tests (world_in r) (latest (take n r.claims.list)) (get_or r.claims.list n no_claim)) ≡ Err why)
      × (first_fault r ≡ of_claim record { why = why; place = n; what = get_or r.claims.list n no_claim })
  between_found n few inside listed low high =
      let cs : List Claim = claims_of r.claims in
      let c : Claim = get_or r.claims.list n no_claim in
      let first : List Claim = take n r.claims.list in
      let told = sound_out (first_claims r n) low in
      let within : Within r = record { actor_count = told.limits.actor_count; resource_count = told.limits.resource_count; claim_count = few } in
      let stands : n < length cs = omega (arith, inside, listed, length-take r.claims.count r.claims.list) in
      let split : cs ≡ first ++ c ∷ drop (suc n) cs =
      sym (take-append-drop n cs)
      ∙ rw (drop-cons cs n no_claim stands, take-take n r.claims.count r.claims.list (omega (arith, inside)), get_or-take r.claims.count r.claims.list n no_claim inside) in
      let size : length first ≡ n = length-take-le n r.claims.list (omega (arith, listed)) in
      let no_actors : broken_actors r ≡ [] = in_none (actor_tests (people r)) 0 [] (actors_of r.actors) (actors_out r told.actors) in
      let no_resources : broken_resources r ≡ [] = in_none (resource_tests (people r)) 0 [] (resources_of r.resources) (resources_out r told.resources) in
      outcome_cases (outcome_of (claim_tests (world_in r) (latest first) c))
      (λ none. clash (sound (first_claims r (suc n)))
      (first_claims_in r (suc n) told.version within (omega (arith, inside, few)) told.actors told.resources
      (rw (
        take-suc r.claims.list n no_claim listed,
        append_sound (world_in r) first c,
        told.claims,
        ← claim_asks (world_in r) (latest first) c,
        accepted_every (claim_tests (world_in r) (latest first) c) none,
      ))) high)
      (λ why fails.
      let at : broken_claims r ≡ record { why = why; place = n; what = c } ∷ [] =
      ap (broken_in (claim_tests (world_in r)) 0 []) split
      ∙ in_found (claim_tests (world_in r)) 0 [] first c (drop (suc n) cs) why (claims_out r first told.claims)
      (rw (append-nil (latest first)) fails)
      ∙ rw (zero-add (length first), size) in (
        why,
        fails,
        fault_told_lem told.version within no_actors no_resources (record { why = why; place = n; what = c }) at,
      ))
