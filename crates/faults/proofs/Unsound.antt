-- The first fault of a register: there is none exactly where the register is sound; what it names is broken, and what comes before it is not. Assumes
-- nothing.
use Rattle.std.proofs.Common.{Err, ◌≡◌, refl, ap, sym, ◌∙◌, Bool, true, false, List, [], ◌∷◌, ◌++◌, append-nil, ℕ, suc, ◌+◌, ◌≤◌, ◌<◌, arith, ne_eqb, eqb, length, take, length-append, length-take, take-take}
use lib.Seq.{take-append_seam, take-append-add}
use Rattle.lists.specs.Tests.{cases, clash, and_left}
use Rattle.lists.specs.Lists.{All}
use Rattle.lists.specs.Each.{cons_clash}
use Rattle.register.specs.Limits.{version_one, version_two, ranged}
use Rattle.register.specs.Register.{actors_of, resources_of, claims_of}
use Rattle.register.specs.Chain.{latest}
use Rattle.register.specs.declared.Claim.{Claim}
use Rattle.register.specs.declared.Register.{Register}
use Rattle.soundness_rules.specs.Sound.{sound_claims, sound, acceptable}
use Rattle.soundness_rules.proofs.Registers.{Within, within_limits_in, sound_actors_in, sound_out, sound_in}
use Rattle.soundness_rules.proofs.Places.{append_sound, take_sound}
use Rattle.refusals.specs.Refusals.{Test, outcome_of, number_of}
use Rattle.refusals.proofs.Laws.{number_bounds, outcome_clash}
use Rattle.refusals.specs.declared.Refusal.{Refusal}
use Rattle.change_rules.specs.Changes.{world_in}
use Rattle.faults.specs.Faults.{Broken, broken_in, each_passes, actor_tests, resource_tests, claim_tests, FirstFault, no_fault, bad_version, many_actors, many_resources, many_claims, of_actor, of_resource, of_claim, broken_actors, broken_resources, broken_claims, first_fault, fault_numbers, fault_of, actor_rule, resource_rule, claim_rule, first_claims, BrokenThere, Breaks, WholeBefore}
use Rattle.faults.proofs.Faulting.{every_accepted, refused_of, BrokenFound, in_cases, in_none}
use Rattle.faults.proofs.Records.{actor_breaks, resource_breaks}
use Rattle.faults.proofs.Claiming.{claim_asks, claim_breaks}
use Rattle.faults.proofs.Telling.{none_passing, people, actors_in_lem, actors_out, resources_in, resources_out, claims_in_lem, claims_out, fault_elim, first_claims_in}

abbrev is_none : FirstFault → Bool
is_none no_fault = true
is_none bad_version = false
is_none many_actors = false
is_none many_resources = false
is_none many_claims = false
is_none (of_actor b) = false
is_none (of_resource b) = false
is_none (of_claim b) = false

-- the record that is told stands at its place, broken
broken_there : {A : Type 0} (tests : List A → A → List Test) (rule : Refusal → List A → A → Bool)
    → ((earlier : List A) (a : A) → All (λ t. t.passed ≡ false → rule t.refusal earlier a ≡ false) (tests earlier a))
    → (cs : List A) (b : Broken A) → broken_in tests 0 [] cs ≡ b ∷ [] → BrokenThere tests rule cs b
broken_there {A} tests rule breaks cs b told =
    in_cases tests 0 [] cs (λ none passes. cons_clash (sym told ∙ none))
    (λ d by found. let same : d ≡ b = cc (sym by ∙ told) in rw (← same) (there d found))
  where
    there : (d : Broken A) → BrokenFound tests 0 [] cs d → BrokenThere tests rule cs d
    there d found =
        let place : d.place ≡ length found.before = omega (arith, found.place) in
        let first : take d.place cs ≡ found.before = rw (place, found.split) (take-append_seam found.before (d.what ∷ found.after)) in
        let fails : outcome_of (tests (latest found.before) d.what) ≡ Err d.why = rw (append-nil (latest found.before)) at found.fails in
        record {
          after = found.after;
          split = rw first found.split;
          inside = rw first (sym place);
          fails = rw first fails;
          breaks = rw first (refused_of (λ why. rule why (latest found.before) d.what ≡ false) (tests (latest found.before) d.what)
              (breaks (latest found.before) d.what) d.why fails);
          passed = rw first found.passed;
        }

told_clash : {A B : Type 0} (tests : List A → A → List Test) (cs : List A) (b : Broken A) → broken_in tests 0 [] cs ≡ b ∷ [] → each_passes tests [] cs ≡ true → B
told_clash tests cs b told h = cons_clash (sym told ∙ in_none tests 0 [] cs h)

module _ (r : Register) where
  -- where nothing is told, all is as it should be
  none_sound : ranged version_one version_two r.version ≡ true → Within r → broken_actors r ≡ [] → broken_resources r ≡ [] → broken_claims r ≡ [] → sound r ≡ true
  none_sound versioned within a o c = sound_in r record {
    version = versioned;
    limits = within;
    actors = actors_in_lem r (none_passing (actor_tests (people r)) (actors_of r.actors) a);
    resources = resources_in r (none_passing (resource_tests (people r)) (resources_of r.resources) o);
    claims = claims_in_lem r (claims_of r.claims) (none_passing (claim_tests (world_in r)) (claims_of r.claims) c);
  }

  unsound_when : (sound r ≡ true → false ≡ true) → false ≡ sound r
  unsound_when h = cases (sound r) (λ e. clash false (h e) refl) (λ e. sym e)

  -- no fault exactly where the register is sound
  none_told : is_none (first_fault r) ≡ sound r
  none_told =
      fault_elim r (λ f. is_none f ≡ sound r)
      (λ versioned within a o c. sym (none_sound versioned within a o c))
      (λ other. unsound_when (λ h. clash (ranged version_one version_two r.version) (sound_out r h).version other))
      (λ versioned many. unsound_when (λ h. absurd (omega (arith, many, (sound_out r h).limits.actor_count))))
      (λ versioned few many. unsound_when (λ h. absurd (omega (arith, many, (sound_out r h).limits.resource_count))))
      (λ versioned few fewer many. unsound_when (λ h. absurd (omega (arith, many, (sound_out r h).limits.claim_count))))
      (λ b versioned within told. unsound_when (λ h. told_clash (actor_tests (people r)) (actors_of r.actors) b told (actors_out r (sound_out r h).actors)))
      (λ b versioned within a told. unsound_when (λ h. told_clash (resource_tests (people r)) (resources_of r.resources) b told (resources_out r (sound_out r h).resources)))
      (λ b versioned within a o told. unsound_when (λ h. told_clash (claim_tests (world_in r)) (claims_of r.claims) b told (claims_out r (claims_of r.claims) (sound_out r h).claims)))

  -- the record that is told is broken
  pub unsound_broken : Breaks r (first_fault r)
  unsound_broken =
      fault_elim r (λ f. Breaks r f) none_sound (λ other. other) (λ versioned many. many) (λ versioned few many. many) (λ versioned few fewer many. many)
      (λ b versioned within told. broken_there (actor_tests (people r)) (actor_rule (people r)) (actor_breaks (people r)) (actors_of r.actors) b told)
      (λ b versioned within a told. broken_there (resource_tests (people r)) (resource_rule (people r)) (resource_breaks (people r)) (resources_of r.resources) b told)
      (λ b versioned within a o told. broken_there (claim_tests (world_in r)) (claim_rule (world_in r)) (claim_breaks (world_in r)) (claims_of r.claims) b told)

  -- a claim behind sound ones that fails a test is not sound with them
  failing_unsound : (cs : List Claim) (c : Claim) (why : Refusal) → outcome_of (claim_tests (world_in r) (latest cs) c) ≡ Err why
      → sound_claims (world_in r) (latest (cs ++ (c ∷ []))) ≡ true → ⊥
  failing_unsound cs c why fails h =
      let fine : acceptable (world_in r) (latest cs) c ≡ true =
      and_left (acceptable (world_in r) (latest cs) c) (sound_claims (world_in r) (latest cs)) (sym (append_sound (world_in r) cs c) ∙ h) in
      outcome_clash (sym fails ∙ every_accepted (claim_tests (world_in r) (latest cs) c) (claim_asks (world_in r) (latest cs) c ∙ fine))

  claim_precedes : (b : Broken Claim) → ranged version_one version_two r.version ≡ true → Within r → broken_actors r ≡ [] → broken_resources r ≡ [] → broken_claims r ≡ b ∷ [] → WholeBefore r (of_claim b)
  claim_precedes b versioned within a o told =
      let cs : List Claim = claims_of r.claims in
      let there = broken_there (claim_tests (world_in r)) (claim_rule (world_in r)) (claim_breaks (world_in r)) cs b told in
      let whole : length cs ≡ length (take b.place cs) + length (b.what ∷ there.after) =
      ap length there.split ∙ length-append (take b.place cs) (b.what ∷ there.after) in
      let room : b.place < r.claims.count = omega (arith, whole, there.inside, length-take r.claims.count r.claims.list) in
      let shorter : take b.place cs ≡ take b.place r.claims.list = take-take b.place r.claims.count r.claims.list (omega (arith, room)) in
      let longer : take (suc b.place) r.claims.list ≡ take b.place cs ++ (b.what ∷ []) =
      sym (take-take (suc b.place) r.claims.count r.claims.list room) ∙ next (take b.place cs) b.what there.after b.place cs there.inside there.split in (
        first_claims_in r b.place versioned within (omega (arith, room, within.claim_count))
            (actors_in_lem r (none_passing (actor_tests (people r)) (actors_of r.actors) a))
            (resources_in r (none_passing (resource_tests (people r)) (resources_of r.resources) o))
            (rw shorter at (claims_in_lem r (take b.place cs) there.passed)),
        cases (sound (first_claims r (suc b.place)))
            (λ e. absurd (failing_unsound (take b.place cs) b.what b.why there.fails (rw longer at (sound_out (first_claims r (suc b.place)) e).claims)))
            (λ e. e),
      )
    where
      next : (K : List Claim) (c : Claim) (after : List Claim) (n : ℕ) (cs : List Claim) → length K ≡ n → cs ≡ K ++ c ∷ after → take (suc n) cs ≡ K ++ (c ∷ [])
      next K c after n cs e split =
          let count : suc n ≡ length K + 1 = omega (arith, e) in
          rw (split, count) (take-append-add K (c ∷ after) 1)

  -- what comes before the fault is as it should be
  pub unsound_first : WholeBefore r (first_fault r)
  unsound_first =
      fault_elim r (λ f. WholeBefore r f) none_sound (λ other. tt) (λ versioned many. versioned) (λ versioned few many. (versioned, few))
      (λ versioned few fewer many. (versioned, few, fewer))
      (λ b versioned within told. (versioned, within_limits_in r within))
      (λ b versioned within a told. (
        versioned,
        within_limits_in r within,
        sound_actors_in (actors_of r.actors) (actors_in_lem r (none_passing (actor_tests (people r)) (actors_of r.actors) a)),
      ))
      claim_precedes

  -- with fewer claims it stays sound
  pub sound_fewer : (m n : ℕ) → m ≤ n → sound (first_claims r n) ≡ true → sound (first_claims r m) ≡ true
  sound_fewer m n fewer h =
      let told = sound_out (first_claims r n) h in
      sound_in (first_claims r m) record {
        version = told.version;
        limits = record { actor_count = told.limits.actor_count; resource_count = told.limits.resource_count; claim_count = omega (arith, fewer, told.limits.claim_count) };
        actors = told.actors;
        resources = told.resources;
        claims = rw (take-take m n r.claims.list fewer) at (take_sound (world_in r) m (take n r.claims.list) told.claims);
      }

-- a fault has a number, and it is not 0
why_some : (why : Refusal) → eqb (number_of why) 0 ≡ false
why_some why = ne_eqb (number_of why) 0 (λ none. absurd (omega (arith, none, (number_bounds why).0)))

number_none : (f : FirstFault) → (eqb (fault_numbers f).why 0 ≡ is_none f) × (eqb (fault_numbers f).sound 1 ≡ is_none f)
number_none no_fault = (refl, refl)
number_none bad_version = (refl, refl)
number_none many_actors = (refl, refl)
number_none many_resources = (refl, refl)
number_none many_claims = (refl, refl)
number_none (of_actor b) = (why_some b.why, refl)
number_none (of_resource b) = (why_some b.why, refl)
number_none (of_claim b) = (why_some b.why, refl)

-- why is 0, and sound is 1, exactly where the register is sound
pub unsound_told : (r : Register) → (eqb (fault_of r).why 0 ≡ sound r) × (eqb (fault_of r).sound 1 ≡ sound r)
unfolding fault_of
unsound_told r = ((number_none (first_fault r)).0 ∙ none_told r, (number_none (first_fault r)).1 ∙ none_told r)
