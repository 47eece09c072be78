-- The nearest claim that an actor holds and that contains the used resource, by columns: for any test that its rights column and its containment tell.
-- Assumes nothing.
use Rattle.std.proofs.Common.{Option, ℕ, None, Some, ◌≡◌, refl, sym, ap, ◌∙◌, Bool, true, not, ◌&&◌, List, map, ◌≤◌, ◌<◌, min, arith, lt-ltb, eqb, ltb, length, get_or, length-take}
use mathlib.Core.Bool.{and-true}
use lib.ListN.{length-map, length-replicate, get_or-map, get_or-replicate}
use Rattle.lists.specs.Tests.{and_right}
use Rattle.lists.specs.Lists.{counted, filter}
use Rattle.lists.specs.Each.{all_imp}
use Rattle.lists.specs.Counts.{counted_first}
use Rattle.lists.specs.Filters.{dropping_same}
use Rattle.rights.specs.Rights.{has_right}
use Rattle.register.specs.Limits.{resource_limit, claim_limit, moment_end}
use Rattle.register.specs.Register.{claims_of, no_claim, Shaped}
use Rattle.register.specs.declared.Claim.{Claim}
use Rattle.register.specs.declared.Register.{Register}
use Rattle.columns.specs.Columns.{resource_id, claimed_of, holder_of}
use Rattle.soundness_rules.specs.Sound.{sound}
use Rattle.soundness_rules.proofs.Registers.{sound_out}
use Rattle.actions.specs.declared.Usage.{Usage}
use Rattle.gate_rules.specs.Gate.{contains, nearest_of}
use Rattle.coverage.specs.Laid.{laid}
use Rattle.coverage.specs.LaidLaws.{part_laid}
use Rattle.coverage.specs.Gathering.{looked_at, held_at, held_places}
use Rattle.coverage.specs.Coverage.{reaching, reach_at, nearest_from, nearest_covering}
use Rattle.coverage.specs.Laws.{containing, nearest_filtered, nearest_same, nearest_any}
use Rattle.lookup.specs.Finding.{asked, places_of, place_number}
use Rattle.lookup.specs.Laws.{tabled_length, places_at}
use Rattle.uses.specs.Sights.{spots_of, spot_for}
use Rattle.uses.specs.Resources.{place_by, spot_by, asked_elsewhere, spot_elsewhere, contains_natural, contained_placed, reach_spot}
use Rattle.uses.specs.Relying.{only_at, nearest_read, claim_standing, claim_places, reach_for, places_within}
use Rattle.reasons.specs.Reasons.{used_reach}
use Rattle.reason_finding.specs.Finding.{always}

-- whether a place is one of the first n
abbrev pub placed_in : ℕ → Option ℕ → Bool
placed_in n (Some j) = ltb j n
placed_in n None = true

-- the place at which the nearest claim that passes a test stands
abbrev pub tested_place : Register → Usage → (Claim → Bool) → Option ℕ
tested_place r u test = nearest_from (λ j. test (claim_standing r j)) (reach_for r u) 0 0 (claim_places r)

pub tested_read : (r : Register) (u : Usage) (test : Claim → Bool)
    → nearest_of test (used_reach r u) (claims_of r.claims) ≡ only_at (claim_standing r) (tested_place r u test)
tested_read r u test =
    sym (ap (nearest_of test (used_reach r u)) (counted_first no_claim r.claims.list r.claims.count))
    ∙ nearest_read (claim_standing r) test (used_reach r u) (claim_places r)

-- it is that of a claim
pub tested_inside : (r : Register) (u : Usage) (test : Claim → Bool) → placed_in (length (claims_of r.claims)) (tested_place r u test) ≡ true
tested_inside r u test =
    nearest_any (reach_for r u) (λ p. placed_in (length (claims_of r.claims)) p ≡ true) (λ j. test (claim_standing r j)) 0 0 (claim_places r) refl
    (all_imp (λ j. j < length (claims_of r.claims)) (λ j. ltb j (length (claims_of r.claims)) ≡ true)
    (λ j inside. lt-ltb j (length (claims_of r.claims)) inside) (claim_places r) (places_within r))

-- where the claims' resources stand
module _ (r : Register) (shaped : Shaped r) (j : ℕ) (inside : j < length (claims_of r.claims)) where
  all_asked : j < asked r.claims.count (map claimed_of r.claims.list)
  all_asked = omega (arith, shaped.claims, length-take r.claims.count r.claims.list, length-map r.claims.list claimed_of)

  spot_there : j < length (spots_of r)
  unfolding places_of
  spot_there =
      let most : asked r.claims.count (map claimed_of r.claims.list) ≤ claim_limit = omega arith in
      let long : length (spots_of r) ≡ claim_limit = tabled_length _ (asked r.claims.count (map claimed_of r.claims.list)) most in
      omega (arith, all_asked)

  pub spot_natural : sound r ≡ true → get_or (spots_of r) j 0 ≡ place_number claim_limit (place_by r (claim_standing r j).resource)
  spot_natural h =
      let few : min r.resources.count claim_limit ≡ r.resources.count = omega (arith, (sound_out r h).limits.resource_count) in
      places_at (map resource_id r.resources.list) r.resources.count (map claimed_of r.claims.list) r.claims.count j 0 all_asked
      ∙ rw (few, get_or-map claimed_of r.claims.list j no_claim)

-- all claims that x holds are gathered, where no end comes
module _ (r : Register) (shaped : Shaped r) (moment x : ℕ) (timely : ltb moment moment_end ≡ true) where
  all_looked : looked_at (map holder_of r.claims.list) always r.claims.count ≡ length (claims_of r.claims)
  unfolding looked_at
  all_looked =
      let ends : length always ≡ claim_limit = length-replicate {A = ℕ} claim_limit moment_end in
      rw (length-map r.claims.list holder_of, shaped.claims, ends, length-take r.claims.count r.claims.list) (omega arith)

  pub held_always : held_places (map holder_of r.claims.list) always r.claims.count x moment
      ≡ filter (λ j. eqb (claim_standing r j).holder x) (claim_places r)
  held_always =
      ap (λ n. filter (λ j. held_at (map holder_of r.claims.list) always x moment j) (counted 0 n)) all_looked
      ∙ dropping_same (λ M j. not (held_at (map holder_of r.claims.list) always x moment j)) (λ M j. not (eqb (claim_standing r j).holder x)) (claim_places r)
      (all_imp (λ j. j < length (claims_of r.claims))
      (λ j. not (held_at (map holder_of r.claims.list) always x moment j) ≡ not (eqb (claim_standing r j).holder x))
      (λ j inside. let within : j < claim_limit = omega (arith, inside, shaped.claims, length-take r.claims.count r.claims.list) in
      let same : held_at (map holder_of r.claims.list) always x moment j ≡ eqb (claim_standing r j).holder x =
      rw (get_or-map holder_of r.claims.list j no_claim, get_or-replicate claim_limit j moment_end 0 within, timely) (and-true (eqb (claim_standing r j).holder x)) in
      ap not same) (claim_places r) (places_within r))

module _ (r : Register) (shaped : Shaped r) (h : sound r ≡ true) (u : Usage) where
  abbrev inside_at : ℕ → Bool
  inside_at j = contains r (claim_standing r j).resource u.resource

  -- by its columns the claim at a place contains the used resource
  contains_column : (j : ℕ) → j < length (claims_of r.claims)
      → ltb (get_or (spots_of r) j 0) resource_limit && (ltb (spot_for r u) resource_limit && containing r.resources (get_or (spots_of r) j 0) (spot_for r u)) ≡ inside_at j
  contains_column j inside =
      ap (λ s. ltb s resource_limit && (ltb (spot_for r u) resource_limit && containing r.resources s (spot_for r u))) (spot_natural r shaped j inside h)
      ∙ asked_elsewhere claim_limit (omega arith) (λ s. ltb (spot_for r u) resource_limit && containing r.resources s (spot_for r u))
      (place_by r (claim_standing r j).resource)
      ∙ sym (contains_natural r h (claim_standing r j).resource u.resource)

  -- it reaches where it has the right, by a column of rights, and contains the used resource
  reaching_column : (rights : List ℕ) (j : ℕ) → j < length (claims_of r.claims)
      → reaching rights (spots_of r) (laid r.resources).bytes (laid r.resources).lens u.right (spot_for r u) j
      ≡ has_right (get_or rights j 0) u.right && inside_at j
  reaching_column rights j inside =
      rw (
        part_laid r.resources shaped.paths (get_or (spots_of r) j 0),
        part_laid r.resources shaped.paths (spot_for r u),
        lt-ltb j (length (spots_of r)) (spot_there r shaped j inside),
      )
      (ap (λ b. has_right (get_or rights j 0) u.right && b) (contains_column j inside))

  -- and then it reaches as far as its resource does to the used one
  reach_column : (j : ℕ) → j < length (claims_of r.claims) → inside_at j ≡ true
      → reach_at (spots_of r) (laid r.resources).bytes (laid r.resources).lens (spot_for r u) j ≡ reach_for r u j
  reach_column j inside held =
      let spot : get_or (spots_of r) j 0 ≡ spot_by r (claim_standing r j).resource =
      spot_natural r shaped j inside h ∙ spot_elsewhere claim_limit (place_by r (claim_standing r j).resource) (contained_placed r h (claim_standing r j).resource u.resource held) in
      rw (part_laid r.resources shaped.paths (get_or (spots_of r) j 0), part_laid r.resources shaped.paths (spot_for r u), spot)
      (sym (reach_spot r h (claim_standing r j).resource u.resource held))

  -- the nearest of all that x holds, for a test that the holder, the column of rights and the containment tell
  module _ (moment x : ℕ) (timely : ltb moment moment_end ≡ true) (rights : List ℕ) (test : Claim → Bool)
      (tells : (j : ℕ) → j < length (claims_of r.claims)
      → eqb (claim_standing r j).holder x && (has_right (get_or rights j 0) u.right && inside_at j) ≡ test (claim_standing r j)) where
    pub held_nearest : nearest_covering (held_places (map holder_of r.claims.list) always r.claims.count x moment) rights (spots_of r)
        (laid r.resources).bytes (laid r.resources).lens u.right (spot_for r u) ≡ tested_place r u test
    held_nearest =
        let reaches : ℕ → Bool = reaching rights (spots_of r) (laid r.resources).bytes (laid r.resources).lens u.right (spot_for r u) in
        let reach : ℕ → ℕ = reach_at (spots_of r) (laid r.resources).bytes (laid r.resources).lens (spot_for r u) in
        ap (nearest_from reaches reach 0 0) (held_always r shaped moment x timely)
        ∙ nearest_filtered reach reaches (λ j. eqb (claim_standing r j).holder x) 0 0 (claim_places r)
        ∙ nearest_same reach (λ j. eqb (claim_standing r j).holder x && reaches j) (λ j. test (claim_standing r j)) (reach_for r u) 0 0 (claim_places r)
        (all_imp (λ j. j < length (claims_of r.claims))
        (λ j. (eqb (claim_standing r j).holder x && reaches j ≡ test (claim_standing r j)) × (test (claim_standing r j) ≡ true → reach j ≡ reach_for r u j))
        (λ j inside. (
          ap (λ b. eqb (claim_standing r j).holder x && b) (reaching_column rights j inside) ∙ tells j inside,
          λ passes. reach_column j inside (and_right (has_right (get_or rights j 0) u.right) (inside_at j)
              (and_right (eqb (claim_standing r j).holder x) (has_right (get_or rights j 0) u.right && inside_at j) (tells j inside ∙ passes))),
        ))
        (claim_places r) (places_within r))
