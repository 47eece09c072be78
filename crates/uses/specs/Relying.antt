-- Laws: The claim that a use relies on, by gathered places: the nearest covering claim of the register. Assumes nothing.
use Rattle.std.specs.Prelude.{◌≡◌, Bool, true, false, ◌&&◌, ◌||◌, cond, ℕ, ◌≤◌, ◌<◌, min, suc, eqb, get_or, Option, None, Some, List, [], ◌∷◌, map}
use Rattle.std.proofs.Common.{◌∙◌, zero-add, lt-ltb, ne_eqb, leb-false, length-take, arith}
use Rattle.std.proofs.Math.Path.{refl, sym, ap}
use Rattle.std.proofs.Math.Bool.{and-true, or-true, or-false}
use Rattle.std.proofs.Math.Dec.{ltb, leb}
use Rattle.std.proofs.Math.ListN.{length, get_or-map}
use Rattle.std.proofs.lemmas.List.{length-map}
use Rattle.lists.specs.Tests.{cases}
use Rattle.lists.specs.Lists.{any, All, counted}
use Rattle.lists.specs.Each.{all_imp, any_map}
use Rattle.lists.specs.Counts.{counted_below, counted_first}
use Rattle.rights.specs.Rights.{has_right}
use Rattle.register.specs.Limits.{resource_limit, claim_limit}
use Rattle.register.specs.Register.{claims_of, no_claim, Shaped}
use Rattle.register.specs.Chain.{live, latest}
use Rattle.register.specs.declared.Claim.{Claim}
use Rattle.register.specs.declared.Register.{Register}
use Rattle.columns.specs.Columns.{resource_id, public_of, claimed_of, rights_of}
use Rattle.soundness_rules.specs.Sound.{sound}
use Rattle.soundness_rules.proofs.Registers.{sound_out}
use Rattle.actions.specs.declared.Usage.{Usage}
use Rattle.gate_rules.specs.Gate.{contains, covering, covers, relied, nearest_of, reach_of}
use Rattle.gate_rules.specs.Nearest.{nearer_from, nearest_walked}
use Rattle.gate_rules.proofs.Coverage.{covering_out}
use Rattle.coverage.specs.Laid.{laid}
use Rattle.coverage.specs.LaidLaws.{part_laid}
use Rattle.lookup.specs.Finding.{asked, places_of, place_number}
use Rattle.lookup.specs.Laws.{tabled_length, places_at}
use Rattle.coverage.specs.Gathering.{can_cover, cover_places}
use Rattle.coverage.specs.Coverage.{reaching, reach_at, nearest_from}
use Rattle.coverage.specs.Laws.{containing, reaching_natural, nearest_filtered, nearest_same}
use Rattle.uses.specs.Uses.{covered_by, relied_on, open_to}
use Rattle.uses.specs.Sights.{spots_of, sight_of, spot_for}
use Rattle.uses.specs.Resources.{place_by, spot_by, asked_elsewhere, spot_elsewhere, contains_natural, contained_placed, public_natural, reach_spot}

-- ---- the nearest of a list, and of the places that it is read at

-- what stands at a place, alone in a list, or none
abbrev pub only_at : {A : Type 0} → (ℕ → A) → Option ℕ → List A
only_at f (Some j) = f j ∷ []
only_at f None = []

-- whether there is a place
abbrev pub placed : Option ℕ → Bool
placed (Some j) = true
placed None = false

-- the place taken so far, or none
abbrev taken_place : ℕ → ℕ → Option ℕ
taken_place best bar = cond (eqb bar 0) None (Some best)

later_taken : (j n : ℕ) → taken_place j (suc n) ≡ Some j
later_taken j n = rw (ne_eqb (suc n) 0 (λ none. omega arith))

module _ {A : Type 0} (f : ℕ → A) (p : A → Bool) where
  -- the nearest element that passes a test is the one at the nearest place whose element does
  nearer_read : (n : A → ℕ) (best bar : ℕ) (l : List ℕ)
      → nearer_from p n (only_at f (taken_place best bar)) bar (map f l) ≡ only_at f (nearest_from (λ j. p (f j)) (λ j. n (f j)) best bar l)
  unfolding nearest_from
  nearer_read n best bar [] = refl
  nearer_read n best bar (j ∷ l) =
      cases (p (f j) && leb bar (n (f j)))
      (λ e. rw e (sym (ap (λ one. nearer_from p n (only_at f one) (suc (n (f j))) (map f l)) (later_taken j (n (f j)))) ∙ nearer_read n j (suc (n (f j))) l))
      (λ e. rw e (nearer_read n best bar l))

  pub nearest_read : (n : A → ℕ) (l : List ℕ) → nearest_of p n (map f l) ≡ only_at f (nearest_from (λ j. p (f j)) (λ j. n (f j)) 0 0 l)
  nearest_read n l = nearest_walked p n (map f l) ∙ nearer_read n 0 0 l

-- there is a nearest place where some place passes
nearest_placed : (p : ℕ → Bool) (f : ℕ → ℕ) (best bar : ℕ) (l : List ℕ)
    → placed (nearest_from p f best bar l) ≡ placed (taken_place best bar) || any p l
unfolding nearest_from
nearest_placed p f best bar [] = sym (or-false (placed (taken_place best bar)))
nearest_placed p f best bar (j ∷ l) =
    cases (p j)
    (λ e. cases (leb bar (f j))
    (λ far. rw (e, far) (nearest_placed p f j (suc (f j)) l ∙ rw (later_taken j (f j)) (sym (or-true (placed (taken_place best bar))))))
    (λ near. let some : bar ≡ 0 → ⊥ = λ none. omega (arith, leb-false bar (f j) near) in
    rw (e, near) (nearest_placed p f best bar l ∙ rw (ne_eqb bar 0 some))))
    (λ e. rw e (nearest_placed p f best bar l))

-- ---- covering, claim by claim

-- the tests of a covering claim, as the columns order them and as the gate does
same_tests : (held alive has there claimed used inside covers : Bool) → there ≡ true → covers ≡ claimed && (used && inside)
    → (held && alive) && (has && (there && (claimed && (used && inside)))) ≡ held && (alive && (has && (covers && true)))
same_tests false alive has there claimed used inside covers h k = refl
same_tests true false has there claimed used inside covers h k = refl
same_tests true true false there claimed used inside covers h k = refl
same_tests true true true there claimed used inside covers h k = rw (h, k) (sym (and-true (claimed && (used && inside))))

-- the claim at a place, and the places of the register's claims
abbrev pub claim_standing : Register → ℕ → Claim
claim_standing r j = get_or r.claims.list j no_claim

abbrev pub claim_places : Register → List ℕ
claim_places r = counted 0 (length (claims_of r.claims))

-- the place at which the nearest covering claim stands
abbrev pub reach_for : Register → Usage → ℕ → ℕ
reach_for r u j = reach_of r (claim_standing r j).resource u.resource

abbrev pub nearest_place : Register → ℕ → ℕ → Usage → Option ℕ
nearest_place r moment x u = nearest_from (λ j. covering r moment x u (claim_standing r j)) (reach_for r u) 0 0 (claim_places r)

-- the claims at those places are the register's
claims_read : (r : Register) → map (claim_standing r) (claim_places r) ≡ claims_of r.claims
claims_read r = counted_first no_claim r.claims.list r.claims.count

-- each is that of a claim
pub places_within : (r : Register) → All (λ j. j < length (claims_of r.claims)) (claim_places r)
places_within r = rw (zero-add (length (claims_of r.claims))) at (counted_below 0 (length (claims_of r.claims)))

-- the claim relied on is the one at the nearest place
pub relied_natural : (r : Register) (moment x : ℕ) (u : Usage) → relied r moment x u ≡ only_at (claim_standing r) (nearest_place r moment x u)
relied_natural r moment x u =
    sym (ap (nearest_of (covering r moment x u) (λ c. reach_of r c.resource u.resource)) (claims_read r))
    ∙ nearest_read (claim_standing r) (covering r moment x u) (λ c. reach_of r c.resource u.resource) (claim_places r)

-- some claim covers where there is a nearest place
pub any_covering : (r : Register) (moment x : ℕ) (u : Usage) → any (covering r moment x u) (claims_of r.claims) ≡ placed (nearest_place r moment x u)
any_covering r moment x u =
    sym (ap (any (covering r moment x u)) (claims_read r)) ∙ any_map (claim_standing r) (covering r moment x u) (claim_places r)
    ∙ sym (nearest_placed (λ j. covering r moment x u (claim_standing r j)) (reach_for r u) 0 0 (claim_places r))

either_placed : (b : Bool) (p : Option ℕ) → b || placed p ≡ covered_by b p
either_placed b (Some j) = or-true b
either_placed b None = or-false b

-- where the claims' resources stand
module _ (r : Register) (shaped : Shaped r) (j : ℕ) (inside : j < length (claims_of r.claims)) where
  all_asked : j < asked r.claims.count (map claimed_of r.claims.list)
  all_asked = omega (arith, shaped.claims, length-take r.claims.count r.claims.list, length-map r.claims.list claimed_of)

  -- each claim has a spot
  spot_there : j < length (spots_of r)
  unfolding places_of
  spot_there =
      let most : asked r.claims.count (map claimed_of r.claims.list) ≤ claim_limit = omega arith in
      let long : length (spots_of r) ≡ claim_limit = tabled_length _ (asked r.claims.count (map claimed_of r.claims.list)) most in
      omega (arith, all_asked)

  -- it is that of its resource
  spot_natural : sound r ≡ true → get_or (spots_of r) j 0 ≡ place_number claim_limit (place_by r (claim_standing r j).resource)
  spot_natural h =
      let few : min r.resources.count claim_limit ≡ r.resources.count = omega (arith, (sound_out r h).limits.resource_count) in
      places_at (map resource_id r.resources.list) r.resources.count (map claimed_of r.claims.list) r.claims.count j 0 all_asked
      ∙ rw (few, get_or-map claimed_of r.claims.list j no_claim)

module _ (r : Register) (shaped : Shaped r) (h : sound r ≡ true) (moment x : ℕ) (u : Usage) where
  abbrev reaches : ℕ → Bool
  reaches j = reaching (map rights_of r.claims.list) (spots_of r) (laid r.resources).bytes (laid r.resources).lens u.right (spot_for r u) j

  -- the claim at a place covers where it can cover and reaches
  covering_natural : (j : ℕ) → j < length (claims_of r.claims) → can_cover x moment (latest (claims_of r.claims)) (claim_standing r j) && reaches j ≡ covering r moment x u (claim_standing r j)
  unfolding covering
  covering_natural j inside =
      let there : j < length (spots_of r) = spot_there r shaped j inside in
      let spot = spot_natural r shaped j inside h in
      ap (λ b. can_cover x moment (latest (claims_of r.claims)) (claim_standing r j) && b) (reaching_natural r.claims.list (spots_of r) r.resources shaped.paths u.right (spot_for r u) j)
      ∙ same_tests (eqb (claim_standing r j).holder x) (live moment (latest (claims_of r.claims)) (claim_standing r j)) (has_right (claim_standing r j).rights u.right) (ltb j (length (spots_of r)))
      (ltb (get_or (spots_of r) j 0) resource_limit) (ltb (spot_for r u) resource_limit) (containing r.resources (get_or (spots_of r) j 0) (spot_for r u))
      (contains r (claim_standing r j).resource u.resource) (lt-ltb j (length (spots_of r)) there)
      (contains_natural r h (claim_standing r j).resource u.resource
      ∙ sym (asked_elsewhere claim_limit (omega arith) (λ s. ltb (spot_for r u) resource_limit && containing r.resources s (spot_for r u))
      (place_by r (claim_standing r j).resource))
      ∙ sym (ap (λ s. ltb s resource_limit && (ltb (spot_for r u) resource_limit && containing r.resources s (spot_for r u))) spot))

  -- and then it reaches as far as its resource does to the used one
  reach_column : (j : ℕ) → j < length (claims_of r.claims) → covering r moment x u (claim_standing r j) ≡ true
      → reach_at (spots_of r) (laid r.resources).bytes (laid r.resources).lens (spot_for r u) j ≡ reach_for r u j
  reach_column j inside covers =
      let held = (covering_out r moment x u (claim_standing r j) covers).containing in
      let spot : get_or (spots_of r) j 0 ≡ spot_by r (claim_standing r j).resource =
      spot_natural r shaped j inside h ∙ spot_elsewhere claim_limit (place_by r (claim_standing r j).resource) (contained_placed r h (claim_standing r j).resource u.resource held) in
      rw (part_laid r.resources shaped.paths (get_or (spots_of r) j 0), part_laid r.resources shaped.paths (spot_for r u), spot)
      (sym (reach_spot r h (claim_standing r j).resource u.resource held))

  -- by the gathered places of x, whoever looks, the place relied on is the nearest at which a claim covers
  pub nearest_natural : (looking : ℕ)
      → relied_on (sight_of r moment looking) (cover_places r.claims x moment) (spot_for r u) u.right ≡ nearest_place r moment x u
  nearest_natural looking =
      nearest_filtered (reach_at (spots_of r) (laid r.resources).bytes (laid r.resources).lens (spot_for r u)) reaches
      (λ j. can_cover x moment (latest (claims_of r.claims)) (claim_standing r j)) 0 0 (claim_places r)
      ∙ nearest_same (reach_at (spots_of r) (laid r.resources).bytes (laid r.resources).lens (spot_for r u))
      (λ j. can_cover x moment (latest (claims_of r.claims)) (claim_standing r j) && reaches j) (λ j. covering r moment x u (claim_standing r j)) (reach_for r u) 0 0 (claim_places r)
      (all_imp (λ j. j < length (claims_of r.claims))
      (λ j. (can_cover x moment (latest (claims_of r.claims)) (claim_standing r j) && reaches j ≡ covering r moment x u (claim_standing r j))
      × (covering r moment x u (claim_standing r j) ≡ true
      → reach_at (spots_of r) (laid r.resources).bytes (laid r.resources).lens (spot_for r u) j ≡ reach_for r u j))
      (λ j inside. (covering_natural j inside, reach_column j inside)) (claim_places r) (places_within r))

  -- a use is covered where it is open or there is such a place
  pub covers_natural : covers r moment x u ≡ covered_by (open_to (map public_of r.resources.list) (spot_for r u) u.right) (nearest_place r moment x u)
  unfolding covers
  covers_natural =
      rw (public_natural r h shaped u, any_covering r moment x u)
      (either_placed (open_to (map public_of r.resources.list) (spot_for r u) u.right) (nearest_place r moment x u))
