-- Laws: What the places of many numbers say of each of them. Assumes nothing.
use Rattle.std.specs.Prelude.{◌≡◌, List, ◌∷◌, map, ℕ, zero, suc, ◌+◌, ◌-◌, ◌≤◌, ◌<◌, min, ltb, length, get_or, replicate, take}
use Rattle.std.proofs.Math.Path.{ap}
use Rattle.std.proofs.Common.{◌∙◌, sym, zero-add, arith, ltb-true, ltb-false, length-append}
use Rattle.std.proofs.lemmas.List.{length-map, length-replicate, get_or-replicate}
use Rattle.std.proofs.Math.ListN.{get_or-map, get_or-append, get_or-eq_default}
use Rattle.lists.specs.Tests.{cases}
use Rattle.lists.specs.Counts.{counted_length}
use Rattle.lists.specs.Lists.{counted}
use Rattle.register.specs.Limits.{claim_limit}
use Rattle.register.specs.Register.{no_claim}
use Rattle.register.specs.Chain.{latest, hops_of}
use Rattle.register.specs.declared.Claim.{Claim}
use Rattle.columns.specs.Columns.{latest_place, claim_id, parent_of, chain_places, places_up}
use Rattle.columns.specs.Laws.{get_d_inside, place_cases, place_found_lem, chain_places_at, chain_places_nowhere, places_up_at, places_up_none, hops_natural}
use Rattle.lookup.specs.Finding.{place_number, tabled, asked, shared, places_of, earlier_places, both_places}

-- a number that was counted
pub counted_number : (n i j d : ℕ) → j < n → get_or (counted i n) j d ≡ i + j
counted_number zero i j d h = absurd (omega arith)
counted_number (suc n) i zero d h = omega arith
counted_number (suc n) i (suc j) d h = counted_number n (suc i) j d (omega arith) ∙ omega arith

-- whatever stands over and over stands at each place, and is told past them all
pub behind_none : {A : Type 0} (n i : ℕ) (none : A) → get_or (replicate n none) i none ≡ none
behind_none n i none =
    cases (ltb i n)
    (λ t. get_or-replicate n i none none (ltb-true i n t))
    (λ t. get_or-eq_default (replicate n none) none (omega (arith, ltb-false i n t, length-replicate n none)))

module _ (f : ℕ → ℕ) (top : ℕ) where
  pub tabled_length : top ≤ claim_limit → length (tabled f top) ≡ claim_limit
  tabled_length h =
      length-append (map f (counted 0 top)) (replicate (claim_limit - top) claim_limit)
      ∙ rw (length-map (counted 0 top) f, counted_length 0 top, length-replicate) (omega arith)

  pub tabled_at : (i d : ℕ) → i < top → get_or (tabled f top) i d ≡ f i
  tabled_at i d h =
      let there : i < length (map f (counted 0 top)) = omega (arith, length-map (counted 0 top) f, counted_length 0 top) in
      get_or-append (map f (counted 0 top)) (replicate (claim_limit - top) claim_limit) d i there
      ∙ get_d_inside (map f (counted 0 top)) i d (f 0) there
      ∙ get_or-map f (counted 0 top) i 0
      ∙ ap f (counted_number top 0 i 0 h ∙ zero-add i)

pub places_at : (column : List ℕ) (n : ℕ) (wanted : List ℕ) (m i d : ℕ) → i < asked m wanted →
    get_or (places_of column n wanted m) i d ≡ place_number claim_limit (latest_place column (min n claim_limit) (get_or wanted i 0))
unfolding places_of
places_at column n wanted m i d h = tabled_at (λ i. place_number claim_limit (latest_place column (min n claim_limit) (get_or wanted i 0))) (asked m wanted) i d h

pub earlier_at : (column wanted : List ℕ) (m i d : ℕ) → i < asked m wanted →
    get_or (earlier_places column wanted m) i d ≡ place_number claim_limit (latest_place column i (get_or wanted i 0))
unfolding earlier_places
earlier_at column wanted m i d h = tabled_at (λ i. place_number claim_limit (latest_place column i (get_or wanted i 0))) (asked m wanted) i d h

-- where both lists have as many as are asked for, each is looked up as it is alone
module _ (column wanted other : List ℕ) (m : ℕ) (few : m ≤ length wanted) (fewer : m ≤ length other) where
  all_shared : shared m wanted other ≡ m
  all_shared = omega arith

  pub first_places : (n : ℕ) → (both_places column n wanted other m).first ≡ places_of column n wanted m
  unfolding both_places
  first_places n = ap (λ k. places_of column n wanted k) all_shared

  pub second_places : (n : ℕ) → (both_places column n wanted other m).second ≡ places_of column n other m
  unfolding both_places
  second_places n = ap (λ k. places_of column n other k) all_shared

-- the places of the parents of the first n claims, none of which has the number 0
module _ (ids parents : List ℕ) (n : ℕ) (few : n ≤ claim_limit) (long : n ≤ length parents) (numbered : (j : ℕ) → j < n → get_or ids j 0 ≡ 0 → ⊥) where
  abbrev ups : List ℕ
  ups = earlier_places ids parents n

  up_at : (j : ℕ) → j < n → get_or ups j j ≡ place_number claim_limit (latest_place ids j (get_or parents j 0))
  up_at j h = earlier_at ids parents n j j (omega arith)

  up_to_each : (bound j : ℕ) → j < bound → j < n → places_up ups j ≡ chain_places ids parents j (get_or parents j 0)
  up_to_each zero j h inside = absurd (omega arith)
  up_to_each (suc bound) j h inside =
      place_cases (latest_place ids j (get_or parents j 0))
      (λ i q. let found = place_found_lem ids (get_or parents j 0) j i q in
      let other : (get_or parents j 0 ≡ 0 → ⊥) = λ z. numbered i (omega (arith, found.0)) (found.2 ∙ z) in
      let up : get_or ups j j ≡ i = up_at j inside ∙ ap (place_number claim_limit) q in
      places_up_at ups j (rw up found.0)
      ∙ ap (λ k. k ∷ places_up ups k) up
      ∙ ap (λ l. i ∷ l) (up_to_each bound i (omega (arith, found.0)) (omega (arith, found.0)))
      ∙ sym (chain_places_at ids parents j (get_or parents j 0) i other q))
      (λ q. let up : get_or ups j j ≡ claim_limit = up_at j inside ∙ ap (place_number claim_limit) q in
      places_up_none ups j (rw up (omega arith)) ∙ sym (chain_places_nowhere ids parents j (get_or parents j 0) q))

  -- a step up by the kept places is one by the ids and the parents' numbers
  pub places_up_natural : (j : ℕ) → j < n → places_up ups j ≡ chain_places ids parents j (get_or parents j 0)
  places_up_natural j inside = up_to_each (suc j) j (omega arith) inside

-- so the walk counts the hops of the claim at a place
pub hop_count_natural : (cs : List Claim) (n : ℕ) → n ≤ claim_limit → n ≤ length cs → ((j : ℕ) → j < n → (get_or cs j no_claim).id ≡ 0 → ⊥) → (j : ℕ) → j < n
    → length (places_up (earlier_places (map claim_id cs) (map parent_of cs) n) j) ≡ hops_of (latest (take j cs)) (get_or cs j no_claim)
hop_count_natural cs n few long numbered j inside =
    ap length (places_up_natural (map claim_id cs) (map parent_of cs) n few (omega (arith, length-map cs parent_of))
    (λ i below z. numbered i below (sym (get_or-map claim_id cs i no_claim) ∙ z)) j inside)
    ∙ hops_natural cs j
