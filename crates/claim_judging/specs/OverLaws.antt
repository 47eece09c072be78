-- Laws: What the judgement by columns and places is in 01's words, where the columns are those of a list of claims and the places are kept of each
-- claim's parent. Assumes nothing.
use Rattle.std.specs.Prelude.{◌≡◌, refl, true, false, ◌&&◌, ◌||◌, List, [], ◌∷◌, map, ltb, take, None, Some, ℕ, zero, suc, ◌<◌}
use Rattle.std.proofs.Common.{◌∙◌, arith, eq-eqb, ne_eqb, ltb-true, ltb-false}
use Rattle.std.proofs.Math.Path.{sym, ap}
use Rattle.std.proofs.Math.Bool.{not, or-false, or_assoc}
use Rattle.std.proofs.Math.Dec.{eqb}
use Rattle.std.proofs.Math.ListN.{length, get_or, length-map, get_or-eq_default}
use Rattle.lists.specs.Lists.{any, ands}
use Rattle.lists.specs.Each.{list_cases, any_reverse}
use Rattle.register.specs.Register.{no_claim}
use Rattle.register.specs.Chain.{latest, above, circling, root_granted}
use Rattle.register.specs.declared.Claim.{Claim}
use Rattle.columns.specs.Columns.{claim_id, parent_of, grantor_of, holder_of, latest_place, chain_places, places_up}
use Rattle.columns.specs.Laws.{place_cases, place_found_lem, nowhere_none, place_among, among_natural, chain_places_at, chain_places_nowhere, chain_places_zero, chain_natural, circling_natural, chain_found, chain_nowhere, get_d_inside, places_up_at, places_up_none}
use Rattle.soundness_rules.specs.Sound.{drawn_from, fewer_left, over_chain, drawn, fresh, over}
use Rattle.claim_judging.specs.Over.{circles_up, over_at, stand_over}
use Rattle.lists.specs.Tests.{cases}

-- one more on a chain that has a member
circling_cons : (grantors holders : ℕ → ℕ) (j k : ℕ) (l : List ℕ) (h : ℕ)
    → circling grantors holders (j ∷ k ∷ l) h ≡ eqb (holders j) h || circling grantors holders (k ∷ l) h
unfolding circling root_granted
circling_cons grantors holders j k l h =
    or_assoc (eqb (holders j) h) (any (λ i. eqb (holders i) h) (k ∷ l)) (root_granted grantors (k ∷ l) h)

circling_one : (grantors holders : ℕ → ℕ) (j h : ℕ) → circling grantors holders (j ∷ []) h ≡ eqb (holders j) h || eqb (grantors j) h
unfolding circling root_granted
circling_one grantors holders j h = rw (or-false (eqb (holders j) h))

-- the walk up asks along the places above one, whatever places are kept
pub circles_places : (ups grantors holders : List ℕ) (h steps j : ℕ) → length (places_up ups j) ≡ steps
    → circles_up ups grantors holders j steps h ≡ circling (λ i. get_or grantors i 0) (λ i. get_or holders i 0) (j ∷ places_up ups j) h
unfolding circles_up
circles_places ups grantors holders h zero j e =
    list_cases (places_up ups j)
    (λ none. rw none (sym (circling_one (λ i. get_or grantors i 0) (λ i. get_or holders i 0) j h)))
    (λ k l some. absurd (omega (arith, e, ap length some)))
circles_places ups grantors holders h (suc steps) j e =
    cases (ltb (get_or ups j j) j)
    (λ t. let below : get_or ups j j < j = ltb-true (get_or ups j j) j t in
    let up : get_or ups j 0 ≡ get_or ups j j = kept ups j below in
    let more : places_up ups j ≡ get_or ups j j ∷ places_up ups (get_or ups j j) = places_up_at ups j below in
    ap (λ k. eqb (get_or holders j 0) h || circles_up ups grantors holders k steps h) up
    ∙ ap (λ b. eqb (get_or holders j 0) h || b) (circles_places ups grantors holders h steps (get_or ups j j) (omega (arith, e, ap length more)))
    ∙ sym (circling_cons (λ i. get_or grantors i 0) (λ i. get_or holders i 0) j (get_or ups j j) (places_up ups (get_or ups j j)) h)
    ∙ ap (λ l. circling (λ i. get_or grantors i 0) (λ i. get_or holders i 0) (j ∷ l) h) (sym more))
    (λ t. absurd (omega (arith, e, ap length (places_up_none ups j (ltb-false (get_or ups j j) j t)))))
  where
    -- past the end a place is kept for itself
    kept : (ups : List ℕ) (j : ℕ) → get_or ups j j < j → get_or ups j 0 ≡ get_or ups j j
    kept ups j below =
        cases (ltb j (length ups))
        (λ t. get_d_inside ups j 0 j (ltb-true j (length ups) t))
        (λ t. absurd (omega (arith, below, get_or-eq_default ups j (ltb-false j (length ups) t))))

module _ (ids parents : List ℕ) where
  -- the place kept for each below n is that of its parent, where that stands before it
  abbrev pub KeptPlaces : List ℕ → ℕ → Type 0
  KeptPlaces ups n = (j k : ℕ) → j < n → latest_place ids j (get_or parents j 0) ≡ Some k → get_or ups j 0 ≡ k

  -- the chain above place j
  abbrev pub higher : ℕ → List ℕ
  higher j = chain_places ids parents j (get_or parents j 0)

  -- where there is a chain above a place, it begins at the kept one
  higher_kept : (ups : List ℕ) (n : ℕ) → KeptPlaces ups n → (j : ℕ) → j < n → 0 < length (higher j)
      → (get_or ups j 0 < j) × (higher j ≡ get_or ups j 0 ∷ higher (get_or ups j 0))
  higher_kept ups n kept j inside long =
      place_cases (latest_place ids j (get_or parents j 0))
      (λ k e. let same = kept j k inside e in
      let found = place_found_lem ids (get_or parents j 0) j k e in
      let other : (get_or parents j 0 ≡ 0 → ⊥) = λ z. absurd (omega (arith, long, ap length (chain_places_zero ids parents j), ap (λ p. length (chain_places ids parents j p)) z)) in
      rw same (found.0, chain_places_at ids parents j (get_or parents j 0) k other e))
      (λ e. absurd (omega (arith, long, ap length (chain_places_nowhere ids parents j (get_or parents j 0) e))))

  -- the walk up asks along the chain
  pub circles_natural : (ups grantors holders : List ℕ) (n : ℕ) → KeptPlaces ups n → (h steps j : ℕ) → j < n → length (higher j) ≡ steps
      → circles_up ups grantors holders j steps h ≡ circling (λ i. get_or grantors i 0) (λ i. get_or holders i 0) (j ∷ higher j) h
  unfolding circles_up
  circles_natural ups grantors holders n kept h zero j inside e =
      list_cases (higher j)
      (λ none. rw none (sym (circling_one (λ i. get_or grantors i 0) (λ i. get_or holders i 0) j h)))
      (λ k l some. absurd (omega (arith, e, ap length some)))
  circles_natural ups grantors holders n kept h (suc steps) j inside e =
      let up = get_or ups j 0 in
      let begun = higher_kept ups n kept j inside (omega (arith, e)) in
      ap (λ b. eqb (get_or holders j 0) h || b)
      (circles_natural ups grantors holders n kept h steps up (omega (arith, inside, begun.0)) (omega (arith, e, ap length begun.1)))
      ∙ sym (circling_cons (λ i. get_or grantors i 0) (λ i. get_or holders i 0) j up (higher up) h)
      ∙ ap (λ l. circling (λ i. get_or grantors i 0) (λ i. get_or holders i 0) (j ∷ l) h) (sym begun.1)

-- a chain that has a first is asked of it, of those behind it and along it
over_first : (version : ℕ) (l : List Claim) (p : Claim) (more : List Claim) (c : Claim) → l ≡ p ∷ more
    → over_chain version l c ≡ ands (drawn_from p c ∷ fewer_left version p more c ∷ not (circling grantor_of holder_of l c.holder) ∷ [])
unfolding over_chain
over_first version l p more c e = rw e

-- a claim over the first n of a list of claims, by the columns of the list
module _ (version : ℕ) (cs : List Claim) (n : ℕ) (c : Claim) where
  fresh_natural : fresh (latest (take n cs)) c ≡ not (any (eqb c.id) (take n (map claim_id cs)))
  unfolding fresh
  fresh_natural = ap not (any_reverse (λ d. eqb c.id d.id) (take n cs) ∙ sym (among_natural claim_id c.id n cs))

  -- its id stands before it
  pub doubled : (k : ℕ) → latest_place (map claim_id cs) n c.id ≡ Some k → over version (latest (take n cs)) c ≡ false
  unfolding over
  doubled k q = rw (fresh_natural, place_among (map claim_id cs) c.id n k q)

  module _ (apart : latest_place (map claim_id cs) n c.id ≡ None) where
    over_drawn : over version (latest (take n cs)) c ≡ drawn version (latest (take n cs)) c
    unfolding over
    over_drawn = rw (fresh_natural, nowhere_none (map claim_id cs) c.id n apart)

    pub root_stands : c.parent ≡ 0 → over version (latest (take n cs)) c ≡ true
    unfolding drawn
    root_stands e = over_drawn ∙ rw (eq-eqb c.parent 0 e)

    module _ (o : c.parent ≡ 0 → ⊥) where
      over_chain_lem : over version (latest (take n cs)) c ≡ over_chain version (above (latest (take n cs)) c) c
      unfolding drawn
      over_chain_lem = over_drawn ∙ rw (ne_eqb c.parent 0 o)

      pub parent_nowhere : latest_place (map claim_id cs) n c.parent ≡ None → over version (latest (take n cs)) c ≡ false
      unfolding over_chain
      parent_nowhere q = over_chain_lem ∙ ap (λ l. over_chain version l c) (chain_nowhere cs n c.parent q)

      -- its parent stands at place k
      module _ (k : ℕ) (q : latest_place (map claim_id cs) n c.parent ≡ Some k) where
        -- it has one hop more
        pub one_hop_more : length (chain_places (map claim_id cs) (map parent_of cs) n c.parent) ≡ suc (length (higher (map claim_id cs) (map parent_of cs) k))
        one_hop_more = ap length (chain_places_at (map claim_id cs) (map parent_of cs) n c.parent k o q)

        pub over_natural : (ups : List ℕ) (steps : ℕ) → KeptPlaces (map claim_id cs) (map parent_of cs) ups n → steps ≡ length (higher (map claim_id cs) (map parent_of cs) k)
            → over_at version ups (map grantor_of cs) (map holder_of cs) k steps (get_or cs k no_claim) c ≡ over version (latest (take n cs)) c
        unfolding over_at
        over_natural ups steps kept e =
            let inside : k < n = (place_found_lem (map claim_id cs) c.parent n k q).0 in
            let long : length (above (latest (take n cs)) c) ≡ suc steps =
            ap length (sym (chain_natural cs n c.parent))
            ∙ length-map (chain_places (map claim_id cs) (map parent_of cs) n c.parent) (λ j. get_or cs j no_claim)
            ∙ one_hop_more
            ∙ ap suc (sym e) in
            let next : length (above (latest (take k cs)) (get_or cs k no_claim)) ≡ steps =
            omega (arith, long, ap length (chain_found cs n c.parent k o q)) in
            let circles : circles_up ups (map grantor_of cs) (map holder_of cs) k steps c.holder
            ≡ circling grantor_of holder_of (above (latest (take n cs)) c) c.holder =
            circles_natural (map claim_id cs) (map parent_of cs) ups (map grantor_of cs) (map holder_of cs) n kept c.holder steps k inside (sym e)
            ∙ ap (λ l. circling (λ i. get_or (map grantor_of cs) i 0) (λ i. get_or (map holder_of cs) i 0) l c.holder)
            (sym (chain_places_at (map claim_id cs) (map parent_of cs) n c.parent k o q))
            ∙ circling_natural cs n c.parent c.holder in
            sym
            (over_chain_lem
            ∙ over_first version (above (latest (take n cs)) c) (get_or cs k no_claim) (above (latest (take k cs)) (get_or cs k no_claim)) c (chain_found cs n c.parent k o q)
            ∙ rw (next, ← circles))

-- no claim, and one more, over the earlier ones
pub stand_nil : (version : ℕ) → stand_over version [] ≡ true
unfolding stand_over
stand_nil version = refl

pub stand_cons : (version : ℕ) (c : Claim) (L : List Claim) → stand_over version (c ∷ L) ≡ over version L c && stand_over version L
unfolding stand_over
stand_cons version c L = refl
