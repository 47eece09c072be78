-- A claim's hop count and whether it lives, by what is remarked on the parent that stands at the place that is lent: in a sound register these are its hop
-- count and whether it is live among all claims. Assumes nothing.
use Rattle.std.proofs.Common.{◌≡◌, ap, sym, ◌∙◌, true, ◌&&◌, cond, List, [], ◌∷◌, map, ℕ, suc, ◌+◌, ◌<◌, ◌≤◌, add-one, arith, lt-ltb, le-ltb, ltb, length, get_or, take, drop, take-take}
use Rattle.lists.specs.Lists.{every}
use Rattle.register.specs.Limits.{claim_limit, hop_limit}
use Rattle.register.specs.Register.{claims_of}
use Rattle.register.specs.Chain.{latest, above, hops_of, live, current}
use Rattle.register.specs.declared.Claim.{Claim}
use Rattle.register.specs.declared.Register.{Register}
use Rattle.soundness_rules.specs.Sound.{sound}
use Rattle.soundness_rules.proofs.Chains.{place_above}
use Rattle.columns.specs.Columns.{latest_place, places_up}
use Rattle.columns.specs.Laws.{place_cases, place_found_lem, places_up_at, places_up_none}
use Rattle.columns.specs.Sheet.{sheet_of, column_of, claim_at, claims_in, id_column, parent_column}
use Rattle.columns.specs.SheetLaws.{column_length, sheet_long, sheet_claims}
use Rattle.lookup.specs.Finding.{place_number, asked, earlier_places}
use Rattle.lookup.specs.Laws.{tabled_length, earlier_at}
use Rattle.lookup.specs.Walks.{above_natural, sheet_few, sheet_at, sheet_numbered}
use Rattle.gate_rules.specs.Places.{latest_split}
use Rattle.gate_rules.proofs.Coverage.{sound_place}
use Rattle.gate_rules.proofs.Trace.{place_hops_most}
use Rattle.coverage_table.proofs.Remarks.{world_around}
use Rattle.paper.specs.Paper.{claim_stands}
use Rattle.paper.specs.Laws.{claim_in_lem}

module _ (r : Register) (whole : sound r ≡ true) (room : length r.claims.list ≡ claim_limit) where
  abbrev all : List Claim
  all = latest (claims_of r.claims)

  abbrev sheet : List ℕ
  sheet = sheet_of r.claims

  abbrev ids : List ℕ
  ids = column_of id_column sheet

  abbrev parents : List ℕ
  parents = column_of parent_column sheet

  abbrev ups : List ℕ
  ups = earlier_places ids parents r.claims.count

  module _ (j : ℕ) (within : j < r.claims.count) where
    -- it has at most 16 hops
    pub hops_few : hops_of all (claim_stands r j) ≤ hop_limit
    hops_few = place_hops_most r whole (claim_stands r j) (claim_in_lem r whole room j within)

    -- the claims before it are those of the sheet
    earlier_sheet : take j (claims_of r.claims) ≡ take j (claims_in sheet)
    earlier_sheet = ap (take j) (sym (sheet_claims r.claims room)) ∙ take-take j r.claims.count (claims_in sheet) (omega (arith, within))

    -- the chain above it, as the claims at the places above its own
    above_places : above all (claim_stands r j) ≡ map (claim_at sheet) (places_up ups j)
    above_places =
        let rest : List Claim = drop (suc j) (claims_of r.claims) in
        ap (λ l. above l (claim_stands r j)) (ap latest (claim_in_lem r whole room j within).split ∙ latest_split (take j (claims_of r.claims)) (claim_stands r j) rest)
        ∙ place_above (world_around r) (latest rest) (claim_stands r j) (latest (take j (claims_of r.claims))) (sound_place r whole (claim_stands r j) (claim_in_lem r whole room j within))
        ∙ ap (λ l. above (latest l) (claim_stands r j)) earlier_sheet
        ∙ ap (above (latest (take j (claims_in sheet)))) (sym (sheet_at r room whole j within))
        ∙ sym (above_natural sheet (sheet_long r.claims) r.claims.count (sheet_few r room whole) (sheet_numbered r room whole) j within)

    parents_long : length parents ≡ claim_limit
    parents_long = column_length sheet parent_column (sheet_long r.claims) (omega arith)

    -- the place that is lent, whatever is read past the places
    up_read : (d : ℕ) → get_or ups j d ≡ place_number claim_limit (latest_place ids j (get_or parents j 0))
    up_read d =
        earlier_at ids parents r.claims.count j d (omega (arith, parents_long, within, sheet_few r room whole))

    pub ups_long : j < length ups
    unfolding earlier_places
    ups_long =
        let most : asked r.claims.count parents ≤ claim_limit = omega arith in
        omega (arith, tabled_length (λ i. place_number claim_limit (latest_place ids i (get_or parents i 0))) (asked r.claims.count parents) most, within, sheet_few r room whole)

    -- it is an earlier one, or past them all
    pub up_cases : {A : Type 0} → (get_or ups j 0 < j → A) → (get_or ups j 0 ≡ claim_limit → A) → A
    up_cases f g =
        place_cases (latest_place ids j (get_or parents j 0))
        (λ k q. let up : get_or ups j 0 ≡ k = up_read 0 ∙ ap (place_number claim_limit) q in
        f (omega (arith, up, (place_found_lem ids (get_or parents j 0) j k q).0)))
        (λ q. g (up_read 0 ∙ ap (place_number claim_limit) q))

  -- above a claim stand its parent and the claims above that one
  above_next : (j : ℕ) (within : j < r.claims.count) → get_or ups j 0 < j
      → above all (claim_stands r j) ≡ claim_stands r (get_or ups j 0) ∷ above all (claim_stands r (get_or ups j 0))
  above_next j within before =
      let same : get_or ups j j ≡ get_or ups j 0 = up_read j within j ∙ sym (up_read j within 0) in
      let there : get_or ups j 0 < r.claims.count = omega (arith, before, within) in
      above_places j within
      ∙ ap (map (claim_at sheet)) (places_up_at ups j (rw same before))
      ∙ ap (λ k. claim_at sheet k ∷ map (claim_at sheet) (places_up ups k)) same
      ∙ ap (λ c. c ∷ map (claim_at sheet) (places_up ups (get_or ups j 0))) (sheet_at r room whole (get_or ups j 0) there)
      ∙ ap (λ l. claim_stands r (get_or ups j 0) ∷ l) (sym (above_places (get_or ups j 0) there))

  -- above a root there is none
  above_none : (j : ℕ) (within : j < r.claims.count) → j ≤ get_or ups j 0 → above all (claim_stands r j) ≡ []
  above_none j within past =
      let same : get_or ups j j ≡ get_or ups j 0 = up_read j within j ∙ sym (up_read j within 0) in
      above_places j within ∙ ap (map (claim_at sheet)) (places_up_none ups j (rw same past))

  module _ (j : ℕ) (within : j < r.claims.count) where
    pub hops_next : hops_of all (claim_stands r j) ≡ cond (ltb (get_or ups j 0) j) (hops_of all (claim_stands r (get_or ups j 0)) + 1) 0
    hops_next =
        up_cases j within
        (λ before. rw (lt-ltb (get_or ups j 0) j before) (ap length (above_next j within before) ∙ sym (add-one (hops_of all (claim_stands r (get_or ups j 0))))))
        (λ past. let none : j ≤ get_or ups j 0 = omega (arith, past, within, sheet_few r room whole) in
        rw (le-ltb (get_or ups j 0) j none) (ap length (above_none j within none)))

    pub lives_next : (moment : ℕ) → live moment all (claim_stands r j)
        ≡ current moment (claim_stands r j) && cond (ltb (get_or ups j 0) j) (live moment all (claim_stands r (get_or ups j 0))) true
    lives_next moment =
        up_cases j within
        (λ before. rw (lt-ltb (get_or ups j 0) j before) (ap (λ l. current moment (claim_stands r j) && every (current moment) l) (above_next j within before)))
        (λ past. let none : j ≤ get_or ups j 0 = omega (arith, past, within, sheet_few r room whole) in
        rw (le-ltb (get_or ups j 0) j none) (ap (λ l. current moment (claim_stands r j) && every (current moment) l) (above_none j within none)))
