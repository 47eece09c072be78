-- Working: The chain from a number up as places: the latest place of the number, and from there up by the places of the parents. It is shaped for the
-- code; what it is in 01's words is proved here, of the claims of a sheet (`up_from_natural`, `above_natural`) and of a sound register (`sheet_chain`).
-- Assumes nothing.
use Rattle.std.specs.Prelude.{◌≡◌, refl, true, List, [], ◌∷◌, map, ℕ, ◌≤◌, ◌<◌, length, take, get_or, Option, None, Some}
use Rattle.std.proofs.Common.{sym, ap, ◌∙◌, arith, get_or-take}
use Rattle.std.proofs.Math.Path.{fun_ext}
use Rattle.register.specs.Limits.{claim_limit}
use Rattle.register.specs.Register.{actors_of, resources_of, claims_of, no_claim}
use Rattle.register.specs.Chain.{latest, chain, above}
use Rattle.register.specs.declared.Register.{Register}
use Rattle.soundness_rules.specs.Sound.{world_of, sound}
use Rattle.soundness_rules.proofs.Registers.{sound_out}
use Rattle.soundness_rules.proofs.Places.{claim_numbered}
use Rattle.columns.specs.Columns.{claim_id, parent_of, latest_place, chain_places, places_up}
use Rattle.columns.specs.Laws.{place_cases, place_found_lem, chain_places_at, chain_places_nowhere, chain_natural}
use Rattle.columns.specs.Sheet.{sheet_limit, sheet_of, column_of, claim_at, claims_in, id_column, parent_column}
use Rattle.columns.specs.SheetLaws.{column_length, column_natural, claims_in_at, sheet_long, sheet_claims}
use Rattle.lookup.specs.Finding.{earlier_places}
use Rattle.lookup.specs.Laws.{places_up_natural}

-- the places from one up: none where there is no place to begin at
abbrev pub up_from : List ℕ → Option ℕ → List ℕ
up_from ups (Some j) = j ∷ places_up ups j
up_from ups None = []

-- the first n claims of a sheet, none of which has the number 0
module _ (s : List ℕ) (long : length s ≡ sheet_limit) (n : ℕ) (few : n ≤ claim_limit) (numbered : (j : ℕ) → j < n → (claim_at s j).id ≡ 0 → ⊥) where
  abbrev ups : List ℕ
  ups = earlier_places (column_of id_column s) (column_of parent_column s) n

  up_places : (j : ℕ) → j < n → places_up ups j ≡ chain_places (column_of id_column s) (column_of parent_column s) j (get_or (column_of parent_column s) j 0)
  up_places j inside = places_up_natural (column_of id_column s) (column_of parent_column s) n few (omega (arith, column_length s 1 long (omega arith))) numbered j inside

  -- the claims at the places of a chain are the claims of the chain
  claims_natural : (m p : ℕ) → map (claim_at s) (chain_places (column_of id_column s) (column_of parent_column s) m p) ≡ chain claim_id parent_of (latest (take m (claims_in s))) p
  claims_natural m p =
      ap (λ f. map f (chain_places (column_of id_column s) (column_of parent_column s) m p)) (fun_ext (λ i. sym (claims_in_at s i)))
      ∙ ap (λ l. map (λ i. get_or (claims_in s) i no_claim) (chain_places l (column_of parent_column s) m p)) (column_natural s long claim_id id_column (omega arith) (λ g. refl))
      ∙ ap (λ l. map (λ i. get_or (claims_in s) i no_claim) (chain_places (map claim_id (claims_in s)) l m p)) (column_natural s long parent_of parent_column (omega arith) (λ g. refl))
      ∙ chain_natural (claims_in s) m p

  -- the places above one are those of the chain above the claim there
  pub above_natural : (j : ℕ) → j < n → map (claim_at s) (places_up ups j) ≡ above (latest (take j (claims_in s))) (claim_at s j)
  above_natural j inside = ap (map (claim_at s)) (up_places j inside) ∙ claims_natural j (get_or (column_of parent_column s) j 0)

  up_from_lem : (p : ℕ) → up_from ups (latest_place (column_of id_column s) n p) ≡ chain_places (column_of id_column s) (column_of parent_column s) n p
  up_from_lem p =
      place_cases (latest_place (column_of id_column s) n p)
      (λ k q. let found = place_found_lem (column_of id_column s) p n k q in
      let other : (p ≡ 0 → ⊥) = λ z. numbered k found.0 (found.2 ∙ z) in
      ap (up_from ups) q ∙ ap (λ l. k ∷ l) (up_places k found.0) ∙ sym (chain_places_at (column_of id_column s) (column_of parent_column s) n p k other q))
      (λ q. ap (up_from ups) q ∙ sym (chain_places_nowhere (column_of id_column s) (column_of parent_column s) n p q))

  -- the places from that of a number up are those of the number's chain
  pub up_from_natural : (p : ℕ) → map (claim_at s) (up_from ups (latest_place (column_of id_column s) n p)) ≡ chain claim_id parent_of (latest (take n (claims_in s))) p
  up_from_natural p = ap (map (claim_at s)) (up_from_lem p) ∙ claims_natural n p

-- the sheet of a sound register
module _ (r : Register) (places : length r.claims.list ≡ claim_limit) (whole : sound r ≡ true) where
  abbrev sheet : List ℕ
  sheet = sheet_of r.claims

  abbrev claim_total : ℕ
  claim_total = r.claims.count

  pub sheet_few : claim_total ≤ claim_limit
  sheet_few = (sound_out r whole).limits.claim_count

  -- at its places stand the register's claims
  pub sheet_at : (j : ℕ) → j < claim_total → claim_at sheet j ≡ get_or r.claims.list j no_claim
  sheet_at j h =
      sym (claims_in_at sheet j)
      ∙ sym (get_or-take claim_total (claims_in sheet) j no_claim h)
      ∙ ap (λ l. get_or l j no_claim) (sheet_claims r.claims places)
      ∙ get_or-take claim_total r.claims.list j no_claim h

  -- none has the number 0
  pub sheet_numbered : (j : ℕ) → j < claim_total → (claim_at sheet j).id ≡ 0 → ⊥
  sheet_numbered j h none =
      claim_numbered (world_of r.version (actors_of r.actors) (resources_of r.resources)) claim_total r.claims.list (sound_out r whole).claims j h
      (omega (arith, h, sheet_few, places))
      (ap (λ c. c.id) (sym (sheet_at j h)) ∙ none)

  -- the places from that of a number up are those of the number's chain
  pub sheet_chain : (p : ℕ) → map (claim_at sheet) (up_from (earlier_places (column_of id_column sheet) (column_of parent_column sheet) claim_total) (latest_place (column_of id_column sheet) claim_total p))
      ≡ chain claim_id parent_of (latest (claims_of r.claims)) p
  sheet_chain p =
      up_from_natural sheet (sheet_long r.claims) claim_total sheet_few sheet_numbered p
      ∙ ap (λ l. chain claim_id parent_of (latest l) p) (sheet_claims r.claims places)
