-- Laws: What stands in the cell of a use says of the paper what the definition's table says of the use. Assumes nothing.
use Rattle.std.specs.Prelude.{◌≡◌, refl, true, false, List, [], ◌∷◌, ◌++◌, map, ℕ, suc, ◌<◌, eqb, ltb, length, take, drop, Option, None, Some}
use Rattle.std.proofs.Common.{sym, ap, ◌∙◌, arith, eqb-true, eq-eqb, lt-ltb, ltb-true, length-take, get_or-take, take-take}
use Rattle.std.proofs.Math.ListN.{get_or-map}
use Rattle.std.proofs.Math.Seq.{split_at}
use Rattle.lists.specs.Tests.{cases}
use Rattle.lists.specs.Lists.{any}
use Rattle.rights.specs.Rights.{right_count, is_right}
use Rattle.register.specs.Limits.{resource_limit, claim_limit}
use Rattle.register.specs.Register.{resources_of, claims_of, no_resource, no_claim}
use Rattle.register.specs.Chain.{latest}
use Rattle.register.specs.declared.Resource.{Resource}
use Rattle.register.specs.declared.Claim.{Claim}
use Rattle.register.specs.declared.Register.{Register}
use Rattle.soundness_rules.specs.Sound.{sound}
use Rattle.soundness_rules.proofs.Registers.{sound_out}
use Rattle.columns.specs.Columns.{resource_id, resources_to, latest_place}
use Rattle.columns.specs.Laws.{up_to_at, up_to_first, place_found_lem, nowhere_none, among_natural}
use Rattle.actions.specs.declared.Usage.{Usage}
use Rattle.gate_rules.specs.Gate.{first_of}
use Rattle.gate_rules.specs.Places.{place_any, first_none, first_found}
use Rattle.gate_rules.proofs.Trace.{distinct_place}
use Rattle.gate_rules.specs.Authority.{IsIn}
use Rattle.coverage_table.specs.Table.{Entry, open_entry, cover_table, looked_up}
use Rattle.coverage_table.specs.Hearing.{remark_among, heard}
use Rattle.coverage_table.proofs.Filling.{table_by, table_heard, added_sound, lookup_there, lookup_past, lookup_absent}
use Rattle.paper.specs.Cells.{past_resource, resource_at, cell_in}
use Rattle.paper.specs.Paper.{claim_stands, CellTells, entry_by, Filled}

module _ (r : Register) (whole : sound r ≡ true) (room : length r.resources.list ≡ resource_limit) where
  -- as many resources stand as are counted
  pub resources_counted : length (resources_of r.resources) ≡ r.resources.count
  resources_counted = omega (arith, length-take r.resources.count r.resources.list, (sound_out r whole).limits.resource_count, room)

  -- the resource of a row stands
  pub row_stands : (row : ℕ) → row < r.resources.count → IsIn (resources_of r.resources) (resource_at r.resources row)
  row_stands row within =
      record {
        before = take row (resources_of r.resources);
        after = drop (suc row) (resources_of r.resources);
        split = split_at (resources_of r.resources) row past_resource (omega (arith, resources_counted, within))
            ∙ ap (λ o. take row (resources_of r.resources) ++ o ∷ drop (suc row) (resources_of r.resources))
            (get_or-take r.resources.count r.resources.list row past_resource within);
      }

  -- the ids of the resources, as a column
  abbrev reports_of : List ℕ
  reports_of = map resource_id (resources_to r.resources).list

  -- where a number is found stands the resource that has it
  pub row_found : (x row : ℕ) → latest_place reports_of r.resources.count x ≡ Some row → (row < r.resources.count) × ((resource_at r.resources row).id ≡ x)
  row_found x row q =
      let found = place_found_lem reports_of x r.resources.count row q in (
        found.0,
        ap (λ o. o.id) (sym (up_to_at no_resource r.resources.count r.resources.list row past_resource found.0))
            ∙ sym (get_or-map resource_id (resources_to r.resources).list row past_resource)
            ∙ found.2,
      )

  -- what is found nowhere does not stand
  pub row_absent : (x : ℕ) → latest_place reports_of r.resources.count x ≡ None → any (λ o. eqb x o.id) (resources_of r.resources) ≡ false
  row_absent x q =
      ap (any (λ o. eqb x o.id)) (sym (up_to_first no_resource r.resources.count r.resources.list))
      ∙ sym (among_natural resource_id x r.resources.count (resources_to r.resources).list)
      ∙ nowhere_none reports_of x r.resources.count q

  -- the resource of a row is the first that has its number
  first_row : (x row : ℕ) → row < r.resources.count → (resource_at r.resources row).id ≡ x
      → first_of (λ o. eqb x o.id) (resources_of r.resources) ≡ resource_at r.resources row ∷ []
  first_row x row within named =
      let at = row_stands row within in
      let found = first_found (λ o. eqb x o.id) (resources_of r.resources)
      (place_any (λ o. eqb x o.id) (resources_of r.resources) (resource_at r.resources row) at (eq-eqb x (resource_at r.resources row).id (sym named))) in
      let one : found.0 ≡ resource_at r.resources row =
      distinct_place (λ o. o.id) (resources_of r.resources) (sound_out r whole).resources.apart found.0 (resource_at r.resources row) found.1.place at
      (sym (eqb-true x found.0.id found.1.passes) ∙ sym named) in
      found.1.alone ∙ ap (λ o. o ∷ []) one

  module _ (moment x : ℕ) where
    -- the table after the last claim, cell by cell
    pub table_whole : cover_table r moment x ≡ table_by (λ o b. entry_by r moment x o b r.claims.count) (resources_of r.resources)
    table_whole =
        let all : List Claim = latest (claims_of r.claims) in
        table_heard r moment x
        ∙ ap (λ l. table_by (λ o b. heard r x o b l (open_entry o b)) (resources_of r.resources))
        (added_sound r moment x whole
        ∙ ap (map (remark_among moment all)) (sym (take-take r.claims.count r.claims.count r.claims.list (omega arith))))

    abbrev entries : Resource → ℕ → Entry
    entries o b = entry_by r moment x o b r.claims.count

    -- what is looked up in the table, by the place of the used resource
    looked_up_at : (cells : List ℕ) → Filled r moment x r.claims.count cells → (u : Usage) (p : Option ℕ)
        → latest_place reports_of r.resources.count u.resource ≡ p
        → CellTells r r.claims.count (looked_up (table_by entries (resources_of r.resources)) u) (cell_in cells u.right p)
    looked_up_at cells f u (Some row) q =
        let found = row_found u.resource row q in
        let first = first_row u.resource row found.0 found.1 in
        let inside : ltb row resource_limit ≡ true = lt-ltb row resource_limit (omega (arith, found.0, (sound_out r whole).limits.resource_count)) in
        cases (is_right u.right)
        (λ right.
        rw (lookup_there entries (resources_of r.resources) u (resource_at r.resources row) first right, inside, right)
        (f.tells row u.right found.0 (ltb-true u.right right_count right)))
        (λ past.
        rw (lookup_past entries (resources_of r.resources) u (resource_at r.resources row) first past, inside, past) refl)
    looked_up_at cells f u None q =
        rw (lookup_absent entries (resources_of r.resources) u (first_none (λ o. eqb u.resource o.id) (resources_of r.resources) (row_absent u.resource q))) refl

    -- the number in the cell of a use tells what is looked up in the table
    pub cell_looked_up : (cells : List ℕ) → Filled r moment x r.claims.count cells → (u : Usage)
        → CellTells r r.claims.count (looked_up (cover_table r moment x) u) (cell_in cells u.right (latest_place reports_of r.resources.count u.resource))
    cell_looked_up cells f u = rw table_whole (looked_up_at cells f u (latest_place reports_of r.resources.count u.resource) refl)

module _ (r : Register) (whole : sound r ≡ true) (room : length r.claims.list ≡ claim_limit) where
  -- as many claims stand as are counted
  pub claims_counted : length (claims_of r.claims) ≡ r.claims.count
  claims_counted = omega (arith, length-take r.claims.count r.claims.list, (sound_out r whole).limits.claim_count, room)

  -- the claim at a place stands
  abbrev pub claim_in_lem : (j : ℕ) → j < r.claims.count → IsIn (claims_of r.claims) (claim_stands r j)
  claim_in_lem j within = record {
    before = take j (claims_of r.claims);
    after = drop (suc j) (claims_of r.claims);
    split = split_at (claims_of r.claims) j no_claim (omega (arith, claims_counted, within))
        ∙ ap (λ c. take j (claims_of r.claims) ++ c ∷ drop (suc j) (claims_of r.claims)) (get_or-take r.claims.count r.claims.list j no_claim within);
  }
