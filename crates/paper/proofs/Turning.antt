-- A cell after one claim more: what its number tells is the entry of the definition. Assumes nothing.
use Rattle.std.proofs.Common.{Option, ℕ, Some, ◌≡◌, refl, ap, sym, ◌∙◌, Bool, true, false, not, ◌&&◌, cond, List, [], ◌∷◌, ◌++◌, map, ◌+◌, ◌<◌, ◌≤◌, add-one, arith, lt-ltb, le-ltb, leb-true, leb-false, eqb, ltb, leb, length, take, take-suc, get_or-take}
use mathlib.Core.List.{map-append}
use Rattle.lists.specs.Tests.{cases, clash}
use Rattle.lists.specs.Lists.{ands, any}
use Rattle.rights.specs.Rights.{has_right}
use Rattle.paths.specs.Containment.{contained, reached, reach_between}
use Rattle.register.specs.Limits.{resource_limit, claim_limit}
use Rattle.register.specs.Register.{resources_of, claims_of, path_of, no_claim}
use Rattle.register.specs.Chain.{latest, hops_of, live}
use Rattle.register.specs.declared.Resource.{Resource}
use Rattle.register.specs.declared.Claim.{Claim}
use Rattle.register.specs.declared.Register.{Register}
use Rattle.soundness_rules.specs.Sound.{sound}
use Rattle.columns.specs.Columns.{resource_id, resources_to, latest_place}
use Rattle.columns.specs.Laws.{place_cases}
use Rattle.lookup.specs.Walks.{sheet_few}
use Rattle.gate_rules.specs.Gate.{contains}
use Rattle.coverage_table.specs.Table.{Entry, nothing, openly, claimed, open_entry, speaks, keeps_off, entry_after}
use Rattle.coverage_table.specs.Hearing.{remark_among, heard}
use Rattle.coverage_table.proofs.Walking.{heard_next, resource_stands, entered_natural}
use Rattle.paper.specs.Cells.{cell_at, first_number, resource_at, number_over, RowsEntered, EnteredFrom, ClaimEntered}
use Rattle.paper.specs.Paper.{claim_stands, CellTells, entry_by, Filled}
use Rattle.paper.specs.Laws.{row_stands, row_found, row_absent, claims_counted, claim_in_lem}

-- what a number tells, it tells of the same entry, and further on in the walk
tells_same : (r : Register) (i : ℕ) (e f : Entry) (n m : ℕ) → e ≡ f → n ≡ m → CellTells r i f m → CellTells r i e n
tells_same r i e f n m same number told = rw (same, number) told

tells_later : (r : Register) (i : ℕ) (e : Entry) (n : ℕ) → CellTells r i e n → CellTells r (i + 1) e n
tells_later r i nothing n told = told
tells_later r i openly n told = told
tells_later r i (claimed c hops far) n told = (told.0, omega (arith, told.1), told.2, told.3, told.4)

-- a cell keeps a length off where its number is not below the first number of the length
keeps_number : (r : Register) (i : ℕ) (e : Entry) (n : ℕ) → CellTells r i e n → i ≤ claim_limit → (far : ℕ) → not (keeps_off e far) ≡ ltb n (first_number far)
keeps_number r i nothing n told few far = sym (lt-ltb n (first_number far) (omega (arith, told)))
keeps_number r i openly n told few far = sym (lt-ltb n (first_number far) (omega (arith, told)))
keeps_number r i (claimed c hops most) n told few far =
    cases (leb far most)
    (λ e. let less : far ≤ most = leb-true far most e in
    rw e (sym (le-ltb n (first_number far) (omega (arith, less, told.2)))))
    (λ e. let more : most < far = leb-false far most e in
    rw e (sym (lt-ltb n (first_number far) (omega (arith, more, told.1, told.2, few)))))

-- who does not hold the claim, or whose claim does not live, is not spoken for
not_speaking : (held lives has inside : Bool) → lives && held ≡ false → ands (held ∷ lives ∷ has ∷ inside ∷ []) ≡ false
not_speaking true true has inside h = clash true refl h
not_speaking true false has inside h = refl
not_speaking false lives has inside h = refl

-- a claim that lives and that x holds speaks where it has the right and its path contains the row's
speaking : (held lives has inside : Bool) → lives && held ≡ true → ands (held ∷ lives ∷ has ∷ inside ∷ []) ≡ has && inside
speaking true true true true h = refl
speaking true true true false h = refl
speaking true true false inside h = refl
speaking true false has inside h = clash false h refl
speaking false true has inside h = clash false h refl
speaking false false has inside h = clash false h refl

module _ (r : Register) (i : ℕ) (few : i ≤ claim_limit) (c : Claim) (stands : c ≡ claim_stands r i) where
  abbrev hops : ℕ
  hops = hops_of (latest (claims_of r.claims)) c

  -- a cell's turn: p is the path of the claim's resource, q that of the row's
  abbrev entry_turned : Entry → List ℕ → List ℕ → ℕ → Entry
  entry_turned e p q b = cond ((has_right c.rights b && contained p q) && not (keeps_off e (reached p q))) (claimed c hops (reached p q)) e

  abbrev number_turned : ℕ → List ℕ → List ℕ → ℕ → ℕ
  number_turned n p q b = number_over (reach_between p q) c.rights b i n

  tells_turn : (e : Entry) (n : ℕ) → CellTells r i e n → (p q : List ℕ) (b : ℕ) → CellTells r (i + 1) (entry_turned e p q b) (number_turned n p q b)
  tells_turn e n told p q b =
      let kept : (entry_turned e p q b ≡ e → number_turned n p q b ≡ n → CellTells r (i + 1) (entry_turned e p q b) (number_turned n p q b)) =
      λ same number. tells_same r (i + 1) (entry_turned e p q b) e (number_turned n p q b) n same number (tells_later r i e n told) in
      let keeps : not (keeps_off e (reached p q)) ≡ ltb n (first_number (reached p q)) = keeps_number r i e n told few (reached p q) in
      cases (contained p q)
      (λ inside.
      cases (has_right c.rights b)
      (λ has.
      cases (ltb n (first_number (reached p q)))
      (λ low. tells_same r (i + 1) (entry_turned e p q b) (claimed c hops (reached p q)) (number_turned n p q b) (first_number (reached p q) + i)
      (rw (has, inside, keeps, low)) (rw (inside, has, low)) (i, omega arith, refl, stands, refl))
      (λ high. kept (rw (has, inside, keeps, high)) (rw (inside, has, high))))
      (λ lacks. kept (rw lacks) (rw (inside, lacks))))
      (λ away.
      cases (has_right c.rights b)
      (λ has. kept (rw (has, away)) (rw away))
      (λ lacks. kept (rw lacks) (rw away)))

module _ (r : Register) (whole : sound r ≡ true) (room : length r.claims.list ≡ claim_limit) (moment x i : ℕ) (within : i < r.claims.count) where
  abbrev all : List Claim
  all = latest (claims_of r.claims)

  abbrev claim : Claim
  claim = claim_stands r i

  -- the entry of a cell after the claim at place i
  entry_next : (o : Resource) (b : ℕ) → entry_by r moment x o b (i + 1) ≡ entry_after r x o b (remark_among moment all claim) (entry_by r moment x o b i)
  entry_next o b =
      let more : take (i + 1) (claims_of r.claims) ≡ take i (claims_of r.claims) ++ (claim ∷ []) =
      ap (λ k. take k (claims_of r.claims)) (add-one i)
      ∙ take-suc (claims_of r.claims) i no_claim (omega (arith, within, claims_counted r whole room))
      ∙ ap (λ c. take i (claims_of r.claims) ++ (c ∷ [])) (get_or-take r.claims.count r.claims.list i no_claim within) in
      ap (λ cs. heard r x o b (map (remark_among moment all) cs) (open_entry o b)) more
      ∙ ap (λ l. heard r x o b l (open_entry o b)) (map-append (remark_among moment all) (take i (claims_of r.claims)) (claim ∷ []))
      ∙ heard_next r x o b (map (remark_among moment all) (take i (claims_of r.claims))) (remark_among moment all claim) (open_entry o b)

  -- a claim that x does not hold, or that does not live, changes nothing
  entry_passed : live moment all claim && eqb claim.holder x ≡ false → (o : Resource) (b : ℕ) (e : Entry) → entry_after r x o b (remark_among moment all claim) e ≡ e
  unfolding speaks
  entry_passed silent o b e =
      rw (not_speaking (eqb claim.holder x) (live moment all claim) (has_right claim.rights b) (contains r claim.resource o.id) silent)

  pub filled_passed : (cells : List ℕ) → Filled r moment x i cells → live moment all claim && eqb claim.holder x ≡ false → Filled r moment x (i + 1) cells
  filled_passed cells f silent = record {
    long = f.long;
    tells = λ row b inside right. let o : Resource = resource_at r.resources row in
        tells_same r (i + 1) (entry_by r moment x o b (i + 1)) (entry_by r moment x o b i) (cell_at cells row b) (cell_at cells row b)
        (entry_next o b ∙ entry_passed silent o b (entry_by r moment x o b i)) refl
        (tells_later r i (entry_by r moment x o b i) (cell_at cells row b) (f.tells row b inside right));
  }

  module _ (space : length r.resources.list ≡ resource_limit) where
    abbrev reports : List ℕ
    reports = map resource_id (resources_to r.resources).list

    -- the claim is entered where its resource stands
    spot_found : {A : Type 0} → ((spot : ℕ) → latest_place reports r.resources.count claim.resource ≡ Some spot → A) → A
    spot_found f =
        place_cases (latest_place reports r.resources.count claim.resource) f
        (λ q. clash (any (λ o. eqb claim.resource o.id) (resources_of r.resources))
        (resource_stands r whole claim (claim_in_lem r whole room i within)) (row_absent r whole space claim.resource q))

    entered_at : (cells next : List ℕ) (p : Option ℕ) (spot : ℕ) → p ≡ Some spot → EnteredFrom cells r.resources claim i next p
        → RowsEntered cells r.resources spot claim.rights i next
    entered_at cells next p spot q entered = rw q at entered

    entry_entered : live moment all claim && eqb claim.holder x ≡ true → (spot row b : ℕ) (e : Entry)
        → latest_place reports r.resources.count claim.resource ≡ Some spot → row < r.resources.count
        → entry_after r x (resource_at r.resources row) b (remark_among moment all claim) e
        ≡ cond ((has_right claim.rights b && contained (path_of (resource_at r.resources spot)) (path_of (resource_at r.resources row)))
        && not (keeps_off e (reached (path_of (resource_at r.resources spot)) (path_of (resource_at r.resources row)))))
        (claimed claim (hops_of all claim) (reached (path_of (resource_at r.resources spot)) (path_of (resource_at r.resources row)))) e
    entry_entered speaks spot row b e q inside =
        let found = row_found r whole space claim.resource spot q in
        let s : Resource = resource_at r.resources spot in
        let o : Resource = resource_at r.resources row in
        entered_natural r whole x o b (remark_among moment all claim) e s (row_stands r whole space spot found.0) (row_stands r whole space row inside) found.1
        ∙ rw (speaking (eqb claim.holder x) (live moment all claim) (has_right claim.rights b) (contained (path_of s) (path_of o)) speaks)

    pub filled_entered : (cells next : List ℕ) → Filled r moment x i cells → live moment all claim && eqb claim.holder x ≡ true
        → ClaimEntered cells reports r.resources claim i next → Filled r moment x (i + 1) next
    filled_entered cells next f speaks entered =
        let few : i ≤ claim_limit = omega (arith, within, sheet_few r room whole) in
        spot_found (λ spot q.
        let rows = entered_at cells next (latest_place reports r.resources.count claim.resource) spot q entered in
        record {
          long = rows.long ∙ f.long;
          tells = λ row b inside right. let o : Resource = resource_at r.resources row in
              let e : Entry = entry_by r moment x o b i in
              let p : List ℕ = path_of (resource_at r.resources spot) in
              tells_same r (i + 1) (entry_by r moment x o b (i + 1)) (entry_turned r i few claim refl e p (path_of o) b) (cell_at next row b)
              (number_turned r i few claim refl (cell_at cells row b) p (path_of o) b)
              (entry_next o b ∙ entry_entered speaks spot row b e q inside) (rows.there row b inside right)
              (tells_turn r i few claim refl e (cell_at cells row b) (f.tells row b inside right) p (path_of o) b);
        })

    -- and the table keeps its length
    pub entered_long : (cells next : List ℕ) → ClaimEntered cells reports r.resources claim i next → length next ≡ length cells
    entered_long cells next entered =
        spot_found (λ spot q. (entered_at cells next (latest_place reports r.resources.count claim.resource) spot q entered).long)
