-- What stands on the paper, as numbers, is what the definition shows. Assumes nothing.
use Rattle.std.proofs.Common.{Ok, ◌≡◌, refl, sym, ap, ◌∙◌, true, false, cond, List, [], ◌∷◌, ◌++◌, map, ℕ, suc, ◌+◌, ◌-◌, ◌*◌, ◌%◌, ◌<◌, zero-add, arith, eq-eqb, ne_eqb, eqb, length, get_or, length-take, get_or-take}
use mathlib.Core.List.{map-map, map-append, reverse-reverse}
use Rattle.lists.specs.Lists.{All, counted}
use Rattle.lists.specs.Each.{reverse_map}
use Rattle.lists.specs.Fills.{filled_by}
use Rattle.rights.specs.Rights.{right_count, the_rights}
use Rattle.register.specs.Limits.{resource_limit, claim_limit}
use Rattle.register.specs.Register.{resources_of, claims_of, no_claim}
use Rattle.register.specs.Chain.{latest}
use Rattle.register.specs.declared.Resource.{Resource}
use Rattle.register.specs.declared.Claim.{Claim}
use Rattle.register.specs.declared.Register.{Register}
use Rattle.soundness_rules.specs.Sound.{sound}
use Rattle.soundness_rules.proofs.Laws.{fresh_out}
use Rattle.soundness_rules.proofs.Places.{place_acceptable}
use Rattle.soundness_rules.proofs.Registers.{sound_out}
use Rattle.gate_rules.specs.Places.{all_latest}
use Rattle.gate_rules.proofs.Coverage.{sound_place}
use Rattle.gate_rules.specs.Authority.{IsIn}
use Rattle.lookup.specs.Laws.{counted_number}
use Rattle.coverage_table.specs.Table.{Remark, Entry, nothing, openly, claimed, Cell, cover_table, table_owner}
use Rattle.coverage_table.proofs.Remarks.{world_around}
use Rattle.coverage_table.specs.Hearing.{remark_among}
use Rattle.coverage_table.proofs.Filling.{row_by, table_by, remarks_standing}
use Rattle.paper.specs.Cells.{cell_limit, cell_at, past_resource, resource_at}
use Rattle.paper.specs.Paper.{claim_stands, CellTells, entry_by, Filled, Written}
use Rattle.paper.specs.Laws.{resources_counted, claims_counted, claim_in_lem, table_whole}
use Rattle.paper.specs.declared.Page.{Page}
use Rattle.table_showing.specs.Shown.{state_number, remark_number, place_named, nothing_number, entry_number, rows_numbers, shown_in, shown_cells, owner_shown, owner_rows, remarks_shown, table_held}
use Rattle.table_showing.specs.Columns.{cell_number}
use Rattle.table_showing.specs.declared.TableShown.{TableShown}
use Rattle.table_showing.proofs.Counting.{list_counted, counted_parts, filled_shown}
use Rattle.table_showing.proofs.Owning.{owner_cases}

-- the place of a claim by its number is where it stands, where none before it has the number
place_at : (c : Claim) (before after : List Claim) → All (λ d. c.id ≡ d.id → ⊥) before → place_named c.id (before ++ c ∷ after) ≡ length before
place_at c [] after h = rw (eq-eqb c.id c.id refl)
place_at c (d ∷ before) after h = rw (ne_eqb c.id d.id h.0) (ap suc (place_at c before after h.1))

module _ (r : Register) (whole : sound r ≡ true) where
  -- the place of a claim by its number is where it stands
  pub place_standing_lem : (c : Claim) (at : IsIn (claims_of r.claims) c) → place_named c.id (claims_of r.claims) ≡ length at.before
  place_standing_lem c at =
      let apart = all_latest (λ d. c.id ≡ d.id → ⊥) (latest at.before)
      (fresh_out (latest at.before) c
      (place_acceptable (world_around r) (latest at.after) c (latest at.before) (sound_place r whole c at)).over_earlier.apart) in
      ap (place_named c.id) at.split ∙ place_at c at.before at.after (rw (reverse-reverse at.before) at apart)

right_at : (b : ℕ) → b < right_count → get_or the_rights b 0 ≡ b
right_at b below = counted_number right_count 0 b 0 below ∙ zero-add b

-- the rows of a table, cell by cell
rows_shown : (r : Register) (e : Resource → ℕ → Entry) (f : ℕ → ℕ) (d : Resource) (L : List Resource) (i : ℕ)
    → ((j b : ℕ) → j < length L → b < right_count → f ((i + j) * right_count + b) ≡ entry_number r (e (get_or L j d) b))
    → map f (counted (i * right_count) (length L * right_count)) ≡ rows_numbers r (table_by e L)
rows_shown r e f d [] i h = refl
rows_shown r e f d (o ∷ L) i h =
    let parts : length (o ∷ L) * right_count ≡ right_count + length L * right_count = omega arith in
    let further : i * right_count + right_count ≡ suc i * right_count = omega arith in
    let first : map f (counted (i * right_count) right_count) ≡ map (λ c. entry_number r c.entry) (row_by e o).cells =
    list_counted (λ b. entry_number r (e o b)) 0 f the_rights (i * right_count)
    (λ b below. let here : i * right_count + b ≡ (i + 0) * right_count + b = omega arith in
    ap f here ∙ h 0 b (omega arith) below ∙ ap (λ k. entry_number r (e o k)) (sym (right_at b below)))
    ∙ sym (map-map (λ (c : Cell). entry_number r c.entry) (λ b. record { right = b; entry = e o b }) the_rights) in
    ap (λ n. map f (counted (i * right_count) n)) parts
    ∙ ap (map f) (counted_parts (i * right_count) right_count (length L * right_count))
    ∙ map-append f (counted (i * right_count) right_count) (counted (i * right_count + right_count) (length L * right_count))
    ∙ ap (λ l. l ++ map f (counted (i * right_count + right_count) (length L * right_count))) first
    ∙ ap (λ l. map (λ c. entry_number r c.entry) (row_by e o).cells ++ l)
    (ap (λ s. map f (counted s (length L * right_count))) further
    ∙ rows_shown r e f d L (suc i)
    (λ j b below right. let here : (suc i + j) * right_count + b ≡ (i + suc j) * right_count + b = omega arith in
    ap f here ∙ h (suc j) b (omega (arith, below)) right))

module _ (r : Register) (whole : sound r ≡ true) (room : length r.claims.list ≡ claim_limit) (moment : ℕ) where
  abbrev all : List Claim
  all = latest (claims_of r.claims)

  -- ---- the claims

  -- the remarks in register order are what the chains among all claims say
  remarks_order : (actor : ℕ) → remarks_shown r actor moment ≡ map (remark_among moment all) (claims_of r.claims)
  remarks_order actor =
      ap latest (remarks_standing r moment actor whole)
      ∙ reverse_map (remark_among moment all) all
      ∙ ap (map (remark_among moment all)) (reverse-reverse (claims_of r.claims))

  -- what is told of the claim at each place is shown
  told_shown : (actor : ℕ) (f : ℕ → ℕ) (g : Remark → ℕ) → ((j : ℕ) → j < r.claims.count → f j ≡ g (remark_among moment all (claim_stands r j)))
      → filled_by claim_limit f r.claims.count 0 ≡ shown_in claim_limit 0 (map g (remarks_shown r actor moment))
  told_shown actor f g told =
      let many : length (claims_of r.claims) ≡ r.claims.count = claims_counted r whole room in
      filled_shown claim_limit r.claims.count 0 f (map g (remarks_shown r actor moment))
      (ap (λ n. map f (counted 0 n)) (sym many)
      ∙ list_counted (λ c. g (remark_among moment all c)) no_claim f (claims_of r.claims) 0
      (λ b below. let within : b < r.claims.count = omega (arith, below, many) in
      ap f (zero-add b) ∙ told b within
      ∙ ap (λ c. g (remark_among moment all c)) (sym (get_or-take r.claims.count r.claims.list b no_claim within)))
      ∙ sym (ap (map g) (remarks_order actor) ∙ map-map g (remark_among moment all) (claims_of r.claims)))

  -- ---- the cells

  place_number_lem : (p : ℕ) → p < r.claims.count → place_named (claim_stands r p).id (claims_of r.claims) ≡ p
  place_number_lem p within =
      place_standing_lem r whole (claim_stands r p) (claim_in_lem r whole room p within)
      ∙ omega (arith, length-take p (claims_of r.claims), claims_counted r whole room, within)

  -- what a cell's number tells is shown
  cell_shown : (e : Entry) (n : ℕ) → CellTells r r.claims.count e n → cell_number n ≡ entry_number r e
  cell_shown nothing n told = rw told
  cell_shown openly n told = rw told
  cell_shown (claimed c hops far) n told =
      let few = (sound_out r whole).limits.claim_count in
      let place : (n - 2) % claim_limit ≡ told.0 = omega (arith, told.1, told.2, few) in
      rw (ne_eqb n 0 (λ z. omega (arith, told.2, z)), ne_eqb n 1 (λ z. omega (arith, told.2, z)))
      (place ∙ sym (place_number_lem told.0 told.1) ∙ ap (λ d. place_named d.id (claims_of r.claims)) (sym told.3))

  module _ (space : length r.resources.list ≡ resource_limit) where
    -- a table on the paper is shown
    table_shown_lem : (x : ℕ) (cells : List ℕ) → Filled r moment x r.claims.count cells
        → filled_by cell_limit (λ k. cell_number (get_or cells k 0)) (r.resources.count * right_count) nothing_number
        ≡ shown_in shown_cells nothing_number (rows_numbers r (cover_table r moment x))
    table_shown_lem x cells filled =
        let f : ℕ → ℕ = λ k. cell_number (get_or cells k 0) in
        let e : Resource → ℕ → Entry = λ o b. entry_by r moment x o b r.claims.count in
        let many : length (resources_of r.resources) ≡ r.resources.count = resources_counted r whole space in
        filled_shown cell_limit (r.resources.count * right_count) nothing_number f (rows_numbers r (cover_table r moment x))
        (ap (λ n. map f (counted 0 (n * right_count))) (sym many)
        ∙ rows_shown r e f past_resource (resources_of r.resources) 0
        (λ j b below right. let within : j < r.resources.count = omega (arith, below, many) in
        let here : (0 + j) * right_count + b ≡ j * right_count + b = omega arith in
        ap f here ∙ cell_shown (e (resource_at r.resources j) b) (cell_at cells j b) (filled.tells j b within right)
        ∙ ap (λ o. entry_number r (e o b)) (sym (get_or-take r.resources.count r.resources.list j past_resource within)))
        ∙ ap (rows_numbers r) (sym (table_whole r whole space moment x)))

    -- the owner's too, where there is one
    owners_shown : (actor owner : ℕ) (cells : List ℕ) → owner ≡ owner_shown (table_owner r actor)
        → ((actor ≡ owner → ⊥) → Filled r moment owner r.claims.count cells)
        → filled_by cell_limit (λ k. cell_number (get_or cells k 0)) (cond (eqb owner 0) 0 r.resources.count * right_count) nothing_number
        ≡ shown_in shown_cells nothing_number (rows_numbers r (owner_rows r moment (table_owner r actor)))
    owners_shown actor owner cells told filled =
        let f : ℕ → ℕ = λ k. cell_number (get_or cells k 0) in
        owner_cases r whole actor
        (λ none. let zero : owner ≡ 0 = told ∙ ap owner_shown none in
        ap (λ w. filled_by cell_limit f (cond (eqb w 0) 0 r.resources.count * right_count) nothing_number) zero
        ∙ sym (ap (λ l. shown_in shown_cells nothing_number (rows_numbers r (owner_rows r moment l))) none))
        (λ y one some other. let same : owner ≡ y = told ∙ ap owner_shown one in
        ap (λ b. filled_by cell_limit f (cond b 0 r.resources.count * right_count) nothing_number) (ne_eqb owner 0 (λ z. some (sym same ∙ z)))
        ∙ table_shown_lem owner cells (filled (λ e. other (e ∙ same)))
        ∙ ap (λ w. shown_in shown_cells nothing_number (rows_numbers r (cover_table r moment w))) same
        ∙ sym (ap (λ l. shown_in shown_cells nothing_number (rows_numbers r (owner_rows r moment l))) one))

    table_same : (a b : ℕ) (h i s t v w y z : List ℕ) → a ≡ b → h ≡ i → s ≡ t → v ≡ w → y ≡ z
        → ◌≡◌ {A = TableShown} (record { outcome = Ok tt; owner = a; hops = h; states = s; own = v; owners = y })
        (record { outcome = Ok tt; owner = b; hops = i; states = t; own = w; owners = z })
    table_same a b h i s t v w y z e1 e2 e3 e4 e5 = rw (e1, e2, e3, e4, e5)

    -- so what is shown of the paper is what the definition shows
    pub shown_natural : (actor owner rows : ℕ) (p : Page) (hops states own owners : List ℕ) → Written r moment actor owner p
        → owner ≡ owner_shown (table_owner r actor)
        → hops ≡ filled_by claim_limit (λ j. get_or p.hops j 0) r.claims.count 0
        → states ≡ filled_by claim_limit (λ j. state_number moment (get_or r.claims.list j no_claim) (get_or p.lives j false)) r.claims.count 0
        → own ≡ filled_by cell_limit (λ k. cell_number (get_or p.own k 0)) (r.resources.count * right_count) nothing_number
        → rows ≡ cond (eqb owner 0) 0 r.resources.count
        → owners ≡ filled_by cell_limit (λ k. cell_number (get_or p.theirs k 0)) (rows * right_count) nothing_number
        → ◌≡◌ {A = TableShown} (record { outcome = Ok tt; owner = owner; hops = hops; states = states; own = own; owners = owners }) (table_held r actor moment)
    unfolding table_held
    shown_natural actor owner rows p hops states own owners written asked counted stated shown many theirs =
        table_same owner (owner_shown (table_owner r actor)) hops (shown_in claim_limit 0 (map (λ n. n.hops) (remarks_shown r actor moment)))
        states (shown_in claim_limit 0 (map (remark_number moment) (remarks_shown r actor moment)))
        own (shown_in shown_cells nothing_number (rows_numbers r (cover_table r moment actor)))
        owners (shown_in shown_cells nothing_number (rows_numbers r (owner_rows r moment (table_owner r actor))))
        asked
        (counted ∙ told_shown actor (λ j. get_or p.hops j 0) (λ n. n.hops) (λ j within. written.hops j within))
        (stated
        ∙ told_shown actor (λ j. state_number moment (get_or r.claims.list j no_claim) (get_or p.lives j false)) (remark_number moment)
        (λ j within. ap (state_number moment (claim_stands r j)) (written.lives j within)))
        (shown ∙ table_shown_lem actor p.own written.own)
        (theirs
        ∙ ap (λ n. filled_by cell_limit (λ k. cell_number (get_or p.theirs k 0)) (n * right_count) nothing_number) many
        ∙ owners_shown actor owner p.theirs asked written.theirs)
