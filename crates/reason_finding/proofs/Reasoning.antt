-- The reason by the columns of a register is that of the register, and so is the whole answer. Assumes nothing.
use Rattle.std.proofs.Common.{Option, ℕ, None, Some, Ok, ◌≡◌, refl, sym, ap, ◌∙◌, Bool, true, false, not, ◌&&◌, cond, List, ◌∷◌, map, ◌<◌, arith, ltb-true, eqb-true, eq-eqb, eqb, ltb, length, get_or, take, length-take}
use mathlib.Core.Path.{fun_ext}
use mathlib.Core.Bool.{and-true}
use lib.ListN.{get_or-map, get_or-replicate}
use Rattle.lists.specs.Tests.{cases, clash, and_left, and_right, and_both}
use Rattle.lists.specs.Counts.{every_counted_sound}
use Rattle.rights.specs.Rights.{right_count, is_right, has_right}
use Rattle.register.specs.Limits.{claim_limit, hop_limit, moment_end, machine_kind}
use Rattle.register.specs.Register.{actors_of, resources_of, claims_of, no_actor, no_resource, no_claim, Shaped}
use Rattle.register.specs.Chain.{current}
use Rattle.register.specs.declared.Actor.{Actor}
use Rattle.register.specs.declared.Claim.{Claim}
use Rattle.register.specs.declared.Register.{Register}
use Rattle.columns.specs.Columns.{actor_id, actor_kind, actor_owner, claim_id, parent_of, claimed_of, holder_of, rights_of, weight_of, places_up, latest_place, actors_to}
use Rattle.columns.specs.Laws.{up_to_first, beside_natural}
use Rattle.columns.specs.Sheet.{sheet_limit, sheet_of, claim_at, column_of, id_column, parent_column, holder_column, resource_column, rights_column, weight_column}
use Rattle.columns.specs.SheetLaws.{column_natural, sheet_long, claims_in_at, sheet_claims}
use Rattle.lookup.specs.Asked.{asked_at}
use Rattle.soundness_rules.specs.Sound.{sound, is_machine}
use Rattle.soundness.specs.Judged.{findings_by}
use Rattle.soundness.specs.declared.Findings.{Findings}
use Rattle.actions.specs.declared.Usage.{Usage}
use Rattle.coverage.specs.Laid.{laid}
use Rattle.coverage.specs.Coverage.{nearest_covering}
use Rattle.coverage.specs.Gathering.{held_places}
use Rattle.gate_rules.specs.Gate.{public_read, contains, covering, reach_of, first_of}
use Rattle.gate_rules.specs.Places.{any_place, place_any, first_none}
use Rattle.gate.specs.Judged.{counts_of, sheet_ends}
use Rattle.gate.specs.Sheets.{sheeted, sheeted_laid, sheeted_shaped, column_natural_expiries}
use Rattle.uses.specs.Sights.{owner_at, owner_number, spots_of, ups_of, ends_in, spot_for}
use Rattle.uses.specs.SightsLaws.{asked_actor}
use Rattle.uses.specs.Resources.{public_natural}
use Rattle.uses.specs.Ends.{cover_natural}
use Rattle.uses.specs.Relying.{only_at, claim_standing, nearest_natural}
use Rattle.reasons.specs.Reasons.{Reason, relying, publicly, not_live, lacking, unheld, reason_from, reason_of, held_over, held_with, used_reach, telling, telling_of, telling_none, ended_on, first_id}
use Rattle.reasons.specs.Uses.{machine_owner, first_owner, told_of, use_told_of, why_on}
use Rattle.reasons.proofs.UsesLaws.{owner_same}
use Rattle.reasons.specs.declared.Told.{Told}
use Rattle.reason_finding.specs.declared.Ask.{Ask}
use Rattle.reason_finding.specs.Finding.{chain_telling, chain_told, ended_by, held_place, always, whole, told_at, lacking_by, missing_by, reason_by, owner_for, use_by}
use Rattle.reason_finding.proofs.Holding.{placed_in, tested_place, tested_read, tested_inside, held_nearest}
use Rattle.reason_finding.proofs.Chains.{higher_natural}

-- the rights number of all rights has each
whole_has : (b : ℕ) → is_right b ≡ true → has_right 131071 b ≡ true
unfolding has_right
whole_has b e = every_counted_sound (has_right 131071) right_count 0 refl b (omega arith) (omega (arith, ltb-true b right_count e))

-- what is told at a place
told_at_lem : (p : Option ℕ) (n : ℕ) (tell : ℕ → Told) (rest : Told) (r : Register) (moment : ℕ) (by : Claim → Reason) (more : Reason) → placed_in n p ≡ true
    → ((j : ℕ) → j < n → tell j ≡ told_of (telling r moment (by (claim_standing r j)))) → rest ≡ told_of (telling r moment more)
    → told_at tell p rest ≡ told_of (telling r moment (reason_from by (only_at (claim_standing r) p) more))
told_at_lem (Some j) n tell rest r moment by more inside each other = each j (ltb-true j n inside)
told_at_lem None n tell rest r moment by more inside each other = other

module _ (r : Register) (shaped : Shaped r) (h : sound (sheeted r) ≡ true) where
  abbrev sheet : List ℕ
  sheet = sheet_of r.claims

  abbrev found : Findings
  found = findings_by r.version r.actors r.resources sheet r.claims.count

  sheet_full : length sheet ≡ sheet_limit
  sheet_full = sheet_long r.claims

  wholly : Shaped (sheeted r)
  wholly = sheeted_shaped r shaped

  ups_natural : found.ups ≡ ups_of (sheeted r)
  ups_natural = rw (column_natural sheet sheet_full claim_id id_column (omega arith) (λ g. refl), column_natural sheet sheet_full parent_of parent_column (omega arith) (λ g. refl))

  pub spots_natural : found.spots ≡ spots_of (sheeted r)
  spots_natural = rw (column_natural sheet sheet_full claimed_of resource_column (omega arith) (λ g. refl))

  pub ends_natural : sheet_ends sheet found.ups r.claims.count ≡ ends_in (sheeted r)
  ends_natural = rw (ups_natural, column_natural sheet sheet_full weight_of weight_column (omega arith) (λ g. refl), column_natural_expiries r shaped h)

  pub holders_natural : column_of holder_column sheet ≡ map holder_of (sheeted r).claims.list
  holders_natural = column_natural sheet sheet_full holder_of holder_column (omega arith) (λ g. refl)

  pub rights_natural : column_of rights_column sheet ≡ map rights_of (sheeted r).claims.list
  rights_natural = column_natural sheet sheet_full rights_of rights_column (omega arith) (λ g. refl)

  claim_read : ◌≡◌ {A = ℕ → Claim} (claim_at sheet) (claim_standing (sheeted r))
  claim_read = fun_ext (λ j. sym (claims_in_at sheet j))

  -- the claim at a place with those above it
  module _ (j : ℕ) (inside : j < length (claims_of (sheeted r).claims)) where
    told_natural : (kind at : ℕ) → chain_told kind sheet found.ups j at ≡ told_of (telling_of (sheeted r) kind (claim_standing (sheeted r) j) at)
    told_natural kind at =
        ap (λ l. chain_told kind sheet l j at) ups_natural
        ∙ ap (λ (f : ℕ → Claim). told_of (chain_telling kind (f j) (map f (take hop_limit (places_up (ups_of (sheeted r)) j))) at)) claim_read
        ∙ ap (λ l. told_of (chain_telling kind (claim_standing (sheeted r) j) l at)) (higher_natural (sheeted r) wholly h j inside)

    ended_natural : (moment : ℕ) → ended_by sheet found.ups moment j ≡ ended_on (sheeted r) moment (claim_standing (sheeted r) j)
    ended_natural moment =
        ap (λ l. ended_by sheet l moment j) ups_natural
        ∙ ap (λ (f : ℕ → Claim). first_id (first_of (λ d. not (current moment d)) (f j ∷ map f (take hop_limit (places_up (ups_of (sheeted r)) j))))) claim_read
        ∙ ap (λ l. first_id (first_of (λ d. not (current moment d)) (claim_standing (sheeted r) j ∷ l))) (higher_natural (sheeted r) wholly h j inside)

  module _ (x : ℕ) (u : Usage) (moment : ℕ) (timely : ltb moment moment_end ≡ true) (ranged : is_right u.right ≡ true) where
    abbrev asked : Ask
    asked = record { actor = x; right = u.right; spot = spot_for (sheeted r) u; moment = moment }

    abbrev many : ℕ
    many = length (claims_of (sheeted r).claims)

    -- the place of the claim relied on, of the nearest held with the right, of the nearest held
    abbrev placed : List ℕ → List ℕ → Option ℕ
    placed ends rights = held_place (column_of holder_column sheet) ends rights found.spots (laid r.resources).bytes (laid r.resources).lens r.claims.count asked

    columns_natural : (ends rights : List ℕ) → placed ends rights
        ≡ nearest_covering (held_places (map holder_of (sheeted r).claims.list) ends (sheeted r).claims.count x moment) rights (spots_of (sheeted r))
        (laid (sheeted r).resources).bytes (laid (sheeted r).resources).lens u.right (spot_for (sheeted r) u)
    columns_natural ends rights = rw (holders_natural, spots_natural, sheeted_laid r.resources)

    relied_place_lem : placed (sheet_ends sheet found.ups r.claims.count) (column_of rights_column sheet) ≡ tested_place (sheeted r) u (covering (sheeted r) moment x u)
    relied_place_lem =
        columns_natural (sheet_ends sheet found.ups r.claims.count) (column_of rights_column sheet)
        ∙ rw (ends_natural, rights_natural, cover_natural (sheeted r) wholly h moment timely x) (nearest_natural (sheeted r) wholly h moment x u x)

    with_place : placed always (column_of rights_column sheet) ≡ tested_place (sheeted r) u (held_with (sheeted r) x u)
    with_place =
        columns_natural always (column_of rights_column sheet)
        ∙ rw rights_natural (held_nearest (sheeted r) wholly h u moment x timely (map rights_of (sheeted r).claims.list) (held_with (sheeted r) x u)
        (λ j inside. rw (get_or-map rights_of (sheeted r).claims.list j no_claim)
        (turned (eqb (claim_standing (sheeted r) j).holder x) (has_right (claim_standing (sheeted r) j).rights u.right)
        (contains (sheeted r) (claim_standing (sheeted r) j).resource u.resource))))
      where
        turned : (a b c : Bool) → a && (b && c) ≡ (a && c) && b
        turned true true c = sym (and-true c)
        turned true false true = refl
        turned true false false = refl
        turned false b c = refl

    over_place : placed always whole ≡ tested_place (sheeted r) u (held_over (sheeted r) x u)
    over_place =
        columns_natural always whole
        ∙ held_nearest (sheeted r) wholly h u moment x timely whole (held_over (sheeted r) x u)
        (λ j inside. let within : j < claim_limit = omega (arith, inside, wholly.claims, length-take r.claims.count (sheeted r).claims.list) in
        ap (λ b. eqb (claim_standing (sheeted r) j).holder x && (b && contains (sheeted r) (claim_standing (sheeted r) j).resource u.resource))
        (ap (λ n. has_right n u.right) (get_or-replicate claim_limit j 131071 0 within) ∙ whole_has u.right ranged))

    -- what is told where the actor does not cover the use
    lacking_natural : lacking_by r.claims.count found (laid r.resources).lens sheet (laid r.resources).bytes asked
        ≡ told_of (telling (sheeted r) moment (reason_from lacking (only_at (claim_standing (sheeted r)) (tested_place (sheeted r) u (held_over (sheeted r) x u))) unheld))
    unfolding lacking_by
    lacking_natural =
        ap (λ p. told_at (λ j. chain_told 4 sheet found.ups j 0) p (told_of (telling_none 5))) over_place
        ∙ told_at_lem (tested_place (sheeted r) u (held_over (sheeted r) x u)) many (λ j. chain_told 4 sheet found.ups j 0) (told_of (telling_none 5)) (sheeted r) moment lacking unheld
        (tested_inside (sheeted r) u (held_over (sheeted r) x u)) (λ j inside. told_natural j inside 4 0) refl

    missing_natural : missing_by r.claims.count found (laid r.resources).lens sheet (laid r.resources).bytes asked
        ≡ told_of (telling (sheeted r) moment (reason_from not_live (only_at (claim_standing (sheeted r)) (tested_place (sheeted r) u (held_with (sheeted r) x u)))
        (reason_from lacking (only_at (claim_standing (sheeted r)) (tested_place (sheeted r) u (held_over (sheeted r) x u))) unheld)))
    unfolding missing_by
    missing_natural =
        let tell : ℕ → Told = λ j. chain_told 3 sheet found.ups j (ended_by sheet found.ups moment j) in
        let rest : Told = lacking_by r.claims.count found (laid r.resources).lens sheet (laid r.resources).bytes asked in
        ap (λ p. told_at tell p rest) with_place
        ∙ told_at_lem (tested_place (sheeted r) u (held_with (sheeted r) x u)) many tell rest (sheeted r) moment not_live
        (reason_from lacking (only_at (claim_standing (sheeted r)) (tested_place (sheeted r) u (held_over (sheeted r) x u))) unheld)
        (tested_inside (sheeted r) u (held_with (sheeted r) x u))
        (λ j inside. ap (chain_told 3 sheet found.ups j) (ended_natural j inside moment) ∙ told_natural j inside 3 (ended_on (sheeted r) moment (claim_standing (sheeted r) j)))
        lacking_natural

    reason_read : reason_of (sheeted r) moment x u
        ≡ reason_from relying (only_at (claim_standing (sheeted r)) (tested_place (sheeted r) u (covering (sheeted r) moment x u)))
        (cond (public_read (sheeted r) u) publicly
        (reason_from not_live (only_at (claim_standing (sheeted r)) (tested_place (sheeted r) u (held_with (sheeted r) x u)))
        (reason_from lacking (only_at (claim_standing (sheeted r)) (tested_place (sheeted r) u (held_over (sheeted r) x u))) unheld)))
    unfolding reason_of
    reason_read =
        rw (tested_read (sheeted r) u (covering (sheeted r) moment x u), tested_read (sheeted r) u (held_with (sheeted r) x u), tested_read (sheeted r) u (held_over (sheeted r) x u))

    pub reason_natural : reason_by r.claims.count found (laid r.resources).lens (sheet_ends sheet found.ups r.claims.count) sheet (laid r.resources).bytes asked
        ≡ told_of (telling (sheeted r) moment (reason_of (sheeted r) moment x u))
    unfolding reason_by
    reason_natural =
        let miss : Told = missing_by r.claims.count found (laid r.resources).lens sheet (laid r.resources).bytes asked in
        let other : Reason = reason_from not_live (only_at (claim_standing (sheeted r)) (tested_place (sheeted r) u (held_with (sheeted r) x u)))
        (reason_from lacking (only_at (claim_standing (sheeted r)) (tested_place (sheeted r) u (held_over (sheeted r) x u))) unheld) in
        let tell : ℕ → Told = λ j. chain_told 1 sheet found.ups j 0 in
        rw (relied_place_lem, ← public_natural (sheeted r) h wholly u, reason_read)
        (told_at_lem (tested_place (sheeted r) u (covering (sheeted r) moment x u)) many tell (cond (public_read (sheeted r) u) (told_of (telling_none 2)) miss) (sheeted r) moment relying
        (cond (public_read (sheeted r) u) publicly other)
        (tested_inside (sheeted r) u (covering (sheeted r) moment x u)) (λ j inside. told_natural j inside 1 0)
        (cases (public_read (sheeted r) u) (λ e. rw e) (λ e. rw e missing_natural)))

-- ---- the owner of a machine
module _ (r : Register) (h : sound r ≡ true) (x : ℕ) (u : Usage) (moment : ℕ) where
  -- of the one machine with the number x, by its place
  placed_owner : (a : Actor) (p : Option ℕ) → asked_at no_actor r.actors.list (λ b. eqb b.owner a.owner) p ≡ true
      → owner_at (map actor_owner r.actors.list) p ≡ a.owner
  placed_owner a (Some j) e = get_or-map actor_owner r.actors.list j no_actor ∙ eqb-true (get_or r.actors.list j no_actor).owner a.owner e
  placed_owner a None e = clash false e refl

  pub owner_natural : cond (is_machine (actors_of r.actors) x) (owner_number r x) 0 ≡ machine_owner r x
  owner_natural =
      cases (is_machine (actors_of r.actors) x)
      (λ e. let found = any_place (λ a. eqb x a.id && eqb machine_kind a.kind) (actors_of r.actors) e in
      let a : Actor = found.0 in
      let named : eqb x a.id ≡ true = and_left (eqb x a.id) (eqb machine_kind a.kind) found.2 in
      rw e (placed_owner a (latest_place (map actor_id r.actors.list) r.actors.count x)
      (sym (asked_actor r h x (λ b. eqb b.owner a.owner))
      ∙ place_any (λ b. eqb x b.id && eqb b.owner a.owner) (actors_of r.actors) a found.1
      (and_both (eqb x a.id) (eqb a.owner a.owner) named (eq-eqb a.owner a.owner refl)))
      ∙ sym (owner_same r x u moment h a found.1 named (and_right (eqb x a.id) (eqb machine_kind a.kind) found.2))))
      (λ e. rw e (sym (ap first_owner (first_none (λ a. eqb x a.id && eqb machine_kind a.kind) (actors_of r.actors) e))))

-- ---- the whole answer

-- what is told rests on the three lists alone
module _ (r s : Register) (resources : resources_of r.resources ≡ resources_of s.resources) (claims : claims_of r.claims ≡ claims_of s.claims) (u : Usage)
    (moment : ℕ) where
  contains_same : (y z : ℕ) → contains r y z ≡ contains s y z
  unfolding contains
  contains_same y z = rw resources

  reached_same : (y : ℕ) → reach_of r y u.resource ≡ reach_of s y u.resource
  unfolding reach_of
  reached_same y = rw resources

  reach_same : used_reach r u ≡ used_reach s u
  reach_same = fun_ext (λ c. reached_same c.resource)

  pub public_same : public_read r u ≡ public_read s u
  unfolding public_read
  public_same = rw resources

  covered_same : (y : ℕ) (c : Claim) → covering r moment y u c ≡ covering s moment y u c
  unfolding covering
  covered_same y c = rw (contains_same c.resource u.resource, claims)

  pub covering_same : (y : ℕ) → covering r moment y u ≡ covering s moment y u
  covering_same y = fun_ext (λ c. covered_same y c)

  over_same : (y : ℕ) → held_over r y u ≡ held_over s y u
  over_same y = fun_ext (λ c. ap (λ b. eqb c.holder y && b) (contains_same c.resource u.resource))

  with_same : (y : ℕ) → held_with r y u ≡ held_with s y u
  with_same y = fun_ext (λ c. ap (λ b. (eqb c.holder y && b) && has_right c.rights u.right) (contains_same c.resource u.resource))

  reason_same : (y : ℕ) → reason_of r moment y u ≡ reason_of s moment y u
  unfolding reason_of
  reason_same y = rw (public_same, covering_same y, with_same y, over_same y, reach_same, claims)

  telling_same : (w : Reason) → telling r moment w ≡ telling s moment w
  telling_same (relying c) = rw claims
  telling_same publicly = refl
  telling_same (not_live c) = rw claims
  telling_same (lacking c) = rw claims
  telling_same unheld = refl

  told_same : (y : ℕ) → telling r moment (reason_of r moment y u) ≡ telling s moment (reason_of s moment y u)
  told_same y = ap (telling r moment) (reason_same y) ∙ telling_same (reason_of s moment y u)

  same_told : (x : ℕ) → actors_of r.actors ≡ actors_of s.actors → why_on (Ok tt) r x u moment ≡ why_on (Ok tt) s x u moment
  same_told x actors =
      let owner : machine_owner r x ≡ machine_owner s x = ap (λ l. first_owner (first_of (λ a. eqb x a.id && eqb machine_kind a.kind) l)) actors in
      rw (owner, told_same x, told_same (machine_owner s x))

module _ (r : Register) (shaped : Shaped r) (h : sound (sheeted r) ≡ true) (x : ℕ) (u : Usage) (moment : ℕ) (timely : ltb moment moment_end ≡ true)
    (ranged : is_right u.right ≡ true) where
  machine_owner_natural : owner_for (found r shaped h) r.actors.count x ≡ machine_owner (sheeted r) x
  machine_owner_natural =
      ap (λ b. cond b (owner_number (sheeted r) x) 0) (beside_natural actor_id actor_kind x machine_kind r.actors.count (actors_to r.actors).list)
      ∙ owner_natural (sheeted r) h x u moment

  told_owners : (owner : ℕ)
      → cond (eqb owner 0) (told_of (telling_none 0)) (reason_by r.claims.count (found r shaped h) (laid r.resources).lens
      (sheet_ends (sheet r shaped h) (found r shaped h).ups r.claims.count) (sheet r shaped h) (laid r.resources).bytes (asked r shaped h owner u moment timely ranged))
      ≡ told_of (cond (eqb owner 0) (telling_none 0) (telling (sheeted r) moment (reason_of (sheeted r) moment owner u)))
  told_owners owner = cases (eqb owner 0) (λ e. rw e) (λ e. rw e (reason_natural r shaped h owner u moment timely ranged))

  pub use_natural : use_by (counts_of r) (found r shaped h) (laid r.resources).lens (sheet_ends (sheet r shaped h) (found r shaped h).ups r.claims.count) (sheet r shaped h)
      (laid r.resources).bytes (asked r shaped h x u moment timely ranged) ≡ use_told_of (why_on (Ok tt) r x u moment)
  unfolding use_by
  use_natural =
      rw (machine_owner_natural, reason_natural r shaped h x u moment timely ranged, told_owners (machine_owner (sheeted r) x))
      (ap use_told_of (same_told (sheeted r) r (up_to_first no_resource r.resources.count r.resources.list) (sheet_claims r.claims shaped.claims) u moment x
      (up_to_first no_actor r.actors.count r.actors.list)))
