-- Who may by the columns of a register: the holders of the claims that cover the use are those by whom the register has it covered. Assumes nothing.
use Rattle.std.proofs.Common.{Option, ℕ, None, Some, Ok, ◌≡◌, refl, sym, ap, ◌∙◌, Bool, true, false, not, ◌&&◌, ◌||◌, cond, List, map, ◌≤◌, ◌<◌, min, arith, lt-ltb, ltb-true, ltb-false, le-ltb, ne_eqb, eqb-true, eq-eqb, eqb, ltb, leb, length, get_or, take, length-take, take_at}
use mathlib.Core.Path.{fun_ext}
use mathlib.Core.Bool.{and-true, and-false}
use borrow.Author.Tests.{eqb-false}
use lib.ListN.{length-map, length-replicate, get_or-map, get_or-eq_default, get_or-replicate}
use Rattle.lists.specs.Tests.{cases, and_right}
use Rattle.lists.specs.Lists.{any}
use Rattle.lists.specs.Each.{all_imp, any_map, any_same, every_all}
use Rattle.lists.specs.Counts.{counted_first, counted_length}
use Rattle.lists.specs.Fills.{filled_by, filled_at, filled_length}
use Rattle.lists.specs.Filters.{dropping_same}
use Rattle.rights.specs.Rights.{reading, is_right, has_right}
use Rattle.register.specs.Limits.{id_limit, resource_limit, claim_limit, moment_end}
use Rattle.register.specs.Register.{actors_of, resources_of, claims_of, no_actor, no_resource, no_claim, Shaped}
use Rattle.register.specs.Chain.{live, latest}
use Rattle.register.specs.declared.Actor.{Actor}
use Rattle.register.specs.declared.Register.{Register}
use Rattle.register.specs.declared.Resources.{Resources}
use Rattle.columns.specs.Columns.{resource_id, public_of, holder_of, rights_of, resources_to}
use Rattle.columns.specs.Laws.{place_found_lem, up_to_first}
use Rattle.columns.specs.Sheet.{sheet_of, column_of, holder_column, rights_column}
use Rattle.columns.specs.SheetLaws.{sheet_claims}
use Rattle.lookup.specs.Finding.{place_number}
use Rattle.soundness_rules.specs.Sound.{sound, human, actor_fits}
use Rattle.soundness_rules.proofs.Registers.{sound_out, actor_fits_out}
use Rattle.soundness_rules.proofs.Sameness.{sound_same}
use Rattle.soundness.specs.Judged.{findings_by}
use Rattle.soundness.specs.declared.Findings.{Findings}
use Rattle.actions.specs.declared.Usage.{Usage}
use Rattle.gate_rules.specs.Gate.{contains, covering, covers}
use Rattle.gate_rules.specs.Authority.{IsIn}
use Rattle.gate_rules.specs.Places.{each_place, all_place}
use Rattle.coverage.specs.Gathering.{spot_of, spot_in}
use Rattle.coverage.specs.Laws.{containing}
use Rattle.gate.specs.Judged.{sheet_ends}
use Rattle.gate.specs.Sheets.{sheeted, sheeted_same, sheeted_shaped}
use Rattle.uses.specs.Uses.{open_to}
use Rattle.uses.specs.Sights.{spots_of, ends_in, spot_for}
use Rattle.uses.specs.Resources.{place_by, contains_natural, public_natural}
use Rattle.uses.specs.Ends.{ends_natural}
use Rattle.uses.specs.Relying.{claim_standing, claim_places, places_within}
use Rattle.reasons.specs.Holders.{ask_fits, may_use, holders_of, who_held}
use Rattle.reasons.proofs.HoldersLaws.{held_asked}
use Rattle.reasons.specs.declared.Holders.{Holders}
use Rattle.reason_finding.specs.Covering.{containers_of, coverer_of, coverers_of, covers_by, may_by}
use Rattle.reason_finding.proofs.Holding.{spot_natural}
use Rattle.reason_finding.proofs.Keeping.{ids_of}
use Rattle.reason_finding.proofs.Reasoning as reasoning

-- ---- the marks of the resources

module _ (o : Resources) (spot : ℕ) (few : o.count ≤ resource_limit) (stands : spot < resource_limit → spot < o.count) where
  -- a resource is marked where its path contains that of the one at the spot
  marks_at : (k : ℕ) → k < o.count → get_or (containers_of o spot) k false ≡ ltb spot resource_limit && containing o k spot
  unfolding containers_of
  marks_at k inside =
      cases (ltb spot (min o.count resource_limit))
      (λ e. let here : spot < resource_limit = omega (arith, ltb-true spot (min o.count resource_limit) e) in
      rw (e, lt-ltb spot resource_limit here)
      (filled_at resource_limit (λ k. containing o k spot) (min o.count resource_limit) false k false (omega (arith, few))))
      (λ e. let past : resource_limit ≤ spot = cases_past (ltb spot resource_limit) refl e in
      rw (e, le-ltb spot resource_limit past) (get_or-replicate resource_limit k false false (omega (arith, few))))
    where
      cases_past : (b : Bool) → ltb spot resource_limit ≡ b → ltb spot (min o.count resource_limit) ≡ false → resource_limit ≤ spot
      cases_past true t e = absurd (omega (arith, stands (ltb-true spot resource_limit t), ltb-false spot (min o.count resource_limit) e, few))
      cases_past false t e = ltb-false spot resource_limit t

  marks_length : length (containers_of o spot) ≡ resource_limit
  unfolding containers_of
  marks_length =
      cases (ltb spot (min o.count resource_limit))
      (λ e. rw e (filled_length resource_limit (λ k. containing o k spot) (min o.count resource_limit) false (omega arith)))
      (λ e. rw e (length-replicate {A = Bool} resource_limit false))

  -- by the place of a claim's resource
  marks_place : (p : Option ℕ) → ((k : ℕ) → p ≡ Some k → k < o.count)
      → get_or (containers_of o spot) (place_number claim_limit p) false ≡ ltb (spot_of p) resource_limit && (ltb spot resource_limit && containing o (spot_of p) spot)
  marks_place (Some k) below =
      let here : k < resource_limit = omega (arith, below k refl, few) in
      rw (lt-ltb k resource_limit here) (marks_at k (below k refl))
  marks_place None below = get_or-eq_default (containers_of o spot) false (omega (arith, marks_length))

-- a spot that is one is that of a place
spot_below : (n : ℕ) (p : Option ℕ) → ((k : ℕ) → p ≡ Some k → k < n) → spot_of p < resource_limit → spot_of p < n
spot_below n (Some k) below inside = below k refl
spot_below n None below inside = absurd (omega arith)

-- ---- the holders of the claims that cover

same_number : (x y : ℕ) → eqb x y ≡ eqb y x
same_number x y = cases (eqb y x) (λ e. rw e (eq-eqb x y (sym (eqb-true y x e)))) (λ e. rw e (ne_eqb x y (λ q. eqb-false y x e (sym q))))

-- a claim's tests, as they are made and as the gate orders them
same_coverer : (x holder : ℕ) (marked lives has : Bool) → (x ≡ 0 → ⊥)
    → eqb x (cond (marked && (lives && has)) holder 0) ≡ eqb holder x && (lives && (has && (marked && true)))
same_coverer x holder true true true some = same_number x holder ∙ sym (and-true (eqb holder x))
same_coverer x holder true true false some = ne_eqb x 0 some ∙ sym (and-false (eqb holder x))
same_coverer x holder true false has some = ne_eqb x 0 some ∙ sym (and-false (eqb holder x))
same_coverer x holder false true true some = ne_eqb x 0 some ∙ sym (and-false (eqb holder x))
same_coverer x holder false true false some = ne_eqb x 0 some ∙ sym (and-false (eqb holder x))
same_coverer x holder false false has some = ne_eqb x 0 some ∙ sym (and-false (eqb holder x))

module _ (r : Register) (shaped : Shaped r) (h : sound r ≡ true) (u : Usage) (moment : ℕ) (timely : ltb moment moment_end ≡ true) where
  few : r.resources.count ≤ resource_limit
  few = (sound_out r h).limits.resource_count

  below : (x k : ℕ) → place_by r x ≡ Some k → k < r.resources.count
  below x k e = (place_found_lem (map resource_id r.resources.list) x r.resources.count k e).0

  abbrev marks : List Bool
  marks = containers_of r.resources (spot_for r u)

  -- the resource of a claim is marked where it contains the used one
  marked_natural : (j : ℕ) → j < length (claims_of r.claims) → get_or marks (get_or (spots_of r) j 0) false ≡ contains r (claim_standing r j).resource u.resource
  marked_natural j inside =
      ap (λ s. get_or marks s false) (spot_natural r shaped j inside h)
      ∙ marks_place r.resources (spot_for r u) few (spot_below r.resources.count (place_by r u.resource) (below u.resource))
      (place_by r (claim_standing r j).resource) (below (claim_standing r j).resource)
      ∙ sym (contains_natural r h (claim_standing r j).resource u.resource)

  -- the holder of the claim at a place, or 0
  abbrev holder_by : ℕ → ℕ
  holder_by j =
      coverer_of (get_or (map holder_of r.claims.list) j 0) (get_or (ends_in r) j 0) (get_or (map rights_of r.claims.list) j 0)
      (get_or marks (get_or (spots_of r) j 0) false) u.right moment

  abbrev holders : List ℕ
  holders = coverers_of (map holder_of r.claims.list) (map rights_of r.claims.list) (ends_in r) (spots_of r) marks r.claims.count u.right moment

  module _ (x : ℕ) (some : x ≡ 0 → ⊥) where
    holder_natural : (j : ℕ) → j < length (claims_of r.claims) → eqb x (holder_by j) ≡ covering r moment x u (claim_standing r j)
    unfolding covering
    holder_natural j inside =
        rw (
          get_or-map holder_of r.claims.list j no_claim,
          get_or-map rights_of r.claims.list j no_claim,
          ends_natural r shaped h j inside moment timely,
          marked_natural j inside,
        )
        (same_coverer x (claim_standing r j).holder (contains r (claim_standing r j).resource u.resource) (live moment (latest (claims_of r.claims)) (claim_standing r j)) (has_right (claim_standing r j).rights u.right) some)

    holders_first : take r.claims.count holders ≡ map holder_by (claim_places r)
    unfolding coverers_of
    holders_first =
        let many : min r.claims.count claim_limit ≡ length (claims_of r.claims) = omega (arith, shaped.claims, length-take r.claims.count r.claims.list) in
        let all : length (map holder_by (claim_places r)) ≡ r.claims.count =
        omega (arith, many, (sound_out r h).limits.claim_count, length-map (claim_places r) holder_by, counted_length 0 (length (claims_of r.claims))) in
        ap (λ n. take r.claims.count (filled_by claim_limit holder_by n 0)) many ∙ take_at (map holder_by (claim_places r)) _ r.claims.count all

    -- x covers the use by the holders where it does by the register
    covers_natural : covers_by (open_to (map public_of r.resources.list) (spot_for r u) u.right) (take r.claims.count holders) x ≡ covers r moment x u
    unfolding covers
    covers_natural =
        rw (public_natural r h shaped u)
        (ap (λ b. open_to (map public_of r.resources.list) (spot_for r u) u.right || b)
        (ap (any (eqb x)) holders_first
        ∙ any_map holder_by (eqb x) (claim_places r)
        ∙ any_same (λ j. eqb x (holder_by j)) (λ j. covering r moment x u (claim_standing r j)) (claim_places r)
        (all_imp (λ j. j < length (claims_of r.claims)) (λ j. eqb x (holder_by j) ≡ covering r moment x u (claim_standing r j))
        (λ j inside. holder_natural j inside) (claim_places r) (places_within r))
        ∙ sym (any_map (claim_standing r) (covering r moment x u) (claim_places r))
        ∙ ap (any (covering r moment x u)) (counted_first no_claim r.claims.list r.claims.count)))

  -- so those may who may by the register
  abbrev may_here : Actor → Bool
  may_here = may_by (open_to (map public_of r.resources.list) (spot_for r u) u.right) (take r.claims.count holders)

  may_natural : (a : Actor) → IsIn (actors_of r.actors) a → may_here a ≡ may_use r moment u a
  unfolding may_use
  may_natural a at =
      let fits = all_place (λ b. actor_fits (human (actors_of r.actors)) b ≡ true) (actors_of r.actors)
      (every_all (actor_fits (human (actors_of r.actors))) (actors_of r.actors) (sound_out r h).actors.fit) a at in
      let numbered : (a.id ≡ 0 → ⊥) = λ none. omega (arith, (actor_fits_out (human (actors_of r.actors)) a fits).id_least, none) in
      rw (covers_natural a.id numbered)
      (cases (eqb a.owner 0) (λ e. rw e) (λ e. rw (e, covers_natural a.owner (eqb-false a.owner 0 e))))

  pub permitted_natural : ids_of may_here (actors_of r.actors) ≡ ids_of (may_use r moment u) (actors_of r.actors)
  permitted_natural =
      ap (map (λ a. a.id)) (dropping_same (λ M a. not (may_here a)) (λ M a. not (may_use r moment u a)) (actors_of r.actors)
      (all_imp (λ a. IsIn (actors_of r.actors) a) (λ a. not (may_here a) ≡ not (may_use r moment u a))
      (λ a at. ap not (may_natural a at)) (actors_of r.actors) (each_place (actors_of r.actors))))

-- ---- the whole answer

-- what covers rests on the resources and the claims alone
module _ (r s : Register) (resources : resources_of r.resources ≡ resources_of s.resources) (claims : claims_of r.claims ≡ claims_of s.claims) (u : Usage)
    (moment : ℕ) where
  covers_same : (x : ℕ) → covers r moment x u ≡ covers s moment x u
  unfolding covers
  covers_same x = rw (reasoning.public_same r s resources claims u moment, reasoning.covering_same r s resources claims u moment x, claims)

  may_same : (a : Actor) → may_use r moment u a ≡ may_use s moment u a
  unfolding may_use
  may_same a = rw (covers_same a.id, covers_same a.owner)

containers_same : (o : Resources) (spot : ℕ) → containers_of o spot ≡ containers_of (resources_to o) spot
unfolding containers_of
containers_same o spot = rw (up_to_first no_resource o.count o.list)

module _ (r : Register) (shaped : Shaped r) (u : Usage) (moment : ℕ) (h : sound r ≡ true) (fits : ask_fits u moment ≡ true) where
  abbrev sheet : List ℕ
  sheet = sheet_of r.claims

  abbrev found : Findings
  found = findings_by r.version r.actors r.resources sheet r.claims.count

  soundly : sound (sheeted r) ≡ true
  soundly = sound_same (sheeted r) r (sheeted_same r shaped.claims) ∙ h

  timely : ltb moment moment_end ≡ true
  timely = and_right (leb u.resource id_limit && is_right u.right) (ltb moment moment_end) fits

  -- by what was found of the register
  abbrev asked_by : ℕ → List ℕ → List ℕ
  asked_by spot ends =
      ids_of (may_by (open_to found.resources.publics spot u.right)
      (take r.claims.count (coverers_of (column_of holder_column sheet) (column_of rights_column sheet) ends found.spots (containers_of r.resources spot) r.claims.count u.right moment)))
      (actors_of r.actors)

  asked_natural : asked_by (spot_for (sheeted r) u) (sheet_ends sheet found.ups r.claims.count) ≡ ids_of (may_use r moment u) (actors_of r.actors)
  asked_natural =
      rw (
        reasoning.holders_natural r shaped soundly,
        reasoning.rights_natural r shaped soundly,
        reasoning.ends_natural r shaped soundly,
        reasoning.spots_natural r shaped soundly,
        containers_same r.resources (spot_for (sheeted r) u),
        ← up_to_first no_actor r.actors.count r.actors.list,
      )
      (permitted_natural (sheeted r) (sheeted_shaped r shaped) soundly u moment timely
      ∙ ap (λ p. ids_of p (actors_of (sheeted r).actors)) (fun_ext (λ a. may_same (sheeted r) r (up_to_first no_resource r.resources.count r.resources.list)
      (sheet_claims r.claims shaped.claims) u moment a)))

  -- so the answer is whole
  pub held_found : {s : List ℕ} → s ≡ sheet → {f : Findings} → f ≡ findings_by r.version r.actors r.resources s r.claims.count
      → {spot : ℕ} → spot ≡ spot_in f.resources.reports r.resources.count u.resource → {marks : List Bool} → marks ≡ containers_of r.resources spot
      → {ends : List ℕ} → ends ≡ sheet_ends s f.ups r.claims.count
      → {theirs : List ℕ} → theirs ≡ coverers_of (column_of holder_column s) (column_of rights_column s) ends f.spots marks r.claims.count u.right moment
      → {public : ℕ} → public ≡ get_or f.resources.publics spot 0
      → {answer : Holders} → answer ≡ holders_of (Ok tt) (ids_of (may_by (eqb u.right reading && eqb public 1) (take r.claims.count theirs)) (actors_of r.actors))
      → answer ≡ who_held r u moment
  held_found put told of-spot of-marks of-ends of-theirs of-public answered =
      answered ∙ rw (of-theirs, of-public, of-marks, of-ends, of-spot, told, put) (ap (holders_of (Ok tt)) asked_natural) ∙ sym (held_asked r u moment h fits)
