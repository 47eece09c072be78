-- Laws: The passes over the uses of an action come to the uses judged one after the other. Assumes nothing.
use Rattle.std.specs.Prelude.{◌≡◌, Bool, ◌||◌, ltb, get_or, Option, ℕ, None, Some, List, [], ◌∷◌, ◌++◌, map, suc, ◌+◌, ◌-◌, ◌≤◌, ◌<◌, min}
use Rattle.std.proofs.Common.{◌∙◌, le_refl, zero-add, lt-ltb, length-take, get_or-take, arith}
use Rattle.std.proofs.Math.Path.{refl, sym, ap}
use Rattle.std.proofs.Math.Bool.{or-true, or-false}
use mathlib.Core.List.{flatten}
use Rattle.std.proofs.Math.ListN.{length, replicate, length-map}
use Rattle.lists.specs.Lists.{All, counted}
use Rattle.lists.specs.Fills.{filled_length, filled_at}
use Rattle.register.specs.Limits.{claim_limit, resource_limit}
use Rattle.columns.specs.Columns.{latest_place}
use Rattle.columns.specs.Laws.{place_cases, place_found_lem}
use Rattle.actions.specs.Actions.{no_use, use_limit, uses_of}
use Rattle.actions.specs.declared.Action.{Action}
use Rattle.actions.specs.declared.Usage.{Usage}
use Rattle.actions.specs.declared.Violation.{Violation}
use Rattle.actions.specs.declared.Violations.{Violations}
use Rattle.gate_rules.specs.Gate.{padded}
use Rattle.violations.specs.Pushed.{pushed_all}
use Rattle.coverage.specs.Gathering.{spot_in}
use Rattle.coverage.specs.Coverage.{reaching, reach_at, nearest_covering}
use Rattle.coverage.specs.Laws.{nearest_any}
use Rattle.uses.specs.Uses.{hops_from, covered_by, Sight, relied_on, use_faults, use_hops, faults_from, uses_judged}
use Rattle.uses.specs.Passes.{used_spot, uses_by, claim_number, relied_at, relied_all, hops_at, hops_all, faults_at, faults_all}
use Rattle.uses.specs.declared.Uses.{Uses}
use Rattle.uses.specs.declared.UsesJudged.{UsesJudged}

-- ---- a place told as a number

-- the place, where there is one, is below the limit of claims
abbrev PlaceWithin : Option ℕ → Type 0
PlaceWithin (Some j) = j < claim_limit
PlaceWithin None = Unit {0}

covered_told : (freely : Bool) (p : Option ℕ) → PlaceWithin p → freely || ltb (claim_number p) claim_limit ≡ covered_by freely p
covered_told freely (Some j) h = let same : min j claim_limit ≡ j = omega arith in rw (same, lt-ltb j claim_limit h) (or-true freely)
covered_told freely None h = or-false freely

hops_told_lem : (ups : List ℕ) (p : Option ℕ) → PlaceWithin p → hops_at ups (claim_number p) ≡ hops_from ups p
hops_told_lem ups (Some j) h = let same : min j claim_limit ≡ j = omega arith in rw (same, lt-ltb j claim_limit h)
hops_told_lem ups None h = refl

-- what covers is one of the gathered places
module _ (places rights spots bytes lens : List ℕ) (right spot : ℕ) (each : All (λ j. j < claim_limit) places) where
  nearest_within : PlaceWithin (nearest_covering places rights spots bytes lens right spot)
  nearest_within = nearest_any (reach_at spots bytes lens spot) PlaceWithin (reaching rights spots bytes lens right spot) 0 0 places tt each

-- ---- lists read at counted places

module _ (s : Sight) (reports : List ℕ) (m : ℕ) where
  -- the place of a used resource
  abbrev spot_place : Usage → ℕ
  spot_place u = spot_in reports m u.resource

  faults_each : (f : ℕ → List Violation) (us : List Usage) (i : ℕ)
      → ((j : ℕ) → j < length us → f (i + j) ≡ use_faults s (i + j) (spot_place (get_or us j no_use)) (get_or us j no_use).right)
      → flatten (map f (counted i (length us))) ≡ faults_from s reports m i us
  unfolding flatten faults_from
  faults_each f [] i h = refl
  faults_each f (u ∷ us) i h =
      let here : i + 0 ≡ i = omega arith in
      rw (rw here at (h 0 (omega arith)))
      (ap (λ vs. use_faults s i (spot_place u) u.right ++ vs)
      (faults_each f us (suc i) (λ j inside. let behind : suc i + j ≡ i + suc j = omega arith in rw behind (h (suc j) (omega arith)))))

each_read : {A B : Type 0} (f : ℕ → B) (g : A → B) (d : A) (l : List A) (i : ℕ) → ((j : ℕ) → j < length l → f (i + j) ≡ g (get_or l j d))
    → map f (counted i (length l)) ≡ map g l
each_read f g d [] i h = refl
each_read f g d (x ∷ l) i h =
    let here : i + 0 ≡ i = omega arith in
    rw (rw here at (h 0 (omega arith)))
    (ap (λ more. g x ∷ more)
    (each_read f g d l (suc i) (λ j inside. let behind : suc i + j ≡ i + suc j = omega arith in rw behind (h (suc j) (omega arith)))))

-- ---- the passes

-- the sight's places are below the limit of claims, and there are no more ids than resources and as many uses as an action can have
module _ (s : Sight) (reports : List ℕ) (m : ℕ) (a : Action) (few : length reports ≤ resource_limit) (long : length a.uses ≡ use_limit)
    (own : All (λ j. j < claim_limit) s.own) (theirs : All (λ j. j < claim_limit) s.theirs) where
  abbrev uses : Uses
  uses = uses_by reports m a

  abbrev relied_place : List ℕ
  relied_place = relied_all s.own s.rights s.spots s.bytes s.lens uses

  abbrev covering_place : List ℕ
  covering_place = relied_all s.theirs s.rights s.spots s.bytes s.lens uses

  -- how many uses there are, and the use at a place
  abbrev top : ℕ
  top = min a.used use_limit

  abbrev used : ℕ → Usage
  used i = get_or a.uses i no_use

  spot_most : (x : ℕ) → spot_in reports m x ≤ resource_limit
  spot_most x =
      place_cases (latest_place reports m x)
      (λ j q. let found = place_found_lem reports x m j q in rw q (omega (arith, found.1)))
      (λ q. rw q (le_refl resource_limit))

  module _ (i : ℕ) (inside : i < top) where
    right_at : get_or uses.rights i 0 ≡ (used i).right
    unfolding uses_by
    right_at = filled_at use_limit (λ i. (used i).right) top 0 i 0 inside

    spot_at : get_or uses.spots i 0 ≡ spot_place s reports m (used i)
    unfolding uses_by
    spot_at = filled_at use_limit (λ i. used_spot reports m (used i)) top resource_limit i 0 inside ∙ omega (arith, spot_most (used i).resource)

    counted_place : i < min uses.count use_limit
    unfolding uses_by
    counted_place = omega arith

    -- the claim that the actor relies on, and the one that its owner does
    abbrev mine : Option ℕ
    mine = relied_on s s.own (spot_place s reports m (used i)) (used i).right

    abbrev other : Option ℕ
    other = relied_on s s.theirs (spot_place s reports m (used i)) (used i).right

    mine_within : PlaceWithin mine
    mine_within = nearest_within s.own s.rights s.spots s.bytes s.lens (used i).right (spot_place s reports m (used i)) own

    other_within : PlaceWithin other
    other_within = nearest_within s.theirs s.rights s.spots s.bytes s.lens (used i).right (spot_place s reports m (used i)) theirs

    mine_at : get_or relied_place i 0 ≡ claim_number mine
    unfolding relied_all
    mine_at =
        filled_at use_limit (relied_at s.own s.rights s.spots s.bytes s.lens uses) (min uses.count use_limit) claim_limit i 0 counted_place
        ∙ rw (right_at, spot_at)

    other_at : get_or covering_place i 0 ≡ claim_number other
    unfolding relied_all
    other_at =
        filled_at use_limit (relied_at s.theirs s.rights s.spots s.bytes s.lens uses) (min uses.count use_limit) claim_limit i 0 counted_place
        ∙ rw (right_at, spot_at)

    faults_at_lem : faults_at relied_place covering_place s.owned s.publics uses i ≡ use_faults s i (spot_place s reports m (used i)) (used i).right
    unfolding use_faults
    faults_at_lem = rw (right_at, spot_at, mine_at, other_at, covered_told _ mine mine_within, covered_told _ other other_within)

    hops_at_lem : hops_at s.ups (get_or relied_place i 0) ≡ use_hops s (spot_place s reports m (used i)) (used i).right
    unfolding use_hops
    hops_at_lem = ap (hops_at s.ups) mine_at ∙ hops_told_lem s.ups mine mine_within

  used_length : length (uses_of a) ≡ top
  used_length = length-take a.used a.uses ∙ ap (min a.used) long

  -- the use at a place among those that count
  used_at : (j : ℕ) → j < length (uses_of a) → get_or (uses_of a) j no_use ≡ used j
  used_at j inside = get_or-take a.used a.uses j no_use (omega (arith, length-take a.used a.uses))

  relied_long : length relied_place ≡ use_limit
  unfolding relied_all
  relied_long = filled_length use_limit _ (min uses.count use_limit) claim_limit (omega arith)

  covering_long : length covering_place ≡ use_limit
  unfolding relied_all
  covering_long = filled_length use_limit _ (min uses.count use_limit) claim_limit (omega arith)

  uses_count : uses.count ≡ length (uses_of a)
  unfolding uses_by
  uses_count = sym used_length

  passed_faults : faults_all relied_place covering_place s.owned s.publics uses ≡ faults_from s reports m 0 (uses_of a)
  unfolding faults_all
  passed_faults =
      let all : min uses.count (min use_limit (min (length relied_place) (length covering_place))) ≡ length (uses_of a) =
      omega (arith, uses_count, used_length, relied_long, covering_long) in
      ap (λ n. flatten (map (faults_at relied_place covering_place s.owned s.publics uses) (counted 0 n))) all
      ∙ faults_each s reports m (faults_at relied_place covering_place s.owned s.publics uses) (uses_of a) 0
      (λ j inside. rw (zero-add j, used_at j inside) (faults_at_lem j (omega (arith, used_length))))

  passed_hops : hops_all s.ups relied_place uses.count ≡ padded (map (λ u. use_hops s (spot_place s reports m u) u.right) (uses_of a))
  unfolding hops_all
  passed_hops =
      let all : min uses.count (min use_limit (length relied_place)) ≡ length (uses_of a) = omega (arith, uses_count, used_length, relied_long) in
      let told : (Usage → ℕ) = λ u. use_hops s (spot_place s reports m u) u.right in
      ap (λ n. map (λ i. hops_at s.ups (get_or relied_place i 0)) (counted 0 n) ++ replicate (use_limit - n) 0) all
      ∙ rw (
        each_read (λ i. hops_at s.ups (get_or relied_place i 0)) told no_use (uses_of a) 0
            (λ j inside. rw (zero-add j, used_at j inside) (hops_at_lem j (omega (arith, used_length)))),
        length-map (uses_of a) told,
      )

  -- the violations and the hop counts that the passes find are those of the uses judged one after the other
  pub passes_natural : (vs : Violations)
      → ◌≡◌ {A = UsesJudged} (record {
        violations = pushed_all vs (faults_all relied_place covering_place s.owned s.publics uses);
        hops = hops_all s.ups relied_place uses.count;
      }) (uses_judged s reports m a vs)
  unfolding uses_judged
  passes_natural vs = rw (passed_faults, passed_hops)
