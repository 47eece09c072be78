-- Laws: What the gate asks of a register's resources by their ids, asked of what stands at their spots. Assumes nothing.
use Rattle.std.specs.Prelude.{◌≡◌, refl, Bool, true, ◌&&◌, List, map, ℕ, ◌≤◌, ◌<◌, length, take, get_or, Option, None, Some}
use Rattle.std.proofs.Math.Path.{ap, sym}
use Rattle.std.proofs.Common.{◌∙◌, arith, lt-ltb, le-ltb, ltb-true, eq-eqb, eqb-true, get_or-take}
use Rattle.std.proofs.Math.Dec.{eqb, ltb}
use Rattle.std.proofs.Math.ListN.{get_or-map, get_or-eq_default}
use Rattle.lists.specs.Tests.{and_left, and_right, and_both}
use Rattle.lists.specs.Lists.{any, same}
use Rattle.lists.specs.Same.{same_sound, same_complete}
use Rattle.rights.specs.Rights.{reading}
use Rattle.paths.specs.Containment.{contained, reached}
use Rattle.register.specs.Limits.{resource_limit}
use Rattle.register.specs.Register.{resources_of, path_of, no_resource, Shaped}
use Rattle.register.specs.declared.Resource.{Resource}
use Rattle.register.specs.declared.Register.{Register}
use Rattle.columns.specs.Columns.{resource_id, public_of, latest_place}
use Rattle.columns.specs.Laws.{place_found_lem}
use Rattle.lookup.specs.Finding.{place_number}
use Rattle.lookup.specs.Asked.{asked_at, asked_natural}
use Rattle.soundness_rules.specs.Sound.{sound}
use Rattle.soundness_rules.proofs.Registers.{sound_out}
use Rattle.actions.specs.declared.Usage.{Usage}
use Rattle.gate_rules.specs.Gate.{public_read, contains, path_by, reach_of}
use Rattle.gate_rules.specs.Places.{any_place, place_any}
use Rattle.gate_rules.proofs.Reaching.{path_natural}
use Rattle.coverage.specs.Gathering.{spot_of, spot_in}
use Rattle.coverage.specs.Laws.{containing}
use Rattle.uses.specs.Uses.{open_to}
use Rattle.uses.specs.Sights.{spot_for}

-- what is asked at a place among the first n, which are no more than the limit, is asked of them at its spot
asked_limited : {A : Type 0} (d : A) (l : List A) (q : A → Bool) (n : ℕ) → n ≤ resource_limit → (p : Option ℕ) → ((j : ℕ) → p ≡ Some j → j < n)
    → asked_at d l q p ≡ ltb (spot_of p) resource_limit && q (get_or (take n l) (spot_of p) d)
asked_limited d l q n scarce (Some j) below =
    let here : j < resource_limit = omega (arith, scarce, below j refl) in rw (lt-ltb j resource_limit here, get_or-take n l j d (below j refl))
asked_limited d l q n scarce None below = refl

-- what is asked at a spot is asked as well where none is another number past the spots
pub asked_elsewhere : (none : ℕ) → resource_limit ≤ none → (q : ℕ → Bool) (p : Option ℕ)
    → ltb (place_number none p) resource_limit && q (place_number none p) ≡ ltb (spot_of p) resource_limit && q (spot_of p)
asked_elsewhere none past q (Some j) = refl
asked_elsewhere none past q None = rw (le-ltb none resource_limit past)

pub spot_elsewhere : (none : ℕ) (p : Option ℕ) → ltb (spot_of p) resource_limit ≡ true → place_number none p ≡ spot_of p
spot_elsewhere none (Some j) placed = refl
spot_elsewhere none None placed = absurd (omega (arith, ltb-true resource_limit resource_limit placed))

-- the place of the resource numbered x, and its spot
abbrev pub place_by : Register → ℕ → Option ℕ
place_by r x = latest_place (map resource_id r.resources.list) r.resources.count x

abbrev pub spot_by : Register → ℕ → ℕ
spot_by r x = spot_in (map resource_id r.resources.list) r.resources.count x

module _ (r : Register) (h : sound r ≡ true) where
  scarce : r.resources.count ≤ resource_limit
  scarce = (sound_out r h).limits.resource_count

  -- some resource has the number x and passes a test where x has a spot and the resource there does
  pub asked_spot : (x : ℕ) (q : Resource → Bool) → any (λ o. eqb x o.id && q o) (resources_of r.resources)
      ≡ ltb (spot_by r x) resource_limit && q (get_or (resources_of r.resources) (spot_by r x) no_resource)
  asked_spot x q =
      asked_natural resource_id no_resource refl r.resources.list x q r.resources.count (sound_out r h).resources.apart
      ∙ asked_limited no_resource r.resources.list q r.resources.count scarce (place_by r x)
      (λ j e. (place_found_lem (map resource_id r.resources.list) x r.resources.count j e).0)

  -- the path of one resource contains that of another where both have a spot and the path at the one contains the path at the other
  pub contains_natural : (x y : ℕ)
      → contains r x y ≡ ltb (spot_by r x) resource_limit && (ltb (spot_by r y) resource_limit && containing r.resources (spot_by r x) (spot_by r y))
  unfolding contains
  contains_natural x y =
      asked_spot x (λ o. any (λ i. eqb y i.id && contained (path_of o) (path_of i)) (resources_of r.resources))
      ∙ ap (λ b. ltb (spot_by r x) resource_limit && b)
      (asked_spot y (λ i. contained (path_of (get_or (resources_of r.resources) (spot_by r x) no_resource)) (path_of i)))

  -- a resource whose path contains another's has a spot
  pub contained_placed : (x y : ℕ) → contains r x y ≡ true → ltb (spot_by r x) resource_limit ≡ true
  contained_placed x y held =
      and_left (ltb (spot_by r x) resource_limit) (ltb (spot_by r y) resource_limit && containing r.resources (spot_by r x) (spot_by r y))
      (sym (contains_natural x y) ∙ held)

  -- the path of a resource that has a spot is the path there
  pub path_spot : (x : ℕ) → ltb (spot_by r x) resource_limit ≡ true → path_by r x ≡ path_of (get_or (resources_of r.resources) (spot_by r x) no_resource)
  path_spot x placed =
      let here : Resource = get_or (resources_of r.resources) (spot_by r x) no_resource in
      let found = any_place (λ o. eqb x o.id && true) (resources_of r.resources) (asked_spot x (λ o. true) ∙ rw placed) in
      let o : Resource = found.0 in
      let named : x ≡ o.id = eqb-true x o.id (and_left (eqb x o.id) true found.2) in
      let alike = place_any (λ q. eqb x q.id && same (path_of o) (path_of q)) (resources_of r.resources) o found.1
      (and_both (eqb x o.id) (same (path_of o) (path_of o)) (eq-eqb x o.id named) (same_complete (path_of o))) in
      let one : path_of o ≡ path_of here =
      same_sound (path_of o) (path_of here)
      (and_right (ltb (spot_by r x) resource_limit) (same (path_of o) (path_of here)) (sym (asked_spot x (λ q. same (path_of o) (path_of q))) ∙ alike)) in
      ap (path_by r) named ∙ path_natural r h o found.1 ∙ one

  -- how far one resource reaches to another, where its path contains the other's, is how far the path at the one reaches to the path at the other
  pub reach_spot : (x y : ℕ) → contains r x y ≡ true
      → reach_of r x y ≡ reached (path_of (get_or (resources_of r.resources) (spot_by r x) no_resource)) (path_of (get_or (resources_of r.resources) (spot_by r y) no_resource))
  unfolding reach_of
  reach_spot x y held =
      let tests = sym (contains_natural x y) ∙ held in
      let inner = ltb (spot_by r y) resource_limit && containing r.resources (spot_by r x) (spot_by r y) in
      rw (
        path_spot x (contained_placed x y held),
        path_spot y (and_left (ltb (spot_by r y) resource_limit) (containing r.resources (spot_by r x) (spot_by r y))
            (and_right (ltb (spot_by r x) resource_limit) inner tests)),
      )

  -- past the resources nothing is public
  public_spot : Shaped r → (p : Option ℕ) → ((j : ℕ) → p ≡ Some j → j < r.resources.count)
      → ltb (spot_of p) resource_limit && eqb (get_or (resources_of r.resources) (spot_of p) no_resource).public 1
      ≡ eqb (get_or (map public_of r.resources.list) (spot_of p) 0) 1
  public_spot shaped (Some j) below =
      let here : j < resource_limit = omega (arith, scarce, below j refl) in
      rw (
        lt-ltb j resource_limit here,
        get_or-take r.resources.count r.resources.list j no_resource (below j refl),
        get_or-map public_of r.resources.list j no_resource,
      )
  public_spot shaped None below =
      let past : length r.resources.list ≤ resource_limit = omega (arith, shaped.resources) in
      rw (get_or-map public_of r.resources.list resource_limit no_resource, get_or-eq_default r.resources.list no_resource past)

  -- a public resource read is one open at its spot
  pub public_natural : Shaped r → (u : Usage) → public_read r u ≡ open_to (map public_of r.resources.list) (spot_for r u) u.right
  unfolding public_read
  public_natural shaped u =
      ap (λ b. eqb u.right reading && b)
      (asked_spot u.resource (λ o. eqb o.public 1)
      ∙ public_spot shaped (place_by r u.resource)
      (λ j e. (place_found_lem (map resource_id r.resources.list) u.resource r.resources.count j e).0))
