-- Working: The uses of an action judged in passes over all of them. That the passes come to the uses judged one after the other is
-- `passes_natural` of PassesLaws.
use Rattle.std.specs.Prelude.{Bool, not, ◌&&◌, ◌||◌, cond, ℕ, min, ltb, length, get_or, Option, List, map}
use mathlib.Core.List.{flatten}
use Rattle.lists.specs.Lists.{counted}
use Rattle.lists.specs.Fills.{filled_by}
use Rattle.register.specs.Limits.{claim_limit, resource_limit}
use Rattle.columns.specs.Columns.{places_up, steps_up}
use Rattle.actions.specs.Actions.{no_use, use_limit}
use Rattle.actions.specs.declared.Action.{Action}
use Rattle.actions.specs.declared.Usage.{Usage}
use Rattle.actions.specs.declared.Violation.{Violation}
use Rattle.actions.specs.declared.Violation.TheVariants.{NotCovered, OwnerNotCovering}
use Rattle.lookup.specs.Finding.{place_number}
use Rattle.coverage.specs.Gathering.{spot_in}
use Rattle.coverage.specs.Coverage.{nearest_covering}
use Rattle.uses.specs.Uses.{open_to, steps_told, faults_of}
use Rattle.uses.specs.declared.Uses.{Uses}

-- the place of a used resource among the first m, 64 for none
abbrev pub used_spot : List ℕ → ℕ → Usage → ℕ
used_spot reports m u = min (spot_in reports m u.resource) resource_limit

-- the uses of an action as columns
unfoldable pub uses_by : List ℕ → ℕ → Action → Uses
uses_by reports m a = record {
  rights = filled_by use_limit (λ i. (get_or a.uses i no_use).right) (min a.used use_limit) 0;
  spots = filled_by use_limit (λ i. used_spot reports m (get_or a.uses i no_use)) (min a.used use_limit) resource_limit;
  count = min a.used use_limit;
}

-- a place among the claims as a number: 256 for none
abbrev pub claim_number : Option ℕ → ℕ
claim_number p = min (place_number claim_limit p) claim_limit

-- what covers each use, by gathered places and columns
module _ (places rights spots bytes lens : List ℕ) (uses : Uses) where
  -- the nearest claim that covers the use at place i
  abbrev pub relied_at : ℕ → ℕ
  relied_at i = claim_number (nearest_covering places rights spots bytes lens (get_or uses.rights i 0) (get_or uses.spots i 0))

  unfoldable pub relied_all : List ℕ
  relied_all = filled_by use_limit relied_at (min uses.count use_limit) claim_limit

-- the hop count of the claim at a place, 0 where there is none
abbrev pub hops_at : List ℕ → ℕ → ℕ
hops_at ups j = cond (ltb j claim_limit) (steps_told (steps_up (places_up ups j))) 0

-- those of the claims relied on for the first n uses
unfoldable pub hops_all : List ℕ → List ℕ → ℕ → List ℕ
hops_all ups relied n = filled_by use_limit (λ i. hops_at ups (get_or relied i 0)) (min n (min use_limit (length relied))) 0

-- the violation of a use with a fault, at position n
abbrev pub fault_told : Bool → ℕ → Violation
fault_told covered n = cond covered (OwnerNotCovering n) (NotCovered n)

-- the use at place i is open, or one of some claims covers it
abbrev pub is_covered : List ℕ → Uses → List ℕ → ℕ → Bool
is_covered publics uses claims i = open_to publics (get_or uses.spots i 0) (get_or uses.rights i 0) || ltb (get_or claims i 0) claim_limit

-- the claims relied on for the uses, and those of the owner where there is one to ask
module _ (relied theirs : List ℕ) (owned : Bool) (publics : List ℕ) (uses : Uses) where
  -- the violations of the use at place i
  abbrev pub faults_at : ℕ → List Violation
  faults_at i = faults_of i (is_covered publics uses relied i) (owned && not (is_covered publics uses theirs i))

  -- those of as many uses as there are in each list
  unfoldable pub faults_all : List Violation
  faults_all = flatten (map faults_at (counted 0 (min uses.count (min use_limit (min (length relied) (length theirs))))))
