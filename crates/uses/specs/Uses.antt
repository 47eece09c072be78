-- Working: The uses of an action judged by columns, one after the other. What a use comes to in 01's words is `use_natural` of SightsLaws.
use Rattle.std.specs.Prelude.{Bool, true, not, ◌&&◌, cond, List, [], ◌∷◌, ◌++◌, map, ℕ, suc, eqb, get_or, Option, None, Some}
use Rattle.rights.specs.Rights.{reading}
use Rattle.register.specs.Limits.{hop_limit}
use Rattle.columns.specs.Columns.{places_up, steps_up}
use Rattle.actions.specs.Actions.{uses_of}
use Rattle.actions.specs.declared.Action.{Action}
use Rattle.actions.specs.declared.Usage.{Usage}
use Rattle.actions.specs.declared.Violation.{Violation}
use Rattle.actions.specs.declared.Violation.TheVariants.{NotCovered, OwnerNotCovering}
use Rattle.actions.specs.declared.Violations.{Violations}
use Rattle.gate_rules.specs.Gate.{padded}
use Rattle.violations.specs.Pushed.{pushed_all}
use Rattle.coverage.specs.Gathering.{spot_in}
use Rattle.coverage.specs.Coverage.{nearest_covering}
use Rattle.uses.specs.declared.UsesJudged.{UsesJudged}

-- the resource at a place is public and the right is READ
abbrev pub open_to : List ℕ → ℕ → ℕ → Bool
open_to publics spot right = eqb right reading && eqb (get_or publics spot 0) 1

-- the number that is told of the steps up: in a sound register there are never more than the limit
abbrev pub steps_told : Option ℕ → ℕ
steps_told (Some steps) = steps
steps_told None = hop_limit

-- the hop count of the claim relied on, by the walk up from its place
abbrev pub hops_from : List ℕ → Option ℕ → ℕ
hops_from ups None = 0
hops_from ups (Some j) = steps_told (steps_up (places_up ups j))

-- whether a use is covered: it is open, or a claim is relied on
abbrev pub covered_by : Bool → Option ℕ → Bool
covered_by freely (Some j) = true
covered_by freely None = freely

-- the violations of the use at position n, by the tests in their order
abbrev pub faults_of : ℕ → Bool → Bool → List Violation
faults_of n covered lacking = cond covered (cond lacking (OwnerNotCovering n ∷ []) []) (NotCovered n ∷ [])

-- what a use is judged by: the actor's gathered places and its owner's, whether it is a machine with an owner, and the columns
pub record Sight : Type 0 where
  pub own : List ℕ
  pub theirs : List ℕ
  pub owned : Bool
  pub rights : List ℕ
  pub spots : List ℕ
  pub bytes : List ℕ
  pub lens : List ℕ
  pub publics : List ℕ
  pub ups : List ℕ

-- the claim relied on, by the gathered places: the nearest
abbrev pub relied_on : Sight → List ℕ → ℕ → ℕ → Option ℕ
relied_on s places spot right = nearest_covering places s.rights s.spots s.bytes s.lens right spot

-- the violations of the use at position n, of the resource at a place, and its hop count
unfoldable pub use_faults : Sight → ℕ → ℕ → ℕ → List Violation
use_faults s n spot right =
    faults_of n (covered_by (open_to s.publics spot right) (relied_on s s.own spot right))
    (s.owned && not (covered_by (open_to s.publics spot right) (relied_on s s.theirs spot right)))

unfoldable pub use_hops : Sight → ℕ → ℕ → ℕ
use_hops s spot right = hops_from s.ups (relied_on s s.own spot right)

-- the violations of uses, by their positions from n, over the ids of the first m resources
unfoldable pub faults_from : Sight → List ℕ → ℕ → ℕ → List Usage → List Violation
faults_from s reports m n [] = []
faults_from s reports m n (u ∷ us) = use_faults s n (spot_in reports m u.resource) u.right ++ faults_from s reports m (suc n) us

unfoldable pub uses_judged : Sight → List ℕ → ℕ → Action → Violations → UsesJudged
uses_judged s reports m a vs = record {
  violations = pushed_all vs (faults_from s reports m 0 (uses_of a));
  hops = padded (map (λ u. use_hops s (spot_in reports m u.resource) u.right) (uses_of a));
}
