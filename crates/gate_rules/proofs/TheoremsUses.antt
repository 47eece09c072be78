-- What is proved of the uses of an action: those that are not covered, how many violations and hop counts there are, what never matters. Assumes
-- nothing.
use Rattle.std.proofs.Common.{◌≡◌, true, false, [], ◌∷◌, ℕ, ◌≤◌, eqb, length}
use Rattle.lists.specs.Lists.{any}
use Rattle.paths.specs.Containment.{reached}
use Rattle.register.specs.Limits.{hop_limit}
use Rattle.register.specs.Register.{resources_of, claims_of, Same, path_of}
use Rattle.register.specs.Chain.{latest, hops_of}
use Rattle.register.specs.declared.Resource.{Resource}
use Rattle.register.specs.declared.Claim.{Claim}
use Rattle.register.specs.declared.Register.{Register}
use Rattle.soundness_rules.specs.Sound.{sound}
use Rattle.actions.specs.Actions.{violation_limit, uses_of, action_fits, kind_of, SameAction}
use Rattle.actions.specs.declared.Usage.{Usage}
use Rattle.actions.specs.declared.Action.{Action}
use Rattle.actions.specs.declared.Plan.{Plan}
use Rattle.actions.specs.declared.Violation.{Violation}
use Rattle.actions.specs.declared.Violation.TheVariants.{NotCovered}
use Rattle.gate_rules.specs.Gate.{covering, covers, use_violation, violations_of, hops_for, hop_counts, gated, reach_of}
use Rattle.gate_rules.specs.Plans.{planned, SamePlan}
use Rattle.gate_rules.proofs.Coverage as coverage
use Rattle.gate_rules.specs.Kinds as kinds
use Rattle.gate_rules.proofs.Reaching as reaching
use Rattle.gate_rules.proofs.Bounds as bounds
use Rattle.gate_rules.specs.Authority.{IsIn, Nearest}
use Rattle.gate_rules.proofs.Sameness as sameness
use Rattle.gate_rules.proofs.SameActions as same-actions

-- 5a. A use that the actor does not cover has kind 4 with its position, whether the resource stands or not.
pub not_covered_violation : (r : Register) (moment x n : ℕ) (u : Usage) → covers r moment x u ≡ false → use_violation r moment x n u ≡ NotCovered n ∷ []
not_covered_violation = coverage.not_covered_violation

-- 5b. Its hop count is 0, whether the resource stands or not.
pub not_covered_hops : (r : Register) (moment x : ℕ) (u : Usage) → covers r moment x u ≡ false → hops_for r moment x u ≡ 0
not_covered_hops = coverage.not_covered_hops

-- 5c. No one covers a resource that does not stand.
pub absent_not_covered : (r : Register) (moment x : ℕ) (u : Usage) → any (λ o. eqb u.resource o.id) (resources_of r.resources) ≡ false
    → covers r moment x u ≡ false
absent_not_covered = coverage.absent_not_covered

-- 5d. So a use of a resource that does not stand is answered as one of a resource that is not held.
pub absent_as_not_held : (r : Register) (moment x n : ℕ) (u v : Usage) → any (λ o. eqb u.resource o.id) (resources_of r.resources) ≡ false
    → covers r moment x v ≡ false → (use_violation r moment x n u ≡ use_violation r moment x n v) × (hops_for r moment x u ≡ hops_for r moment x v)
absent_as_not_held = coverage.absent_as_not_held

-- 6a. An action in range has at most 51 violations.
pub violations_most : (r : Register) (a : Action) → action_fits a ≡ true → length (violations_of r a) ≤ violation_limit
violations_most = bounds.violations_most

-- 6b. There are as many hop counts as uses.
pub hop_counts_length : (r : Register) (a : Action) → length (hop_counts r a) ≡ length (uses_of a)
hop_counts_length = bounds.hop_counts_length

-- 6c. In a sound register a hop count is at most 16.
pub hops_most : (r : Register) → sound r ≡ true → (moment x : ℕ) (u : Usage) → hops_for r moment x u ≤ hop_limit
hops_most = bounds.hops_most

-- 6d. Where a claim covers, the hop count is that of a covering claim that none exceeds in how far its resource's path reaches to the used
-- one's, and that all covering claims before it fall short of.
pub nearest : (r : Register) (moment x : ℕ) (u : Usage) → any (covering r moment x u) (claims_of r.claims) ≡ true
    → (c : Claim) × Nearest (covering r moment x u) (λ d. reach_of r d.resource u.resource) (claims_of r.claims) c
    × (hops_for r moment x u ≡ hops_of (latest (claims_of r.claims)) c)
nearest = coverage.nearest

-- 6e. In a sound register how far a resource reaches to another is asked of their paths.
pub reach_natural : (r : Register) → sound r ≡ true → (o i : Resource) → IsIn (resources_of r.resources) o → IsIn (resources_of r.resources) i
    → reach_of r o.id i.id ≡ reached (path_of o) (path_of i)
reach_natural = reaching.reach_natural

-- 7a. Registers that are the same get the same answer of the gate.
pub gated_same : (r s : Register) → Same r s → (a : Action) → gated r a ≡ gated s a
gated_same = sameness.gated_same

-- 7b. Registers that are the same get the same answer for a plan.
pub planned_same : (r s : Register) → Same r s → (p : Plan) → planned r p ≡ planned s p
planned_same = sameness.planned_same

-- 7c. What stands past an action's counts never matters: actions that are the same get the same answer of the gate.
pub gated_same_action : (r : Register) (a b : Action) → SameAction a b → gated r a ≡ gated r b
gated_same_action = same-actions.gated_same_action

-- 7d. What stands past a plan's count, or past its actions' counts, never matters: plans that are the same get the same answer.
pub planned_same_plan : (r : Register) (p q : Plan) → SamePlan p q → planned r p ≡ planned r q
planned_same_plan = same-actions.planned_same_plan

-- 8a. In a sound register every claim by which anyone covers a use, and that has a parent, has one that stands.
pub parent_stands : (r : Register) → sound r ≡ true → (moment x : ℕ) (u : Usage) (c : Claim) → IsIn (claims_of r.claims) c → covering r moment x u c ≡ true
    → (c.parent ≡ 0 → ⊥) → (d : Claim) × IsIn (claims_of r.claims) d × (d.id ≡ c.parent)
parent_stands r h moment x u c at covers = coverage.parent_stands r h c at

-- 8b. The kind of every violation is 1 to 5.
pub kinds_five : (v : Violation) → (1 ≤ kind_of v) × (kind_of v ≤ 5)
kinds_five = kinds.kinds_five
