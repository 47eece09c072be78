-- Believed: The gate for one action, in 01's words: covers, covering claim, owner, the violations in their order, hop counts.
use Rattle.refusals.specs.declared.Refusal.{Refusal}
use Rattle.std.specs.Prelude.{Bool, not, ◌&&◌, ◌||◌, cond, List, [], ◌∷◌, ◌++◌, map, ℕ, suc, ◌-◌, ◌/◌, ◌%◌, ◌^◌, eqb, leb, length, replicate, Result, Err, Ok}
use Rattle.lists.specs.Lists.{any, every, ands, counted, filter}
use Rattle.rights.specs.Rights.{reading, has_right}
use Rattle.paths.specs.Containment.{contained, reached}
use Rattle.register.specs.Limits.{machine_kind}
use Rattle.register.specs.Register.{actors_of, resources_of, claims_of, path_of}
use Rattle.register.specs.Chain.{latest, hops_of, live}
use Rattle.register.specs.declared.Resource.{Resource}
use Rattle.register.specs.declared.Claim.{Claim}
use Rattle.register.specs.declared.Register.{Register}
use Rattle.soundness_rules.specs.Sound.{sound, is_machine}
use Rattle.refusals.specs.Refusals.{Test, outcome_of}
use Rattle.refusals.specs.declared.Refusal.TheVariants.{Unsound, Range, Absent}
use Rattle.actions.specs.Actions.{use_limit, violation_limit, flag_count, uses_of, governs_of, action_fits}
use Rattle.actions.specs.declared.Usage.{Usage}
use Rattle.actions.specs.declared.Action.{Action}
use Rattle.actions.specs.declared.Violation.{Violation}
use Rattle.actions.specs.declared.Violation.TheVariants.{FlagSet, NoOwner, MachineGoverns, NotCovered, OwnerNotCovering}
use Rattle.actions.specs.declared.Violations.{Violations}
use Rattle.actions.specs.declared.Decision.{Decision}
use Rattle.actions.specs.declared.Decision.TheVariants.{Permitted, Refused, Stopped}
use Rattle.actions.specs.declared.Verdict.{Verdict}

-- whether the resource numbered x is public, and the right is READ
unfoldable pub public_read : Register → Usage → Bool
public_read r u = eqb u.right reading && any (λ o. eqb u.resource o.id && eqb o.public 1) (resources_of r.resources)

-- whether the path of the resource numbered x contains that of the resource numbered y
unfoldable pub contains : Register → ℕ → ℕ → Bool
contains r x y =
    any (λ o. eqb x o.id && any (λ i. eqb y i.id && contained (path_of o) (path_of i)) (resources_of r.resources))
    (resources_of r.resources)

-- a covering claim of x: held by x, live over its whole chain, with that right, on a resource whose path contains the used resource's path
unfoldable pub covering : Register → ℕ → ℕ → Usage → Claim → Bool
covering r moment x u c = ands (
    eqb c.holder x
    ∷ live moment (latest (claims_of r.claims)) c
    ∷ has_right c.rights u.right
    ∷ contains r c.resource u.resource
    ∷ [])

-- An actor covers a use when the resource stands and either it is public and the right is READ, or the actor holds a covering claim.
unfoldable pub covers : Register → ℕ → ℕ → Usage → Bool
covers r moment x u = public_read r u || any (covering r moment x u) (claims_of r.claims)

-- whether x is a machine without owner; a machine with an owner who does not cover the use
unfoldable pub is_ownerless : Register → ℕ → Bool
is_ownerless r x = any (λ a. eqb x a.id && (eqb machine_kind a.kind && eqb a.owner 0)) (actors_of r.actors)

unfoldable pub owner_lacks : Register → ℕ → ℕ → Usage → Bool
owner_lacks r moment x u =
    any (λ a. eqb x a.id && (eqb machine_kind a.kind && (not (eqb a.owner 0) && not (covers r moment a.owner u)))) (actors_of r.actors)

-- the first that passes a test, alone in a list, or none
unfoldable pub first_of : {A : Type 0} → (A → Bool) → List A → List A
first_of p [] = []
first_of p (c ∷ cs) = let more = first_of p cs in cond (p c) (c ∷ []) more

-- whether one passes a test, and none of a list that passes it has a greater number
abbrev pub unexceeded : {A : Type 0} → (A → Bool) → (A → ℕ) → List A → A → Bool
unexceeded p f l c = p c && every (λ d. not (p d) || leb (f d) (f c)) l

-- the first of those that pass a test whose number no other of them exceeds, alone in a list, or none
abbrev pub nearest_of : {A : Type 0} → (A → Bool) → (A → ℕ) → List A → List A
nearest_of p f l = first_of (unexceeded p f l) l

-- the path of the resource numbered x, the empty path where none stands
abbrev pub path_in : List Resource → List ℕ
path_in [] = []
path_in (o ∷ more) = path_of o

abbrev pub path_by : Register → ℕ → List ℕ
path_by r x = path_in (first_of (λ o. eqb x o.id) (resources_of r.resources))

-- how far the path of the resource numbered x reaches to that of the resource numbered y: the length of the trimmed outer path, 0 where
-- it does not contain the other, and where one of the two does not stand
unfoldable pub reach_of : Register → ℕ → ℕ → ℕ
reach_of r x y = reached (path_by r x) (path_by r y)

-- the claim relied on: the covering claim of x whose resource's path reaches furthest to the used one's, the first in register order on a
-- tie, or none
abbrev pub relied : Register → ℕ → ℕ → Usage → List Claim
relied r moment x u = nearest_of (covering r moment x u) (λ c. reach_of r c.resource u.resource) (claims_of r.claims)

-- 1: one for each set flag, lowest first; flag i is bit i
unfoldable pub flags_set : ℕ → List Violation
flags_set flags = map (λ i. FlagSet i) (filter (λ i. eqb (flags / 2 ^ i % 2) 1) (counted 0 flag_count))

-- 3: one for each governed entry, by its position from n
unfoldable pub governed : ℕ → List ℕ → List Violation
governed n [] = []
governed n (g ∷ entries) = MachineGoverns n ∷ governed (suc n) entries

-- 4, 5: by use position from n, where the actor does not cover it; else where its owner does not
unfoldable pub use_violation : Register → ℕ → ℕ → ℕ → Usage → List Violation
use_violation r moment x n u =
    cond (covers r moment x u) (cond (owner_lacks r moment x u) (OwnerNotCovering n ∷ []) []) (NotCovered n ∷ [])

unfoldable pub use_violations : Register → ℕ → ℕ → ℕ → List Usage → List Violation
use_violations r moment x n [] = []
use_violations r moment x n (u ∷ us) = use_violation r moment x n u ++ use_violations r moment x (suc n) us

-- the violations of an action, in 01's order
unfoldable pub violations_of : Register → Action → List Violation
violations_of r a =
    flags_set a.flags
    ++ (cond (is_ownerless r a.actor) (NoOwner a.actor ∷ []) []
    ++ (cond (is_machine (actors_of r.actors) a.actor) (governed 0 (governs_of a)) []
    ++ use_violations r a.now a.actor 0 (uses_of a)))

-- the hop count of the claim relied on, 0 when there is none
abbrev pub hops_in : Register → List Claim → ℕ
hops_in r [] = 0
hops_in r (c ∷ cs) = hops_of (latest (claims_of r.claims)) c

unfoldable pub hops_for : Register → ℕ → ℕ → Usage → ℕ
hops_for r moment x u = hops_in r (relied r moment x u)

abbrev pub hop_counts : Register → Action → List ℕ
hop_counts r a = map (λ u. hops_for r a.now a.actor u) (uses_of a)

-- tests 2 and 3, of the action
unfoldable pub action_tests : Register → Action → List Test
action_tests r a =
    record { passed = action_fits a; refusal = Range }
    ∷ record { passed = any (λ b. eqb a.actor b.id) (actors_of r.actors); refusal = Absent }
    ∷ []

-- the tests of the gate: 1, 2 and 3
unfoldable pub gate_tests : Register → Action → List Test
gate_tests r a = record { passed = sound r; refusal = Unsound } ∷ action_tests r a

-- violations as the answer holds them, and hop counts
abbrev pub listed : List Violation → Violations
listed vs = record {
  list = map (λ v. record { what = v }) vs ++ replicate (violation_limit - length vs) (record { what = FlagSet 0 });
  count = length vs;
}

abbrev pub padded : List ℕ → List ℕ
padded hs = hs ++ replicate (use_limit - length hs) 0

-- permitted means an empty list
abbrev pub decided : List Violation → Decision
decided [] = Permitted
decided (v ∷ vs) = Refused

abbrev pub verdict_on : Result Unit Refusal → Register → Action → Verdict
verdict_on (Ok _) r a = record { decision = decided (violations_of r a); violations = listed (violations_of r a); hops = padded (hop_counts r a) }
verdict_on (Err why) r a = record { decision = Stopped why; violations = listed []; hops = padded [] }

-- the answer of the gate
unfoldable pub gated : Register → Action → Verdict
gated r a = verdict_on (outcome_of (gate_tests r a)) r a
