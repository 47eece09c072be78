-- Believed: The reason of an actor for a use: the claim that it relies on, a public READ, or what it lacks; and how the reason is told.
use Rattle.std.specs.Prelude.{◌≡◌, Bool, true, false, not, ◌&&◌, cond, List, [], ◌∷◌, map, ℕ, suc, ◌≤◌, eqb, length}
use Rattle.lists.specs.Lists.{any, All}
use Rattle.rights.specs.Rights.{has_right}
use Rattle.register.specs.Limits.{hop_limit, machine_kind}
use Rattle.register.specs.Register.{actors_of, resources_of, claims_of}
use Rattle.register.specs.Chain.{chain_of, current, live}
use Rattle.register.specs.declared.Resource.{Resource}
use Rattle.register.specs.declared.Claim.{Claim}
use Rattle.register.specs.declared.Register.{Register}
use Rattle.soundness_rules.specs.Sound.{sound}
use Rattle.soundness_rules.specs.Roots.{root_of}
use Rattle.change_rules.specs.Changes.{standing}
use Rattle.actions.specs.declared.Usage.{Usage}
use Rattle.gate_rules.specs.Gate.{public_read, contains, covering, nearest_of, first_of, reach_of, relied, hops_for}
use Rattle.gate_rules.specs.Authority.{IsIn, Nearest, higher_than}

-- whether x holds the claim and the claim's resource contains the used one; whether the claim has the right too
abbrev pub held_over : Register → ℕ → Usage → Claim → Bool
held_over r x u c = eqb c.holder x && contains r c.resource u.resource

abbrev pub held_with : Register → ℕ → Usage → Claim → Bool
held_with r x u c = held_over r x u c && has_right c.rights u.right

-- how far the resource of a claim reaches to the used one
abbrev pub used_reach : Register → Usage → Claim → ℕ
used_reach r u c = reach_of r c.resource u.resource

-- 1 the claim relied on; 2 a public READ; 3 the nearest claim held that contains the used resource and has the right, not live; 4 the nearest held that
-- contains it, without the right; 5 none held contains it
pub data Reason : Type 0 where
  relying : Claim → Reason
  publicly : Reason
  not_live : Claim → Reason
  lacking : Claim → Reason
  unheld : Reason

abbrev pub reason_from : (Claim → Reason) → List Claim → Reason → Reason
reason_from by [] more = more
reason_from by (c ∷ cs) more = by c

-- the first that holds
unfoldable pub reason_of : Register → ℕ → ℕ → Usage → Reason
reason_of r moment x u =
    reason_from relying (relied r moment x u)
    (cond (public_read r u) publicly
    (reason_from not_live (nearest_of (held_with r x u) (used_reach r u) (claims_of r.claims))
    (reason_from lacking (nearest_of (held_over r x u) (used_reach r u) (claims_of r.claims)) unheld)))

-- whether the reason has the use covered
abbrev pub is_covering : Reason → Bool
is_covering (relying c) = true
is_covering publicly = true
is_covering (not_live c) = false
is_covering (lacking c) = false
is_covering unheld = false

-- a reason as it is told: its kind; the ids of the claim's chain and their count; the grantor of its root; the first on it that is not current
pub record Telling : Type 0 where
  pub kind : ℕ
  pub count : ℕ
  pub chain : List ℕ
  pub keeper : ℕ
  pub ended : ℕ

abbrev pub first_id : List Claim → ℕ
first_id [] = 0
first_id (d ∷ ds) = d.id

abbrev pub ended_on : Register → ℕ → Claim → ℕ
ended_on r moment c = first_id (first_of (λ d. not (current moment d)) (chain_of (standing r) c))

abbrev pub telling_of : Register → ℕ → Claim → ℕ → Telling
telling_of r kind c at = record {
  kind = kind;
  count = length (chain_of (standing r) c);
  chain = map (λ d. d.id) (chain_of (standing r) c);
  keeper = (root_of c (higher_than r c)).grantor;
  ended = at;
}

abbrev pub telling_none : ℕ → Telling
telling_none kind = record { kind = kind; count = 0; chain = []; keeper = 0; ended = 0 }

abbrev pub telling : Register → ℕ → Reason → Telling
telling r moment (relying c) = telling_of r 1 c 0
telling r moment publicly = telling_none 2
telling r moment (not_live c) = telling_of r 3 c (ended_on r moment c)
telling r moment (lacking c) = telling_of r 4 c 0
telling r moment unheld = telling_none 5

-- the machine x has an owner whose reason does not have the use covered
abbrev pub owner_uncovered : Register → ℕ → ℕ → Usage → Bool
owner_uncovered r moment x u =
    any (λ a. eqb x a.id && (eqb machine_kind a.kind && (not (eqb a.owner 0) && not (is_covering (reason_of r moment a.owner u))))) (actors_of r.actors)

-- the claim relied on: its chain is told, of as many claims as it has hops and one, at most 17 in a sound register, where the keeper told is that of the
-- claim's resource
pub record ReliesOn (r : Register) (moment x : ℕ) (u : Usage) (c : Claim) : Type 0 where
  pub claim : relied r moment x u ≡ c ∷ []
  pub nearest : Nearest (covering r moment x u) (used_reach r u) (claims_of r.claims) c
  pub count : (telling r moment (relying c)).count ≡ suc (hops_for r moment x u)
  pub most : sound r ≡ true → (telling r moment (relying c)).count ≤ suc hop_limit
  pub keeper : sound r ≡ true → (o : Resource) → IsIn (resources_of r.resources) o → o.id ≡ c.resource
      → (telling r moment (relying c)).keeper ≡ o.keeper

-- what is wanting, of the claim told and of each claim held that contains the used resource
pub record EndedAt (r : Register) (moment x : ℕ) (u : Usage) (c : Claim) : Type 0 where
  pub private : public_read r u ≡ false
  pub nearest : Nearest (held_with r x u) (used_reach r u) (claims_of r.claims) c
  pub dead : live moment (standing r) c ≡ false
  pub first : Claim
  pub place : IsIn (chain_of (standing r) c) first
  pub not_current : current moment first ≡ false
  pub before : All (λ d. current moment d ≡ true) place.before
  pub told : (telling r moment (not_live c)).ended ≡ first.id
  pub others : All (λ d. held_with r x u d ≡ true → live moment (standing r) d ≡ false) (claims_of r.claims)

pub record LacksRight (r : Register) (x : ℕ) (u : Usage) (c : Claim) : Type 0 where
  pub private : public_read r u ≡ false
  pub nearest : Nearest (held_over r x u) (used_reach r u) (claims_of r.claims) c
  pub lacks : has_right c.rights u.right ≡ false
  pub others : All (λ d. held_over r x u d ≡ true → has_right d.rights u.right ≡ false) (claims_of r.claims)

pub record HoldsNone (r : Register) (x : ℕ) (u : Usage) : Type 0 where
  pub private : public_read r u ≡ false
  pub others : All (λ d. d.holder ≡ x → contains r d.resource u.resource ≡ false) (claims_of r.claims)
