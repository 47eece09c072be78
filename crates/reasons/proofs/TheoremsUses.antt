-- What is proved of the reason of an actor for a use. TheoremsWho has what is proved of permission. Assumes nothing.
use Rattle.std.proofs.Common.{◌≡◌, true, false, cond, [], ◌∷◌, ℕ, suc, ◌≤◌, eqb}
use Rattle.lists.specs.Lists.{any}
use Rattle.register.specs.declared.Resource.{Resource}
use Rattle.register.specs.declared.Claim.{Claim}
use Rattle.register.specs.Limits.{hop_limit}
use Rattle.register.specs.Register.{claims_of, resources_of}
use Rattle.register.specs.declared.Register.{Register}
use Rattle.soundness_rules.specs.Sound.{sound}
use Rattle.actions.specs.declared.Usage.{Usage}
use Rattle.actions.specs.declared.Violation.TheVariants.{NotCovered, OwnerNotCovering}
use Rattle.gate_rules.specs.Authority.{IsIn}
use Rattle.gate_rules.specs.Gate.{relied, public_read, covers, use_violation}
use Rattle.reasons.specs.Reasons.{held_over, reason_of, is_covering, telling, telling_of, owner_uncovered, relying, publicly, not_live, lacking, unheld, ReliesOn, EndedAt, LacksRight, HoldsNone}
use Rattle.reasons.proofs.ReasonsLaws as reasoning

-- 5a. The reason is a claim relied on or a public READ exactly where the actor covers the use.
pub reason_covers : (r : Register) (moment x : ℕ) (u : Usage) → is_covering (reason_of r moment x u) ≡ covers r moment x u
reason_covers = reasoning.reason_covers

-- 5b. So the gate's violation of a use is told by the actor's reason and that of a machine's owner.
pub violation_told : (r : Register) (moment x n : ℕ) (u : Usage) → use_violation r moment x n u
    ≡ cond (is_covering (reason_of r moment x u)) (cond (owner_uncovered r moment x u) (OwnerNotCovering n ∷ []) []) (NotCovered n ∷ [])
violation_told = reasoning.violation_told

-- 6a. Kind 1 is the claim relied on, told with the ids of its chain, the gate's hop count and one, at most 17, and in a sound register the keeper of its
-- resource.
pub reason_chain : (r : Register) (moment x : ℕ) (u : Usage) (c : Claim) → reason_of r moment x u ≡ relying c → ReliesOn r moment x u c
reason_chain = reasoning.reason_chain

-- 6b. Kind 2 is a public READ that no claim of the actor covers.
pub reason_public : (r : Register) (moment x : ℕ) (u : Usage) → reason_of r moment x u ≡ publicly → (public_read r u ≡ true) × (relied r moment x u ≡ [])
reason_public = reasoning.reason_public

-- 7a. Kind 3: no claim held that contains the resource and has the right is live; the nearest is told, with the first on its chain that is not current.
pub reason_miss : (r : Register) (moment x : ℕ) (u : Usage) (c : Claim) → reason_of r moment x u ≡ not_live c → EndedAt r moment x u c
reason_miss = reasoning.reason_ended

-- 7b. Kind 4: no claim held that contains the resource has the right; the nearest is told.
pub reason_lacking : (r : Register) (moment x : ℕ) (u : Usage) (c : Claim) → reason_of r moment x u ≡ lacking c → LacksRight r x u c
reason_lacking = reasoning.reason_lacking

-- 7c. Kind 5: no claim held contains the resource.
pub reason_none : (r : Register) (moment x : ℕ) (u : Usage) → reason_of r moment x u ≡ unheld → HoldsNone r x u
reason_none = reasoning.reason_none

-- 7d. Whatever claim is told of a sound register, its chain has at most 17 claims.
pub told_count : (r : Register) → sound r ≡ true → (c : Claim) → IsIn (claims_of r.claims) c → (kind ended : ℕ)
    → (telling_of r kind c ended).count ≤ suc hop_limit
told_count = reasoning.told_count

-- 7e. And the keeper told is that of its resource.
pub told_keeper : (r : Register) → sound r ≡ true → (c : Claim) → IsIn (claims_of r.claims) c → (kind ended : ℕ) (o : Resource)
    → IsIn (resources_of r.resources) o → o.id ≡ c.resource → (telling_of r kind c ended).keeper ≡ o.keeper
told_keeper = reasoning.told_keeper

-- 8. A resource that does not stand and one that no claim held contains get one answer, public READs apart.
pub reason_absent : (r : Register) (moment x : ℕ) (u v : Usage) → any (λ o. eqb u.resource o.id) (resources_of r.resources) ≡ false
    → public_read r v ≡ false → any (held_over r x v) (claims_of r.claims) ≡ false
    → telling r moment (reason_of r moment x u) ≡ telling r moment (reason_of r moment x v)
reason_absent = reasoning.reason_absent
