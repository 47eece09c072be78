-- Working: The planner as its code goes about it: what must hold whoever signs, the claims under which a claim of the actor may be drawn, and what
-- each signer would sign first. It asks no gate and no grant per claim. That it answers what is proposed is `planned_proposed` of Planning.
use Rattle.refusals.specs.declared.Refusal.{Refusal}
use Rattle.std.specs.Prelude.{Bool, not, ◌&&◌, ◌||◌, cond, List, [], ◌∷◌, map, ℕ, eqb, ltb, Result, Err, Ok}
use Rattle.lists.specs.Lists.{ands}
use Rattle.rights.specs.Rights.{delegating, has_right, bars_machine, worth_of}
use Rattle.register.specs.Limits.{claim_limit, weight_limit}
use Rattle.register.specs.Register.{claims_of}
use Rattle.register.specs.Chain.{above, chain_of, circling, live}
use Rattle.register.specs.declared.Claim.{Claim}
use Rattle.register.specs.declared.Register.{Register}
use Rattle.soundness_rules.specs.Sound.{hands_left}
use Rattle.refusals.specs.Refusals.{outcome_of}
use Rattle.refusals.specs.declared.Refusal.TheVariants.{NoProposal}
use Rattle.change_rules.specs.Changes.{world_in, standing}
use Rattle.actions.specs.Actions.{one_use}
use Rattle.actions.specs.declared.Usage.{Usage}
use Rattle.gate_rules.specs.Gate.{is_ownerless, owner_lacks, contains, first_of}
use Rattle.proposals.specs.Proposals.{signers_of, ask_tests, permits, candidate, no_grant, proposes, unproposed, proposed_first}
use Rattle.proposals.specs.declared.Proposed.{Proposed}
use Rattle.proposals.specs.declared.Signers.{Signers}

-- what must hold whoever signs: the actor is no machine without owner and no machine whose owner lacks the use, there is room for a claim, and the used
-- resource stands with a path that contains itself, so one without `..`
unfoldable pub clear : Register → ℕ → Usage → ℕ → Bool
clear r x u moment = ands (
    not (is_ownerless r x)
    ∷ not (owner_lacks r moment x u)
    ∷ ltb r.claims.count claim_limit
    ∷ contains r u.resource u.resource
    ∷ [])

-- under which claims a claim of the actor may be drawn, whoever signs: on the resource, live, with DELEGATE and the right, with hands left, and
-- the actor is not on its chain nor granted its root
unfoldable pub marked : Register → ℕ → Usage → ℕ → Claim → Bool
marked r x u moment p = ands (
    eqb p.resource u.resource
    ∷ live moment (standing r) p
    ∷ has_right p.rights delegating
    ∷ has_right p.rights u.right
    ∷ ltb 0 (hands_left r.version (above (standing r) p) p)
    ∷ not (circling (λ d. d.grantor) (λ d. d.holder) (chain_of (standing r) p) x)
    ∷ [])

-- whether g is barred by neither 7 nor 8
unfoldable pub may_sign : Register → Usage → ℕ → Bool
may_sign r u g = not ((world_in r).machine g) || (not ((world_in r).ownerless g) && not (bars_machine (worth_of u.right)))

-- whether g may sign below a claim
abbrev pub signable : Register → ℕ → Usage → ℕ → ℕ → Claim → Bool
signable r x u moment g p = eqb p.holder g && (may_sign r u g && marked r x u moment p)

-- what g would sign: the keeper a root, another below the first claim that he may sign below
abbrev pub signed_first : Register → ℕ → Usage → ℕ → ℕ → List Claim
signed_first r x u moment g =
    cond ((world_in r).keeps g u.resource) (candidate r x u g 0 weight_limit ∷ [])
    (map (λ p. candidate r x u g p.id p.weight) (first_of (signable r x u moment g) (claims_of r.claims)))

-- the first of two lists, or, where that is empty, the second
abbrev pub or_else : List Claim → List Claim → List Claim
or_else [] m = m
or_else (c ∷ l) m = c ∷ l

abbrev pub first_signed : Register → ℕ → Usage → ℕ → List ℕ → List Claim
first_signed r x u moment [] = []
first_signed r x u moment (g ∷ gs) = or_else (signed_first r x u moment g) (first_signed r x u moment gs)

abbrev pub by_marks_on : Result Unit Refusal → Register → ℕ → Usage → ℕ → Signers → Proposed
by_marks_on (Ok tt) r x u moment s =
    cond (permits r (one_use x u moment)) (proposes no_grant)
    (cond (clear r x u moment) (proposed_first (first_signed r x u moment (signers_of s))) (unproposed NoProposal))
by_marks_on (Err why) r x u moment s = unproposed why

unfoldable pub by_marks : Register → ℕ → Usage → ℕ → Signers → Proposed
by_marks r x u moment s = by_marks_on (outcome_of (ask_tests r x u moment s)) r x u moment s
