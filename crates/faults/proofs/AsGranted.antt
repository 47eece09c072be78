-- What a broken claim is told is what a grant of it behind the earlier ones would be refused with, were they all live. Assumes nothing.
use Rattle.std.proofs.Common.{◌≡◌, ◌∙◌, sym, true, ◌&&◌, cond, List, [], ◌∷◌, ◌++◌, ℕ, eqb, ltb}
use mathlib.Core.Bool.{and-true}
use Rattle.lists.specs.Tests.{cases}
use Rattle.lists.specs.Lists.{every}
use Rattle.register.specs.Limits.{claim_limit, moment_end}
use Rattle.register.specs.Chain.{above, current}
use Rattle.register.specs.declared.Claim.{Claim}
use Rattle.register.specs.declared.Register.{Register}
use Rattle.soundness_rules.specs.Sound.{sound, claim_fits}
use Rattle.refusals.specs.Refusals.{Test, outcome_of}
use Rattle.refusals.proofs.Laws.{outcome_cases, outcome_pass, outcome_append, outcome_append_refused}
use Rattle.refusals.specs.declared.Refusal.TheVariants.{Unsound, Range, NotHeld, NotLive}
use Rattle.change_rules.specs.Changes.{world_in, standing, source_live, parent_tests, world_tests, grant_tests, granted}
use Rattle.faults.specs.Faults.{higher_tests, claim_tests}
use Rattle.faults.proofs.Claiming.{higher_nil, higher_tests_lem}

-- tests behind others may be put for those that come to the same
outcome_behind : (tests more other : List Test) → outcome_of more ≡ outcome_of other → outcome_of (tests ++ more) ≡ outcome_of (tests ++ other)
outcome_behind tests more other e =
    outcome_cases (outcome_of tests) (λ k. outcome_append tests more k ∙ e ∙ sym (outcome_append tests other k))
    (λ why k. outcome_append_refused tests more why k ∙ sym (outcome_append_refused tests other why k))

-- where all above is current, 11 may be left out
chain_outcome : (version moment : ℕ) (H : List Claim) (c : Claim) → every (current moment) H ≡ true
    → outcome_of (parent_tests version moment H c) ≡ outcome_of (higher_tests version H c)
unfolding parent_tests source_live
chain_outcome version moment [] c live = rw (higher_nil version c)
chain_outcome version moment (p ∷ higher) c live =
    rw (higher_tests_lem version p higher c)
    (outcome_behind (record { passed = eqb p.holder c.grantor && eqb p.resource c.resource; refusal = NotHeld } ∷ []) _ _
    (outcome_pass (record { passed = source_live moment (p ∷ higher); refusal = NotLive }) _ live))

-- a grant asks the moment and the room besides
grant_outcome_lem : (r : Register) (c : Claim) (moment : ℕ) → sound r ≡ true → ltb r.claims.count claim_limit ≡ true → ltb moment moment_end ≡ true
    → every (current moment) (above (standing r) c) ≡ true
    → outcome_of (grant_tests r c moment) ≡ outcome_of (claim_tests (world_in r) (standing r) c)
unfolding grant_tests claim_tests world_tests
grant_outcome_lem r c moment soundly room timely lives =
    outcome_pass (record { passed = sound r; refusal = Unsound }) _ soundly
    ∙ rw (timely, room, and-true (claim_fits r.version c))
    (outcome_behind (record { passed = claim_fits r.version c; refusal = Range } ∷ world_tests (world_in r) (standing r) 0 c)
    (cond (eqb c.parent 0) [] (parent_tests r.version moment (above (standing r) c) c)) (cond (eqb c.parent 0) [] (higher_tests r.version (above (standing r) c) c))
    (cases (eqb c.parent 0) (λ e. rw e) (λ e. rw e (chain_outcome r.version moment (above (standing r) c) c lives))))

pub fault_granted : (r : Register) (c : Claim) (moment : ℕ) → sound r ≡ true → ltb r.claims.count claim_limit ≡ true → ltb moment moment_end ≡ true
    → every (current moment) (above (standing r) c) ≡ true
    → outcome_of (claim_tests (world_in r) (standing r) c) ≡ (granted r c moment).outcome
unfolding granted
fault_granted r c moment soundly room timely lives = sym (grant_outcome_lem r c moment soundly room timely lives)
