-- Working: A grant's outcome beside the claim that it makes. It is shaped for the code; the register with that claim is the one that 01's grant
-- answers (`granted_natural` of answers).
use Rattle.refusals.specs.declared.Refusal.{Refusal}
use Rattle.std.specs.Prelude.{cond, ℕ, Result}
use Rattle.register.specs.Register.{with_left}
use Rattle.register.specs.declared.Claim.{Claim}
use Rattle.register.specs.declared.Register.{Register}
use Rattle.soundness_rules.specs.Sound.{stored}
use Rattle.claim_judging.specs.Over.{hands_at}
use Rattle.refusals.specs.Refusals.{outcome_of, is_accepted}
use Rattle.change_rules.specs.Changes.{standing, grant_tests}
use Rattle.granting.specs.declared.GrantOutcome.{GrantOutcome}

-- accepted, the claim tells the hands that it has left with so many hops; refused, it is as it came
abbrev pub settled_as : Result Unit Refusal → ℕ → ℕ → Claim → GrantOutcome
settled_as outcome version hops c = record { claim = cond (is_accepted outcome) (with_left (hands_at version hops c) c) c; outcome = outcome }

-- the outcome of a grant's tests; accepted, the claim as it is stored, and refused, as it came
unfoldable pub grant_outcome : Register → Claim → ℕ → GrantOutcome
grant_outcome r c moment = record {
  claim = cond (is_accepted (outcome_of (grant_tests r c moment))) (stored r.version (standing r) c) c;
  outcome = outcome_of (grant_tests r c moment);
}
