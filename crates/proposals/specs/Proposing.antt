-- Laws: What the planner answers, case by case. Assumes nothing.
use Rattle.std.specs.Prelude.{◌≡◌, true, false, ℕ, Err, Ok}
use Rattle.std.proofs.Math.Path.{ap}
use Rattle.std.proofs.Common.{◌∙◌}
use Rattle.lists.specs.Lists.{any}
use Rattle.register.specs.declared.Register.{Register}
use Rattle.refusals.specs.Refusals.{outcome_of}
use Rattle.refusals.specs.declared.Refusal.{Refusal}
use Rattle.refusals.specs.declared.Refusal.TheVariants.{NoProposal}
use Rattle.actions.specs.Actions.{one_use}
use Rattle.actions.specs.declared.Usage.{Usage}
use Rattle.gate_rules.specs.Gate.{first_of}
use Rattle.gate_rules.specs.Places.{first_none}
use Rattle.proposals.specs.Proposals.{signers_of, ask_tests, permits, passing_grant, candidates, no_grant, proposes, unproposed, proposed_first, proposed_on, proposed}
use Rattle.proposals.specs.declared.Signers.{Signers}

module _ (r : Register) (x : ℕ) (u : Usage) (moment : ℕ) (s : Signers) where
  -- stopped by a test; no grant; the first candidate that passes; none where none passes
  pub proposed_stopped : (why : Refusal) → outcome_of (ask_tests r x u moment s) ≡ Err why → proposed r x u moment s ≡ unproposed why
  unfolding proposed
  proposed_stopped why e = ap (λ o. proposed_on o r x u moment s) e

  pub proposed_permitted : outcome_of (ask_tests r x u moment s) ≡ Ok tt → permits r (one_use x u moment) ≡ true → proposed r x u moment s ≡ proposes no_grant
  unfolding proposed
  proposed_permitted e k = ap (λ o. proposed_on o r x u moment s) e ∙ rw k

  pub proposed_by : outcome_of (ask_tests r x u moment s) ≡ Ok tt → permits r (one_use x u moment) ≡ false
      → proposed r x u moment s ≡ proposed_first (first_of (passing_grant r x u moment s) (candidates r x u (signers_of s)))
  unfolding proposed
  proposed_by e k = ap (λ o. proposed_on o r x u moment s) e ∙ rw k

  pub proposed_nothing : outcome_of (ask_tests r x u moment s) ≡ Ok tt → permits r (one_use x u moment) ≡ false
      → any (passing_grant r x u moment s) (candidates r x u (signers_of s)) ≡ false → proposed r x u moment s ≡ unproposed NoProposal
  proposed_nothing e k none =
      proposed_by e k ∙ ap proposed_first (first_none (passing_grant r x u moment s) (candidates r x u (signers_of s)) none)
