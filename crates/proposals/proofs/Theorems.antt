-- What is proved of the planner: what it proposes passes the check; it proposes nothing exactly where nothing would pass; and it proposes no grant
-- exactly where the use alone is permitted. Assumes nothing.
use Rattle.std.proofs.Common.{Ok, ◌≡◌, true, false, ℕ}
use Rattle.register.specs.Register.{Shaped}
use Rattle.register.specs.declared.Register.{Register}
use Rattle.refusals.specs.Refusals.{outcome_of}
use Rattle.refusals.specs.declared.Refusal.TheVariants.{NoProposal}
use Rattle.actions.specs.Actions.{one_use}
use Rattle.actions.specs.declared.Usage.{Usage}
use Rattle.proposals.specs.Proposals.{no_grant_kind, ask_tests, permits, passing, no_grant, proposes, unproposed, proposed, checked}
use Rattle.proposals.specs.declared.Signers.{Signers}
use Rattle.proposals.specs.declared.Proposal.{Proposal}
use Rattle.proposals.specs.declared.Checked.TheVariants.{Passes}
use Rattle.proposals.proofs.Completing as completing

module _ (r : Register) (x : ℕ) (u : Usage) (moment : ℕ) (s : Signers) where
  -- 1. What is proposed passes, and the check says so.
  pub proposed_passes : (p : Proposal) → proposed r x u moment s ≡ proposes p → (passing r x u moment s p ≡ true) × (checked r x u moment s p ≡ Passes)
  proposed_passes = completing.proposed_checked r x u moment s

  -- 2. Nothing is proposed, which is 26, exactly where the tests are passed and no proposal passes, whatever weight, expiry, parent, id or `left` it had.
  pub proposed_complete : Shaped r
      → (proposed r x u moment s ≡ unproposed NoProposal → (outcome_of (ask_tests r x u moment s) ≡ Ok tt) × ((p : Proposal) → passing r x u moment s p ≡ false))
      × ((outcome_of (ask_tests r x u moment s) ≡ Ok tt) × ((p : Proposal) → passing r x u moment s p ≡ false) → proposed r x u moment s ≡ unproposed NoProposal)
  proposed_complete = completing.nothing_exact r x u moment s

  -- 3. No grant is proposed exactly where the tests are passed and the use alone is permitted.
  pub proposed_none :
      ((p : Proposal) → p.kind ≡ no_grant_kind → proposed r x u moment s ≡ proposes p
      → (outcome_of (ask_tests r x u moment s) ≡ Ok tt) × (permits r (one_use x u moment) ≡ true))
      × ((outcome_of (ask_tests r x u moment s) ≡ Ok tt) × (permits r (one_use x u moment) ≡ true) → proposed r x u moment s ≡ proposes no_grant)
  proposed_none = completing.none_exact r x u moment s
