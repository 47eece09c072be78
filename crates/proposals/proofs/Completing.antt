-- What the planner proposes, case by case: it passes, and there is none exactly where no proposal would pass. Assumes nothing.
use Rattle.std.proofs.Common.{Result, Err, Ok, ◌≡◌, refl, ap, sym, ◌∙◌, true, false, ◌&&◌, cond, ℕ, arith, eqb}
use Rattle.lists.specs.Tests.{cases, clash, and_left, and_right}
use Rattle.lists.specs.Lists.{any}
use Rattle.register.specs.Register.{Shaped}
use Rattle.register.specs.declared.Claim.{Claim}
use Rattle.register.specs.declared.Register.{Register}
use Rattle.soundness_rules.specs.Sound.{sound}
use Rattle.refusals.specs.Refusals.{number_of, outcome_of}
use Rattle.refusals.proofs.Laws.{outcome_cases, outcome_clash, refused_same}
use Rattle.refusals.specs.declared.Refusal.{Refusal}
use Rattle.refusals.specs.declared.Refusal.TheVariants.{Unsound, Range, Absent, NoProposal}
use Rattle.actions.specs.declared.Usage.{Usage}
use Rattle.gate_rules.specs.Places.{first_found}
use Rattle.change_rules.specs.Changes.{world_in}
use Rattle.actions.specs.Actions.{one_use}
use Rattle.proposals.specs.Proposals.{no_grant_kind, grant_kind, signers_of, asks_fit, ask_tests, permits, of_form, helping, passing_grant, passing, candidates, no_grant, a_grant, proposes, unproposed, proposed_first, proposed, checked_on, checked}
use Rattle.proposals.specs.declared.Signers.{Signers}
use Rattle.proposals.specs.declared.Proposal.{Proposal}
use Rattle.proposals.specs.declared.Checked.TheVariants.{Passes, Fails}
use Rattle.proposals.specs.Forms.{form_out, help_out}
use Rattle.proposals.specs.Proposing.{proposed_stopped, proposed_permitted, proposed_by, proposed_nothing}
use Rattle.proposals.proofs.Choosing.{some_candidate}

-- the answers differ
unproposed_proposes : {A : Type 0} {why : Refusal} {p : Proposal} → unproposed why ≡ proposes p → A
unproposed_proposes e = outcome_clash (ap (λ y. y.outcome) e)

proposes_same : (p q : Proposal) → proposes p ≡ proposes q → p ≡ q
proposes_same p q e = ap (λ y. y.proposal) e

-- 26 is none of the tests'
refused_number : {why other : Refusal} → ◌≡◌ {A = Result Unit Refusal} (Err why) (Err other) → number_of why ≡ number_of other
refused_number e = ap number_of (refused_same e)

asked_never : {A : Type 0} (r : Register) (x : ℕ) (u : Usage) (moment : ℕ) (s : Signers) → outcome_of (ask_tests r x u moment s) ≡ Err NoProposal → A
unfolding ask_tests outcome_of
asked_never r x u moment s h =
    cases (sound r)
    (λ e. cases (asks_fit u moment s)
    (λ f. cases ((world_in r).known x) (λ g. outcome_clash (sym (rw (e, f, g) at h)))
    (λ g. let never : number_of Absent ≡ number_of NoProposal = refused_number (rw (e, f, g) at h) in absurd (omega (arith, never))))
    (λ f. let never : number_of Range ≡ number_of NoProposal = refused_number (rw (e, f) at h) in absurd (omega (arith, never))))
    (λ e. let never : number_of Unsound ≡ number_of NoProposal = refused_number (rw e at h) in absurd (omega (arith, never)))

module _ (r : Register) (x : ℕ) (u : Usage) (moment : ℕ) (s : Signers) where
  -- a proposal of no grant passes where the use alone is permitted, one of a grant where the grant passes
  pub none_passing : passing r x u moment s no_grant ≡ permits r (one_use x u moment)
  unfolding passing
  none_passing = cases (permits r (one_use x u moment)) (λ e. rw e) (λ e. rw e)

  pub grant_passing : (c : Claim) → passing r x u moment s (a_grant c) ≡ passing_grant r x u moment s c
  unfolding passing
  grant_passing c = refl

  -- what passes is a proposal of one kind or the other
  pub passing_cases : {A : Type 0} (p : Proposal) → passing r x u moment s p ≡ true → (permits r (one_use x u moment) ≡ true → A)
      → (passing_grant r x u moment s p.claim ≡ true → A) → A
  unfolding passing
  passing_cases p h f g =
      cases (eqb p.kind no_grant_kind && permits r (one_use x u moment))
      (λ e. f (and_right (eqb p.kind no_grant_kind) (permits r (one_use x u moment)) e))
      (λ e. g (and_right (eqb p.kind grant_kind) (passing_grant r x u moment s p.claim) (rw e at h)))

  -- where a candidate passes, the first that does is proposed; where none does, none is
  pub proposed_first_lem : outcome_of (ask_tests r x u moment s) ≡ Ok tt → permits r (one_use x u moment) ≡ false
      → any (passing_grant r x u moment s) (candidates r x u (signers_of s)) ≡ true
      → (c : Claim) × (passing_grant r x u moment s c ≡ true) × (proposed r x u moment s ≡ proposes (a_grant c))
  proposed_first_lem e k some =
      let found = first_found (passing_grant r x u moment s) (candidates r x u (signers_of s)) some in
      (found.0, found.1.passes, proposed_by r x u moment s e k ∙ ap proposed_first found.1.alone)

  -- the answer taken apart
  pub proposed_cases : {A : Type 0} → ((why : Refusal) → outcome_of (ask_tests r x u moment s) ≡ Err why → proposed r x u moment s ≡ unproposed why → A)
      → (outcome_of (ask_tests r x u moment s) ≡ Ok tt → permits r (one_use x u moment) ≡ true → proposed r x u moment s ≡ proposes no_grant → A)
      → (outcome_of (ask_tests r x u moment s) ≡ Ok tt → permits r (one_use x u moment) ≡ false → (c : Claim) → passing_grant r x u moment s c ≡ true
      → proposed r x u moment s ≡ proposes (a_grant c) → A)
      → (outcome_of (ask_tests r x u moment s) ≡ Ok tt → permits r (one_use x u moment) ≡ false
      → any (passing_grant r x u moment s) (candidates r x u (signers_of s)) ≡ false → proposed r x u moment s ≡ unproposed NoProposal → A) → A
  proposed_cases stops none grants fails =
      outcome_cases (outcome_of (ask_tests r x u moment s))
      (λ e. cases (permits r (one_use x u moment)) (λ k. none e k (proposed_permitted r x u moment s e k))
      (λ k. cases (any (passing_grant r x u moment s) (candidates r x u (signers_of s)))
      (λ some. let found = proposed_first_lem e k some in grants e k found.0 found.1 found.2)
      (λ hopeless. fails e k hopeless (proposed_nothing r x u moment s e k hopeless))))
      (λ why e. stops why e (proposed_stopped r x u moment s why e))

  -- where the use alone is not permitted and no candidate passes, no proposal does
  pub none_passes : Shaped r → permits r (one_use x u moment) ≡ false → any (passing_grant r x u moment s) (candidates r x u (signers_of s)) ≡ false
      → (p : Proposal) → passing r x u moment s p ≡ false
  none_passes shaped before none p =
      cases (passing r x u moment s p)
      (λ h. passing_cases p h (λ e. clash (permits r (one_use x u moment)) e before)
      (λ e. let formed = form_out x u s p.claim (and_left (of_form x u s p.claim) (helping r x u moment p.claim) e) in
      let helped = help_out r x u moment p.claim (and_right (of_form x u s p.claim) (helping r x u moment p.claim) e) in
      clash (any (passing_grant r x u moment s) (candidates r x u (signers_of s)))
      (some_candidate r x u moment s p.claim shaped formed helped before) none))
      (λ e. e)

  -- what is proposed passes
  pub proposed_sound : (p : Proposal) → proposed r x u moment s ≡ proposes p → (outcome_of (ask_tests r x u moment s) ≡ Ok tt) × (passing r x u moment s p ≡ true)
  proposed_sound p h =
      proposed_cases (λ why asked e. unproposed_proposes (sym e ∙ h))
      (λ asked k e. (asked, rw (← proposes_same no_grant p (sym e ∙ h)) (none_passing ∙ k)))
      (λ asked k c passes e. (asked, rw (← proposes_same (a_grant c) p (sym e ∙ h)) (grant_passing c ∙ passes)))
      (λ asked k none e. unproposed_proposes (sym e ∙ h))

  -- where nothing is, the tests are passed and nothing would pass
  pub nothing_sound : Shaped r → proposed r x u moment s ≡ unproposed NoProposal
      → (outcome_of (ask_tests r x u moment s) ≡ Ok tt) × ((p : Proposal) → passing r x u moment s p ≡ false)
  nothing_sound shaped h =
      proposed_cases (λ why asked e. asked_never r x u moment s (asked ∙ ap (λ y. y.outcome) (sym e ∙ h))) (λ asked k e. unproposed_proposes (sym h ∙ e))
      (λ asked k c passes e. unproposed_proposes (sym h ∙ e)) (λ asked k none e. (asked, none_passes shaped k none))

  pub nothing_complete : outcome_of (ask_tests r x u moment s) ≡ Ok tt → ((p : Proposal) → passing r x u moment s p ≡ false) → proposed r x u moment s ≡ unproposed NoProposal
  nothing_complete told fails =
      proposed_cases (λ why asked e. outcome_clash (sym asked ∙ told))
      (λ asked k e. clash (passing r x u moment s no_grant) (none_passing ∙ k) (fails no_grant))
      (λ asked k c passes e. clash (passing r x u moment s (a_grant c)) (grant_passing c ∙ passes) (fails (a_grant c)))
      (λ asked k none e. e)

  -- no grant is proposed where the use alone is permitted, and only there
  pub none_sound : (p : Proposal) → p.kind ≡ no_grant_kind → proposed r x u moment s ≡ proposes p
      → (outcome_of (ask_tests r x u moment s) ≡ Ok tt) × (permits r (one_use x u moment) ≡ true)
  none_sound p kind h =
      proposed_cases (λ why asked e. unproposed_proposes (sym e ∙ h)) (λ asked k e. (asked, k))
      (λ asked k c passes e. let other : grant_kind ≡ no_grant_kind = ap (λ q. q.kind) (proposes_same (a_grant c) p (sym e ∙ h)) ∙ kind in absurd (omega (arith, other)))
      (λ asked k none e. unproposed_proposes (sym e ∙ h))

  -- the check, where the tests are passed
  pub checked_asked : (p : Proposal) → outcome_of (ask_tests r x u moment s) ≡ Ok tt → checked r x u moment s p ≡ cond (passing r x u moment s p) Passes Fails
  unfolding checked
  checked_asked p e = ap (λ o. checked_on o (passing r x u moment s p)) e

  -- so the check says that what is proposed passes
  pub proposed_checked : (p : Proposal) → proposed r x u moment s ≡ proposes p → (passing r x u moment s p ≡ true) × (checked r x u moment s p ≡ Passes)
  proposed_checked p h =
      let told = proposed_sound p h in (told.1, checked_asked p told.0 ∙ rw told.1)

  -- both ways
  pub nothing_exact : Shaped r
      → (proposed r x u moment s ≡ unproposed NoProposal → (outcome_of (ask_tests r x u moment s) ≡ Ok tt) × ((p : Proposal) → passing r x u moment s p ≡ false))
      × ((outcome_of (ask_tests r x u moment s) ≡ Ok tt) × ((p : Proposal) → passing r x u moment s p ≡ false) → proposed r x u moment s ≡ unproposed NoProposal)
  nothing_exact shaped = (nothing_sound shaped, λ h. nothing_complete h.0 h.1)

  pub none_exact :
      ((p : Proposal) → p.kind ≡ no_grant_kind → proposed r x u moment s ≡ proposes p
      → (outcome_of (ask_tests r x u moment s) ≡ Ok tt) × (permits r (one_use x u moment) ≡ true))
      × ((outcome_of (ask_tests r x u moment s) ≡ Ok tt) × (permits r (one_use x u moment) ≡ true) → proposed r x u moment s ≡ proposes no_grant)
  none_exact = (none_sound, λ h. proposed_permitted r x u moment s h.0 h.1)
