-- The tests of the check by what the gate decides of the one use are the tests of both calls, and what the check answers by them. Assumes nothing.
use Rattle.std.proofs.Common.{Err, Ok, ◌≡◌, refl, ap, sym, ◌∙◌, Bool, true, false, cond, List, [], ◌∷◌, ℕ}
use Rattle.lists.specs.Tests.{cases}
use Rattle.register.specs.declared.Register.{Register}
use Rattle.soundness_rules.specs.Sound.{sound}
use Rattle.refusals.specs.Refusals.{outcome_of}
use Rattle.refusals.specs.declared.Refusal.{Refusal}
use Rattle.refusals.specs.declared.Refusal.TheVariants.{Unsound, Range, Absent}
use Rattle.change_rules.specs.Changes.{world_in}
use Rattle.actions.specs.Actions.{one_use, action_fits}
use Rattle.actions.specs.declared.Usage.{Usage}
use Rattle.actions.specs.declared.Action.{Action}
use Rattle.actions.specs.declared.Violation.{Violation}
use Rattle.actions.specs.declared.Decision.TheVariants.{Stopped}
use Rattle.gate_rules.specs.Gate.{violations_of, action_tests, gate_tests, decided, gated}
use Rattle.gate_rules.proofs.Laws.{gated_stopped, gated_judged}
use Rattle.proposals.specs.Proposals.{asks_fit, ask_tests, passing, checked_on, checked}
use Rattle.proposals.proofs.Exact.{asked_out, one_fits}
use Rattle.proposals.specs.declared.Signers.{Signers}
use Rattle.proposals.specs.declared.Proposal.{Proposal}
use Rattle.proposals.specs.declared.Checked.TheVariants.{Passes, Fails, Stopped as StoppedBy}
use Rattle.checking.specs.Asked.{asked_by}

-- what the gate decides, by its tests
decided_unsound : (r : Register) (a : Action) → sound r ≡ false → (gated r a).decision ≡ Stopped Unsound
unfolding gate_tests outcome_of
decided_unsound r a e = ap (λ v. v.decision) (gated_stopped r a Unsound (rw e))

decided_range : (r : Register) (a : Action) → sound r ≡ true → action_fits a ≡ false → (gated r a).decision ≡ Stopped Range
unfolding gate_tests action_tests outcome_of
decided_range r a e f = ap (λ v. v.decision) (gated_stopped r a Range (rw (e, f)))

decided_absent : (r : Register) (a : Action) → sound r ≡ true → action_fits a ≡ true → (world_in r).known a.actor ≡ false
    → (gated r a).decision ≡ Stopped Absent
unfolding gate_tests action_tests outcome_of
decided_absent r a e f k = ap (λ v. v.decision) (gated_stopped r a Absent (rw (e, f, k)))

decided_judged : (r : Register) (a : Action) → sound r ≡ true → action_fits a ≡ true → (world_in r).known a.actor ≡ true
    → (gated r a).decision ≡ decided (violations_of r a)
unfolding gate_tests action_tests outcome_of
decided_judged r a e f k = ap (λ v. v.decision) (gated_judged r a (rw (e, f, k)))

-- an action that is judged leaves test 2
judged_asked : (vs : List Violation) (inside : Bool) → asked_by (decided vs) inside ≡ cond inside (Ok tt) (Err Range)
judged_asked [] inside = refl
judged_asked (v ∷ vs) inside = refl

-- the tests, one by one
asked_unsound : (r : Register) (x : ℕ) (u : Usage) (moment : ℕ) (s : Signers) → sound r ≡ false → outcome_of (ask_tests r x u moment s) ≡ Err Unsound
unfolding ask_tests outcome_of
asked_unsound r x u moment s e = rw e

asked_range : (r : Register) (x : ℕ) (u : Usage) (moment : ℕ) (s : Signers) → sound r ≡ true → asks_fit u moment s ≡ false
    → outcome_of (ask_tests r x u moment s) ≡ Err Range
unfolding ask_tests outcome_of
asked_range r x u moment s e f = rw (e, f)

asked_absent : (r : Register) (x : ℕ) (u : Usage) (moment : ℕ) (s : Signers) → sound r ≡ true → asks_fit u moment s ≡ true
    → (world_in r).known x ≡ false → outcome_of (ask_tests r x u moment s) ≡ Err Absent
unfolding ask_tests outcome_of
asked_absent r x u moment s e f k = rw (e, f, k)

asked_passed : (r : Register) (x : ℕ) (u : Usage) (moment : ℕ) (s : Signers) → sound r ≡ true → asks_fit u moment s ≡ true
    → (world_in r).known x ≡ true → outcome_of (ask_tests r x u moment s) ≡ Ok tt
unfolding ask_tests outcome_of
asked_passed r x u moment s e f k = rw (e, f, k)

module _ (r : Register) (x : ℕ) (u : Usage) (moment : ℕ) (s : Signers) where
  -- in a sound register the gate's answer leaves test 2 and then what is asked of the actor
  sound_asked : sound r ≡ true → asked_by (gated r (one_use x u moment)).decision (asks_fit u moment s)
      ≡ cond (asks_fit u moment s) (cond ((world_in r).known x) (Ok tt) (Err Absent)) (Err Range)
  sound_asked e =
      let a : Action = one_use x u moment in
      cases (asks_fit u moment s)
      (λ f. cases ((world_in r).known x)
      (λ k. let fits = one_fits r x u moment (asked_out r x u moment s (asked_passed r x u moment s e f k)) in
      rw (f, k, decided_judged r a e fits k) (judged_asked (violations_of r a) true))
      (λ k. cases (action_fits a)
      (λ fits. rw (f, k, decided_absent r a e fits k))
      (λ outside. rw (f, k, decided_range r a e outside))))
      (λ f. cases (action_fits a)
      (λ fits. cases ((world_in r).known x)
      (λ k. rw (f, decided_judged r a e fits k) (judged_asked (violations_of r a) false))
      (λ k. rw (f, decided_absent r a e fits k)))
      (λ outside. rw (f, decided_range r a e outside)))

  pub asked_natural : asked_by (gated r (one_use x u moment)).decision (asks_fit u moment s) ≡ outcome_of (ask_tests r x u moment s)
  asked_natural =
      cases (sound r)
      (λ e. sound_asked e
      ∙ cases (asks_fit u moment s)
      (λ f. cases ((world_in r).known x) (λ k. rw (f, k) (sym (asked_passed r x u moment s e f k))) (λ k. rw (f, k) (sym (asked_absent r x u moment s e f k))))
      (λ f. rw f (sym (asked_range r x u moment s e f))))
      (λ e. rw (decided_unsound r (one_use x u moment) e) (sym (asked_unsound r x u moment s e)))

  -- so it tells what the check answers
  pub checked_stopped : (p : Proposal) (why : Refusal) → asked_by (gated r (one_use x u moment)).decision (asks_fit u moment s) ≡ Err why
      → checked r x u moment s p ≡ StoppedBy why
  unfolding checked
  checked_stopped p why e = ap (λ o. checked_on o (passing r x u moment s p)) (sym asked_natural ∙ e)

  pub checked_passed : (p : Proposal) → asked_by (gated r (one_use x u moment)).decision (asks_fit u moment s) ≡ Ok tt
      → checked r x u moment s p ≡ cond (passing r x u moment s p) Passes Fails
  unfolding checked
  checked_passed p e = ap (λ o. checked_on o (passing r x u moment s p)) (sym asked_natural ∙ e)
