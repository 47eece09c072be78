-- The answer to why, where a test stops the call and where none does, by what was found of the register. Assumes nothing.
use Rattle.std.proofs.Common.{Result, Err, Ok, ◌≡◌, sym, ap, ◌∙◌, true, false, List, ℕ, leb}
use Rattle.lists.specs.Tests.{and_right}
use Rattle.rights.specs.Rights.{is_right}
use Rattle.register.specs.Limits.{id_limit}
use Rattle.register.specs.Register.{no_actor, Shaped}
use Rattle.register.specs.declared.Register.{Register}
use Rattle.columns.specs.Laws.{up_to_first}
use Rattle.columns.specs.Sheet.{sheet_of}
use Rattle.soundness_rules.specs.Sound.{sound}
use Rattle.soundness_rules.proofs.Sameness.{sound_same}
use Rattle.soundness.specs.Judged.{findings_by}
use Rattle.soundness.specs.declared.Findings.{Findings}
use Rattle.refusals.specs.Refusals.{outcome_of}
use Rattle.refusals.proofs.Laws.{outcome_pass, outcome_fail}
use Rattle.refusals.specs.declared.Refusal.{Refusal}
use Rattle.refusals.specs.declared.Refusal.TheVariants.{Unsound}
use Rattle.actions.specs.Actions.{one_use}
use Rattle.actions.specs.declared.Action.{Action}
use Rattle.actions.specs.declared.Usage.{Usage}
use Rattle.coverage.specs.Laid.{laid}
use Rattle.coverage.specs.Gathering.{spot_in}
use Rattle.gate_rules.specs.Gate.{gate_tests, action_tests}
use Rattle.gate_rules.proofs.Laws.{gate_tests_out}
use Rattle.gate.specs.Judged.{counts_of, sheet_ends, lent_in, lent_tests}
use Rattle.gate.specs.Sheets.{sheeted, sheeted_same}
use Rattle.gate.specs.Laws.{tests_natural}
use Rattle.reasons.proofs.HoldersLaws.{one_ranged}
use Rattle.reasons.specs.Uses.{refused_for, use_told_of, why_use}
use Rattle.reasons.proofs.UsesLaws.{why_accepted, why_refused}
use Rattle.reasons.specs.declared.UseTold.{UseTold}
use Rattle.reason_finding.specs.Finding.{use_by}
use Rattle.reason_finding.proofs.Reasoning.{use_natural}

module _ (r : Register) (x : ℕ) (u : Usage) (moment : ℕ) where
  pub why_unsound : sound r ≡ false → use_told_of (refused_for Unsound) ≡ use_told_of (why_use r x u moment)
  unfolding gate_tests
  why_unsound e = ap use_told_of (sym (why_refused r x u moment Unsound (outcome_fail _ _ e)))

  module _ (h : sound r ≡ true) {sheet : List ℕ} (put : sheet ≡ sheet_of r.claims) {found : Findings}
      (told : found ≡ findings_by r.version r.actors r.resources sheet r.claims.count) {a : Action} (of-action : a ≡ one_use x u moment)
      {outcome : Result Unit Refusal} (of-outcome : outcome ≡ outcome_of (lent_tests found.actors.names r.actors.count a)) where
    found_there : found ≡ findings_by r.version r.actors r.resources (sheet_of r.claims) r.claims.count
    found_there = told ∙ ap (λ s. findings_by r.version r.actors r.resources s r.claims.count) put

    tested : outcome ≡ outcome_of (gate_tests r (one_use x u moment))
    unfolding gate_tests action_tests
    tested =
        of-outcome ∙ ap (λ f. outcome_of (lent_tests f.actors.names r.actors.count a)) found_there
        ∙ ap (λ b. outcome_of (lent_tests (lent_in r).names (lent_in r).actors b)) of-action
        ∙ ap outcome_of (tests_natural r (one_use x u moment))
        ∙ rw (up_to_first no_actor r.actors.count r.actors.list) (sym (outcome_pass _ _ h))

    pub why_stopped : (why : Refusal) → outcome ≡ Err why → use_told_of (refused_for why) ≡ use_told_of (why_use r x u moment)
    why_stopped why e = ap use_told_of (sym (why_refused r x u moment why (sym tested ∙ e)))

    pub why_held : Shaped r → outcome ≡ Ok tt → {lens ends bytes : List ℕ} {spot : ℕ} → lens ≡ (laid r.resources).lens
        → ends ≡ sheet_ends sheet found.ups r.claims.count → bytes ≡ (laid r.resources).bytes
        → spot ≡ spot_in found.resources.reports r.resources.count u.resource → {answer : UseTold}
        → answer ≡ use_by (counts_of r) found lens ends sheet bytes (record { actor = x; right = u.right; spot = spot; moment = moment })
        → answer ≡ use_told_of (why_use r x u moment)
    why_held shaped e of-lens of-ends of-bytes of-spot answered =
        let accepted = sym tested ∙ e in
        let ranges = one_ranged r u moment x (gate_tests_out r (one_use x u moment) accepted).fits in
        let soundly : sound (sheeted r) ≡ true = sound_same (sheeted r) r (sheeted_same r shaped.claims) ∙ h in
        answered
        ∙ rw (of-lens, of-ends, of-bytes, of-spot, found_there, put)
        (use_natural r shaped soundly x u moment ranges.1 (and_right (leb u.resource id_limit) (is_right u.right) ranges.0))
        ∙ ap use_told_of (sym (why_accepted r x u moment accepted))
