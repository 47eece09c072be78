-- Laws: What is judged by columns, put together: what is told of what is lent, and the whole answer. Assumes nothing.
use Rattle.std.specs.Prelude.{◌≡◌, refl, true, false, cond, List, [], ℕ, eqb, length, Result, Err, Ok}
use Rattle.std.proofs.Math.Path.{sym, ap}
use Rattle.std.proofs.Common.{◌∙◌}
use Rattle.lists.specs.Tests.{cases}
use Rattle.register.specs.Limits.{claim_limit}
use Rattle.register.specs.Register.{Shaped}
use Rattle.register.specs.declared.Register.{Register}
use Rattle.soundness_rules.specs.Sound.{sound}
use Rattle.actions.specs.declared.Action.{Action}
use Rattle.actions.specs.declared.Decision.TheVariants.{Permitted, Refused, Stopped}
use Rattle.actions.specs.declared.Verdict.{Verdict}
use Rattle.refusals.specs.Refusals.{outcome_of}
use Rattle.refusals.proofs.Laws.{outcome_cases, outcome_pass, outcome_fail, outcome_accepted}
use Rattle.refusals.specs.declared.Refusal.{Refusal}
use Rattle.refusals.specs.declared.Refusal.TheVariants.{Unsound}
use Rattle.gate_rules.specs.Gate.{violations_of, listed, padded, action_tests, gate_tests, gated}
use Rattle.gate_rules.proofs.Laws.{gated_stopped, gated_judged}
use Rattle.gate_rules.proofs.Sameness.{gated_same}
use Rattle.uses.specs.declared.UsesJudged.{UsesJudged}
use Rattle.soundness.specs.declared.Findings.{Findings}
use Rattle.gate.specs.Judged.{action_judged, Lent, lent_by, lent_in, lent_tests, lent_judged, verdict_told, verdict_by, AsGated}
use Rattle.gate.specs.Sheets.{sheeted, sheeted_same, sheeted_shaped}
use Rattle.gate.specs.Laws.{decided_natural, judged_natural, tests_natural, lent_natural, found_sound, lent_told}

-- what is told of what is lent of a register is told of the register
module _ (r : Register) (a : Action) {l : Lent} (same : l ≡ lent_in r) where
  pub outcome_seen : {outcome : Result Unit Refusal} → outcome ≡ outcome_of (lent_tests l.names l.actors a)
      → outcome ≡ outcome_of (action_tests (sheeted r) a)
  outcome_seen e = e ∙ ap (λ w. outcome_of (lent_tests w.names w.actors a)) same ∙ ap outcome_of (tests_natural r a)

  pub judged_seen : Shaped r → sound (sheeted r) ≡ true → outcome_of (action_tests (sheeted r) a) ≡ Ok tt → lent_judged l a ≡ action_judged (sheeted r) a
  unfolding action_tests
  judged_seen shaped h passed = ap (λ w. lent_judged w a) same ∙ lent_natural r shaped h a (outcome_accepted _ _ passed)

-- the answer of the gate, where the tests are passed
pub gate_judged : (r : Register) (shaped : Shaped r) (h : sound r ≡ true) (a : Action) (judged : UsesJudged) → outcome_of (action_tests r a) ≡ Ok tt →
    judged ≡ action_judged r a →
    ◌≡◌ {A = Verdict} (record { decision = cond (eqb judged.violations.count 0) Permitted Refused; violations = judged.violations; hops = judged.hops }) (gated r a)
unfolding action_tests gate_tests
gate_judged r shaped h a judged passed e =
    rw (e ∙ judged_natural r shaped h a (outcome_accepted _ _ passed), decided_natural (violations_of r a))
    (sym (gated_judged r a (outcome_pass _ _ h ∙ passed)))

-- the answer of the gate, where a test is not passed
pub gate_unsound : (r : Register) (a : Action) → sound r ≡ false →
    ◌≡◌ {A = Verdict} (record { decision = Stopped Unsound; violations = listed []; hops = padded [] }) (gated r a)
unfolding gate_tests
gate_unsound r a fails = sym (gated_stopped r a Unsound (outcome_fail _ _ fails))

pub gate_stopped : (r : Register) (a : Action) (why : Refusal) → sound r ≡ true → outcome_of (action_tests r a) ≡ Err why →
    ◌≡◌ {A = Verdict} (record { decision = Stopped why; violations = listed []; hops = padded [] }) (gated r a)
unfolding gate_tests
gate_stopped r a why h stops = sym (gated_stopped r a why (outcome_pass _ _ h ∙ stops))

-- a register whose claims are read from their sheet gets the same answer
pub gate_sheeted : (r : Register) → length r.claims.list ≡ claim_limit → (a : Action) → gated (sheeted r) a ≡ gated r a
gate_sheeted r long a = gated_same (sheeted r) r (sheeted_same r long) a

-- ---- the verdict by what was found of a register

abbrev stopping : Refusal → Verdict
stopping why = record { decision = Stopped why; violations = listed []; hops = padded [] }

module _ (r : Register) (s : List ℕ) (found : Findings) (a : Action) where
  -- what is lent
  abbrev lent : Lent
  lent = lent_by r s found

  pub verdict_unsound : found.sound ≡ false → stopping Unsound ≡ verdict_by r s found a
  unfolding verdict_by
  verdict_unsound h = sym (ap (λ o. verdict_told o (lent_judged lent a)) (outcome_fail _ _ h))

  module _ (h : found.sound ≡ true) where
    tested : {o : Result Unit Refusal} → outcome_of (lent_tests found.actors.names r.actors.count a) ≡ o → verdict_told o (lent_judged lent a) ≡ verdict_by r s found a
    unfolding verdict_by
    tested e = sym (ap (λ o. verdict_told o (lent_judged lent a)) (outcome_pass _ _ h ∙ e))

    pub verdict_stopped : (why : Refusal) → outcome_of (lent_tests found.actors.names r.actors.count a) ≡ Err why
        → stopping why ≡ verdict_by r s found a
    verdict_stopped why e = tested e

    pub verdict_judged : outcome_of (lent_tests found.actors.names r.actors.count a) ≡ Ok tt → {judged : UsesJudged} → judged ≡ lent_judged lent a
        → verdict_told (Ok tt) judged ≡ verdict_by r s found a
    verdict_judged e of-judged = ap (verdict_told (Ok tt)) of-judged ∙ tested e

  -- it is the gate's, where the sheet is that of the register's claims and the register was judged by it
  pub gated_told : length r.claims.list ≡ claim_limit → (found.sound ≡ true → Shaped r) → AsGated r s found a (verdict_by r s found a)
  gated_told long sized put told =
      let soundly = found_sound r long put told in
      cases found.sound
      (λ t. let h = sym soundly ∙ t in
      let wholly = sized t in
      let seen : lent ≡ lent_in r = lent_told r long put told refl refl refl in
      let tests = lent_tests found.actors.names r.actors.count a in
      outcome_cases (outcome_of tests)
      (λ e. let passed = sym (outcome_seen r a seen refl) ∙ e in
      sym (tested t e)
      ∙ gate_judged (sheeted r) (sheeted_shaped r wholly) h a (lent_judged lent a) passed (judged_seen r a seen wholly h passed))
      (λ why e. sym (tested t e) ∙ gate_stopped (sheeted r) a why h (sym (outcome_seen r a seen refl) ∙ e)))
      (λ t. sym (verdict_unsound t) ∙ gate_unsound (sheeted r) a (sym soundly ∙ t))
      ∙ gate_sheeted r long a

  -- so a verdict that is told in one way is told in both
  pub both_told : length r.claims.list ≡ claim_limit → (found.sound ≡ true → Shaped r) → {v : Verdict} → v ≡ verdict_by r s found a
      → (v ≡ verdict_by r s found a) × AsGated r s found a v
  both_told long sized e = (e, λ put told. e ∙ gated_told long sized put told)
