-- What is printed, by what stops the program and by what the gate decides; and what a printed permission says of the two texts. Assumes
-- nothing.
use Rattle.std.proofs.Common.{Err, Ok, ℕ, ◌≡◌, refl, sym, ap, ◌∙◌, List, [], ◌++◌, arith, length, get_or}
use Rattle.lists.specs.Bytes.{bytes}
use Rattle.refusals.specs.Refusals.{outcome_of}
use Rattle.refusals.proofs.Laws.{outcome_cases}
use Rattle.refusals.specs.declared.Refusal.{Refusal}
use Rattle.actions.specs.declared.Violation.{Violation}
use Rattle.actions.specs.declared.Violations.{Violations}
use Rattle.actions.specs.declared.Decision.{Decision}
use Rattle.actions.specs.declared.Decision.TheVariants.{Permitted, Refused, Stopped}
use Rattle.actions.specs.declared.Verdict.{Verdict}
use Rattle.gate_rules.specs.Gate.{violations_of, gate_tests, listed, decided, gated}
use Rattle.gate_rules.proofs.Laws.{gate_tests_in, gated_judged, gated_stopped, permitted_out, violations_none_in}
use Rattle.decimals.specs.Decimals.{digits, digits_with}
use Rattle.lines.specs.Lines.{decimal_line}
use Rattle.text_rules.specs.Records.{texts}
use Rattle.text_rules.specs.Registers.{register_read}
use Rattle.text_rules.specs.Actions.{action_read}
use Rattle.verdict_printing.specs.Printed.{refused_line, violations_key, pair_text, list_text, stopped_text, verdict_lines, verdict_text, printed, Heard}
use Rattle.verdict_printing.proofs.Lengths.{listed_in}
use Rattle.verdict_printing.proofs.Composing as composing

-- the text of a permission
abbrev pub permission : List ℕ
permission = bytes "verdict=permitted\nviolations=0\n"

-- the lines of a permission, and of a list of violations as the answer holds it
clean_lines : verdict_lines Permitted (listed []) ≡ permission
unfolding list_text texts decimal_line digits digits_with
clean_lines = refl

listed_lines : (vs : List Violation) → verdict_lines Refused (listed vs) ≡ refused_line ++ (decimal_line violations_key (length vs) ++ texts pair_text vs)
unfolding list_text
listed_lines vs = ap (λ (l : List Violation). refused_line ++ (decimal_line violations_key (length vs) ++ texts pair_text l)) (listed_in vs)

-- no other lines are those of a permission: the ninth byte differs
stopped_clash : {A : Type 0} (why : Refusal) → stopped_text why ≡ permission → A
unfolding stopped_text
stopped_clash why e = let never : ◌≡◌ {A = ℕ} 115 112 = ap (λ (t : List ℕ). get_or t 8 0) e in absurd (omega arith)

lines_permitted : (d : Decision) (vs : Violations) → verdict_lines d vs ≡ permission → d ≡ Permitted
lines_permitted Permitted vs e = refl
lines_permitted Refused vs e = let never : ◌≡◌ {A = ℕ} 114 112 = ap (λ (t : List ℕ). get_or t 8 0) e in absurd (omega arith)
lines_permitted (Stopped why) vs e = stopped_clash why e

decision_clash : {A : Type 0} {why : Refusal} → Stopped why ≡ Refused → A
decision_clash e = let never : ◌≡◌ {A = ℕ} 0 1 = cc in absurd (omega arith)

module _ (register action : List ℕ) where
  -- the gate's verdict on what the two texts are read as
  abbrev pub asked : Verdict
  asked = gated (register_read register).register (action_read action).action

  pub register_stops : (why : Refusal) → (register_read register).outcome ≡ Err why → printed register action ≡ stopped_text why
  register_stops = composing.refused_printed register action

  pub action_stops : (why : Refusal) → (register_read register).outcome ≡ Ok tt → (action_read action).outcome ≡ Err why
      → printed register action ≡ stopped_text why
  action_stops why e f = composing.accepted_printed register action e refl ∙ composing.lines_refused stopped_text _ why f

  pub printed_heard : Heard register action → printed register action ≡ verdict_text asked
  printed_heard h =
      composing.accepted_printed register action h.registered refl ∙ composing.lines_accepted stopped_text _ h.posed

  pub gate_stops : (why : Refusal) → Heard register action → outcome_of (gate_tests (register_read register).register (action_read action).action) ≡ Err why
      → printed register action ≡ stopped_text why
  unfolding verdict_text
  gate_stops why h e = printed_heard h ∙ ap verdict_text (gated_stopped (register_read register).register (action_read action).action why e)

  -- the violations that the gate finds
  abbrev pub found : List Violation
  found = violations_of (register_read register).register (action_read action).action

  judged_printed : Heard register action → outcome_of (gate_tests (register_read register).register (action_read action).action) ≡ Ok tt
      → printed register action ≡ verdict_lines (decided found) (listed found)
  unfolding verdict_text
  judged_printed h e = printed_heard h ∙ ap verdict_text (gated_judged (register_read register).register (action_read action).action e)

  pub permitted_printed : Heard register action → asked.decision ≡ Permitted → printed register action ≡ permission
  permitted_printed h e =
      let r = (register_read register).register in
      let a = (action_read action).action in
      let told = permitted_out r a e in
      judged_printed h (gate_tests_in r a told.passed)
      ∙ ap (λ (vs : List Violation). verdict_lines (decided vs) (listed vs)) (violations_none_in r a told.clean)
      ∙ clean_lines

  pub printed_permitted : printed register action ≡ permission → Heard register action × (asked.decision ≡ Permitted)
  unfolding verdict_text
  printed_permitted e =
      outcome_cases (register_read register).outcome
      (λ heard.
      outcome_cases (action_read action).outcome
      (λ also.
      let both : Heard register action = record { registered = heard; posed = also } in
      let lines = sym (printed_heard both) ∙ e in
      (both, lines_permitted asked.decision asked.violations lines))
      (λ why also. stopped_clash why (sym (action_stops why heard also) ∙ e)))
      (λ why heard. stopped_clash why (sym (register_stops why heard) ∙ e))

  pub refused_printed : Heard register action → asked.decision ≡ Refused
      → printed register action ≡ refused_line ++ (decimal_line violations_key (length found) ++ texts pair_text found)
  refused_printed h e =
      let r = (register_read register).register in
      let a = (action_read action).action in
      outcome_cases (outcome_of (gate_tests r a))
      (λ f.
      let refused = sym (ap (λ (v : Verdict). v.decision) (gated_judged r a f)) ∙ e in
      judged_printed h f ∙ ap (λ (d : Decision). verdict_lines d (listed found)) refused ∙ listed_lines found)
      (λ why f. decision_clash (sym (ap (λ (v : Verdict). v.decision) (gated_stopped r a why f)) ∙ e))
