-- What is printed, by what the code found: a register that is read, and one that is refused. Assumes nothing.
use Rattle.std.proofs.Common.{Err, Ok, ℕ, ◌≡◌, sym, ap, ◌∙◌, List}
use Rattle.register.specs.declared.Register.{Register}
use Rattle.refusals.specs.declared.Refusal.{Refusal}
use Rattle.text_rules.specs.Registers.{register_read}
use Rattle.steps.specs.Judging.{plan_text_judged}
use Rattle.verdict_printing.proofs.Composing.{lines_accepted, lines_refused}
use Rattle.plan_verdict_text.specs.PlanPrinted.{plan_stopped_text, plan_answer_text, plan_printed}

module _ (t plan : List ℕ) where
  pub accepted_printed : {r : Register} → (register_read t).outcome ≡ Ok tt → r ≡ (register_read t).register
      → plan_printed t plan ≡ plan_answer_text (plan_text_judged r plan)
  unfolding plan_printed
  accepted_printed e same = lines_accepted plan_stopped_text _ e ∙ ap (λ r. plan_answer_text (plan_text_judged r plan)) (sym same)

  pub refused_printed : (why : Refusal) → (register_read t).outcome ≡ Err why → plan_printed t plan ≡ plan_stopped_text why
  unfolding plan_printed
  refused_printed why e = lines_refused plan_stopped_text _ why e
