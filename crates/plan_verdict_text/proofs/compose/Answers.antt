-- The answer for the plan's text by the register that its text says is put, where it is sound, and its text fits (`judged_fitting`); else the
-- lines of the refusal are.
use Rattle.std.proofs.Common.{◌<◌, sym, ap, ◌∙◌, arith, rules}
use Rattle.refusals.specs.declared.Refusal.TheVariants.{Unsound}
use Rattle.text_rules.specs.declared.RegisterRead.{RegisterRead}
use Rattle.register_reading.specs.Runs.{stands_going, stands_failed}
use Rattle.verdict_printing.proofs.Joining.{same_written}
use Rattle.verdict_printing.proofs.Composing.{failed_answer, unsound_answer, sound_answer}
use Rattle.plan_verdict_text.specs.PlanPrinted.{plan_stopped_text, plan_answer_text, plan_printed}
use Rattle.plan_verdict_text.proofs.Lengths.{number_end, stopped_length, PlanFitting, judged_fitting}
use Rattle.plan_verdict_text.proofs.Composing.{accepted_printed, refused_printed}
use Rattle.plan_verdict_text.proofs.compose.Goals as goal

pub put_stopped-requires : goal.put_stopped-requires
put_stopped-requires c = omega (arith, stopped_length c.read_form-form.result.cursor.refusal, c.requires)

pub returns-then-not-goes_on : goal.returns-then-not-goes_on
returns-then-not-goes_on c =
    let call = c.put_stopped in
    let form = c.read_form-form in
    let a = c.args in
    let text = a.register.now in
    let why = form.result.cursor.refusal in
    let halted = stands_failed text form.result.cursor (sym c.goes_on.ensures ∙ c.if-not-goes_on.true) in
    let done =
    same_written (plan_stopped_text why) (plan_printed text a.plan.now) a.buf.now
    (refused_printed text a.plan.now why (failed_answer text form.ensures.register form.ensures.state halted))
    call.ensures.behind call.ensures.written in
    record { behind = done.0; written = done.1; within = omega (arith, call.ensures.behind, stopped_length why) }

pub put_stopped-requires-then-not-is_sound : goal.put_stopped-requires-then-not-is_sound
put_stopped-requires-then-not-is_sound c = omega (arith, stopped_length Unsound, c.requires)

pub returns-then-not-is_sound : goal.returns-then-not-is_sound
returns-then-not-is_sound c =
    let call = c.put_stopped-then-not-is_sound in
    let form = c.read_form-form in
    let a = c.args in
    let text = a.register.now in
    let goes = stands_going text form.result.cursor (sym c.goes_on.ensures ∙ c.if-not-goes_on.false) in
    let done =
    same_written (plan_stopped_text Unsound) (plan_printed text a.plan.now) a.buf.now
    (refused_printed text a.plan.now Unsound
    (unsound_answer text form.ensures.register form.ensures.state goes (sym c.is_sound.ensures ∙ c.if-not-is_sound.true)))
    call.ensures.behind call.ensures.written in
    record { behind = done.0; written = done.1; within = omega (arith, call.ensures.behind, stopped_length Unsound) }

pub put_answer-requires : goal.put_answer-requires
put_answer-requires c =
    let judged = c.plan_text.result in
    let line_small : judged.line < number_end = search rules in
    let position_small : judged.position < number_end = search rules in
    let fit : PlanFitting judged = judged_fitting _ _ c.plan_text.ensures line_small position_small in
    (omega (arith, fit.text, c.requires), fit.few)

pub returns : goal.returns
returns c =
    let call = c.put_answer in
    let form = c.read_form-form in
    let a = c.args in
    let text = a.register.now in
    let judged = c.plan_text.result in
    let line_small : judged.line < number_end = search rules in
    let position_small : judged.position < number_end = search rules in
    let fit : PlanFitting judged = judged_fitting _ _ c.plan_text.ensures line_small position_small in
    let goes = stands_going text form.result.cursor (sym c.goes_on.ensures ∙ c.if-not-goes_on.false) in
    let same = sound_answer text form.ensures.register form.ensures.state goes (sym c.is_sound.ensures ∙ c.if-not-is_sound.false) in
    let done =
    same_written (plan_answer_text judged) (plan_printed text a.plan.now) a.buf.now
    (accepted_printed text a.plan.now (ap (λ (o : RegisterRead). o.outcome) (sym same)) (ap (λ (o : RegisterRead). o.register) same)
    ∙ ap plan_answer_text (sym c.plan_text.ensures))
    call.ensures.behind call.ensures.written in
    record { behind = done.0; written = done.1; within = omega (arith, call.ensures.behind, fit.text) }
