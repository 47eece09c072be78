-- The test whether the reading goes on is the one of its state, and where it does the register that was read is told of.
use Rattle.std.proofs.Common.{sym, ◌∙◌}
use Rattle.register_reading.specs.Runs.{stands_failed, stands_going}
use Rattle.fault_finding.proofs.Parts.{unread_failed, unread_going}
use Rattle.fault_finding.proofs.why_unread.Goals as goal

pub returns-then-not-goes_on : goal.returns-then-not-goes_on
returns-then-not-goes_on c =
    let text = c.args.text.now in
    let form = c.read_form-form in
    let halted = sym c.goes_on.ensures ∙ c.if-not-goes_on.true in
    c.failed.ensures ∙ sym (unread_failed text (sym form.ensures.state ∙ stands_failed text form.result.cursor halted))

pub returns : goal.returns
returns c =
    let text = c.args.text.now in
    let form = c.read_form-form in
    let goes_on = sym c.goes_on.ensures ∙ c.if-not-goes_on.false in
    c.why_unsound.ensures
    ∙ sym (unread_going text form.ensures.register (sym form.ensures.state ∙ stands_going text form.result.cursor goes_on))
