-- The register that its text says judges by the texts behind it, where it is sound; else the lines of the refusal are put.
use Rattle.std.proofs.Common.{◌≡◌, sym, ap, ◌∙◌, arith, rules, length}
use borrow.Author.Tests.{not-true, not-false}
use Rattle.lists.specs.Loops.{length_mapped}
use Rattle.register.specs.Limits.{claim_limit}
use Rattle.refusals.specs.declared.Refusal.TheVariants.{Unsound}
use Rattle.soundness.specs.Laws.{judged_sound}
use Rattle.register_reading.specs.Runs.{stands_going, stands_failed}
use Rattle.text_rules.specs.declared.RegisterRead.{RegisterRead}
use Rattle.verdict_printing.specs.Printed.{stopped_text}
use Rattle.verdict_printing.specs.Shared.{lines_by, printed_by}
use Rattle.verdict_printing.proofs.Lengths.{stopped_length}
use Rattle.verdict_printing.proofs.Joining.{same_written}
use Rattle.verdict_printing.proofs.Composing.{failed_answer, unsound_answer, sound_answer, accepted_by, refused_by}
use Rattle.verdict_printing.proofs.compose.Goals as goal

pub put_stopped-requires : goal.put_stopped-requires
put_stopped-requires c =
    omega (arith, stopped_length c.read_form-form.result.cursor.refusal, c.requires)

pub returns-then-not-goes_on : goal.returns-then-not-goes_on
returns-then-not-goes_on c =
    let call = c.put_stopped in
    let form = c.read_form-form in
    let why = form.result.cursor.refusal in
    let text = c.args.register.now in
    let clock = c.args.clock.now in
    let action = c.args.action.now in
    let halted = stands_failed text form.result.cursor (sym c.goes_on.ensures ∙ c.if-not-goes_on.true) in
    let both = same_written (stopped_text why) (printed_by c.args.json text clock action) c.args.buf.now
    (refused_by c.args.json text clock action why (failed_answer text form.ensures.register form.ensures.state halted))
    call.ensures.behind call.ensures.written in
    record { behind = both.0; written = both.1 }

pub put_stopped-requires-then-not-known : goal.put_stopped-requires-then-not-known
put_stopped-requires-then-not-known c = omega (arith, stopped_length Unsound, c.requires)

pub returns-then-not-known : goal.returns-then-not-known
returns-then-not-known c =
    let call = c.put_stopped-then-not-known in
    let form = c.read_form-form in
    let text = c.args.register.now in
    let clock = c.args.clock.now in
    let action = c.args.action.now in
    let goes = stands_going text form.result.cursor (sym c.goes_on.ensures ∙ c.if-not-goes_on.false) in
    let places : length form.result.register.claims.list ≡ claim_limit = search (rules, length_mapped) in
    let whole = judged_sound form.result.register (record { put = c.put_claims.ensures; told = c.examine_sheet-known.ensures }) places in
    let both = same_written (stopped_text Unsound) (printed_by c.args.json text clock action) c.args.buf.now
    (refused_by c.args.json text clock action Unsound
    (unsound_answer text form.ensures.register form.ensures.state goes (sym whole ∙ not-true c.examine_sheet-known.result.sound c.if-not-known.true)))
    call.ensures.behind call.ensures.written in
    record { behind = both.0; written = both.1 }

pub returns : goal.returns
returns c =
    let call = c.compose_asked in
    let form = c.read_form-form in
    let text = c.args.register.now in
    let clock = c.args.clock.now in
    let action = c.args.action.now in
    let r = form.result.register in
    let goes = stands_going text form.result.cursor (sym c.goes_on.ensures ∙ c.if-not-goes_on.false) in
    let places : length form.result.register.claims.list ≡ claim_limit = search (rules, length_mapped) in
    let whole = judged_sound r (record { put = c.put_claims.ensures; told = c.examine_sheet-known.ensures }) places in
    let read_as = sound_answer text form.ensures.register form.ensures.state goes (sym whole ∙ not-false c.examine_sheet-known.result.sound c.if-not-known.false) in
    let both = same_written (lines_by c.args.json r clock action) (printed_by c.args.json text clock action) c.args.buf.now
    (accepted_by c.args.json text clock action (ap (λ (o : RegisterRead). o.outcome) (sym read_as)) (ap (λ (o : RegisterRead). o.register) read_as))
    call.ensures.behind call.ensures.written in
    record { behind = both.0; written = both.1 }
