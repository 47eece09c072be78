-- A clock that is read judges the JSON action's text at its moment; else the lines of the clock's refusal are put.
use Rattle.std.proofs.Common.{◌-◌, sym, ap, ◌∙◌, arith}
use Rattle.register.specs.Limits.{moment_end}
use Rattle.refusals.specs.declared.Refusal.TheVariants.{Range}
use Rattle.lines.specs.Reading.{State, decimal, read_form, closed}
use Rattle.text_rules.specs.Keys.{now_key}
use Rattle.register_reading.specs.Runs.{run_start, stands_failed}
use Rattle.verdict_printing.specs.Printed.{stopped_text, clock_read, clock_lines}
use Rattle.verdict_printing.proofs.Lengths.{stopped_length}
use Rattle.verdict_printing.proofs.Joining.{same_written}
use Rattle.verdict_printing.proofs.Composing.{clock_failed}
use Rattle.verdict_printing.proofs.compose_clock.Goals as goal

pub put_stopped-requires : goal.put_stopped-requires
put_stopped-requires c =
    omega (arith, stopped_length c.finish-end.result.refusal, c.requires.0)

pub returns : goal.returns
returns c =
    let call = c.put_stopped in
    let a = c.args in
    let why = c.finish-end.result.refusal in
    let first = run_start a.clock.now c.start.result c.start.ensures in
    let begun = c.read_decimal-field.ensures.state ∙ ap (λ (st : State). (read_form (decimal now_key 0 (moment_end - 1) Range) st).state) first in
    let ended = c.finish-end.ensures ∙ ap closed begun in
    let failed = stands_failed a.clock.now c.finish-end.result (sym c.goes_on.ensures ∙ c.if-goes_on.false) in
    let both = same_written (stopped_text why)
    (clock_lines a.register (closed (clock_read a.clock.now).state) (clock_read a.clock.now).value a.action.now) a.buf.now
    (clock_failed a.register a.clock.now a.action.now why c.finish-end.result.line (sym ended ∙ failed))
    call.ensures.behind call.ensures.written in
    record { behind = both.0; written = both.1 }
