-- By the decision, the verdict's line is put and the list behind it, or the lines of the refusal are.
use Rattle.std.proofs.Common.{ap, arith, length}
use Rattle.actions.specs.declared.Decision.TheVariants.{Permitted, Refused, Stopped}
use Rattle.verdict_printing.specs.Printed.{permitted_line, refused_line, stopped_text, verdict_text}
use Rattle.verdict_printing.proofs.Joining.{verdict_lines_lem, headed_room, headed_written, same_written}
use Rattle.verdict_printing.proofs.put_verdict.Goals as goal

-- permitted
pub put_list-requires : goal.put_list-requires
put_list-requires c =
    let v = c.args.v in (
      headed_room (verdict_text v) permitted_line v.violations c.args.buf.now (verdict_lines_lem v Permitted c.in-Permitted.is) c.requires.0
          c.put_bytes-list_at.ensures.behind c.put_bytes-list_at.ensures.written,
      c.requires.1,
    )

-- refused
pub put_list-requires-in-Refused : goal.put_list-requires-in-Refused
put_list-requires-in-Refused c =
    let v = c.args.v in (
      headed_room (verdict_text v) refused_line v.violations c.args.buf.now (verdict_lines_lem v Refused c.in-Refused.is) c.requires.0
          c.put_bytes-list_at-in-Refused.ensures.behind c.put_bytes-list_at-in-Refused.ensures.written,
      c.requires.1,
    )

-- stopped
pub put_stopped-requires : goal.put_stopped-requires
put_stopped-requires c =
    let why = c.in-Stopped.why in
    omega (arith, c.requires.0, ap length (verdict_lines_lem c.args.v (Stopped why) c.in-Stopped.is))

pub returns-in-Permitted : goal.returns-in-Permitted
returns-in-Permitted c =
    let call = c.put_list in
    let v = c.args.v in
    let both = headed_written (verdict_text v) permitted_line v.violations c.args.buf.now (verdict_lines_lem v Permitted c.in-Permitted.is) c.requires.0
    c.put_bytes-list_at.ensures.behind c.put_bytes-list_at.ensures.written call.ensures.behind call.ensures.written in
    record { behind = both.0; written = both.1 }

pub returns-in-Refused : goal.returns-in-Refused
returns-in-Refused c =
    let call = c.put_list-in-Refused in
    let v = c.args.v in
    let both = headed_written (verdict_text v) refused_line v.violations c.args.buf.now (verdict_lines_lem v Refused c.in-Refused.is) c.requires.0
    c.put_bytes-list_at-in-Refused.ensures.behind c.put_bytes-list_at-in-Refused.ensures.written call.ensures.behind call.ensures.written in
    record { behind = both.0; written = both.1 }

pub returns-in-Stopped : goal.returns-in-Stopped
returns-in-Stopped c =
    let call = c.put_stopped in
    let why = c.in-Stopped.why in
    let both = same_written (stopped_text why) (verdict_text c.args.v) c.args.buf.now (verdict_lines_lem c.args.v (Stopped why) c.in-Stopped.is)
    call.ensures.behind call.ensures.written in
    record { behind = both.0; written = both.1 }
