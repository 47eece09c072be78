-- The verdict's line is put, and behind a refusal that of its number of violations.
use Rattle.std.proofs.Common.{ap}
use Rattle.lines.specs.Lines.{decimal_line}
use Rattle.verdict_printing.specs.Printed.{permitted_line, refused_line, violations_key}
use Rattle.plan_verdict_text.specs.PlanPrinted.{cancelled_line, judgement_text}
use Rattle.plan_verdict_text.proofs.Joining.{part_written, both_put}
use Rattle.plan_verdict_text.proofs.put_judgement.Goals as goal

pub returns-in-Permitted : goal.returns-in-Permitted
returns-in-Permitted c =
    let call = c.put_bytes in
    let all =
    part_written (judgement_text c.args.j) permitted_line c.args.at c.args.buf.now (ap judgement_text c.in-Permitted.is) c.requires
    call.ensures.behind call.ensures.written in
    record { behind = all.0; written = all.1 }

pub returns-in-Refused : goal.returns-in-Refused
returns-in-Refused c =
    let call = c.put_line in
    let all =
    both_put (judgement_text c.args.j) refused_line (decimal_line violations_key c.in-Refused.violations) c.args.at c.args.buf.now
    (ap judgement_text c.in-Refused.is) c.requires
    c.put_bytes-count_at.ensures.behind c.put_bytes-count_at.ensures.written call.ensures.behind call.ensures.written in
    record { behind = all.0; written = all.1 }

pub returns-in-Cancelled : goal.returns-in-Cancelled
returns-in-Cancelled c =
    let call = c.put_bytes-in-Cancelled in
    let all =
    part_written (judgement_text c.args.j) cancelled_line c.args.at c.args.buf.now (ap judgement_text c.in-Cancelled.is) c.requires
    call.ensures.behind call.ensures.written in
    record { behind = all.0; written = all.1 }
