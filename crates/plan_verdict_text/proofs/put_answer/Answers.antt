-- By the outcome, the plan's line is put and the verdicts behind it, or the lines of the refusal and the line that names what was refused.
use Rattle.std.proofs.Common.{ap, arith, length, length-append, Err, Ok}
use Rattle.plan_verdict_text.specs.PlanPrinted.{plan_judged_line, verdicts_text, plan_stopped_text, place_text, plan_answer_text}
use Rattle.plan_verdict_text.proofs.Joining.{answer_lines, behind_room, both_written, rest_room, rest_written}
use Rattle.plan_verdict_text.proofs.put_answer.Goals as goal

pub put_verdicts-requires : goal.put_verdicts-requires
put_verdicts-requires c =
    let v = c.args.v in (
      behind_room (plan_answer_text v) plan_judged_line (verdicts_text v) 0 c.args.buf.now (answer_lines v (Ok tt) c.in-Ok.is)
          (omega (arith, c.requires.0)) c.put_bytes-verdicts_at.ensures.behind c.put_bytes-verdicts_at.ensures.written,
      c.requires.1,
    )

pub put_stopped-place_at-requires : goal.put_stopped-place_at-requires
put_stopped-place_at-requires c =
    let v = c.args.v in
    let why = c.in-Err.why in
    omega (arith, c.requires.0, ap length (answer_lines v (Err why) c.in-Err.is), length-append (plan_stopped_text why) (place_text why v.line v.position))

pub put_place-requires : goal.put_place-requires
put_place-requires c =
    let v = c.args.v in
    let why = c.in-Err.why in
    rest_room (plan_answer_text v) (plan_stopped_text why) (place_text why v.line v.position) c.args.buf.now
    (answer_lines v (Err why) c.in-Err.is) c.requires.0 c.put_stopped-place_at.ensures.behind c.put_stopped-place_at.ensures.written

pub returns-in-Ok : goal.returns-in-Ok
returns-in-Ok c =
    let v = c.args.v in
    let all =
    both_written (plan_answer_text v) plan_judged_line (verdicts_text v) 0 c.args.buf.now (answer_lines v (Ok tt) c.in-Ok.is)
    (omega (arith, c.requires.0)) c.put_bytes-verdicts_at.ensures.behind c.put_bytes-verdicts_at.ensures.written
    c.put_verdicts.ensures.behind c.put_verdicts.ensures.written in
    record { behind = omega (arith, all.0); written = all.1 }

pub returns-in-Err : goal.returns-in-Err
returns-in-Err c =
    let v = c.args.v in
    let why = c.in-Err.why in
    let all =
    rest_written (plan_answer_text v) (plan_stopped_text why) (place_text why v.line v.position) c.args.buf.now
    (answer_lines v (Err why) c.in-Err.is) c.requires.0 c.put_stopped-place_at.ensures.behind c.put_stopped-place_at.ensures.written
    c.put_place.ensures.behind c.put_place.ensures.written in
    record { behind = all.0; written = all.1 }
