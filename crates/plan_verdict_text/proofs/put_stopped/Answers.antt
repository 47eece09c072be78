-- Its two lines are put one behind the other.
use Rattle.plan_verdict_text.proofs.Joining.{stopped_written}
use Rattle.plan_verdict_text.proofs.put_stopped.Goals as goal

pub returns : goal.returns
returns c =
    let all =
    stopped_written c.args.why c.args.buf.now c.requires c.number-number.ensures
    c.put_bytes-refusal_at.ensures.behind c.put_bytes-refusal_at.ensures.written c.put_line.ensures.behind c.put_line.ensures.written in
    record { behind = all.0; written = all.1 }
