-- Its two lines are put one behind the other.
use Rattle.verdict_printing.proofs.Joining.{stopped_written}
use Rattle.verdict_printing.proofs.put_stopped.Goals as goal

pub returns : goal.returns
returns c =
    let both = stopped_written c.args.why c.args.buf.now c.requires c.number.ensures
    c.put_bytes-refusal_at.ensures.behind c.put_bytes-refusal_at.ensures.written c.put_line.ensures.behind c.put_line.ensures.written in
    record { behind = both.0; written = both.1 }
