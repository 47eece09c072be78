-- The line of the kind and that of the value are put one behind the other.
use Rattle.verdict_printing.proofs.Joining.{pair_written}
use Rattle.verdict_printing.proofs.put_pair.Goals as goal

pub returns : goal.returns
returns c =
    let both = pair_written c.args.v c.args.at c.args.buf.now c.requires c.kind.ensures c.value.ensures
    c.put_line-value_at.ensures.behind c.put_line-value_at.ensures.written c.put_line.ensures.behind c.put_line.ensures.written in
    record { behind = both.0; written = both.1 }
