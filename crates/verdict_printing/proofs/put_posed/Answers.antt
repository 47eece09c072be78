-- An action that was read is put by the gate's verdict, whose text fits (`gated_fitting`); else the lines of the refusal are put.
use Rattle.std.proofs.Common.{arith}
use Rattle.verdict_printing.proofs.Lengths.{stopped_length}
use Rattle.verdict_printing.proofs.Composing.{judged_fits}
use Rattle.verdict_printing.proofs.put_posed.Goals as goal

pub put_verdict-requires : goal.put_verdict-requires
put_verdict-requires c =
    let opened = c.requires.1 in
    let fit = judged_fits c.args.register c.args.asked c.gate_by.result (c.gate_by.ensures.gated opened.put opened.told) in
    (omega (arith, fit.0, c.requires.0), fit.1)

pub put_stopped-requires : goal.put_stopped-requires
put_stopped-requires c = omega (arith, stopped_length c.in-Err.why, c.requires.0)
