-- The test on the lengths is the one of `delivered`.
use Rattle.std.proofs.Common.{arith}
use Rattle.buffers.specs.Laws.{put_fits, delivered_fits, delivered_short}
use Rattle.buffers.proofs.deliver.Goals as goal

pub returns-then-buf-t-clause-answer : goal.returns-then-buf-t-clause-answer
returns-then-buf-t-clause-answer c = delivered_short c.args.t.now c.args.buf.now c.if-buf-t.true

pub returns-clause-answer : goal.returns-clause-answer
returns-clause-answer c =
    let a = c.args in
    let fit = put_fits 0 a.t.now a.buf.now (omega arith) in
    delivered_fits a.t.now a.buf.now _ c.if-buf-t.false (omega (arith, c.put_bytes-length.ensures.behind, fit.1))
