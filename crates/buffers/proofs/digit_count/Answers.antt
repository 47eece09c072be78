-- A 64-bit number has at most twenty digits.
use Rattle.std.proofs.Common.{arith}
use Rattle.decimals.specs.Walk.{length_small, length_step, length_under}
use Rattle.buffers.proofs.digit_count.Goals as goal

pub loop-m-preserved : goal.loop-m-preserved
loop-m-preserved c = let e = length_step c.loop-m.m c.loop-m-test.true in (omega arith, omega arith)

pub returns : goal.returns
returns c =
    let e = length_small c.loop-m.m c.loop-m-test.false in
    let few = length_under 19 c.args.n (omega arith) in
    (omega arith, omega arith)
