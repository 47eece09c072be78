-- `lending::gate` meets its contract: a test that is not passed stops it, and past them the action is judged by what was filled from the bytes
-- (Answering). Assumes nothing.
use Rattle.lending.proofs.Answering.{other_gated, unsound_gated, stopped_gated, judged_gated}
use Rattle.lending.proofs.gate.Goals as goal

pub returns-then-bytes-ne-REGISTER : goal.returns-then-bytes-ne-REGISTER
returns-then-bytes-ne-REGISTER c =
    other_gated c.args.bytes.now c.if-bytes-ne-REGISTER.true c.args.a c.stopped.ensures

pub returns-then-not-found : goal.returns-then-not-found
returns-then-not-found c =
    unsound_gated c.args.bytes.now c.if-bytes-ne-REGISTER.false c.examine-found.ensures (c.if-not-found.true) c.args.a c.stopped-then-not-found.ensures

pub returns-in-Err : goal.returns-in-Err
returns-in-Err c =
    stopped_gated c.args.bytes.now c.if-bytes-ne-REGISTER.false c.examine-found.ensures (c.if-not-found.false) c.counts_in-counts.ensures
    c.args.a c.in-Err.why c.action_outcome-outcome.ensures c.in-Err.is c.stopped-in-Err.ensures

pub returns-in-Ok : goal.returns-in-Ok
returns-in-Ok c =
    judged_gated c.args.bytes.now c.if-bytes-ne-REGISTER.false c.examine-found.ensures (c.if-not-found.false) c.counts_in-counts.ensures
    c.lay-lens.ensures.laid c.lay-lens.ensures.lengths c.claim_ends-ends.ensures
    c.args.a c.action_outcome-outcome.ensures c.in-Ok.is c.judge-judged.ensures c.decided.ensures
