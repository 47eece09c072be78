-- `lending::plan` meets its contract: test 1, then 2 on the count, then what is found to stop the plan does, and a plan that nothing stops is judged
-- whole, each by what was filled from the bytes (Answering). Assumes nothing.
use Rattle.lending.proofs.Answering.{other_planned, unsound_planned, many_planned, stopped_planned, judged_planned}
use Rattle.lending.proofs.plan.Goals as goal

pub returns-then-bytes-ne-REGISTER : goal.returns-then-bytes-ne-REGISTER
returns-then-bytes-ne-REGISTER c =
    other_planned c.args.bytes.now c.if-bytes-ne-REGISTER.true c.args.p c.stopped.ensures

pub returns-then-not-found : goal.returns-then-not-found
returns-then-not-found c =
    unsound_planned c.args.bytes.now c.if-bytes-ne-REGISTER.false c.examine-found.ensures (c.if-not-found.true) c.args.p c.stopped-then-not-found.ensures

pub returns-then-p-gt-ACTIONS : goal.returns-then-p-gt-ACTIONS
returns-then-p-gt-ACTIONS c =
    many_planned c.args.bytes.now c.if-bytes-ne-REGISTER.false c.examine-found.ensures (c.if-not-found.false) c.args.p c.if-p-gt-ACTIONS.true c.stopped-then-p-gt-ACTIONS.ensures

pub returns-in-Err : goal.returns-in-Err
returns-in-Err c =
    stopped_planned c.args.bytes.now c.if-bytes-ne-REGISTER.false c.examine-found.ensures (c.if-not-found.false) c.counts_in-counts.ensures
    c.lay-lens.ensures.laid c.lay-lens.ensures.lengths c.claim_ends-ends.ensures c.args.p c.if-p-gt-ACTIONS.false c.first_stop-stop.ensures
    c.in-Err.why c.in-Err.is c.stopped-in-Err.ensures

pub returns-in-Ok : goal.returns-in-Ok
returns-in-Ok c =
    judged_planned c.args.bytes.now c.if-bytes-ne-REGISTER.false c.examine-found.ensures (c.if-not-found.false) c.counts_in-counts.ensures
    c.lay-lens.ensures.laid c.lay-lens.ensures.lengths c.claim_ends-ends.ensures c.args.p c.if-p-gt-ACTIONS.false c.first_stop-stop.ensures
    c.in-Ok.is c.judge_all.ensures
