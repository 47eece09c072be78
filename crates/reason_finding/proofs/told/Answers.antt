-- `reason_finding::told`: the answers to the goals that the check leaves open. Assumes nothing.
use Rattle.reason_finding.proofs.Climbing.{climbing_next, climbing_done}
use Rattle.reason_finding.proofs.told.Goals as goal

pub loop-up-preserved : goal.loop-up-preserved
loop-up-preserved c =
    climbing_next c.loop-up.invariant c.loop-up-test.true c.claim_at-claim.ensures c.place_above-up-in-loop-up.ensures

pub returns : goal.returns
returns c = climbing_done c.loop-up.invariant c.loop-up-test.false c.args.kind
