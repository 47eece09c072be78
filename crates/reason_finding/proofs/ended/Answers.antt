-- `reason_finding::ended`: the answers to the goals that the check leaves open. Assumes nothing.
use Rattle.std.proofs.Common.{not, sym, ap, ◌∙◌, arith}
use Rattle.reason_finding.proofs.Climbing.{looking_start, looking_hit, looking_root, looking_next, looking_done}
use Rattle.reason_finding.proofs.ended.Goals as goal

pub loop-step-init : goal.loop-step-init
loop-step-init c = looking_start

pub returns-then-not-is_current : goal.returns-then-not-is_current
returns-then-not-is_current c =
    looking_hit c.loop-step.invariant c.loop-step-test.true c.claim_at-claim.ensures (ap not (sym c.is_current.ensures ∙ c.if-not-is_current.true))

pub returns-then-at-up : goal.returns-then-at-up
returns-then-at-up c =
    looking_root c.loop-step.invariant c.loop-step-test.true c.claim_at-claim.ensures (ap not (sym c.is_current.ensures ∙ c.if-not-is_current.false))
    c.place_above-up.ensures c.if-at-up.true

pub loop-step-preserved : goal.loop-step-preserved
loop-step-preserved c =
    looking_next c.loop-step.invariant c.loop-step-test.true c.claim_at-claim.ensures (ap not (sym c.is_current.ensures ∙ c.if-not-is_current.false))
    c.place_above-up.ensures (omega (arith, c.if-at-up.false))

pub returns : goal.returns
returns c = looking_done c.loop-step.invariant c.loop-step-test.false
