-- `proposing::first_marked`: the answers to the goals that the check leaves open. Assumes nothing.
use Rattle.proposing.proofs.Passing.{passing_start, passing_hit, passing_miss, passing_done}
use Rattle.proposing.proofs.first_marked.Goals as goal

pub loop-i-init : goal.loop-i-init
loop-i-init c = passing_start

pub returns-then-holders-i : goal.returns-then-holders-i
returns-then-holders-i c = passing_hit c.loop-i.invariant c.loop-i-test.true c.if-holders-i.true

pub loop-i-preserved : goal.loop-i-preserved
loop-i-preserved c = passing_miss c.loop-i.invariant c.loop-i-test.true c.if-holders-i.false

pub returns : goal.returns
returns c = passing_done c.loop-i.invariant c.loop-i-test.false
