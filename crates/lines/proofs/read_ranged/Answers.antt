-- Each answer of `read_limited`, and a number below the least is no such line.
use Rattle.lines.proofs.Walks.{at_least_within, at_least_below, at_least_over, at_least_fault}
use Rattle.lines.proofs.read_ranged.Goals as goal

pub returns-then-n-least : goal.returns-then-n-least
returns-then-n-least c = at_least_below _ _ _ _ c.in-Value.ensures.0 c.if-n-least.true

pub returns-else-n-least : goal.returns-else-n-least
returns-else-n-least c =
    let t = c.in-Value.ensures in
    (at_least_within _ _ _ _ t.0 c.if-n-least.false, t.1, t.2)

pub returns-in-Over : goal.returns-in-Over
returns-in-Over c = at_least_over _ _ c.in-Over.ensures

pub returns-in-Fault : goal.returns-in-Fault
returns-in-Fault c = at_least_fault _ _ c.in-Fault.ensures
