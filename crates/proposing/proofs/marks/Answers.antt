-- `proposing::marks`: the answers to the goals that the check leaves open. Assumes nothing.
use Rattle.std.proofs.Common.{ap, ◌∙◌, get_or}
use Rattle.lists.specs.Fills.{filling_next, filling_end}
use Rattle.proposing.specs.Planned.{marked_by, marks_by}
use Rattle.proposing.proofs.marks.Goals as goal

pub loop-i-preserved : goal.loop-i-preserved
loop-i-preserved c =
    let a = c.args in
    filling_next c.loop-i.invariant _ c.loop-i-test.true
    (c.is_marked.ensures
    ∙ ap (λ d. marked_by a.version a.usage a.moment d (get_or a.ends.now c.loop-i.i 0) (get_or a.rooms.now c.loop-i.i 0)) c.claim_at-c.ensures)

pub returns : goal.returns
unfolding marks_by
returns c = filling_end c.loop-i.invariant c.loop-i-test.false
