-- `reason_finding::coverers`: the answers to the goals that the check leaves open. Assumes nothing.
use Rattle.std.proofs.Common.{◌∙◌}
use Rattle.lists.specs.Fills.{filling_next, filling_end}
use Rattle.reason_finding.proofs.Deciding.{coverers_told}
use Rattle.reason_finding.proofs.coverers.Goals as goal

pub loop-i-preserved : goal.loop-i-preserved
loop-i-preserved c =
    filling_next c.loop-i.invariant _ c.loop-i-test.true
    (c.coverer.ensures ∙ rw (c.number_at-holder.ensures, c.number_at-held.ensures, c.is_marked-marked.ensures))

pub returns : goal.returns
returns c =
    let a = c.args in
    filling_end c.loop-i.invariant c.loop-i-test.false
    ∙ coverers_told a.ends.now a.spots.now a.marks.now a.n a.right a.moment c.column-holders.ensures c.column-rights.ensures c.min-top.ensures
