-- `uses::relied_on` meets its contract. Assumes nothing.
use Rattle.std.proofs.Common.{ap, ◌∙◌}
use Rattle.lists.specs.Fills.{filling_next, filling_end}
use Rattle.uses.specs.Passes.{claim_number, relied_all}
use Rattle.uses.proofs.relied_on.Goals as goal

pub loop-i-preserved : goal.loop-i-preserved
loop-i-preserved c =
    filling_next c.loop-i.invariant _ c.loop-i-test.true (c.claim_number.ensures ∙ ap claim_number c.nearest_covering-place.ensures)

pub returns : goal.returns
unfolding relied_all
returns c = rw (← c.min-i-end.ensures) (filling_end c.loop-i.invariant c.loop-i-test.false)
