-- `soundness::resources_alone` meets its contract. Assumes nothing.
use Rattle.std.proofs.Common.{sym, ◌∙◌}
use mathlib.Core.Bool.{and_assoc, and-true}
use Rattle.lists.specs.Loops.{turn_part, next, done}
use Rattle.soundness.specs.World.{beyond, resources_alone}
use Rattle.soundness.proofs.resources_alone.Goals as goal

pub loop-x-preserved : goal.loop-x-preserved
loop-x-preserved c =
    let inv = c.loop-x.invariant in
    next inv c.loop-x-test.true
    (rw c.resource_fits-fit.ensures (turn_part c.min-top.result inv beyond c.loop-x-test.true ∙ sym (and_assoc c.loop-x.fit _ _)))

pub returns : goal.returns
unfolding resources_alone
returns c = sym (done c.loop-x.invariant c.loop-x-test.false ∙ and-true c.loop-x.fit)
