-- `table_showing::owner_asked`: the answers to the goals that the check leaves open. Assumes nothing.
use Rattle.std.proofs.Common.{◌<◌, sym, ◌∙◌, arith, get_or-take, length-take}
use Rattle.lists.specs.Loops.{turn, next, done}
use Rattle.register.specs.Register.{no_actor}
use Rattle.register.specs.declared.Actor.{Actor}
use Rattle.table_showing.proofs.Owning.{owner_here, owner_further, owner_none}
use Rattle.table_showing.proofs.owner_asked.Goals as goal

pub returns-then-x-a : goal.returns-then-x-a
returns-then-x-a c =
    let below : c.loop-a.a-index < c.min-top.result = omega (arith, length-take {A = Actor}) in
    sym (turn c.loop-a.invariant no_actor below ∙ owner_here c.args.x _ (get_or-take _ _ _ _ below) c.if-x-a.true)

pub loop-a-preserved : goal.loop-a-preserved
loop-a-preserved c =
    let below : c.loop-a.a-index < c.min-top.result = omega (arith, length-take {A = Actor}) in
    next c.loop-a.invariant below (turn c.loop-a.invariant no_actor below ∙ owner_further c.args.x _ (get_or-take _ _ _ _ below) c.if-x-a.false)

pub returns : goal.returns
returns c = sym (done c.loop-a.invariant (omega (arith, c.loop-a-test.false, c.loop-a.invariant.long, length-take {A = Actor})) ∙ owner_none c.args.x)
