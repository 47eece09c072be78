-- `uses::hop_counts` meets its contract. Assumes nothing.
use Rattle.std.proofs.Common.{◌≡◌, min, length, arith}
use Rattle.lists.specs.Fills.{filling_next, filling_end}
use Rattle.actions.specs.Actions.{use_limit}
use Rattle.uses.specs.Passes.{hops_all}
use Rattle.uses.proofs.hop_counts.Goals as goal

pub loop-i-preserved : goal.loop-i-preserved
loop-i-preserved c = filling_next c.loop-i.invariant _ c.loop-i-test.true c.hops_at.ensures

pub returns : goal.returns
unfolding hops_all
returns c =
    let long : min c.args.n (min use_limit (length c.args.relied.now)) ≡ c.min-i-end.result = omega arith in
    rw long (filling_end c.loop-i.invariant c.loop-i-test.false)
