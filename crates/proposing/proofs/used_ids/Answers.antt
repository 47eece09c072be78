-- `proposing::used_ids`: the answers to the goals that the check leaves open. Assumes nothing.
use Rattle.std.proofs.Common.{ℕ, ◌<◌, arith, get_or-take, length-take}
use Rattle.proposing.proofs.Using.{using_start, using_hit, using_past}
use Rattle.proposing.proofs.used_ids.Goals as goal
use Rattle.proposing.proofs.used_ids.Goals.{then-at-lt-TRIED, else-at-lt-TRIED}

pub loop-id-init : goal.loop-id-init
loop-id-init c = using_start c.requires

pub loop-id-preserved : goal.loop-id-preserved
loop-id-preserved c =
    let below : c.loop-id.id-index < c.args.n = omega (arith, length-take {A = ℕ}) in
    let read = get_or-take c.args.n c.args.ids.now c.loop-id.id-index 0 below in
    elim c.if-at-lt-TRIED.branch [
      | then-at-lt-TRIED w ↦ rw w.used-is (using_hit c.loop-id.invariant below read w.if-at-lt-TRIED.true)
      | else-at-lt-TRIED w ↦ rw w.used-is (using_past c.loop-id.invariant below read w.if-at-lt-TRIED.false)
    ]
