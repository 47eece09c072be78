-- `withdrawing::gone_by` meets its contract. Assumes nothing.
use Rattle.std.proofs.Common.{refl, arith}
use Rattle.withdrawing.proofs.Going.{telling_start, telling_next, telling_done}
use Rattle.withdrawing.proofs.gone_by.Goals as goal

pub loop-i-init : goal.loop-i-init
loop-i-init g c = λ P named. telling_start (omega arith) refl

pub loop-i-preserved : goal.loop-i-preserved
loop-i-preserved g c = λ P named.
    telling_next (c.loop-i.invariant P named) c.loop-i-test.true
    (rw (named _ (omega arith) _ c.named.ensures, c.is_marked.ensures, c.place_above-up.ensures))

pub returns : goal.returns
returns g c = λ P named. telling_done (c.loop-i.invariant P named) c.loop-i-test.false _ c.min-i-end.ensures
