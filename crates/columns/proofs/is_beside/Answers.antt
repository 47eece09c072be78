-- `columns::is_beside` meets its contract. Assumes nothing.
use Rattle.std.proofs.Common.{sym}
use Rattle.columns.proofs.Pairing.{pairing_next, pairing_done}
use Rattle.columns.proofs.is_beside.Goals as goal

pub loop-i-preserved : goal.loop-i-preserved
loop-i-preserved c = pairing_next c.loop-i.invariant c.loop-i-test.true

pub returns : goal.returns
returns c = sym (pairing_done c.loop-i.invariant c.loop-i-test.false)
