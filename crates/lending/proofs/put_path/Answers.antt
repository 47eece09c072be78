-- `lending::put_path` meets its contract: each turn copies one byte more. Assumes nothing.
use Rattle.std.proofs.Common.{arith}
use Rattle.lending.proofs.Laying.{copied_none, copied_length, copied_next, copied_all}
use Rattle.lending.proofs.put_path.Goals as goal

pub loop-i-init : goal.loop-i-init
loop-i-init c = copied_none c.requires.0 c.requires.1

pub bounds-paths-to : goal.bounds-paths-to
bounds-paths-to c = omega (arith, copied_length c.loop-i.invariant, c.loop-i.invariant.room, c.loop-i-test.true)

pub loop-i-preserved : goal.loop-i-preserved
loop-i-preserved c = copied_next c.loop-i.invariant c.loop-i-test.true

pub returns : goal.returns
returns c = copied_all c.loop-i.invariant c.loop-i-test.false
