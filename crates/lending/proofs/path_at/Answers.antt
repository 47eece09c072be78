-- `lending::path_at` meets its contract. Assumes nothing.
use Rattle.std.proofs.Common.{sym, arith, get_or-drop}
use Rattle.lists.specs.Fills.{filling_start, filling_next}
use Rattle.lending.proofs.Filling.{path_filled}
use Rattle.lending.proofs.path_at.Goals as goal

pub loop-i-init : goal.loop-i-init
loop-i-init c = filling_start (omega arith)

pub loop-i-preserved : goal.loop-i-preserved
loop-i-preserved c = let a = c.args in filling_next c.loop-i.invariant _ c.loop-i-test.true (sym (get_or-drop a.at a.bytes.now _ 0))

pub returns : goal.returns
returns c = path_filled c.args.bytes.now c.args.at c.requires c.loop-i.invariant c.loop-i-test.false
