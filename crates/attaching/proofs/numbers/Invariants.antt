-- `attaching::numbers` meets its contract: the column is filled from the front (Columns). Assumes nothing.
use Rattle.attaching.proofs.Columns.{Filled}
use Rattle.attaching.proofs.numbers.Given as goal

abbrev pub invariant-loop-i : goal.invariant-loop-i
invariant-loop-i l = Filled l.b.entries l.i l.column
