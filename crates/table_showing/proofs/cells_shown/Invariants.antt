-- `table_showing::cells_shown` meets its contract: the array is filled from the front. Assumes nothing.
use Rattle.std.proofs.Common.{get_or}
use Rattle.lists.specs.Fills.{Filling}
use Rattle.paper.specs.Cells.{cell_limit}
use Rattle.table_showing.specs.Shown.{nothing_number}
use Rattle.table_showing.specs.Columns.{cell_number}
use Rattle.table_showing.proofs.cells_shown.Given as goal

abbrev pub invariant-loop-i : goal.invariant-loop-i
invariant-loop-i l = Filling cell_limit (λ k. cell_number (get_or l.cells k 0)) l.top nothing_number l.i l.shown
