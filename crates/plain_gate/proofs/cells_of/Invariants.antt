-- `plain_gate::cells_of` meets its contract. The loop's invariant: the cells of the uses passed are in their places (Filling). Assumes nothing.
use Rattle.std.proofs.Common.{get_or}
use Rattle.lists.specs.Fills.{Filling}
use Rattle.actions.specs.Actions.{no_use, use_limit}
use Rattle.plain_gate.specs.Cells.{cell_for}
use Rattle.plain_gate.proofs.cells_of.Given as goal

abbrev pub invariant-loop-i : goal.invariant-loop-i
invariant-loop-i l =
    Filling use_limit (λ j. cell_for l.cells l.reports l.m (get_or l.a.uses j no_use)) l.top 0 l.i l.found
