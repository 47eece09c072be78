-- `paper::open_cells` meets its contract. The loop's invariant: the rows before `row` are open where their resources are public (Opening). Assumes
-- nothing.
use Rattle.paper.proofs.Opening.{Opening}
use Rattle.paper.proofs.open_cells.Given as goal

abbrev pub invariant-loop-row : goal.invariant-loop-row
invariant-loop-row l = Opening l.k l.row l.cells
