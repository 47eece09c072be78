-- `paper::enter_row` meets its contract. The loop's invariant: the claim is entered at the rights before `right` (Entering). Assumes nothing.
use Rattle.paper.proofs.Entering.{Entering}
use Rattle.paper.proofs.enter_row.Given as goal

abbrev pub invariant-loop-right : goal.invariant-loop-right
invariant-loop-right l = Entering l.initial.cells l.row l.rights l.place l.far l.first l.mine l.right l.cells
