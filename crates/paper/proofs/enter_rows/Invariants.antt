-- `paper::enter_rows` meets its contract. The loop's invariant: the claim is entered in the rows before `row` (Filling). Assumes nothing.
use Rattle.paper.proofs.Filling.{Filling}
use Rattle.paper.proofs.enter_rows.Given as goal

abbrev pub invariant-loop-row : goal.invariant-loop-row
invariant-loop-row l = Filling l.initial.cells l.k l.spot l.outer l.rights l.place l.row l.cells
