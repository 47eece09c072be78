-- `paper::open_cells`: the answers to the goals that the check leaves open. Assumes nothing.
use Rattle.paper.proofs.Opening.{opening_start}
use Rattle.paper.proofs.open_cells.Goals as goal

pub loop-row-init : goal.loop-row-init
loop-row-init c = opening_start c.requires
