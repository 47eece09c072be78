-- `proposing::rooms`: the answers to the goals that the check leaves open. Assumes nothing.
use Rattle.proposing.proofs.Rooming.{rooming_start, rooming_drawn, rooming_root, rooming_done}
use Rattle.proposing.proofs.rooms.Goals as goal
use Rattle.proposing.proofs.rooms.Goals.{then-up-i, else-up-i}

pub loop-i-init : goal.loop-i-init
loop-i-init c = rooming_start c.requires.0

-- a claim whose parent stands before it; one that has none there
pub loop-i-preserved : goal.loop-i-preserved
loop-i-preserved c =
    elim c.if-up-i.branch [
      | then-up-i w ↦ rw w.found-is (rooming_drawn c.loop-i.invariant c.loop-i-test.true w.if-up-i.true w.room_under.ensures)
      | else-up-i w ↦ rw w.found-is (rooming_root c.loop-i.invariant c.loop-i-test.true w.if-up-i.false w.room_of_root.ensures)
    ]

pub returns : goal.returns
returns c = rooming_done c.loop-i.invariant c.loop-i-test.false
