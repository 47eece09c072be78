-- `paper::enter_rows`: the answers to the goals that the check leaves open. Assumes nothing.
use Rattle.std.proofs.Common.{sym, ◌∙◌}
use Rattle.paper.proofs.Filling.{filling_length, filling_room, reach_short}
use Rattle.paper.proofs.enter_rows.Goals as goal

pub enter_row-requires : goal.enter_row-requires
enter_row-requires c = (
  filling_length c.loop-row.invariant,
  filling_room c.loop-row.invariant c.loop-row-test.true,
  c.requires.3,
  reach_short _ _ _ (sym c.reach.ensures.0 ∙ c.in-Some.is) c.reach.ensures.1,
)
