-- `soundness::actors::human_ids` meets its contract. Assumes nothing.
use Rattle.soundness.proofs.Naming.{naming_next, naming_done}
use Rattle.soundness.proofs.actors.human_ids.Goals as goal

pub loop-i-preserved : goal.loop-i-preserved
loop-i-preserved c = naming_next c.loop-i.invariant c.human_id.ensures c.loop-i-test.true

pub returns : goal.returns
returns c = naming_done c.loop-i.invariant c.loop-i-test.false
