-- Each column takes the next claim's number.
use Rattle.register_reading.proofs.Linking.{linking_next}
use Rattle.register_reading.proofs.links_of.Goals as goal

pub loop-i-preserved : goal.loop-i-preserved
loop-i-preserved c =
    let inv = c.loop-i.invariant in
    (linking_next inv.0 _ c.loop-i-test.true, linking_next inv.1 _ c.loop-i-test.true)
