-- The number there, where nothing stands behind it.
use Rattle.json_reading.proofs.Lists.{exact_behind}
use Rattle.json_reading.proofs.numbers.number_in.Goals as goal

pub returns-then-next-x : goal.returns-then-next-x
returns-then-next-x c =
    exact_behind c.args.x.now _ _ _ c.in-Value.ensures.0 c.if-next-x.true
