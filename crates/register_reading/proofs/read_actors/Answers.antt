-- The array with its count, as the answer holds them.
use Rattle.text_rules.specs.Registers.{read_actors}
use Rattle.register_reading.proofs.read_actors.Goals as goal

pub returns : goal.returns
unfolding read_actors
returns c =
    let read = c.read_section-counted.ensures in
    record { actors = rw (read.filled, read.counted); state = read.stands }
