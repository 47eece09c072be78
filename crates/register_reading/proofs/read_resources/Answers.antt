-- The array with its count, as the answer holds them.
use Rattle.text_rules.specs.Registers.{read_resources}
use Rattle.register_reading.proofs.read_resources.Goals as goal

pub returns : goal.returns
unfolding read_resources
returns c =
    let read = c.read_section-counted.ensures in
    record { resources = rw (read.filled, read.counted); state = read.stands }
