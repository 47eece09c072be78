-- The array with its count, as the answer holds them.
use Rattle.register_reading.proofs.read_listed.Goals as goal

pub returns : goal.returns
returns c =
    let read = c.read_section-counted.ensures in
    record { few = read.few; claims = rw (read.filled, read.counted); state = read.stands }
