-- In version 2 a line is read, otherwise nothing is.
use Rattle.std.proofs.Common.{refl, eq-eqb, ne_eqb}
use Rattle.register_reading.specs.Lefts.{read_left}
use Rattle.register_reading.proofs.read_left.Goals as goal

pub returns-then-version-eq-VERSION_TWO : goal.returns-then-version-eq-VERSION_TWO
unfolding read_left
returns-then-version-eq-VERSION_TWO c = rw (eq-eqb c.args.version 2 c.if-version-eq-VERSION_TWO.true) c.read_number.ensures

pub returns : goal.returns
unfolding read_left
returns c = rw (ne_eqb c.args.version 2 c.if-version-eq-VERSION_TWO.false) (record { value = refl; state = refl })
