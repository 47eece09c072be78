-- `rights::has` meets its contract. Shifted down by the right's number, the rights number ends in the right's digit.
-- Assumes nothing.
use Rattle.std.proofs.Common.{lt-ltb, le-ltb, arith}
use Rattle.rights.specs.Rights.{right_count, has_right}
use Rattle.rights.proofs.has.Goals as goal

pub returns-then-b-le-POLICY_MODIFY : goal.returns-then-b-le-POLICY_MODIFY
unfolding has_right
returns-then-b-le-POLICY_MODIFY c = rw (lt-ltb c.args.b right_count (omega arith))

pub returns-else-b-le-POLICY_MODIFY : goal.returns-else-b-le-POLICY_MODIFY
unfolding has_right
returns-else-b-le-POLICY_MODIFY c = rw (le-ltb c.args.b right_count (omega arith))
