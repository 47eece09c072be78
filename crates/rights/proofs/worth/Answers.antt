-- `rights::worth` meets its contract. A right's row has the worth that the table's rule says; past the table both are 0.
-- Assumes nothing.
use Rattle.std.proofs.Common.{lt-ltb}
use Rattle.rights.specs.Rights.{right_count}
use Rattle.rights.proofs.Table.{table_worth}
use Rattle.rights.proofs.worth.Goals as goal

pub returns-then-i-lt-COUNT : goal.returns-then-i-lt-COUNT
returns-then-i-lt-COUNT c = rw (lt-ltb c.args.b right_count c.if-i-lt-COUNT.true) (table_worth c.args.b c.if-i-lt-COUNT.true)
