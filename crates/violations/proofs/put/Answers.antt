-- `violations::put` meets its contract: the violation is put where there is a place. Assumes nothing.
use Rattle.std.proofs.Common.{lt-ltb, le-ltb}
use Rattle.actions.specs.Actions.{violation_limit}
use Rattle.violations.specs.Pushed.{pushed}
use Rattle.violations.proofs.put.Goals as goal

pub returns-then-at-lt-MOST : goal.returns-then-at-lt-MOST
unfolding pushed
returns-then-at-lt-MOST c = rw (lt-ltb c.args.vs.now.count violation_limit c.if-at-lt-MOST.true)

pub returns-else-at-lt-MOST : goal.returns-else-at-lt-MOST
unfolding pushed
returns-else-at-lt-MOST c = rw (le-ltb c.args.vs.now.count violation_limit c.if-at-lt-MOST.false)
