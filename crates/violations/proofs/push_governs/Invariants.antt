-- `violations::push_governs` meets its contract. The loop's invariant: what is left to be put is one violation for each position left
-- (Pushing). Assumes nothing.
use Rattle.std.proofs.Common.{◌≤◌}
use Rattle.actions.specs.Actions.{govern_limit}
use Rattle.violations.specs.Pushing.{Pushing}
use Rattle.violations.proofs.Among.{governs_at}
use Rattle.violations.proofs.push_governs.Given as goal

abbrev pub invariant-loop-position : goal.invariant-loop-position
invariant-loop-position l = (l.position-end ≤ govern_limit) × Pushing governs_at l.position-end l.position l.initial.vs l.vs
