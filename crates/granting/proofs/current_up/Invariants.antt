-- `granting::current_up` meets its contract. The loop's invariant: whether all are current is asked of the place and of those still above
-- (Columns). Assumes nothing.
use Rattle.std.proofs.Common.{◌∷◌}
use Rattle.lists.specs.Lists.{every}
use Rattle.register.specs.Chain.{current}
use Rattle.columns.specs.Columns.{places_up}
use Rattle.columns.specs.Sheet.{claim_at}
use Rattle.granting.proofs.Columns.{Walk}
use Rattle.granting.proofs.current_up.Given as goal

abbrev pub invariant-loop-up : goal.invariant-loop-up
invariant-loop-up l =
    Walk (λ j. current l.moment (claim_at l.sheet j)) l.ups l.member l.up (every (λ j. current l.moment (claim_at l.sheet j)) (l.from ∷ places_up l.ups l.from))

abbrev pub decreases-loop-up : goal.decreases-loop-up
decreases-loop-up l = l.member
