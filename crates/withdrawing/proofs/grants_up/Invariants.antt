-- `withdrawing::grants_up` meets its contract. The loop's invariant: what is asked of all is what is asked of the place and of those still above
-- (Going). Assumes nothing.
use Rattle.std.proofs.Common.{◌∷◌, eqb, get_or}
use Rattle.lists.specs.Lists.{any}
use Rattle.columns.specs.Columns.{places_up}
use Rattle.withdrawing.proofs.Going.{Walk}
use Rattle.withdrawing.proofs.grants_up.Given as goal

abbrev pub invariant-loop-up : goal.invariant-loop-up
invariant-loop-up l =
    Walk (λ j. eqb (get_or l.grantors j 0) l.who) l.ups l.member l.up (any (λ j. eqb (get_or l.grantors j 0) l.who) (l.from ∷ places_up l.ups l.from))

abbrev pub decreases-loop-up : goal.decreases-loop-up
decreases-loop-up l = l.member
