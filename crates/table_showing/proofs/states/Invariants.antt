-- `table_showing::states` meets its contract: the array is filled from the front. Assumes nothing.
use Rattle.std.proofs.Common.{false, get_or}
use Rattle.lists.specs.Fills.{Filling}
use Rattle.register.specs.Limits.{claim_limit}
use Rattle.register.specs.Register.{no_claim}
use Rattle.table_showing.specs.Shown.{state_number}
use Rattle.table_showing.proofs.states.Given as goal

abbrev pub invariant-loop-i : goal.invariant-loop-i
invariant-loop-i l =
    Filling claim_limit (λ j. state_number l.moment (get_or l.k.list j no_claim) (get_or l.lives j false)) l.k.count 0 l.i l.shown
