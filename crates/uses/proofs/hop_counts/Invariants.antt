-- `uses::hop_counts` meets its contract. The loop's invariant: the hop counts of the uses passed are in their places (Filling). Assumes nothing.
use Rattle.std.proofs.Common.{get_or}
use Rattle.lists.specs.Fills.{Filling}
use Rattle.actions.specs.Actions.{use_limit}
use Rattle.uses.specs.Passes.{hops_at}
use Rattle.uses.proofs.hop_counts.Given as goal

abbrev pub invariant-loop-i : goal.invariant-loop-i
invariant-loop-i l =
    Filling use_limit (λ j. hops_at l.ups (get_or l.relied j 0)) l.i-end 0 l.i l.hops
