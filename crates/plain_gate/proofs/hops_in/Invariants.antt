-- `plain_gate::hops_in` meets its contract. The loop's invariant: the hop counts of the uses passed are in their places (Filling). Assumes nothing.
use Rattle.std.proofs.Common.{get_or}
use Rattle.lists.specs.Fills.{Filling}
use Rattle.actions.specs.Actions.{use_limit}
use Rattle.plain_gate.specs.Cells.{hops_told}
use Rattle.plain_gate.proofs.hops_in.Given as goal

abbrev pub invariant-loop-i : goal.invariant-loop-i
invariant-loop-i l =
    Filling use_limit (λ j. hops_told l.hops (get_or l.own j 0)) l.top 0 l.i l.counts
