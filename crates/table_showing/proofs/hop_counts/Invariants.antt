-- `table_showing::hop_counts` meets its contract: the array is filled from the front. Assumes nothing.
use Rattle.std.proofs.Common.{get_or}
use Rattle.lists.specs.Fills.{Filling}
use Rattle.register.specs.Limits.{claim_limit}
use Rattle.table_showing.proofs.hop_counts.Given as goal

abbrev pub invariant-loop-i : goal.invariant-loop-i
invariant-loop-i l = Filling claim_limit (λ j. get_or l.hops j 0) l.n 0 l.i l.shown
