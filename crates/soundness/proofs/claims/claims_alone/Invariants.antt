-- The invariant of the loop of `soundness::claims::claims_alone`: whether all so far stand is told, by what was looked up of them (Asking).
use Rattle.std.proofs.Common.{min, take}
use Rattle.lists.specs.Lists.{distinct}
use Rattle.register.specs.Limits.{claim_limit}
use Rattle.columns.specs.Sheet.{claim_at}
use Rattle.claim_judging.specs.Alone.{named_at}
use Rattle.soundness.specs.Judged.{found_at}
use Rattle.soundness.proofs.Asking.{Asked}
use Rattle.soundness.proofs.claims.claims_alone.Given as goal

abbrev pub invariant-loop-i : goal.invariant-loop-i
invariant-loop-i l =
    Asked (distinct (take (min l.h claim_limit) l.actors.names))
    (λ j. named_at (claim_at l.sheet j) (found_at l.actors l.keepers l.named.first l.named.second l.spots j)) l.n l.i l.stand
