-- `reason_finding::coverers` meets its contract: the holders are filled in from the front (Fills). Assumes nothing.
use Rattle.std.proofs.Common.{false, get_or}
use Rattle.lists.specs.Fills.{Filling}
use Rattle.register.specs.Limits.{claim_limit}
use Rattle.reason_finding.specs.Covering.{coverer_of}
use Rattle.reason_finding.proofs.coverers.Given as goal

abbrev pub invariant-loop-i : goal.invariant-loop-i
invariant-loop-i l =
    Filling claim_limit (λ j. coverer_of (get_or l.holders j 0) (get_or l.ends j 0) (get_or l.rights j 0) (get_or l.marks (get_or l.spots j 0) false) l.right l.moment) l.top 0 l.i l.found
