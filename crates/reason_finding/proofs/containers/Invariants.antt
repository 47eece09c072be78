-- `reason_finding::containers` meets its contract: the marks are filled from the front (Marking). Assumes nothing.
use Rattle.std.proofs.Common.{false}
use Rattle.lists.specs.Fills.{Filling}
use Rattle.register.specs.Limits.{resource_limit}
use Rattle.coverage.specs.Laws.{containing}
use Rattle.reason_finding.proofs.containers.Given as goal

abbrev pub invariant-loop-i : goal.invariant-loop-i
invariant-loop-i l = Filling resource_limit (λ k. containing l.o k l.spot) l.top false l.i l.marks
