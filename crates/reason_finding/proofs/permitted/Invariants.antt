-- `reason_finding::permitted` meets its contract. The loop's invariant: of the actors passed, the ids of those who may stand in the array, with zeros
-- behind them (Keeping). Assumes nothing.
use Rattle.std.proofs.Common.{take}
use Rattle.reason_finding.specs.Covering.{may_by}
use Rattle.reason_finding.proofs.Keeping.{Keeping}
use Rattle.reason_finding.proofs.permitted.Given as goal

abbrev pub invariant-loop-a : goal.invariant-loop-a
invariant-loop-a l = Keeping (may_by l.freely (take l.n l.coverers)) l.fn.actors.count l.fn.actors.list l.top l.a-index l.count l.ids
