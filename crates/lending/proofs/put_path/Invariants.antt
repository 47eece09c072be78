-- The invariant of the loop of `lending::put_path`: the first `i` bytes of the path are copied (Laying). Assumes nothing.
use Rattle.lending.proofs.Laying.{Copied}
use Rattle.lending.proofs.put_path.Given as goal

abbrev pub invariant-loop-i : goal.invariant-loop-i
invariant-loop-i l = Copied l.initial.paths l.to l.bytes l.from l.i l.paths
